-- What stands behind the pairs.
use Rattle.std.proofs.Common.{◌≡◌, ℕ, suc, ℤ, pos, nat_abs, ◌+◌, ◌-◌, ◌<◌, ◌≤◌, Bool, true, false, cond, if◌then◌else◌, Option, Some, None, option_map, unwrap_or, slice_index_or, List, [], ◌∷◌, ◌++◌, length, take, drop, refl, sym, ap, subst, ◌∙◌, arith}
use Rattle.std.proofs.lemmas.List.{take_all, length-drop, take_at, length-append}
use Rattle.leg_packet.specs.Sheets.{Sheet, flat, with_pair, pairs_of, sheet_with_pairs, sheet_behind}
use Rattle.leg_packet.specs.Views.{IsViewOf}
use Rattle.leg_packet.specs.declared.views.OutView.{OutView}
use Rattle.leg_packet.specs.declared.heads.Heads.{Heads}
use Rattle.leg_packet.specs.Inner.Behind.{behind, is_address}
use Rattle.leg_packet.proofs.Codec.{pairs_law}

behind_with : (a : ℕ) (v : ℤ) (o : Option (List (ℕ × ℤ) × List ℤ)) → option_map (λ (found : List (ℕ × ℤ) × List ℤ). found.1) (with_pair a v o) ≡ option_map (λ (found : List (ℕ × ℤ) × List ℤ). found.1) o
behind_with a v None = refl
behind_with a v (Some found) = refl

behind_suc : (n from below : ℕ) (a v : ℤ) (words : List ℤ) → is_address from below a ≡ true → behind (suc n) from below (a ∷ v ∷ words) ≡ behind n (nat_abs a + 1) below words
unfolding pairs_of
behind_suc n from below a v words e =
    ap (λ t. option_map (λ (found : List (ℕ × ℤ) × List ℤ). found.1) (cond t (with_pair (nat_abs a) v (pairs_of n (nat_abs a + 1) below words)) None)) e
    ∙ behind_with (nat_abs a) v (pairs_of n (nat_abs a + 1) below words)

-- no pair there
none_suc : (n from below : ℕ) (a v : ℤ) (words : List ℤ) → is_address from below a ≡ false → behind (suc n) from below (a ∷ v ∷ words) ≡ None
unfolding pairs_of
none_suc n from below a v words e =
    ap (λ t. option_map (λ (found : List (ℕ × ℤ) × List ℤ). found.1) (cond t (with_pair (nat_abs a) v (pairs_of n (nat_abs a + 1) below words)) None)) e

short_suc : (n from below : ℕ) (words : List ℤ) → length words < 2 → behind (suc n) from below words ≡ None
unfolding pairs_of
short_suc n from below [] h = refl
short_suc n from below (a ∷ []) h = refl
short_suc n from below (a ∷ v ∷ words) h = absurd (omega (arith, h))

zero_behind : (from below : ℕ) (words : List ℤ) → behind 0 from below words ≡ Some words
unfolding pairs_of
zero_behind from below words = refl

pub behind_all : (count done from below : ℕ) (words : List ℤ) → count ≤ done → behind (count - done) from below words ≡ Some words
behind_all count done from below words h =
    let n : count - done ≡ 0 = omega (arith, h) in
    ap (λ k. behind k from below words) n ∙ zero_behind from below words

-- ---- a list with something in front, as code sees it

pub behind_step : (n from below : ℕ) (left : List ℤ) (d : ℤ) → 2 ≤ length left → is_address from below (slice_index_or left 0 d) ≡ true
    → behind (suc n) from below left ≡ behind n (nat_abs (slice_index_or left 0 d) + 1) below (drop 2 left)
behind_step n from below [] d g e = absurd (omega (arith, g))
behind_step n from below (a ∷ []) d g e = absurd (omega (arith, g))
behind_step n from below (a ∷ v ∷ words) d g e = behind_suc n from below a v words e

pub behind_stop : (n from below : ℕ) (left : List ℤ) (d : ℤ) → is_address from below (slice_index_or left 0 d) ≡ false → behind (suc n) from below left ≡ None
behind_stop n from below [] d e = short_suc n from below [] (omega arith)
behind_stop n from below (a ∷ []) d e = short_suc n from below (a ∷ []) (omega arith)
behind_stop n from below (a ∷ v ∷ words) d e = none_suc n from below a v words e

pub behind_short : (n from below : ℕ) (left : List ℤ) → length left < 2 → behind (suc n) from below left ≡ None
behind_short n from below left h = short_suc n from below left h

pub one_less : (count done : ℕ) → done < count → count - done ≡ suc (count - (done + 1))
one_less count done h = omega (arith, h)

-- ---- the view of what stands behind the window

no_some : {A : Type 0} (a : A) → ◌≡◌ {A = Option A} None (Some a) → ⊥
no_some a e = cc

same_some : {A : Type 0} (a b : A) → ◌≡◌ {A = Option A} (Some a) (Some b) → a ≡ b
same_some a b e = ap (λ o. unwrap_or o a) e

pub behind_least : (count from below : ℕ) (words outputs : List ℤ) → behind count from below words ≡ Some outputs → length outputs ≤ length words
behind_least count from below words outputs h = by (pairs_of count from below words) refl h
  where
    by : (o : Option (List (ℕ × ℤ) × List ℤ)) → pairs_of count from below words ≡ o → option_map (λ (found : List (ℕ × ℤ) × List ℤ). found.1) o ≡ Some outputs → length outputs ≤ length words
    by None e k = absurd (no_some outputs k)
    by (Some found) e k =
        let same = same_some found.1 outputs k in
        let law = pairs_law count from below words found e in
        omega (arith, ap length law, ap length same, length-append (flat found.0) found.1)

front_is : (words front rest : List ℤ) → words ≡ front ++ rest → take (length words - length rest) words ≡ front
front_is words front rest h =
    let n : length words - length rest ≡ length front = omega (arith, ap length h, length-append front rest) in
    (λ i. take (n i) (h i)) ∙ take_at front rest (length front) refl

pub record Parts (e t l n : ℕ) (window words outputs : List ℤ) (v : OutView) : Type 0 where
  pub epoch : v.epoch ≡ pos e
  pub turn : v.turn ≡ pos t
  pub text_length : v.text_length ≡ pos l
  pub word_length : v.word_length ≡ pos n
  pub window_is : v.window.now ≡ window
  pub pairs_are : v.pairs.now ≡ take (length words - length outputs) words
  pub outputs_are : v.outputs.now ≡ outputs

pub pairs_shown : (e t l n count : ℕ) (window words outputs : List ℤ) (v : OutView)
    → behind count 0 n words ≡ Some outputs → Parts e t l n window words outputs v
    → IsViewOf (sheet_with_pairs e t l n window (pairs_of count 0 n words)) (Some v)
pairs_shown e t l n count window words outputs v h parts = by (pairs_of count 0 n words) refl h
  where
    by : (o : Option (List (ℕ × ℤ) × List ℤ)) → pairs_of count 0 n words ≡ o → option_map (λ (found : List (ℕ × ℤ) × List ℤ). found.1) o ≡ Some outputs → IsViewOf (sheet_with_pairs e t l n window o) (Some v)
    by None r k = absurd (no_some outputs k)
    by (Some found) r k =
        let same = same_some found.1 outputs k in
        let law = pairs_law count 0 n words found r in
        record {
          epoch = parts.epoch;
          turn = parts.turn;
          text_length = parts.text_length;
          word_length = parts.word_length;
          window = parts.window_is;
          pairs = parts.pairs_are ∙ ap (λ m. take (length words - length m) words) (sym same) ∙ front_is words (flat found.0) found.1 law;
          outputs = parts.outputs_are ∙ sym same;
        }

pub no_pairs_shown : (e t l n count : ℕ) (window words : List ℤ) → behind count 0 n words ≡ None → IsViewOf (sheet_with_pairs e t l n window (pairs_of count 0 n words)) None
no_pairs_shown e t l n count window words h = by (pairs_of count 0 n words) h
  where
    by : (o : Option (List (ℕ × ℤ) × List ℤ)) → option_map (λ (found : List (ℕ × ℤ) × List ℤ). found.1) o ≡ None → IsViewOf (sheet_with_pairs e t l n window o) None
    by None k = tt
    by (Some found) k = absurd (no_some found.1 (sym k))

pub heads_lead : (test : Bool) (e t l n : ℕ) (h : Heads) (rest : List ℤ) (r : Option OutView) → Some h ≡ (if test then Some (record { epoch = e; turn = t; text_length = l; word_length = n }) else None)
    → IsViewOf (sheet_behind h.epoch h.turn h.text_length h.word_length rest) r → IsViewOf (if test then sheet_behind e t l n rest else None) r
heads_lead true e t l n h rest r q v = subst (λ (x : Heads). IsViewOf (sheet_behind x.epoch x.turn x.text_length x.word_length rest) r) (same_some h (record { epoch = e; turn = t; text_length = l; word_length = n }) q) v
heads_lead false e t l n h rest r q v = absurd (no_some h (sym q))

pub no_heads : (test : Bool) (x : Heads) (o : Option Sheet) → ◌≡◌ {A = Option Heads} None (if test then Some x else None) → IsViewOf (if test then o else None) None
no_heads true x o q = absurd (no_some x q)
no_heads false x o q = tt

pub five_words : (xs : List ℤ) (d : ℤ) → 5 ≤ length xs → slice_index_or xs 0 d ∷ slice_index_or xs 1 d ∷ slice_index_or xs 2 d ∷ slice_index_or xs 3 d ∷ slice_index_or xs 4 d ∷ drop 5 xs ≡ xs
five_words [] d h = absurd (omega (arith, h))
five_words (a ∷ []) d h = absurd (omega (arith, h))
five_words (a ∷ b ∷ []) d h = absurd (omega (arith, h))
five_words (a ∷ b ∷ e ∷ []) d h = absurd (omega (arith, h))
five_words (a ∷ b ∷ e ∷ f ∷ []) d h = absurd (omega (arith, h))
five_words (a ∷ b ∷ e ∷ f ∷ g ∷ xs) d h = refl

pub after_step : (n from below a : ℕ) (left : List ℤ) (d : ℤ) → 2 ≤ length left → is_address from below (slice_index_or left 0 d) ≡ true → a ≡ nat_abs (slice_index_or left 0 d)
    → behind (suc n) from below left ≡ behind n (a + 1) below (take (length left - 2) (drop 2 left))
after_step n from below a left d g e h =
    behind_step n from below left d g e
    ∙ (λ i. behind n (sym h i + 1) below (sym (take_all (length left - 2) (drop 2 left) (omega (arith, length-drop 2 left))) i))
