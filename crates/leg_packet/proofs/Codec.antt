-- What is read is what is spelled.
use Rattle.std.proofs.Common.{◌≡◌, ℕ, zero, suc, ℤ, pos, negsuc, nat_abs, ◌+◌, ◌-◌, ◌*◌, ◌<◌, ◌≤◌, Bool, true, false, ◌&&◌, nat_lt, int_le, if◌then◌else◌, Option, Some, None, unwrap_or, List, [], ◌∷◌, ◌++◌, length, take, drop, All, refl, sym, ap, subst, ◌∙◌, arith}
use Rattle.std.specs.List.{list_all, AllByRecursion}
use Rattle.std.proofs.lemmas.List.{take-append-drop, length-take-le, length-drop, take_at, drop_at}
use Rattle.std.proofs.lemmas.List.Elements.{All-from_recursion, recursion_from_All}
use Rattle.std.specs.Ordering.{int_eq}
use Rattle.std.proofs.lemmas.Bool.{and_parts, and_from, cond-true, ltb-true, lt-ltb}
use Rattle.std.proofs.lemmas.Bool.Decides.{nat_tests, Decides-int_eq}
use Rattle.std.proofs.lemmas.Int.{ints}
use Rattle.leg_packet.specs.Sheets.{Sheet, flat, spelled, window_length, IsByte, Rise, IsCanonical, is_byte, with_pair, pairs_of, sheet_with_pairs, sheet_with_tail, sheet_behind, is_from_to, sheet_of, epoch_limit}
use Rattle.tri_base.specs.Limits.{text_limit, word_limit}

pub from_to : (x : ℤ) (k : ℕ) → is_from_to x k ≡ true → (pos (nat_abs x) ≡ x) × (nat_abs x ≤ k)
from_to (pos n) k h = (refl, grind (arith, ints, nat_tests))
from_to (negsuc n) k h = absurd (grind (arith, ints, nat_tests))

from : (x : ℤ) → int_le (pos 0) x ≡ true → pos (nat_abs x) ≡ x
from (pos n) h = refl
from (negsuc n) h = absurd (grind (arith, ints, nat_tests))

no_some : {A : Type 0} (a : A) → ◌≡◌ {A = Option A} None (Some a) → ⊥
no_some a e = cc

same_some : {A : Type 0} (a b : A) → ◌≡◌ {A = Option A} (Some a) (Some b) → a ≡ b
same_some a b e = ap (λ o. unwrap_or o a) e

pub record PairsBack (count from below : ℕ) (words : List ℤ) (found : List (ℕ × ℤ) × List ℤ) : Type 0 where
  pub spelled : words ≡ flat found.0 ++ found.1
  pub count_is : length found.0 ≡ count
  pub rise : Rise from below found.0

abbrev Later : ℕ → ℕ → ℕ → List ℤ → Type 0
Later n low below words = (f : List (ℕ × ℤ) × List ℤ) → pairs_of n low below words ≡ Some f → PairsBack n low below words f

rises_here : (a : ℤ) (low below : ℕ) → (int_le (pos low) a && nat_lt (nat_abs a) below) ≡ true → (pos (nat_abs a) ≡ a) × (low ≤ nat_abs a) × (nat_abs a < below)
rises_here (pos n) low below h = (refl, grind (arith, ints, nat_tests), grind (arith, ints, nat_tests))
rises_here (negsuc n) low below h = absurd (grind (arith, ints, nat_tests))

pairs_back : (count low below : ℕ) (words : List ℤ) (found : List (ℕ × ℤ) × List ℤ) → pairs_of count low below words ≡ Some found → PairsBack count low below words found
unfolding pairs_of
pairs_back zero low below words found h = subst (λ (f : List (ℕ × ℤ) × List ℤ). PairsBack 0 low below words f) (same_some ([], words) found h) (record { spelled = refl; count_is = refl; rise = tt })
pairs_back (suc n) low below [] found h = absurd (no_some found h)
pairs_back (suc n) low below (a ∷ []) found h = absurd (no_some found h)
pairs_back (suc n) low below (a ∷ v ∷ words) found h = by (λ f e. pairs_back n (nat_abs a + 1) below words f e) (int_le (pos low) a && nat_lt (nat_abs a) below) refl h
  where
    more : Later n (nat_abs a + 1) below words → (o : Option (List (ℕ × ℤ) × List ℤ)) → pairs_of n (nat_abs a + 1) below words ≡ o → (int_le (pos low) a && nat_lt (nat_abs a) below) ≡ true → with_pair (nat_abs a) v o ≡ Some found → PairsBack (suc n) low below (a ∷ v ∷ words) found
    more later None e t k = absurd (no_some found k)
    more later (Some f) e t k =
        let r = later f e in
        let here = rises_here a low below t in
        subst (λ (x : List (ℕ × ℤ) × List ℤ). PairsBack (suc n) low below (a ∷ v ∷ words) x) (same_some ((nat_abs a, v) ∷ f.0, f.1) found k) (record {
          spelled = λ i. sym here.0 i ∷ v ∷ r.spelled i;
          count_is = ap suc r.count_is;
          rise = (here.1, here.2, r.rise);
        })

    by : Later n (nat_abs a + 1) below words → (t : Bool) → (int_le (pos low) a && nat_lt (nat_abs a) below) ≡ t → (if t then with_pair (nat_abs a) v (pairs_of n (nat_abs a + 1) below words) else None) ≡ Some found → PairsBack (suc n) low below (a ∷ v ∷ words) found
    by later true t k = more later (pairs_of n (nat_abs a + 1) below words) refl t k
    by later false t k = absurd (no_some found k)

-- pairs that rise are read
pub pairs_read : (pairs : List (ℕ × ℤ)) (low below : ℕ) (rest : List ℤ) → Rise low below pairs → pairs_of (length pairs) low below (flat pairs ++ rest) ≡ Some (pairs, rest)
unfolding pairs_of
pairs_read [] low below rest h = refl
pairs_read (pair ∷ pairs) low below rest h =
    let t : (int_le (pos low) (pos pair.0) && nat_lt pair.0 below) ≡ true = grind (arith, ints, nat_tests) in
    cond-true _ _ _ t ∙ ap (with_pair pair.0 pair.1) (pairs_read pairs (pair.0 + 1) below rest h.2)

pub pairs_law : (count low below : ℕ) (words : List ℤ) (found : List (ℕ × ℤ) × List ℤ) → pairs_of count low below words ≡ Some found → words ≡ flat found.0 ++ found.1
pairs_law count low below words found h = (pairs_back count low below words found h).spelled

-- ---- the sheet

all_bytes : (ws : List ℤ) → list_all is_byte ws ≡ true → AllByRecursion IsByte ws
all_bytes [] h = tt
all_bytes (w ∷ ws) h = let p = and_parts (is_byte w) (list_all is_byte ws) h in (byte w p.0, all_bytes ws p.1)
  where
    byte : (x : ℤ) → is_byte x ≡ true → IsByte x
    byte x e = grind (arith, ints, nat_tests)

-- the words behind the window
record TailBack (e t l n : ℕ) (window words : List ℤ) (s : Sheet) : Type 0 where
  pub epoch : s.epoch ≡ e
  pub turn : s.turn ≡ t
  pub text_length : s.text_length ≡ l
  pub word_length : s.word_length ≡ n
  pub window_is : s.window ≡ window
  pub words_are : words ≡ pos (length s.pairs) ∷ (flat s.pairs ++ s.outputs)
  pub bytes : All IsByte (take (l - 64 * t) window)
  pub rise : Rise 0 n s.pairs

tail_back : (e t l n : ℕ) (window words : List ℤ) (s : Sheet) → sheet_with_tail e t l n window words ≡ Some s → TailBack e t l n window words s
tail_back e t l n window [] s h = absurd (no_some s h)
tail_back e t l n window (count ∷ words) s h = by (int_le (pos 0) count && list_all is_byte (take (l - 64 * t) window)) refl h
  where
    more : (o : Option (List (ℕ × ℤ) × List ℤ)) → pairs_of (nat_abs count) 0 n words ≡ o → (int_le (pos 0) count && list_all is_byte (take (l - 64 * t) window)) ≡ true → sheet_with_pairs e t l n window o ≡ Some s → TailBack e t l n window (count ∷ words) s
    more None q p k = absurd (no_some s k)
    more (Some f) q p k =
        let r = pairs_back (nat_abs count) 0 n words f q in
        let two = and_parts (int_le (pos 0) count) (list_all is_byte (take (l - 64 * t) window)) p in
        let c : pos (nat_abs count) ≡ count = from count two.0 in
        let x : Sheet = record { epoch = e; turn = t; text_length = l; word_length = n; window = window; pairs = f.0; outputs = f.1 } in
        subst (λ (y : Sheet). TailBack e t l n window (count ∷ words) y) (same_some x s k) (record {
          epoch = refl;
          turn = refl;
          text_length = refl;
          word_length = refl;
          window_is = refl;
          words_are = λ i. (sym c ∙ ap (λ k. pos k) (sym r.count_is)) i ∷ r.spelled i;
          bytes = All-from_recursion IsByte (take (l - 64 * t) window) (all_bytes (take (l - 64 * t) window) two.1);
          rise = r.rise;
        })

    by : (b : Bool) → (int_le (pos 0) count && list_all is_byte (take (l - 64 * t) window)) ≡ b → (if b then sheet_with_pairs e t l n window (pairs_of (nat_abs count) 0 n words) else None) ≡ Some s → TailBack e t l n window (count ∷ words) s
    by true p k = more (pairs_of (nat_abs count) 0 n words) refl p k
    by false p k = absurd (no_some s k)

record BehindBack (e t l n : ℕ) (words : List ℤ) (s : Sheet) : Type 0 where
  pub epoch : s.epoch ≡ e
  pub turn : s.turn ≡ t
  pub text_length : s.text_length ≡ l
  pub word_length : s.word_length ≡ n
  pub shown : 64 * t < l + n
  pub sized : length s.window ≡ window_length (l + n) t
  pub words_are : words ≡ s.window ++ (pos (length s.pairs) ∷ (flat s.pairs ++ s.outputs))
  pub bytes : All IsByte (take (l - 64 * t) s.window)
  pub rise : Rise 0 n s.pairs

behind_back : (e t l n : ℕ) (words : List ℤ) (s : Sheet) → sheet_behind e t l n words ≡ Some s → BehindBack e t l n words s
behind_back e t l n words s h = by (nat_lt (64 * t) (l + n)) refl h
  where
    by : (b : Bool) → nat_lt (64 * t) (l + n) ≡ b → (if b then sheet_with_tail e t l n (take (window_length (l + n) t) words) (drop (window_length (l + n) t) words) else None) ≡ Some s → BehindBack e t l n words s
    by false p k = absurd (no_some s k)
    by true p k =
        let width : ℕ = window_length (l + n) t in
        let r = tail_back e t l n (take width words) (drop width words) s k in
        let some : 0 < length (drop width words) = omega (arith, ap length r.words_are) in
        let enough : width ≤ length words = omega (arith, some, length-drop width words) in
        record {
          epoch = r.epoch;
          turn = r.turn;
          text_length = r.text_length;
          word_length = r.word_length;
          shown = ltb-true (64 * t) (l + n) p;
          sized = ap length r.window_is ∙ length-take-le width words enough;
          words_are = sym (take-append-drop width words) ∙ (λ i. sym r.window_is i ++ r.words_are i);
          bytes = subst (λ (w : List ℤ). All IsByte (take (l - 64 * t) w)) (sym r.window_is) r.bytes;
          rise = r.rise;
        }

-- what is read is canonical, and spelled so
pub spelled_back : (p : List ℤ) (s : Sheet) → sheet_of p ≡ Some s → IsCanonical s × (spelled s ≡ p)
spelled_back [] s h = absurd (no_some s h)
spelled_back (k ∷ []) s h = absurd (no_some s h)
spelled_back (k ∷ e ∷ []) s h = absurd (no_some s h)
spelled_back (k ∷ e ∷ t ∷ []) s h = absurd (no_some s h)
spelled_back (k ∷ e ∷ t ∷ l ∷ []) s h = absurd (no_some s h)
spelled_back (k ∷ e ∷ t ∷ l ∷ n ∷ words) s h = by (int_eq k (pos 2) && is_from_to e epoch_limit && is_from_to l text_limit && is_from_to n word_limit && int_le (pos 0) t) refl h
  where
    by : (b : Bool) → (int_eq k (pos 2) && is_from_to e epoch_limit && is_from_to l text_limit && is_from_to n word_limit && int_le (pos 0) t) ≡ b → (if b then sheet_behind (nat_abs e) (nat_abs t) (nat_abs l) (nat_abs n) words else None) ≡ Some s → IsCanonical s × (spelled s ≡ k ∷ e ∷ t ∷ l ∷ n ∷ words)
    by false p q = absurd (no_some s q)
    by true p q =
        let p4 = and_parts (int_eq k (pos 2) && is_from_to e epoch_limit && is_from_to l text_limit && is_from_to n word_limit) (int_le (pos 0) t) p in
        let p3 = and_parts (int_eq k (pos 2) && is_from_to e epoch_limit && is_from_to l text_limit) (is_from_to n word_limit) p4.0 in
        let p2 = and_parts (int_eq k (pos 2) && is_from_to e epoch_limit) (is_from_to l text_limit) p3.0 in
        let p1 = and_parts (int_eq k (pos 2)) (is_from_to e epoch_limit) p2.0 in
        let he = from_to e epoch_limit p1.1 in
        let hl = from_to l text_limit p2.1 in
        let hn = from_to n word_limit p3.1 in
        let ht = from t p4.1 in
        let hk : k ≡ pos 2 = (Decides-int_eq k (pos 2)).0 p1.0 in
        let r = behind_back (nat_abs e) (nat_abs t) (nat_abs l) (nat_abs n) words s q in (
          record {
            epoch = omega (arith, r.epoch, he.1);
            text_length = omega (arith, r.text_length, hl.1);
            word_length = omega (arith, r.word_length, hn.1);
            turn = omega (arith, r.turn, r.text_length, r.word_length, r.shown);
            window = r.sized ∙ (λ i. window_length (sym r.text_length i + sym r.word_length i) (sym r.turn i));
            bytes = subst (λ (x : ℕ × ℕ). All IsByte (take (x.0 - 64 * x.1) s.window)) (λ i. (sym r.text_length i, sym r.turn i)) r.bytes;
            pairs = subst (λ (m : ℕ). Rise 0 m s.pairs) (sym r.word_length) r.rise;
          },
          λ i. sym hk i ∷ (ap (λ m. pos m) r.epoch ∙ he.0) i ∷ (ap (λ m. pos m) r.turn ∙ ht) i ∷ (ap (λ m. pos m) r.text_length ∙ hl.0) i ∷ (ap (λ m. pos m) r.word_length ∙ hn.0) i ∷ sym r.words_are i,
        )

-- ---- and what is spelled is read

bytes_all : (ws : List ℤ) → AllByRecursion IsByte ws → list_all is_byte ws ≡ true
bytes_all [] h = refl
bytes_all (w ∷ ws) h = and_from (is_byte w) (list_all is_byte ws) (byte w h.0) (bytes_all ws h.1)
  where
    byte : (x : ℤ) → IsByte x → is_byte x ≡ true
    byte x e = grind (arith, ints, nat_tests)

fits_to : (n k : ℕ) → n ≤ k → is_from_to (pos n) k ≡ true
fits_to n k h = grind (arith, ints, nat_tests)

zero_le : (n : ℕ) → int_le (pos 0) (pos n) ≡ true
zero_le n = grind (arith, ints, nat_tests)

two_is : int_eq (pos 2) (pos 2) ≡ true
two_is = (Decides-int_eq (pos 2) (pos 2)).1 refl

five : (a b c d e : Bool) → a ≡ true → b ≡ true → c ≡ true → d ≡ true → e ≡ true → (a && b && c && d && e) ≡ true
five a b c d e p q r s t = and_from (a && b && c && d) e (and_from (a && b && c) d (and_from (a && b) c (and_from a b p q) r) s) t

-- a canonical sheet is read back from its spelling
pub read_back : (s : Sheet) → IsCanonical s → sheet_of (spelled s) ≡ Some s
read_back s c =
    let rest : List ℤ = pos (length s.pairs) ∷ (flat s.pairs ++ s.outputs) in
    let words : List ℤ = s.window ++ rest in
    let width : ℕ = window_length (s.text_length + s.word_length) s.turn in
    let heads : (int_eq (pos 2) (pos 2) && is_from_to (pos s.epoch) epoch_limit && is_from_to (pos s.text_length) text_limit && is_from_to (pos s.word_length) word_limit && int_le (pos 0) (pos s.turn)) ≡ true =
    five (int_eq (pos 2) (pos 2)) (is_from_to (pos s.epoch) epoch_limit) (is_from_to (pos s.text_length) text_limit) (is_from_to (pos s.word_length) word_limit) (int_le (pos 0) (pos s.turn))
    two_is (fits_to s.epoch epoch_limit c.epoch) (fits_to s.text_length text_limit c.text_length) (fits_to s.word_length word_limit c.word_length) (zero_le s.turn) in
    let tail : (int_le (pos 0) (pos (length s.pairs)) && list_all is_byte (take (s.text_length - 64 * s.turn) s.window)) ≡ true =
    and_from (int_le (pos 0) (pos (length s.pairs))) (list_all is_byte (take (s.text_length - 64 * s.turn) s.window)) (zero_le (length s.pairs)) (bytes_all (take (s.text_length - 64 * s.turn) s.window) (recursion_from_All IsByte (take (s.text_length - 64 * s.turn) s.window) c.bytes)) in
    cond-true _ _ _ heads
    ∙ (cond-true _ _ _ (lt-ltb (64 * s.turn) (s.text_length + s.word_length) c.turn)
    ∙ ((λ i. sheet_with_tail s.epoch s.turn s.text_length s.word_length (take_at s.window rest width c.window i) (drop_at s.window rest width c.window i))
    ∙ (cond-true _ _ _ tail
    ∙ ap (sheet_with_pairs s.epoch s.turn s.text_length s.word_length s.window) (pairs_read s.pairs 0 s.word_length s.outputs c.pairs))))
