-- Single tokens keep the laws.
use Rattle.std.proofs.Common.{◌≡◌, ℕ, Bool, true, false, List, [], ◌∷◌, Option, Some, None, is_some, refl, ap, ◌∙◌, subst}
use Rattle.st_tree.specs.declared.token.Fixed.{Fixed}
use Rattle.st_tree.specs.declared.token.TokenKind.{TokenKind}
use Rattle.st_tree.specs.declared.token.TokenKind.TheVariants as kind
use Rattle.st_tree.specs.declared.token.Token.{Token}
use Rattle.st_tree.specs.declared.declaration.PlacedName.{PlacedName}
use Rattle.st_tree.specs.Pieces.{Piece, IsPiece, ArePieces, word, word_at, number_at}
use Rattle.st_tree.specs.Pieces as pieces
use Rattle.st_parser.specs.Inner.Parsers.{Parser, one, one_of, given, found, with_place, entry, entry_at, name, name_at, number, number_at as number_of, place_of, the_place, is_kind, sees, sees_name, sees_number, sees_some}
use Rattle.st_parser.proofs.Lawful.{Is, Lawful}
use Rattle.st_parser.proofs.Choices.{Always, one_token, is_kind_true, is_kind_same}
use Rattle.st_parser.proofs.Sets.{Table, written_so}

-- ---- names and numbers

name_gives : (k : TokenKind) (place : ℕ) (n : PlacedName) → name_at k place ≡ Some n → (k ≡ kind.Name n.name) × (place ≡ n.place)
name_gives (kind.Name m) place n h = let e : ◌≡◌ {A = PlacedName} (record { name = m; place = place }) n = cc in (ap (λ (x : PlacedName). kind.Name x.name) e, ap (λ (x : PlacedName). x.place) e)
name_gives (kind.Number m) place n h = absurd (cc)
name_gives (kind.Fixed v) place n h = absurd (cc)

name_seen : (k : TokenKind) (place : ℕ) (n : PlacedName) → name_at k place ≡ Some n → sees_name (Some k) ≡ true
name_seen (kind.Name m) place n h = refl
name_seen (kind.Number m) place n h = absurd (cc)
name_seen (kind.Fixed v) place n h = absurd (cc)

abbrev a_name : PlacedName
a_name = record { name = 65 ∷ []; place = 0 }

pub name_law : (n : ℕ) → Lawful n name name (Is pieces.name) sees_name Always
name_law n = one_token n (λ t. name_at t.kind t.place) (λ x. pieces.Placed (kind.Name x.name) x.place) sees_name (record {
  gives = λ t a h. let e = name_gives t.kind t.place a h in λ i. record { kind = e.0 i; place = e.1 i };
  known = λ t a h. ap (λ (x : Token). name_at x.kind x.place) h;
  seen = λ t a h. name_seen t.kind t.place a h;
  value = a_name;
  token = record { kind = kind.Name (65 ∷ []); place = 0 };
  sample = refl;
})

number_gives : (k : TokenKind) (place : ℕ) (x : ℕ × ℕ) → number_of k place ≡ Some x → (k ≡ kind.Number x.0) × (place ≡ x.1)
number_gives (kind.Name m) place x h = absurd (cc)
number_gives (kind.Number m) place x h = let e : ◌≡◌ {A = ℕ × ℕ} (m, place) x = cc in (ap (λ (y : ℕ × ℕ). kind.Number y.0) e, ap (λ (y : ℕ × ℕ). y.1) e)
number_gives (kind.Fixed v) place x h = absurd (cc)

number_seen : (k : TokenKind) (place : ℕ) (x : ℕ × ℕ) → number_of k place ≡ Some x → sees_number (Some k) ≡ true
number_seen (kind.Name m) place x h = absurd (cc)
number_seen (kind.Number m) place x h = refl
number_seen (kind.Fixed v) place x h = absurd (cc)

pub number_law : (n : ℕ) → Lawful n number number (Is (λ x. number_at x.0 x.1)) sees_number Always
number_law n = one_token n (λ t. number_of t.kind t.place) (λ x. pieces.Placed (kind.Number x.0) x.1) sees_number (record {
  gives = λ t a h. let e = number_gives t.kind t.place a h in λ i. record { kind = e.0 i; place = e.1 i };
  known = λ t a h. ap (λ (x : Token). number_of x.kind x.place) h;
  seen = λ t a h. number_seen t.kind t.place a h;
  value = (0, 0);
  token = record { kind = kind.Number 0; place = 0 };
  sample = refl;
})

-- ---- words with their places

placed : (b : Bool) (place at : ℕ) → the_place b place ≡ Some at → (b ≡ true) × (place ≡ at)
placed true place at h = (refl, cc)
placed false place at h = absurd (cc)

pub place_law : (n : ℕ) (w : Fixed) → Lawful n (place_of w) (place_of w) (Is (λ place. word_at w place)) (sees w) Always
place_law n w = one_token n (λ t. the_place (is_kind w t.kind) t.place) (λ place. pieces.Placed (kind.Fixed w) place) (sees w) (record {
  gives = λ t a h. let e = placed (is_kind w t.kind) t.place a h in let k = is_kind_true w t.kind e.0 in λ i. record { kind = k i; place = e.1 i };
  known = λ t a h. ap (λ (x : Token). the_place (is_kind w x.kind) x.place) h ∙ ap (λ b. the_place b a) (is_kind_same w (kind.Fixed w) refl);
  seen = λ t a h. (placed (is_kind w t.kind) t.place a h).0;
  value = 0;
  token = record { kind = kind.Fixed w; place = 0 };
  sample = ap (λ b. the_place b 0) (is_kind_same w (kind.Fixed w) refl);
})

-- ---- entries of a table

module _ {A : Type 0} (table : Fixed → Option A) (written : A → Fixed) (t : Table table written) (value : A) where
  found_so : (k : TokenKind) (a : A) → found table (Some k) ≡ Some a → k ≡ kind.Fixed (written a)
  found_so (kind.Name m) a h = absurd (cc)
  found_so (kind.Number m) a h = absurd (cc)
  found_so (kind.Fixed v) a h = ap (λ x. kind.Fixed x) (written_so table written t v a h)

  entry_is : (ts : List Token) → one (λ x. found table (Some x.kind)) ts ≡ entry table ts
  entry_is [] = refl
  entry_is (x ∷ xs) = by (found table (Some x.kind))
    where
      by : (o : Option A) → one_of o x xs ≡ given o (x ∷ xs)
      by (Some a) = refl
      by None = refl

  pub entry_law : (n : ℕ) → Lawful n (entry table) (entry table) (Is (λ a. word (written a))) (sees_some table) Always
  entry_law n =
      let l : Lawful n (one (λ x. found table (Some x.kind))) (one (λ x. found table (Some x.kind))) (Is (λ a. word (written a))) (sees_some table) Always =
      one_token n (λ x. found table (Some x.kind)) (λ a. pieces.Anywhere (kind.Fixed (written a))) (sees_some table) (record {
        gives = λ x a h. found_so x.kind a h;
        known = λ x a h. ap (λ k. found table (Some k)) h ∙ t.back a;
        seen = λ x a h. ap is_some h;
        value = value;
        token = record { kind = kind.Fixed (written value); place = 0 };
        sample = t.back value;
      }) in
      subst (λ (p : Parser A). Lawful n p p (Is (λ a. word (written a))) (sees_some table) Always) (λ i ts. entry_is ts i) l

  both_of : (o : Option A) (place : ℕ) (x : A × ℕ) → with_place o place ≡ Some x → (o ≡ Some x.0) × (place ≡ x.1)
  both_of (Some a) place x h = let e : ◌≡◌ {A = A × ℕ} (a, place) x = cc in (ap (λ (y : A × ℕ). Some y.0) e, ap (λ (y : A × ℕ). y.1) e)
  both_of None place x h = absurd (cc)

  entry_at_is : (ts : List Token) → one (λ x. with_place (found table (Some x.kind)) x.place) ts ≡ entry_at table ts
  entry_at_is [] = refl
  entry_at_is (x ∷ xs) = by (with_place (found table (Some x.kind)) x.place)
    where
      by : (o : Option (A × ℕ)) → one_of o x xs ≡ given o (x ∷ xs)
      by (Some a) = refl
      by None = refl

  pub entry_at_law : (n : ℕ) → Lawful n (entry_at table) (entry_at table) (Is (λ x. word_at (written x.0) x.1)) (sees_some table) Always
  entry_at_law n =
      let l : Lawful n (one (λ x. with_place (found table (Some x.kind)) x.place)) (one (λ x. with_place (found table (Some x.kind)) x.place)) (Is (λ x. word_at (written x.0) x.1)) (sees_some table) Always =
      one_token n (λ x. with_place (found table (Some x.kind)) x.place) (λ a. pieces.Placed (kind.Fixed (written a.0)) a.1) (sees_some table) (record {
        gives = λ x a h. let e = both_of (found table (Some x.kind)) x.place a h in let k = found_so x.kind a.0 e.0 in λ i. record { kind = k i; place = e.1 i };
        known = λ x a h. ap (λ (y : Token). with_place (found table (Some y.kind)) y.place) h ∙ ap (λ o. with_place o a.1) (t.back a.0);
        seen = λ x a h. ap is_some (both_of (found table (Some x.kind)) x.place a h).0;
        value = (value, 0);
        token = record { kind = kind.Fixed (written value); place = 0 };
        sample = ap (λ o. with_place o 0) (t.back value);
      }) in
      subst (λ (p : Parser (A × ℕ)). Lawful n p p (Is (λ x. word_at (written x.0) x.1)) (sees_some table) Always) (λ i ts. entry_at_is ts i) l
