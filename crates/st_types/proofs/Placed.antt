-- The table of the first places of names, with one tag more.
use Rattle.std.proofs.Common.{◌≡◌, ℕ, Bool, true, false, cond, List, [], ◌∷◌, ◌++◌, length, Option, Some, None, refl, sym, ap, ◌∙◌, true≢false}
use Rattle.std.specs.Map.{lookup}
use Rattle.std.specs.Option.{option_or, is_some}
use Rattle.std.specs.Str.{bytes_eq}
use Rattle.std.proofs.lemmas.Slice.Eq.{bytes_eq-Decides}
use Rattle.tri_base.specs.Inner.NameFields.{same_name}
use Rattle.st_tree.specs.declared.tag.Tag.{Tag}
use Rattle.st_types.specs.Inner.Places.{place_of, with_place, with_first}
use Rattle.st_types.proofs.Named.{same_bytes}
use Rattle.st_types.proofs.Positions.{position_last}

lookup_step : {V : Type 0} (e : V) (o p q : Option V) (t : Bool) → p ≡ option_or o q → cond t (Some e) p ≡ option_or (cond t (Some e) o) q
lookup_step e o p q true h = refl
lookup_step e o p q false h = h

lookup_last : {K V : Type 0} (test : K → Bool) (es : List (K × V)) (k : K) (v : V) → lookup test (es ++ (k, v) ∷ []) ≡ option_or (lookup test es) (cond (test k) (Some v) None)
lookup_last test [] k v = refl
lookup_last test (e ∷ es) k v = lookup_step e.1 (lookup test es) (lookup test (es ++ (k, v) ∷ [])) (cond (test k) (Some v) None) (test e.0) (lookup_last test es k v)

-- a tag whose name is new has a place behind the others
pub placed_new : (tags : List Tag) (tag : Tag) (places : List (List ℕ × ℕ)) → ((n : List ℕ) → lookup (same_name n) places ≡ place_of tags n)
    → (n : List ℕ) → lookup (same_name n) (places ++ (tag.name, length tags) ∷ []) ≡ place_of (tags ++ tag ∷ []) n
placed_new tags tag places kept n =
    lookup_last (same_name n) places tag.name (length tags)
    ∙ ((λ i. option_or (kept n i) (cond (same_bytes n tag.name i) (Some (length tags)) None))
    ∙ sym (position_last (λ (t : Tag). bytes_eq n t.name) tags tag))

some_first : (o : Option ℕ) (i : ℕ) (p : Option ℕ) → o ≡ Some i → o ≡ option_or o p
some_first o i p e = e ∙ ap (λ q. option_or q p) (sym e)

none_last : (o : Option ℕ) → o ≡ option_or o None
none_last None = refl
none_last (Some i) = refl

-- a tag whose name is there has none
pub placed_again : (tags : List Tag) (tag : Tag) (places : List (List ℕ × ℕ)) (i : ℕ) → ((n : List ℕ) → lookup (same_name n) places ≡ place_of tags n) → lookup (same_name tag.name) places ≡ Some i
    → (n : List ℕ) → lookup (same_name n) places ≡ place_of (tags ++ tag ∷ []) n
placed_again tags tag places i kept there n =
    kept n ∙ (by (bytes_eq n tag.name) refl ∙ sym (position_last (λ (t : Tag). bytes_eq n t.name) tags tag))
  where
    by : (t : Bool) → bytes_eq n tag.name ≡ t → place_of tags n ≡ option_or (place_of tags n) (cond t (Some (length tags)) None)
    by true e = some_first (place_of tags n) i (Some (length tags)) (ap (place_of tags) ((bytes_eq-Decides n tag.name).0 e) ∙ (sym (kept tag.name) ∙ there))
    by false e = none_last (place_of tags n)

-- of either
pub placed : (tags : List Tag) (tag : Tag) (places : List (List ℕ × ℕ)) → ((n : List ℕ) → lookup (same_name n) places ≡ place_of tags n)
    → (n : List ℕ) → lookup (same_name n) (with_first places tag.name (length tags)) ≡ place_of (tags ++ tag ∷ []) n
placed tags tag places kept n = by (lookup (same_name tag.name) places) refl
  where
    by : (o : Option ℕ) → lookup (same_name tag.name) places ≡ o → lookup (same_name n) (with_place o places tag.name (length tags)) ≡ place_of (tags ++ tag ∷ []) n
    by None e = placed_new tags tag places kept n
    by (Some i) e = placed_again tags tag places i kept e n

-- a test that finds nothing
pub no_place : (o : Option ℕ) → is_some o ≡ false → o ≡ None
no_place None e = refl
no_place (Some i) e = absurd (true≢false e)

-- a name that has no place gets one behind the others
pub first_noted : (places : List (List ℕ × ℕ)) (name : List ℕ) (place : ℕ) → lookup (same_name name) places ≡ None → places ++ (name, place) ∷ [] ≡ with_first places name place
first_noted places name place e = ap (λ o. with_place o places name place) (sym e)
