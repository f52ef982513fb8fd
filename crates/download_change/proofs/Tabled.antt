-- A table of renames, with one more in front.
use Rattle.std.proofs.Common.{◌≡◌, ℕ, ◌<◌, ◌≤◌, ◌+◌, ◌-◌, Bool, true, false, cond, ◌||◌, List, [], ◌∷◌, length, get_or, drop, Option, Some, refl, sym, ap, ◌∙◌, true≢false, arith}
use Rattle.std.specs.List.{find, list_any}
use Rattle.std.specs.Option.{option_map, is_some}
use Rattle.std.specs.Str.{bytes_eq}
use Rattle.std.proofs.lemmas.Slice.Eq.{bytes_eq-Decides}
use Rattle.tri_base.specs.Inner.NameFields.{same_name}
use Rattle.st_types.proofs.Named.{same_bytes}
use Rattle.download_change.specs.Renames.{Rename}
use Rattle.download_change.proofs.Walks.{opened}

-- the test of two names, either first
turned : (a b : List ℕ) → bytes_eq a b ≡ bytes_eq b a
turned a b = by (bytes_eq a b) (bytes_eq b a) refl refl
  where
    by : (s t : Bool) → bytes_eq a b ≡ s → bytes_eq b a ≡ t → s ≡ t
    by true true e k = refl
    by false false e k = refl
    by true false e k = absurd (true≢false (sym ((bytes_eq-Decides b a).1 (sym ((bytes_eq-Decides a b).0 e))) ∙ k))
    by false true e k = absurd (true≢false (sym ((bytes_eq-Decides a b).1 (sym ((bytes_eq-Decides b a).0 k))) ∙ e))

-- what a test of two names in the code says
pub one : (a b : List ℕ) (t : Bool) → t ≡ same_name a b → t ≡ true → bytes_eq a b ≡ true
one a b t e h = sym (same_bytes a b) ∙ (sym e ∙ h)

pub other : (a b : List ℕ) (t : Bool) → t ≡ same_name a b → t ≡ false → bytes_eq a b ≡ false
other a b t e h = sym (same_bytes a b) ∙ (sym e ∙ h)

pub entered : (key value : Rename → List ℕ) (n : List ℕ) (r : Rename) (rest : List Rename) (before after : Option (List ℕ)) → after ≡ cond (same_name (key r) n) (Some (value r)) before
    → before ≡ option_map value (find (λ e. bytes_eq n (key e)) rest) → after ≡ option_map value (find (λ e. bytes_eq n (key e)) (r ∷ rest))
entered key value n r rest before after h b =
    h
    ∙ ((λ i. cond ((same_bytes (key r) n ∙ turned (key r) n) i) (Some (value r)) (b i))
    ∙ by (bytes_eq n (key r)) (find (λ e. bytes_eq n (key e)) rest))
  where
    by : (t : Bool) (o : Option Rename) → cond t (Some (value r)) (option_map value o) ≡ option_map value (cond t (Some r) o)
    by true o = refl
    by false o = refl

again : (at : ℕ) → 0 < at → at - 1 + 1 ≡ at
again at h = omega (arith, h)

below : (at n : ℕ) → 0 < at → at ≤ n → at - 1 < n
below at n h w = omega (arith, h, w)

-- the rename before those that are in the table already
pub entered_before : (key value : Rename → List ℕ) (n : List ℕ) (renames : List Rename) (at : ℕ) (r : Rename) (before after : Option (List ℕ)) → 0 < at → at ≤ length renames → r ≡ get_or renames (at - 1) r
    → after ≡ cond (same_name (key r) n) (Some (value r)) before → before ≡ option_map value (find (λ e. bytes_eq n (key e)) (drop at renames))
    → after ≡ option_map value (find (λ e. bytes_eq n (key e)) (drop (at - 1) renames))
entered_before key value n renames at r before after some within is h b =
    entered key value n r (drop at renames) before after h b
    ∙ ap (λ (l : List Rename). option_map value (find (λ e. bytes_eq n (key e)) l))
    (ap (λ k. r ∷ drop k renames) (sym (again at some)) ∙ sym (opened renames (at - 1) r (below at (length renames) some within) is))

-- the table has what the list has
pub there : (value : Rename → List ℕ) (p : Rename → Bool) (rs : List Rename) → is_some (option_map value (find p rs)) ≡ list_any p rs
there value p [] = refl
there value p (r ∷ rs) = by (p r) (there value p rs)
  where
    by : (t : Bool) → is_some (option_map value (find p rs)) ≡ list_any p rs → is_some (option_map value (cond t (Some r) (find p rs))) ≡ (t || list_any p rs)
    by true h = refl
    by false h = h
