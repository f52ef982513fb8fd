-- The place of a name among the points, as the table of names finds it.
use Rattle.std.proofs.Common.{◌≡◌, ◌≢◌, ℕ, ◌<◌, ◌≤◌, ◌+◌, suc, Bool, true, false, not, cond, nat_lt, ◌||◌, List, [], ◌∷◌, length, map, get_or, slice_get, Option, Some, None, IfSome, IfNone, unwrap_or, refl, sym, ap, ◌∙◌, subst, arith, true≢false}
use Rattle.std.specs.List.{position, position_or_len, list_any, All}
use Rattle.std.specs.Option.{option_map}
use Rattle.std.specs.Str.{bytes_eq}
use Rattle.std.proofs.lemmas.Bool.{ltb-true, ltb-false}
use Rattle.std.proofs.lemmas.List.{length-map}
use Rattle.std.proofs.lemmas.List.Sums.{passes_at_first, fails_before_first}
use Rattle.std.proofs.lemmas.Option.{slice_get-map, slice_get-get_or}
use Rattle.std.proofs.lemmas.Slice.Eq.{bytes_eq-Decides}
use Rattle.tri_base.specs.declared.point.Point.{Point}
use Rattle.tri_base.specs.Inner.NameFields.{same_name, same_name_is, is_same_name}
use Rattle.chassis.specs.Points.{place_of}

abbrev pub name_of_point : Point → List ℕ
name_of_point p = p.name

-- the table's test of two names is that of their bytes
same_bytes : (a b : List ℕ) → same_name a b ≡ bytes_eq a b
same_bytes a b = by (same_name a b) (bytes_eq a b) refl refl
  where
    by : (s t : Bool) → same_name a b ≡ s → bytes_eq a b ≡ t → s ≡ t
    by true true e k = refl
    by false false e k = refl
    by true false e k = absurd (true≢false (sym ((bytes_eq-Decides a b).1 (same_name_is a b e)) ∙ k))
    by false true e k = absurd (true≢false (sym (subst (λ (x : List ℕ). same_name a x ≡ true) ((bytes_eq-Decides a b).0 k) (is_same_name a)) ∙ e))

first_same : (name : List ℕ) (points : List Point) → position_or_len (same_name name) (map (λ p. p.name) points) ≡ position_or_len (λ p. bytes_eq name p.name) points
first_same name [] = refl
first_same name (p ∷ ps) = λ i. cond (not (same_bytes name p.name i)) (1 + first_same name ps i) 0

pub place_same : (name : List ℕ) (points : List Point) → position (same_name name) (map (λ p. p.name) points) ≡ place_of points name
place_same name points =
    λ i. cond (nat_lt (first_same name points i) (length-map points name_of_point i)) (Some (first_same name points i)) None

a_place : (a b i : ℕ) → cond (nat_lt a b) (Some a) None ≡ Some i → (a < b) × (a ≡ i)
a_place a b i h = by (nat_lt a b) refl h
  where
    by : (t : Bool) → nat_lt a b ≡ t → cond t (Some a) None ≡ Some i → (a < b) × (a ≡ i)
    by true e h = (ltb-true a b e, ap (λ r. unwrap_or r a) h)
    by false e h = absurd (cc)

no_place : (a b : ℕ) → cond (nat_lt a b) (Some a) None ≡ None → b ≤ a
no_place a b h = by (nat_lt a b) refl h
  where
    by : (t : Bool) → nat_lt a b ≡ t → cond t (Some a) None ≡ None → b ≤ a
    by true e h = absurd (cc)
    by false e h = ltb-false a b e

-- at a name's place stands a point with the name
pub found : (points : List Point) (name : List ℕ) (i : ℕ) → place_of points name ≡ Some i → slice_get (map (λ p. p.name) points) i ≡ Some name
found [] name i h = absurd (cc)
found (d ∷ ps) name i h =
    let points : List Point = d ∷ ps in
    let test : Point → Bool = λ p. bytes_eq name p.name in
    let first = a_place (position_or_len test points) (length points) i h in
    let within : i < length points = omega (arith, first.0, first.1) in
    let hit : bytes_eq name (get_or points i d).name ≡ true = subst (λ k. test (get_or points k d) ≡ true) first.1 (passes_at_first test points d first.0) in
    slice_get-map name_of_point points i ∙ (ap (λ o. option_map name_of_point o) (slice_get-get_or points i d within) ∙ ap Some (sym ((bytes_eq-Decides name (get_or points i d).name).0 hit)))

-- a name that has no place is that of no point
pub absent : (points : List Point) (name : List ℕ) → place_of points name ≡ None → All (λ (p : Point). p.name ≢ name) points
absent points name h = λ k d within e.
    let test : Point → Bool = λ p. bytes_eq name p.name in
    true≢false (sym ((bytes_eq-Decides name (get_or points k d).name).1 (sym e)) ∙ fails_before_first test points k d (omega (arith, no_place (position_or_len test points) (length points) h, within)))

none_step : (t rest : Bool) (n m : ℕ) → suc m ≤ cond (not t) (1 + n) 0 → (m ≤ n → rest ≡ false) → (t || rest) ≡ false
none_step true rest n m h go = absurd (omega arith)
none_step false rest n m h go = go (omega arith)

none_any : (test : List ℕ → Bool) (keys : List (List ℕ)) → length keys ≤ position_or_len test keys → list_any test keys ≡ false
none_any test [] h = refl
none_any test (k ∷ ks) h = none_step (test k) (list_any test ks) (position_or_len test ks) (length ks) h (none_any test ks)

-- and is not in the table
pub not_there : (points : List Point) (name : List ℕ) → place_of points name ≡ None → list_any (same_name name) (map (λ p. p.name) points) ≡ false
not_there points name h =
    let keys = map name_of_point points in
    none_any (same_name name) keys (no_place (position_or_len (same_name name) keys) (length keys) (place_same name points ∙ h))

-- of either answer
pub found_where : (points : List Point) (name : List ℕ) (r : Option ℕ) → r ≡ place_of points name → IfSome r (λ i. slice_get (map (λ p. p.name) points) i ≡ Some name)
found_where points name (Some i) h = found points name i (sym h)
found_where points name None h = tt

pub absent_where : (points : List Point) (name : List ℕ) (r : Option ℕ) → r ≡ place_of points name → IfNone r (All (λ (p : Point). p.name ≢ name) points)
absent_where points name (Some i) h = tt
absent_where points name None h = absent points name (sym h)
