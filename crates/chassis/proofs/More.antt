-- A chassis with one point more.
use Rattle.std.proofs.Common.{◌≡◌, ℕ, ◌≤◌, ◌+◌, Bool, true, false, not, cond, nat_le, List, [], ◌∷◌, ◌++◌, length, map, filter, Option, Some, None, Result, Ok, Err, IfOk, is_ok, refl, sym, ap, ◌∙◌, subst, arith, length-append, if◌then◌else◌}
use Rattle.std.specs.List.{list_any}
use Rattle.std.proofs.lemmas.Bool.{leb-false}
use Rattle.std.proofs.lemmas.List.{map-append}
use Rattle.std.proofs.lemmas.List.Elements.{All-push, filter-append}
use Rattle.std.proofs.lemmas.List.Quantifiers.{all_pairs_push}
use Rattle.tri_base.specs.declared.point.Point.{Point}
use Rattle.tri_base.specs.Inner.NameFields.{same_name}
use Rattle.indexmap.specs.IndexSet.{insert_key}
use Rattle.chassis.specs.declared.table.Chassis.TheInside.{Inside}
use Rattle.chassis.specs.Points.{is_input_kind, inputs_of, outputs_of, place_of, is_full, first_fault, refusal_of, IsChassis}
use Rattle.chassis.specs.Ranges.{Fits, fits_range}
use Rattle.chassis.specs.Inner.Kept.{IsKept}
use Rattle.chassis.proofs.Places.{name_of_point, absent, not_there}
use Rattle.chassis.proofs.Ranges.{fits_is}

record Allowed (points : List Point) (p : Point) : Type 0 where
  range : fits_range p ≡ true
  new : place_of points p.name ≡ None
  room : is_full points p.kind ≡ false

-- where nothing forbids a point, each test passes
allowed : (points : List Point) (p : Point) → refusal_of points p ≡ None → Allowed points p
allowed points p h = by (fits_range p) (place_of points p.name) (is_full points p.kind) refl refl refl h
  where
    by : (a : Bool) (b : Option ℕ) (c : Bool) → fits_range p ≡ a → place_of points p.name ≡ b → is_full points p.kind ≡ c → first_fault a b c p.name ≡ None → Allowed points p
    by true None false range new room h = record { range = range; new = new; room = room }
    by false b c range new room h = absurd (cc)
    by true (Some place) c range new room h = absurd (cc)
    by true None true range new room h = absurd (cc)

one : (t : Bool) (p : Point) → length (cond t (p ∷ []) []) ≡ cond t 1 0
one true p = refl
one false p = refl

count_more : (test : Point → Bool) (points : List Point) (p : Point) → length (filter test (points ++ p ∷ [])) ≡ length (filter test points) + cond (test p) 1 0
count_more test points p =
    ap length (filter-append test points (p ∷ [])) ∙ (length-append (filter test points) (filter test (p ∷ [])) ∙ ap (λ n. length (filter test points) + n) (one (test p) p))

-- the inputs, and the outputs, stay at most 256
room_inputs : (kind : Bool) (inputs outputs : List Point) → nat_le 256 (length (if kind then inputs else outputs)) ≡ false → length inputs ≤ 256 → length inputs + cond kind 1 0 ≤ 256
room_inputs true inputs outputs h few = omega (arith, leb-false 256 (length inputs) h)
room_inputs false inputs outputs h few = omega arith

room_outputs : (kind : Bool) (inputs outputs : List Point) → nat_le 256 (length (if kind then inputs else outputs)) ≡ false → length outputs ≤ 256 → length outputs + cond (not kind) 1 0 ≤ 256
room_outputs true inputs outputs h few = omega arith
room_outputs false inputs outputs h few = omega (arith, leb-false 256 (length outputs) h)

whole_more : (points : List Point) (p : Point) → IsChassis points → Allowed points p → IsChassis (points ++ p ∷ [])
whole_more points p whole ok = record {
  apart = all_pairs_push (λ (a b : Point). a.name ≡ b.name → ⊥) points p whole.apart (absent points p.name ok.new);
  fit = All-push Fits points p whole.fit (fits_is p ok.range);
  few_inputs = omega (arith, count_more (λ a. is_input_kind a.kind) points p, room_inputs (is_input_kind p.kind) (inputs_of points) (outputs_of points) ok.room whole.few_inputs);
  few_outputs = omega (arith, count_more (λ a. not (is_input_kind a.kind)) points p, room_outputs (is_input_kind p.kind) (inputs_of points) (outputs_of points) ok.room whole.few_outputs);
}

-- what is kept of a chassis fits its points again after a point was added
pub kept_more : (old new : Inside) (p : Point) → IsKept old → refusal_of old.points.items p ≡ None → new.points.items ≡ old.points.items ++ p ∷ [] → new.names.keys ≡ insert_key same_name old.names.keys p.name
    → new.inputs ≡ old.inputs + cond (is_input_kind p.kind) 1 0 → new.outputs ≡ old.outputs + cond (not (is_input_kind p.kind)) 1 0 → IsKept new
kept_more old new p kept h points_are keys_are inputs_are outputs_are =
    let points = old.points.items in
    let ok = allowed points p h in
    let free : list_any (same_name p.name) old.names.keys ≡ false = ap (λ ks. list_any (same_name p.name) ks) kept.names ∙ not_there points p.name ok.new in
    let keys : new.names.keys ≡ old.names.keys ++ p.name ∷ [] = keys_are ∙ ap (λ t. if t then old.names.keys else old.names.keys ++ p.name ∷ []) free in
    record {
      names = keys ∙ (ap (λ ks. ks ++ p.name ∷ []) kept.names ∙ (sym (map-append name_of_point points (p ∷ [])) ∙ ap (λ ps. map name_of_point ps) (sym points_are)));
      inputs = inputs_are ∙ (ap (λ n. n + cond (is_input_kind p.kind) 1 0) kept.inputs ∙ (sym (count_more (λ a. is_input_kind a.kind) points p) ∙ ap (λ ps. length (inputs_of ps)) (sym points_are)));
      outputs = outputs_are ∙ (ap (λ n. n + cond (not (is_input_kind p.kind)) 1 0) kept.outputs ∙ (sym (count_more (λ a. not (is_input_kind a.kind)) points p) ∙ ap (λ ps. length (outputs_of ps)) (sym points_are)));
      whole = subst IsChassis (sym points_are) (whole_more points p kept.whole ok);
    }

-- what holds at Ok holds of an answer that is Ok
pub ok_holds : {T E P : Type 0} (r : Result T E) → IfOk r (λ x. P) → is_ok r ≡ true → P
ok_holds (Ok x) h e = h
ok_holds (Err x) h e = absurd (cc)
