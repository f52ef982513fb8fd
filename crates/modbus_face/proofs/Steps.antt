-- One turn of a loop.
use Rattle.std.proofs.Common.{◌≡◌, ◌∙◌, ap, sym, refl, ℕ, zero, suc, ◌+◌, ◌*◌, ◌<◌, ℤ, List, [], ◌∷◌, ◌++◌, length, get_or, map, filter, not, drop, cond, Bool, true, false, arith}
use Rattle.std.specs.Prelude.{Option, Some, slice_get}
use Rattle.std.specs.List.{range_with_len, zip}
use Rattle.std.proofs.lemmas.List.FromFn.{map-range_with_len_more}
use Rattle.std.proofs.lemmas.List.{append_assoc, drop_more}
use Rattle.tri_base.specs.declared.point.Point.{Point}
use Rattle.tri_base.specs.declared.point.PointKind.{PointKind}
use Rattle.chassis.specs.Points.{inputs_of, is_input_kind, outputs_of}
use Rattle.modbus_face.specs.Data.{byte_from}
use Rattle.modbus_face.specs.Reads.{same_kind, values_at}
use Rattle.modbus_face.specs.Inner.Sides.{same_side, side_of, value_at}

-- one byte more of bits
pub byte_more : (values : List ℤ) (old text new : List ℕ) (turn byte : ℕ)
    → text ≡ old ++ map (λ k. byte_from values (8 * k)) (range_with_len 0 turn)
    → byte ≡ byte_from values (8 * turn) → new ≡ text ++ byte ∷ []
    → new ≡ old ++ map (λ k. byte_from values (8 * k)) (range_with_len 0 (turn + 1))
byte_more values old text new turn byte so_far this more =
    let f : ℕ → ℕ = λ k. byte_from values (8 * k) in
    let bytes = map f (range_with_len 0 turn) in
    more ∙ (λ i. so_far i ++ this i ∷ []) ∙ append_assoc old bytes (f turn ∷ [])
    ∙ ap (λ l. old ++ l) (sym (map-range_with_len_more f 0 turn turn (omega arith)))

no_values : (kind : PointKind) (ps : List Point) → values_at kind ps [] ≡ []
no_values kind [] = refl
no_values kind (p ∷ ps) = refl

dropped : (n : ℕ) → drop {A = ℤ} n [] ≡ []
dropped zero = refl
dropped (suc n) = refl

-- the first point's value, and those behind it
first_value : (kind : PointKind) (p : Point) (ps : List Point) (v : ℤ) (vs : List ℤ)
    → values_at kind (p ∷ ps) (v ∷ vs) ≡ value_at kind p (Some v) ++ values_at kind ps vs
first_value kind p ps v vs = by (same_kind kind p.kind)
  where
    by : (t : Bool) → map (λ at. at.1) (cond t ((p, v) ∷ filter (λ at. same_kind kind at.0.kind) (zip ps vs)) (filter (λ at. same_kind kind at.0.kind) (zip ps vs)))
        ≡ cond t (v ∷ []) [] ++ values_at kind ps vs
    by true = refl
    by false = refl

next_value : (kind : PointKind) (p : Point) (ps : List Point) (values : List ℤ) (place : ℕ)
    → values_at kind (p ∷ ps) (drop place values) ≡ value_at kind p (slice_get values place) ++ values_at kind ps (drop (place + 1) values)
next_value kind p ps [] place =
    ap (values_at kind (p ∷ ps)) (dropped place) ∙ sym (no_values kind ps) ∙ ap (values_at kind ps) (sym (dropped (place + 1)))
next_value kind p ps (v ∷ vs) zero = first_value kind p ps v vs
next_value kind p ps (v ∷ vs) (suc place) =
    next_value kind p ps vs place ∙ ap (λ n. value_at kind p (slice_get vs place) ++ values_at kind ps (drop n (v ∷ vs))) (more place)
  where
    more : (n : ℕ) → suc (n + 1) ≡ suc n + 1
    more n = omega arith

-- a point of the other direction counts for nothing, and one of the same is the first
side_without : (kind : PointKind) (p : Point) (ps : List Point) → same_side kind p.kind ≡ false → side_of kind (p ∷ ps) ≡ side_of kind ps
side_without kind p ps h = by (is_input_kind kind) (is_input_kind p.kind) h
  where
    by : (s t : Bool) → cond s t (not t) ≡ false
        → cond s (cond t (p ∷ inputs_of ps) (inputs_of ps)) (cond (not t) (p ∷ outputs_of ps) (outputs_of ps)) ≡ cond s (inputs_of ps) (outputs_of ps)
    by true true k = absurd (cc)
    by true false k = refl
    by false true k = refl
    by false false k = absurd (cc)

side_with : (kind : PointKind) (p : Point) (ps : List Point) → same_side kind p.kind ≡ true → side_of kind (p ∷ ps) ≡ p ∷ side_of kind ps
side_with kind p ps h = by (is_input_kind kind) (is_input_kind p.kind) h
  where
    by : (s t : Bool) → cond s t (not t) ≡ true
        → cond s (cond t (p ∷ inputs_of ps) (inputs_of ps)) (cond (not t) (p ∷ outputs_of ps) (outputs_of ps)) ≡ p ∷ cond s (inputs_of ps) (outputs_of ps)
    by true true k = refl
    by true false k = absurd (cc)
    by false true k = absurd (cc)
    by false false k = refl

-- a point that is passed over
pub passed : (kind : PointKind) (points : List Point) (i : ℕ) (p : Point) (seen new whole values : List ℤ) (place next : ℕ)
    → i < length points → p ≡ get_or points i p → false ≡ same_side kind p.kind → new ≡ seen → next ≡ place
    → seen ++ values_at kind (side_of kind (drop i points)) (drop place values) ≡ whole
    → new ++ values_at kind (side_of kind (drop (i + 1) points)) (drop next values) ≡ whole
passed kind points i p seen new whole values place next there is other same stays so_far =
    let split = drop_more points i p there ∙ ap (λ q. q ∷ drop (i + 1) points) (sym is) in
    let side = sym (ap (side_of kind) split ∙ side_without kind p (drop (i + 1) points) (sym other)) in
    (λ j. same j ++ values_at kind (side j) (drop (stays j) values)) ∙ so_far

-- a point that is looked at
pub looked_at : (kind : PointKind) (points : List Point) (i : ℕ) (p : Point) (seen new whole values : List ℤ) (place next : ℕ) (value : Option ℤ)
    → i < length points → p ≡ get_or points i p → true ≡ same_side kind p.kind
    → value ≡ slice_get values place → new ≡ seen ++ value_at kind p value → next ≡ place + 1
    → seen ++ values_at kind (side_of kind (drop i points)) (drop place values) ≡ whole
    → new ++ values_at kind (side_of kind (drop (i + 1) points)) (drop next values) ≡ whole
looked_at kind points i p seen new whole values place next value there is same this more on so_far =
    let split = drop_more points i p there ∙ ap (λ q. q ∷ drop (i + 1) points) (sym is) in
    let ps = side_of kind (drop (i + 1) points) in
    let rest = values_at kind ps (drop (place + 1) values) in
    let now : value_at kind p value ++ rest ≡ values_at kind (side_of kind (drop i points)) (drop place values) =
    ap (λ v. value_at kind p v ++ rest) this
    ∙ sym (next_value kind p ps values place)
    ∙ ap (λ qs. values_at kind qs (drop place values)) (sym (ap (side_of kind) split ∙ side_with kind p (drop (i + 1) points) (sym same))) in
    (λ j. more j ++ values_at kind ps (drop (on j) values))
    ∙ append_assoc seen (value_at kind p value) rest ∙ ap (λ l. seen ++ l) now ∙ so_far
