-- There is one vote for each input, in its range.
use Rattle.std.specs.Prelude.{Option, Some, None, slice_get}
use Rattle.std.proofs.Common.{◌≡◌, ℕ, zero, suc, ◌+◌, ℤ, pos, Bool, true, false, List, [], ◌∷◌, ◌++◌, length, drop, refl, ap, sym, subst, ◌∙◌, arith}
use Rattle.std.specs.List.{All, AllByRecursion, AllZip}
use Rattle.std.proofs.lemmas.Int.{ints}
use Rattle.std.proofs.lemmas.List.Elements.{All-filter, recursion_from_All}
use Rattle.tri_base.specs.declared.leg.Triple.{Triple}
use Rattle.tri_base.specs.declared.point.Point.{Point}
use Rattle.tri_base.specs.declared.point.PointKind.{PointKind}
use Rattle.tri_base.specs.declared.point.PointKind.TheVariants.{Di, Ai, Do, Ao}
use Rattle.chassis.specs.Points.{inputs_of, is_input_kind}
use Rattle.chassis.specs.Ranges.{Fits, HasRange, HoldsZero, IsWithin}
use Rattle.leg_packet.specs.Readings.{Readings, readings_of}
use Rattle.vote_discrete.specs.Majority.{vote_of}
use Rattle.vote_discrete.specs.Truths.{number, truths}
use Rattle.vote_analog.specs.Middle.{LiesIn, LieIn}
use Rattle.vote_analog.proofs.Ranges.{middle_in}
use Rattle.input_legs.specs.VotedSheets.{column, read_three, reading_at, voted_from, vote_sheet_of, voted_value}
use Rattle.input_legs.proofs.Readings.{Stands, stands}

pub length_voted_from : (points : List Point) (input : ℕ) (rs : Triple (Option Readings))
    → length (voted_from points input rs) ≡ length points
length_voted_from [] input rs = refl
length_voted_from (point ∷ points) input rs = ap (λ n. suc n) (length_voted_from points (input + 1) rs)

-- The values from a place on stand one for each point, each in its range.
abbrev StandFrom : List Point → ℕ → Option Readings → Type 0
StandFrom points input None = Unit {0}
StandFrom points input (Some r) = AllZip IsWithin points (drop input r.values)

at_place : (p : Point) (points : List Point) (values : List ℤ) (place : ℕ) → AllZip IsWithin (p ∷ points) (drop place values)
    → LiesIn p.low p.high (slice_get values place) × AllZip IsWithin points (drop (place + 1) values)
at_place p points [] zero h = absurd h
at_place p points [] (suc place) h = absurd h
at_place p points (v ∷ values) zero h = (h.0, h.1)
at_place p points (v ∷ values) (suc place) h =
    let rest = at_place p points values place h in
    let e : suc (place + 1) ≡ suc place + 1 = omega arith in
    (rest.0, subst (λ k. AllZip IsWithin points (drop k (v ∷ values))) e rest.1)

reading_in : (p : Point) (points : List Point) (input : ℕ) (r : Option Readings) → StandFrom (p ∷ points) input r
    → LiesIn p.low p.high (reading_at r input) × StandFrom points (input + 1) r
reading_in p points input None h = (tt, tt)
reading_in p points input (Some r) h = at_place p points r.values input h

number_in : (low high : ℤ) (b : Bool) → low ≡ pos 0 → high ≡ pos 1 → LiesIn low high (Some (number b))
number_in low high true l h = (grind (arith, ints), grind (arith, ints))
number_in low high false l h = (grind (arith, ints), grind (arith, ints))

value_in : (kind : PointKind) (low high tolerance : ℤ) (readings : Triple (Option ℤ)) → HasRange kind low high tolerance
    → LiesIn low high (Some (pos 0)) → LieIn low high readings → LiesIn low high (Some (voted_value kind readings))
value_in Di low high tolerance readings r holds h = number_in low high (vote_of (truths readings)) r.0 r.1
value_in Do low high tolerance readings r holds h = number_in low high (vote_of (truths readings)) r.0 r.1
value_in Ai low high tolerance readings r holds h = middle_in low high readings holds h
value_in Ao low high tolerance readings r holds h = middle_in low high readings holds h

from_in : (points : List Point) (input : ℕ) (rs : Triple (Option Readings)) → AllByRecursion Fits points → AllByRecursion HoldsZero points
    → StandFrom points input rs.a → StandFrom points input rs.b → StandFrom points input rs.c
    → AllZip IsWithin points (voted_from points input rs)
from_in [] input rs fit holds a b c = tt
from_in (p ∷ points) input rs fit holds a b c =
    let at_a = reading_in p points input rs.a a in
    let at_b = reading_in p points input rs.b b in
    let at_c = reading_in p points input rs.c c in (
      value_in p.kind p.low p.high p.tolerance (column rs input) fit.0 holds.0 (at_a.0, at_b.0, at_c.0),
      from_in points (input + 1) rs fit.1 holds.1 at_a.1 at_b.1 at_c.1,
    )

drop_none : (values : List ℤ) → drop 0 values ≡ values
drop_none [] = refl
drop_none (v ∷ values) = refl

from_first : (points : List Point) (r : Option Readings) → Stands points r → StandFrom points 0 r
from_first points None h = tt
from_first points (Some r) h = subst (λ values. AllZip IsWithin points values) (sym (drop_none r.values)) h.2

votes_in : (points : List Point) (packets : Triple (List ℤ)) → All Fits points → All HoldsZero points
    → AllZip IsWithin (inputs_of points) (vote_sheet_of points packets).values
votes_in points packets fit holds =
    let inputs = inputs_of points in
    from_in inputs 0 (read_three points packets)
    (recursion_from_All Fits inputs (All-filter (λ q. is_input_kind q.kind) Fits points fit))
    (recursion_from_All HoldsZero inputs (All-filter (λ q. is_input_kind q.kind) HoldsZero points holds))
    (from_first inputs (readings_of points packets.a) (stands points packets.a))
    (from_first inputs (readings_of points packets.b) (stands points packets.b))
    (from_first inputs (readings_of points packets.c) (stands points packets.c))

-- The same of votes that were added behind none.
pub added_in : (points ps : List Point) (packets : Triple (List ℤ)) (rs : Triple (Option Readings)) (front out : List ℤ)
    → All Fits points → All HoldsZero points → ps ≡ points → rs ≡ read_three points packets → front ≡ []
    → out ≡ front ++ voted_from (inputs_of ps) 0 rs → AllZip IsWithin (inputs_of points) out
added_in points ps packets rs front out fit holds same read none h =
    let e : out ≡ (vote_sheet_of points packets).values =
    h ∙ ap (λ (x : List ℤ × List Point × Triple (Option Readings)). x.0 ++ voted_from (inputs_of x.1) 0 x.2) (λ i. (none i, same i, read i)) in
    subst (λ values. AllZip IsWithin (inputs_of points) values) (sym e) (votes_in points packets fit holds)
