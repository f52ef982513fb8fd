-- The test of a range means what it says.
use Rattle.std.proofs.Common.{◌≡◌, ℤ, pos, ◌≤ℤ◌, true, arith}
use Rattle.std.proofs.lemmas.Bool.Decides.{nat_tests}
use Rattle.std.proofs.lemmas.Int.{ints}
use Rattle.tri_base.specs.declared.point.Point.{Point}
use Rattle.tri_base.specs.declared.point.PointKind.{PointKind}
use Rattle.tri_base.specs.declared.point.PointKind.TheVariants.{Di, Ai, Do, Ao}
use Rattle.chassis.specs.Ranges.{HasRange, has_range, Fits, fits_range, HoldsZero}

range_is : (kind : PointKind) (low high tolerance : ℤ) → has_range kind low high tolerance ≡ true → HasRange kind low high tolerance
range_is Di low high tolerance h = grind (arith, ints, nat_tests)
range_is Do low high tolerance h = grind (arith, ints, nat_tests)
range_is Ai low high tolerance h = grind (arith, ints, nat_tests)
range_is Ao low high tolerance h = grind (arith, ints, nat_tests)

pub fits_is : (p : Point) → fits_range p ≡ true → Fits p
fits_is p h = range_is p.kind p.low p.high p.tolerance h

zero_in_range : (kind : PointKind) (low high tolerance : ℤ) → HasRange kind low high tolerance → (low ≤ℤ pos 0) × (pos 0 ≤ℤ high)
zero_in_range Di low high tolerance h = (grind (arith, ints), grind (arith, ints))
zero_in_range Do low high tolerance h = (grind (arith, ints), grind (arith, ints))
zero_in_range Ai low high tolerance h = (h.1, h.2)
zero_in_range Ao low high tolerance h = (h.1, h.2)

-- each point of a chassis holds 0, by its range
pub zero_held : (p : Point) → Fits p → HoldsZero p
zero_held p h = zero_in_range p.kind p.low p.high p.tolerance h
