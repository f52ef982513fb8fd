-- Each field output lies in its point's range.
use Rattle.std.specs.Prelude.{Option, Some, None, slice_get, int_le}
use Rattle.std.proofs.Common.{◌≡◌, ℕ, ◌+◌, ℤ, pos, ◌≤ℤ◌, Bool, true, false, not, cond, List, [], ◌∷◌, ◌++◌, refl, sym, ap, subst, ◌∙◌, arith}
use Rattle.std.specs.List.{All, AllByRecursion, AllZip}
use Rattle.std.specs.Ordering.{int_eq}
use Rattle.std.proofs.lemmas.Bool.{and_parts}
use Rattle.std.proofs.lemmas.Bool.Decides.{nat_tests}
use Rattle.std.proofs.lemmas.Int.{ints}
use Rattle.std.proofs.lemmas.List.Elements.{All-filter, recursion_from_All}
use Rattle.tri_base.specs.declared.leg.Triple.{Triple}
use Rattle.tri_base.specs.declared.point.Point.{Point}
use Rattle.tri_base.specs.declared.point.PointKind.{PointKind}
use Rattle.tri_base.specs.declared.point.PointKind.TheVariants.{Di, Ai, Do, Ao}
use Rattle.chassis.specs.Points.{is_input_kind, outputs_of}
use Rattle.chassis.specs.Ranges.{Fits, HasRange, HoldsZero, IsWithin, is_within}
use Rattle.vote_discrete.specs.Majority.{two_of_three}
use Rattle.vote_discrete.specs.Truths.{is_on, number}
use Rattle.vote_analog.specs.Middle.{LiesIn, present}
use Rattle.vote_analog.proofs.Ranges.{middle_in}
use Rattle.output_voter.specs.CommonDrives.{common_drive, common_from, common_of_three, common_of_two, drive_at, word_in_range}

at_most : (a b : ℤ) → int_le a b ≡ true → a ≤ℤ b
at_most a b h = grind (arith, ints, nat_tests)

word_in : (point : Point) (word : Option ℤ) → LiesIn point.low point.high (word_in_range point word)
word_in point None = tt
word_in point (Some word) = by (is_within point word) refl
  where
    by : (t : Bool) → is_within point word ≡ t → LiesIn point.low point.high (cond t (Some word) None)
    by true e =
        let ends = and_parts (int_le point.low word) (int_le word point.high) e in
        (at_most point.low word ends.0, at_most word point.high ends.1)
    by false e = tt

drive_in : (point : Point) (place : ℕ) (drive : Option (List ℤ)) → LiesIn point.low point.high (drive_at point place drive)
drive_in point place None = tt
drive_in point place (Some words) = word_in point (slice_get words place)

number_in : (low high : ℤ) (b : Bool) → low ≡ pos 0 → high ≡ pos 1 → LiesIn low high (Some (number b))
number_in low high true l h = (grind (arith, ints), grind (arith, ints))
number_in low high false l h = (grind (arith, ints), grind (arith, ints))

two_in : (low high a b : ℤ) → LiesIn low high (Some (pos 0)) → LiesIn low high (Some a) → LiesIn low high (Some (common_of_two a b))
two_in low high a b zero h = by (int_eq a b)
  where
    by : (t : Bool) → LiesIn low high (Some (cond t a (pos 0)))
    by true = h
    by false = zero

three_in : (kind : PointKind) (low high tolerance a b c : ℤ) → HasRange kind low high tolerance → LiesIn low high (Some (pos 0))
    → LiesIn low high (Some a) → LiesIn low high (Some b) → LiesIn low high (Some c) → LiesIn low high (Some (common_of_three kind a b c))
three_in Di low high tolerance a b c r zero h k l = number_in low high (two_of_three (is_on a) (is_on b) (is_on c)) r.0 r.1
three_in Do low high tolerance a b c r zero h k l = number_in low high (two_of_three (is_on a) (is_on b) (is_on c)) r.0 r.1
three_in Ai low high tolerance a b c r zero h k l = middle_in low high (record { a = Some a; b = Some b; c = Some c }) zero (h, k, l)
three_in Ao low high tolerance a b c r zero h k l = middle_in low high (record { a = Some a; b = Some b; c = Some c }) zero (h, k, l)

common_in : (kind : PointKind) (low high tolerance : ℤ) (a b c : Option ℤ) → HasRange kind low high tolerance → LiesIn low high (Some (pos 0))
    → LiesIn low high a → LiesIn low high b → LiesIn low high c
    → LiesIn low high (Some (common_drive kind (present (record { a = a; b = b; c = c }))))
common_in kind low high tolerance None None None r zero h k l = zero
common_in kind low high tolerance (Some a) None None r zero h k l = h
common_in kind low high tolerance None (Some b) None r zero h k l = k
common_in kind low high tolerance None None (Some c) r zero h k l = l
common_in kind low high tolerance (Some a) (Some b) None r zero h k l = two_in low high a b zero h
common_in kind low high tolerance (Some a) None (Some c) r zero h k l = two_in low high a c zero h
common_in kind low high tolerance None (Some b) (Some c) r zero h k l = two_in low high b c zero k
common_in kind low high tolerance (Some a) (Some b) (Some c) r zero h k l = three_in kind low high tolerance a b c r zero h k l

from_in : (points : List Point) (place : ℕ) (drives : Triple (Option (List ℤ))) → AllByRecursion Fits points → AllByRecursion HoldsZero points
    → AllZip IsWithin points (common_from points place drives)
from_in [] place drives fit zero = tt
from_in (p ∷ points) place drives fit zero = (
  common_in p.kind p.low p.high p.tolerance (drive_at p place drives.a) (drive_at p place drives.b) (drive_at p place drives.c)
      fit.0 zero.0 (drive_in p place drives.a) (drive_in p place drives.b) (drive_in p place drives.c),
  from_in points (place + 1) drives fit.1 zero.1,
)

outputs_in : (points : List Point) (drives : Triple (Option (List ℤ))) → All Fits points → All HoldsZero points
    → AllZip IsWithin (outputs_of points) (common_from (outputs_of points) 0 drives)
outputs_in points drives fit zero =
    let outputs = outputs_of points in
    from_in outputs 0 drives
    (recursion_from_All Fits outputs (All-filter (λ q. not (is_input_kind q.kind)) Fits points fit))
    (recursion_from_All HoldsZero outputs (All-filter (λ q. not (is_input_kind q.kind)) HoldsZero points zero))

-- The same of outputs that were added behind none.
pub added_in : (points ps : List Point) (front out : List ℤ) (drives : Triple (Option (List ℤ))) → All Fits points → All HoldsZero points
    → ps ≡ points → front ≡ [] → out ≡ front ++ common_from (outputs_of ps) 0 drives → AllZip IsWithin (outputs_of points) out
added_in points ps front out drives fit zero same none h =
    let e : out ≡ common_from (outputs_of points) 0 drives =
    h ∙ ap (λ (x : List ℤ × List Point). x.0 ++ common_from (outputs_of x.1) 0 drives) (λ i. (none i, same i)) in
    subst (λ words. AllZip IsWithin (outputs_of points) words) (sym e) (outputs_in points drives fit zero)
