-- The field outputs are counts, and so their sums stay near 0.
use Rattle.std.proofs.Common.{◌≤ℤ◌, ◌∷◌, [], ℤ, List, not, arith}
use Rattle.std.specs.List.{All, AllZip}
use Rattle.std.proofs.lemmas.Int.{ints}
use Rattle.std.proofs.lemmas.List.Elements.{All-cons, All-filter, All-head, All-nil, All-tail}
use Rattle.tri_base.specs.declared.point.Point.{Point}
use Rattle.tri_base.specs.declared.point.PointKind.{PointKind}
use Rattle.tri_base.specs.declared.point.PointKind.TheVariants.{Di, Ai, Do, Ao}
use Rattle.chassis.specs.Points.{is_input_kind, outputs_of}
use Rattle.chassis.specs.Ranges.{Fits, HasRange, IsWithin}
use Rattle.play_texts.specs.Inner.Sums.{IsCount}

-- a value in a point's range is a number of 16 bits
in_range : (k : PointKind) (low high tolerance value : ℤ) → HasRange k low high tolerance → low ≤ℤ value → value ≤ℤ high
    → IsCount value
in_range Di low high tolerance value h l u = (omega (arith, ints, h.0, h.1, l, u), omega (arith, ints, h.0, h.1, l, u))
in_range Do low high tolerance value h l u = (omega (arith, ints, h.0, h.1, l, u), omega (arith, ints, h.0, h.1, l, u))
in_range Ai low high tolerance value h l u = (omega (arith, ints, h.0, h.3, l, u), omega (arith, ints, h.0, h.3, l, u))
in_range Ao low high tolerance value h l u = (omega (arith, ints, h.0, h.3, l, u), omega (arith, ints, h.0, h.3, l, u))

counts_of : (points : List Point) (values : List ℤ) → All Fits points → AllZip IsWithin points values
    → All IsCount values
counts_of [] [] fit h = All-nil IsCount
counts_of [] (v ∷ vs) fit h = absurd h
counts_of (p ∷ ps) [] fit h = absurd h
counts_of (p ∷ ps) (v ∷ vs) fit h =
    All-cons IsCount v vs (in_range p.kind p.low p.high p.tolerance v (All-head Fits p ps fit) h.0.0 h.0.1)
    (counts_of ps vs (All-tail Fits p ps fit) h.1)

-- so outputs in their ranges are
pub outputs_are_counts : (points : List Point) (values : List ℤ) → All Fits points
    → AllZip IsWithin (outputs_of points) values → All IsCount values
outputs_are_counts points values fit h =
    counts_of (outputs_of points) values (All-filter (λ (p : Point). not (is_input_kind p.kind)) Fits points fit) h
