-- The points of the generator: four rows of 128, named by a letter and a number (own rules).
use Rattle.std.specs.Prelude.{ℕ, ℤ, pos, List, ◌++◌, map, decimal, codes}
use Rattle.std.specs.List.{range_with_len}
use Rattle.tri_base.specs.declared.point.Point.{Point}
use Rattle.tri_base.specs.declared.point.PointKind.{PointKind}
use Rattle.tri_base.specs.declared.point.PointKind.TheVariants.{Di, Ai, Do, Ao}

-- How many points there are of each kind.
abbrev pub row_length : ℕ
row_length = 128

-- A letter with a number behind it, as `D17`.
abbrev pub numbered : List ℕ → ℕ → List ℕ
numbered letter i = letter ++ decimal i

-- A point that goes from 0 up to a count, with a tolerance.
abbrev pub row_point : PointKind → List ℕ → (high tolerance : ℤ) → ℕ → Point
row_point kind letter high tolerance i =
    record { name = numbered letter i; kind = kind; low = pos 0; high = high; tolerance = tolerance }

-- Such points with the numbers from 0 to 127.
unfoldable pub row_of : PointKind → List ℕ → (high tolerance : ℤ) → List Point
row_of kind letter high tolerance = map (row_point kind letter high tolerance) (range_with_len 0 row_length)

-- The points in their order: discrete inputs D0 to D127, analogue inputs A0 to A127, discrete outputs Q0 to Q127, and
-- analogue outputs V0 to V127.
unfoldable pub generated_points : List Point
generated_points =
    row_of Di (codes "D") (pos 1) (pos 0)
    ++ (row_of Ai (codes "A") (pos 4095) (pos 16)
    ++ (row_of Do (codes "Q") (pos 1) (pos 0)
    ++ row_of Ao (codes "V") (pos 4095) (pos 0)))
