-- The counts that a point may have. A point's ends and tolerance depend on its kind. Own rule.
use Rattle.std.specs.Prelude.{◌≡◌, ℤ, pos, negsuc, ◌≤ℤ◌, int_le, Bool, true, false, ◌&&◌, List, [], ◌∷◌}
use Rattle.std.specs.Ordering.{int_eq}
use Rattle.tri_base.specs.declared.point.Point.{Point}
use Rattle.tri_base.specs.declared.point.PointKind.{PointKind}
use Rattle.tri_base.specs.declared.point.PointKind.TheVariants.{Di, Ai, Do, Ao}
use Rattle.tri_base.specs.Limits.{greatest_count, least_count}

-- No two counts lie further apart.
abbrev pub greatest_tolerance : ℤ
greatest_tolerance = pos 65535

-- A discrete point goes from 0 to 1 with tolerance 0.
abbrev pub IsDiscreteRange : (low high tolerance : ℤ) → Type 0
IsDiscreteRange low high tolerance = (low ≡ pos 0) × (high ≡ pos 1) × (tolerance ≡ pos 0)

-- An analogue point has 0 in its range, ends of 16 bits, and a tolerance of at most 65,535.
abbrev pub IsAnalogueRange : (low high tolerance : ℤ) → Type 0
IsAnalogueRange low high tolerance =
    (least_count ≤ℤ low) × (low ≤ℤ pos 0) × (pos 0 ≤ℤ high) × (high ≤ℤ greatest_count)
    × (pos 0 ≤ℤ tolerance) × (tolerance ≤ℤ greatest_tolerance)

-- The range and tolerance are such as points of the kind may have.
abbrev pub HasRange : PointKind → (low high tolerance : ℤ) → Type 0
HasRange Di low high tolerance = IsDiscreteRange low high tolerance
HasRange Do low high tolerance = IsDiscreteRange low high tolerance
HasRange Ai low high tolerance = IsAnalogueRange low high tolerance
HasRange Ao low high tolerance = IsAnalogueRange low high tolerance

-- A point has a range and tolerance of its kind.
abbrev pub Fits : Point → Type 0
Fits p = HasRange p.kind p.low p.high p.tolerance

-- The range and tolerance of a discrete point, as a test.
abbrev pub is_discrete_range : (low high tolerance : ℤ) → Bool
is_discrete_range low high tolerance = int_eq low (pos 0) && int_eq high (pos 1) && int_eq tolerance (pos 0)

-- The range and tolerance of an analogue point, as a test.
abbrev pub is_analogue_range : (low high tolerance : ℤ) → Bool
is_analogue_range low high tolerance =
    int_le least_count low && int_le low (pos 0) && int_le (pos 0) high && int_le high greatest_count
    && int_le (pos 0) tolerance && int_le tolerance greatest_tolerance

-- A range and tolerance of a kind, as a test.
abbrev pub has_range : PointKind → (low high tolerance : ℤ) → Bool
has_range Di low high tolerance = is_discrete_range low high tolerance
has_range Do low high tolerance = is_discrete_range low high tolerance
has_range Ai low high tolerance = is_analogue_range low high tolerance
has_range Ao low high tolerance = is_analogue_range low high tolerance

abbrev pub fits_range : Point → Bool
fits_range p = has_range p.kind p.low p.high p.tolerance

-- A value lies in a point's range.
abbrev pub IsWithin : Point → ℤ → Type 0
IsWithin p v = (p.low ≤ℤ v) × (v ≤ℤ p.high)

-- The same as a test.
abbrev pub is_within : Point → ℤ → Bool
is_within p v = int_le p.low v && int_le v p.high

-- There is one value for each point, and each lies in its point's range.
abbrev pub are_within : List Point → List ℤ → Bool
are_within [] [] = true
are_within [] (value ∷ values) = false
are_within (point ∷ points) [] = false
are_within (point ∷ points) (value ∷ values) = is_within point value && are_within points values

-- A point's range holds 0.
abbrev pub HoldsZero : Point → Type 0
HoldsZero p = IsWithin p (pos 0)
