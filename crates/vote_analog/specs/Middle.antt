-- The middle of three counts, of which some may be absent (own rule). A count has 16 bits, and None is absent.
use Rattle.std.specs.Prelude.{ℤ, pos, ◌+ℤ◌, ◌-ℤ◌, ◌≤ℤ◌, int_lt, unsigned_abs, Bool, true, List, [], ◌∷◌, ◌++◌, Option, Some, None, option_to_list}
use Rattle.std.specs.Int.{int_min, int_max, int_div_euclid}
use Rattle.tri_base.specs.declared.leg.Triple.{Triple}
use Rattle.tri_base.specs.Limits.{least_count, greatest_count}

-- Of no count 0, of one that one, of two the floor of their mean, of three the middle one.
abbrev pub middle : List ℤ → ℤ
middle [] = pos 0
middle (a ∷ []) = a
middle (a ∷ b ∷ []) = int_div_euclid (a +ℤ b) (pos 2)
middle (a ∷ b ∷ c ∷ more) = int_max (int_min a b) (int_min (int_max a b) c)

-- The counts that are there.
abbrev pub present : Triple (Option ℤ) → List ℤ
present counts = option_to_list counts.a ++ option_to_list counts.b ++ option_to_list counts.c

-- The middle of the counts that are there.
abbrev pub mid_of : Triple (Option ℤ) → ℤ
mid_of counts = middle (present counts)

-- A count of 16 bits, where there is one.
abbrev pub IsCount : Option ℤ → Type 0
IsCount None = Unit {0}
IsCount (Some count) = (least_count ≤ℤ count) × (count ≤ℤ greatest_count)

-- The same of three.
abbrev pub AreCounts : Triple (Option ℤ) → Type 0
AreCounts counts = IsCount counts.a × IsCount counts.b × IsCount counts.c

-- A number lies between two counts that are there.
abbrev pub LiesBetween : Option ℤ → Option ℤ → ℤ → Type 0
LiesBetween None other number = Unit {0}
LiesBetween (Some count) None number = Unit {0}
LiesBetween (Some count) (Some other) number = (int_min count other ≤ℤ number) × (number ≤ℤ int_max count other)

-- A number lies between any two of the counts.
abbrev pub LiesBetweenAny : Triple (Option ℤ) → ℤ → Type 0
LiesBetweenAny counts number =
    LiesBetween counts.a counts.b number × LiesBetween counts.b counts.c number × LiesBetween counts.c counts.a number

-- A count deviates where it is absent or differs from the middle by more than the tolerance.
abbrev pub is_off : ℤ → ℤ → Option ℤ → Bool
is_off middle tolerance None = true
is_off middle tolerance (Some count) = int_lt tolerance (pos (unsigned_abs (count -ℤ middle)))

-- Which legs deviate.
abbrev pub deviates_of : Triple (Option ℤ) → (tolerance : ℤ) → Triple Bool
deviates_of counts tolerance =
    let m = mid_of counts in
    record { a = is_off m tolerance counts.a; b = is_off m tolerance counts.b; c = is_off m tolerance counts.c }

-- A count that is there lies between two ends.
abbrev pub LiesIn : (low high : ℤ) → Option ℤ → Type 0
LiesIn low high None = Unit {0}
LiesIn low high (Some count) = (low ≤ℤ count) × (count ≤ℤ high)

-- All counts that are there lie between two ends.
abbrev pub LieIn : (low high : ℤ) → Triple (Option ℤ) → Type 0
LieIn low high counts = LiesIn low high counts.a × LiesIn low high counts.b × LiesIn low high counts.c
