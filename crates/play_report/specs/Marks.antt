-- Which inputs are marked after a play: for which leg, by the table of disagreements of some leg. Own rule.
use Rattle.std.specs.Prelude.{ℕ, ◌==◌, ◌||◌, Bool, List, [], ◌∷◌, filter, slice_index_or}
use Rattle.std.specs.List.{flat_map, range_with_len}
use Rattle.tri_base.specs.declared.leg.Leg.{Leg}
use Rattle.tri_base.specs.declared.leg.Leg.TheVariants.{A, B, C}
use Rattle.tri_base.specs.declared.leg.Triple.{Triple}
use Rattle.tri_base.specs.Legs.{leg_part}
use Rattle.input_legs.specs.Marks.{mark_count, no_row}

-- A leg's table marks a leg at the input at a place.
abbrev pub is_mark : (table : List (Triple ℕ)) → ℕ × Leg → Bool
is_mark table place = leg_part (slice_index_or table place.0 no_row) place.1 == mark_count

-- The table of some leg marks it.
abbrev pub is_marked : Triple (List (Triple ℕ)) → ℕ × Leg → Bool
is_marked tables place = is_mark tables.a place || (is_mark tables.b place || is_mark tables.c place)

-- An input's place with each leg.
abbrev pub with_legs : ℕ → List (ℕ × Leg)
with_legs input = (input, A) ∷ (input, B) ∷ (input, C) ∷ []

-- What is marked at so many inputs, in the order of inputs and then of legs.
abbrev pub marks_of : (inputs : ℕ) → Triple (List (Triple ℕ)) → List (ℕ × Leg)
marks_of inputs tables = filter (is_marked tables) (flat_map with_legs (range_with_len 0 inputs))
