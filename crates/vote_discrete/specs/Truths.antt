-- The word of a discrete point: 1 is TRUE and 0 is FALSE (own rule).
use Rattle.std.specs.Prelude.{ℤ, pos, Bool, true, false, not, Option, option_map}
use Rattle.std.specs.Ordering.{int_eq}
use Rattle.tri_base.specs.declared.leg.Triple.{Triple}

-- What a word says.
abbrev pub is_on : ℤ → Bool
is_on word = not (int_eq word (pos 0))

-- What three words say, of which some may be absent.
abbrev pub truths : Triple (Option ℤ) → Triple (Option Bool)
truths words = record { a = option_map is_on words.a; b = option_map is_on words.b; c = option_map is_on words.c }

-- The word of a value.
abbrev pub number : Bool → ℤ
number true = pos 1
number false = pos 0
