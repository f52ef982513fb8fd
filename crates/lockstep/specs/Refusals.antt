-- Why a leg can't step. Own rule.
use Rattle.std.specs.Prelude.{Bool, true, false}
use Rattle.leg_laws.specs.declared.need.Need.{Need}
use Rattle.leg_laws.specs.declared.need.Need.TheVariants.{Put, Take, Done}

-- A need is a put. One that is refused found its box full; a take that is refused found it empty.
abbrev pub is_put : Need → Bool
is_put (Put side) = true
is_put (Take side) = false
is_put Done = false
