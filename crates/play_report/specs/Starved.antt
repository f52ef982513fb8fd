-- Three legs of which one found no memory. Own rule.
use Rattle.std.specs.Prelude.{Bool, ◌||◌}
use Rattle.tri_base.specs.declared.leg.Triple.{Triple}
use Rattle.leg_laws.specs.Configs.{LegValue, is_starved}

-- Some leg has found no memory.
unfoldable pub some_starve : Triple LegValue → Bool
some_starve legs = is_starved legs.a || (is_starved legs.b || is_starved legs.c)
