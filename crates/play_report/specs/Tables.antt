-- What three legs have after a play: their inputs, their tables of disagreements, and how they stand. Own rule.
use Rattle.std.specs.Prelude.{◌≡◌, ◌≤◌, ℕ, List, length, Some}
use Rattle.tri_base.specs.declared.leg.Triple.{Triple}
use Rattle.chassis.specs.Points.{inputs_of}
use Rattle.fault_history.specs.Notes.{EndingData}
use Rattle.leg_laws.specs.Configs.{LegValue}
use Rattle.leg_laws.specs.Endings.{ending_of}

-- The three tables.
abbrev pub tables_in : Triple LegValue → Triple (List (Triple ℕ))
tables_in legs = record { a = legs.a.marks; b = legs.b.marks; c = legs.c.marks }

-- Each leg has so many inputs, or more.
pub record HaveInputs (inputs : ℕ) (legs : Triple LegValue) : Type 0 where
  pub a : inputs ≤ length (inputs_of legs.a.points)
  pub b : inputs ≤ length (inputs_of legs.b.points)
  pub c : inputs ≤ length (inputs_of legs.c.points)

-- The legs stand so; none is starved.
pub record EndSo (legs : Triple LegValue) (ends : Triple EndingData) : Type 0 where
  pub a : ending_of legs.a.config ≡ Some ends.a
  pub b : ending_of legs.b.config ≡ Some ends.b
  pub c : ending_of legs.c.config ≡ Some ends.c
