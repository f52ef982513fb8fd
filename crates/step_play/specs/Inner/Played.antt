-- Three legs that have played a script to its end.
-- Nobody has to believe this: it serves private functions alone.
use Rattle.std.specs.Prelude.{◌≡◌, ℕ, ◌≤◌, Bool, ◌||◌, List, length, Option, None, Some, Result, Ok, Err}
use Rattle.tri_base.specs.declared.leg.Leg.{Leg}
use Rattle.tri_base.specs.declared.leg.Triple.{Triple}
use Rattle.tri_base.specs.declared.point.Point.{Point}
use Rattle.tri_base.specs.Legs.{leg_part}
use Rattle.engine_face.specs.Meaning.{Meaning}
use Rattle.script_text.specs.ScriptValue.{ScriptValue}
use Rattle.leg_laws.specs.Configs.{LegValue}
use Rattle.leg_laws.specs.Exchanges.{AllDone, Exchange}
use Rattle.leg_laws.specs.ExchangeSteps.{Reaches, exchange_at_start}
use Rattle.leg_laws.specs.Plays.{play_of}
use Rattle.lockstep.specs.Following.{LeadsTo, StopsAt}
use Rattle.play_report.specs.Played.{HavePlayed}
use Rattle.step_play.specs.declared.step_play.NotStepped.{NotStepped}
use Rattle.step_play.specs.declared.step_play.NotStepped.TheVariants.{Stuck, NoMemory}
use Rattle.step_play.specs.Stepping.{stuck_letter}

-- They stand before the first scan of a script.
pub record AreStarted (m : Meaning) (v : ScriptValue) (legs : Triple LegValue) : Type 0 where
  pub are : legs ≡ (exchange_at_start m (play_of v)).legs

-- Legs that stepped in the order of these letters, and then on to the end; or they stand before a letter at which they
-- are stuck.
abbrev pub StepsAll : (List Point → Meaning) → (w w' : Exchange) → List Leg → Option ℕ → Type 0
StepsAll m w w' letters None = (u : Exchange) × Reaches m w letters u × LeadsTo m u w' × AllDone w'
StepsAll m w w' letters (Some place) = StopsAt m w w' letters place

-- They did so from the start of a script, by its schedule.
pub record HaveStepped (m : List Point → Meaning) (v : ScriptValue) (legs : Triple LegValue) (stuck : Option ℕ)
    : Type 0 where
  pub end : Exchange
  pub legs_are : legs ≡ end.legs
  pub steps : StepsAll m (exchange_at_start (m v.points) (play_of v)) end v.schedule stuck

-- Why they have not played it; none where they have.
abbrev pub IsWhy : (List Point → Meaning) → ScriptValue → Triple LegValue → Option NotStepped → Type 0
IsWhy m v legs None = (stuck_letter m v ≡ None) × HavePlayed (m v.points) v legs
IsWhy m v legs (Some (Stuck letter)) = stuck_letter m v ≡ Some letter
IsWhy m v legs (Some NoMemory) = Unit {0}
