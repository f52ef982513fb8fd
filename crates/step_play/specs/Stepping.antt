-- A play of a script by three legs that step in the order of its schedule, and then the first that can. Own rule.
use Rattle.std.specs.Prelude.{◌≡◌, ℕ, List, Option, Some, None, Result, Ok, Err}
use Rattle.tri_base.specs.declared.point.Point.{Point}
use Rattle.engine_face.specs.Meaning.{Meaning}
use Rattle.script_text.specs.ScriptValue.{ScriptValue}
use Rattle.plant_script.specs.Calm.{IsFirstUncalm}
use Rattle.leg_laws.specs.ExchangeSteps.{exchange_at_start}
use Rattle.leg_laws.specs.Plays.{play_of}
use Rattle.leg_laws.specs.Schedules.{stuck_from}
use Rattle.play_report.specs.LegsReport.{legs_report}
use Rattle.step_play.specs.declared.step_play.Stepped.{Stepped}
use Rattle.step_play.specs.declared.step_play.NotStepped.{NotStepped}
use Rattle.step_play.specs.declared.step_play.NotStepped.TheVariants.{Stuck, NoMemory}

-- The number of the schedule's first letter whose leg can't step there, counted from 1; none where all can.
unfoldable pub stuck_letter : (List Point → Meaning) → ScriptValue → Option ℕ
stuck_letter m v = stuck_from m 1 v.schedule (exchange_at_start (m v.points) (play_of v))

-- The play is not stuck, this is its first scan that isn't calm, and this its report.
pub record IsReport (m : List Point → Meaning) (v : ScriptValue) (uncalm : Option ℕ) (text : List ℕ) : Type 0 where
  pub goes : stuck_letter m v ≡ None
  pub first : IsFirstUncalm (m v.points) v uncalm
  pub is : text ≡ legs_report (m v.points) v uncalm

-- What a play comes to: its report; or the letter at which the schedule is stuck.
abbrev pub IsStepped : (List Point → Meaning) → ScriptValue → Result Stepped NotStepped → Type 0
IsStepped m v (Ok stepped) = IsReport m v stepped.uncalm stepped.text.list
IsStepped m v (Err (Stuck letter)) = stuck_letter m v ≡ Some letter
IsStepped m v (Err NoMemory) = Unit {0}
