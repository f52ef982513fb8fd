-- Three legs that have played a script to its end. Own rule.
use Rattle.std.specs.Prelude.{◌≡◌, ℕ, ◌≤◌, length}
use Rattle.tri_base.specs.declared.leg.Leg.{Leg}
use Rattle.tri_base.specs.declared.leg.Triple.{Triple}
use Rattle.tri_base.specs.Legs.{leg_part}
use Rattle.chassis.specs.Points.{inputs_of}
use Rattle.engine_face.specs.Meaning.{Meaning}
use Rattle.script_text.specs.ScriptValue.{ScriptValue}
use Rattle.leg_laws.specs.Configs.{LegValue}
use Rattle.majority_laws.specs.Majority.{note_at}
use Rattle.play_report.specs.LegsReport.{endings_of, tables_of}
use Rattle.play_report.specs.Tables.{EndSo, HaveInputs, tables_in}
use Rattle.play_report.specs.Told.{note_of_scan}

-- They have ended with the inputs, marks and endings of three legs in step, whatever notes are left with them.
pub record HaveEnded (m : Meaning) (v : ScriptValue) (legs : Triple LegValue) : Type 0 where
  pub inputs : HaveInputs (length (inputs_of v.points)) legs
  pub tables : tables_in legs ≡ tables_of m v
  pub ends : EndSo legs (endings_of m v)

-- They have ended, and have a note of each scan, which is that of three legs in step.
pub record HavePlayed (m : Meaning) (v : ScriptValue) (legs : Triple LegValue) : Type 0 where
  pub count_a : v.scans ≤ length legs.a.notes
  pub count_b : v.scans ≤ length legs.b.notes
  pub count_c : v.scans ≤ length legs.c.notes
  pub notes : (leg : Leg) (scan : ℕ) → 1 ≤ scan → scan ≤ v.scans
      → note_of_scan (leg_part legs leg).notes scan ≡ note_at m v scan leg
  pub ended : HaveEnded m v legs
