-- Nobody has to believe what stands here: it serves private functions alone.
-- The lists that a leg is made with.
use Rattle.std.specs.Prelude.{◌≡◌, ℕ, []}
use Rattle.std.specs.List.{flat_map}
use Rattle.tri_base.specs.Rows.{HasRoom}
use Rattle.chassis.specs.Points.{point_limit}
use Rattle.script_text.specs.LegScans.{TapeValue}
use Rattle.leg_parts.specs.LongLines.{long_lines}
use Rattle.leg_parts.specs.Results.{learner_result}
use Rattle.leg_core.specs.declared.leg_run.Room.{Room}

-- Empty lists with room, the packets of long lines, and the result of a leg that ran nothing.
pub record IsRoom (inputs : ℕ) (tape : TapeValue) (r : Room) : Type 0 where
  pub votes : r.voted.values.list ≡ []
  pub voted : HasRoom inputs r.voted.values
  pub result : r.result ≡ learner_result
  pub long : r.long.items ≡ flat_map long_lines tape.scans
  pub readings : HasRoom point_limit r.readings
