-- Nobody has to believe what stands here: it serves private functions alone.
-- How a leg's program, what it learned, and its notes are kept.
use Rattle.std.specs.Prelude.{◌≡◌, ◌≤◌, ◌+◌, ℕ, List, length, Option}
use Rattle.std.specs.List.{All}
use Rattle.tri_base.specs.declared.point.Point.{Point}
use Rattle.tri_base.specs.Limits.{text_limit, word_limit}
use Rattle.chassis.specs.Points.{outputs_of, point_limit}
use Rattle.chassis.specs.Ranges.{HoldsZero}
use Rattle.engine_face.specs.Meaning.{Meaning}
use Rattle.re_education.specs.Learning.{Lesson}
use Rattle.leg_laws.specs.States.{Run, State, Running, Learning}
use Rattle.leg_parts.specs.Inner.Programs.{FitsProgram}
use Rattle.leg_parts.specs.declared.leg_state.Mode.{Mode}
use Rattle.leg_parts.specs.declared.leg_state.Mode.TheVariants as mode

-- The state of a leg that runs, or learns. A leg that learns keeps its last program, which nobody sees.
abbrev pub state_kept : Mode → Run → Option Lesson → State
state_kept mode.Running run lesson = Running run
state_kept mode.Learning run lesson = Learning lesson

-- What holds of what is kept: the points, the program, and the room for what is learned and what a scan stores to.
pub record IsFit (m : Meaning) (points : List Point) (run : Run) (places stores : ℕ) : Type 0 where
  pub zeros : All HoldsZero points
  pub few : length (outputs_of points) ≤ point_limit
  pub program : FitsProgram m run
  pub room : text_limit + word_limit ≤ places
  pub size : stores ≡ word_limit
