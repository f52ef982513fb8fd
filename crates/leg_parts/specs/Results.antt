-- A leg's own result of a scan, and the scan behind it. Own rule.
use Rattle.std.specs.Prelude.{ℤ, Bool, false, List, [], Option}
use Rattle.tri_base.specs.declared.point.Point.{Point}
use Rattle.tri_base.specs.declared.voted.Voted.{Voted}
use Rattle.engine_face.specs.declared.verdict.Verdict.{Verdict}
use Rattle.engine_face.specs.Meaning.{Meaning}
use Rattle.leg_packet.specs.Sheets.{spelled}
use Rattle.input_legs.specs.VotedSheets.{VotedSheet}
use Rattle.leg_laws.specs.States.{Run, State}
use Rattle.leg_laws.specs.HalfScans.{HalfScan, learning_packet, run_on, run_sheet}

-- The packet that a leg puts, the outputs of its program and the flag ARITH of its scan.
pub record ResultValue : Type 0 where
  pub own : List ℤ
  pub outputs : List ℤ
  pub flag : Bool

-- That of a leg that learns.
abbrev pub learner_result : ResultValue
learner_result = record { own = learning_packet; outputs = []; flag = false }

-- That of a run, on what was voted.
abbrev pub run_result : Meaning → VotedSheet → Run → ResultValue
run_result m voted run =
    let after = run_on m run voted in
    record { own = spelled (run_sheet run after); outputs = after.outputs; flag = after.flag }

-- The voted time and values, without the room of their list.
abbrev pub voted_of : Voted → VotedSheet
voted_of voted = record { time = voted.dt; values = voted.values.list }

-- A leg behind its run, from its state, its verdict, what it voted and its result.
abbrev pub half_with : State → Option Verdict → VotedSheet → ResultValue → HalfScan
half_with state verdict voted r = record {
  state = state;
  verdict = verdict;
  voted = voted;
  own = r.own;
  outputs = r.outputs;
  flag = r.flag;
}

-- What a leg's program and memory are: over which points, and its state.
pub record StateValue : Type 0 where
  pub points : List Point
  pub state : State
