-- How a leg stands after its last scan. Own rule.
use Rattle.std.specs.Prelude.{pos, Option, Some, None}
use Rattle.fault_history.specs.Notes.{EndingData, Runs, Learns}
use Rattle.re_education.specs.Lessons.{windows_in}
use Rattle.leg_laws.specs.States.{State, Running, Learning}
use Rattle.leg_laws.specs.Configs.{Config, PutLeftReadings, PutRightReadings, TakeLeftReadings, TakeRightReadings, PutLeftResult, PutRightResult, TakeLeftResult, TakeRightResult, Starved}

-- Epoch, turn and words of a leg that runs; of one that learns how many windows it has.
abbrev pub state_ending : State → EndingData
state_ending (Running run) = Runs (pos run.epoch) (pos run.turn) run.words
state_ending (Learning lesson) = Learns (windows_in lesson)

-- That of a leg where it stands; none of a starved one.
abbrev pub ending_of : Config → Option EndingData
ending_of (PutLeftReadings state) = Some (state_ending state)
ending_of (PutRightReadings ready) = Some (state_ending ready.state)
ending_of (TakeLeftReadings ready) = Some (state_ending ready.state)
ending_of (TakeRightReadings ready left) = Some (state_ending ready.state)
ending_of (PutLeftResult half) = Some (state_ending half.state)
ending_of (PutRightResult half) = Some (state_ending half.state)
ending_of (TakeLeftResult half) = Some (state_ending half.state)
ending_of (TakeRightResult half left) = Some (state_ending half.state)
ending_of (Starved place) = None
