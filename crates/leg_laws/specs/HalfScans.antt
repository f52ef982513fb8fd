-- The first half of a leg's scan: the vote, and the run of its program. Own rule.
use Rattle.std.specs.Prelude.{ℤ, pos, Bool, false, List, [], ◌∷◌, length, Option}
use Rattle.tri_base.specs.declared.leg.Leg.{Leg}
use Rattle.tri_base.specs.declared.leg.Side.{Side}
use Rattle.tri_base.specs.declared.leg.Side.TheVariants.{Right}
use Rattle.tri_base.specs.declared.leg.Triple.{Triple}
use Rattle.tri_base.specs.declared.point.Point.{Point}
use Rattle.tri_base.specs.Legs.{placed}
use Rattle.engine_face.specs.declared.verdict.Verdict.{Verdict}
use Rattle.engine_face.specs.Meaning.{Meaning, Scanned}
use Rattle.leg_packet.specs.Sheets.{Sheet, spelled}
use Rattle.input_legs.specs.VotedSheets.{VotedSheet, vote_sheet_of}
use Rattle.memory_compare.specs.Changes.{changes_of}
use Rattle.memory_compare.specs.Windows.{memory, window}
use Rattle.re_education.specs.Learning.{Lesson}
use Rattle.script_text.specs.LegScans.{LegScan, result_on}
use Rattle.plant_script.specs.Faces.{decided_or, face}
use Rattle.leg_laws.specs.States.{Run, State, Running, Learning}
use Rattle.leg_laws.specs.ChangePoint.{Prepared}

-- A leg behind its run: its state and verdict, what it voted, its genuine result, and the outputs and flag of its run.
pub record HalfScan : Type 0 where
  pub state : State
  pub verdict : Option Verdict
  pub voted : VotedSheet
  pub own : List ℤ
  pub outputs : List ℤ
  pub flag : Bool

-- The packets that a leg votes, in the order A, B, C: its own, which is the one that it puts on its right, and those
-- that it took from its left and its right.
abbrev pub voted_packets : Leg → LegScan → (left right : List ℤ) → Triple (List ℤ)
voted_packets leg l left right = placed leg (face Right l) left right

-- A scan of the program on what was voted.
abbrev pub run_on : Meaning → Run → VotedSheet → Scanned
run_on m run voted = m.scanned run.text run.words voted.values voted.time

-- The running result: the window of the text and the words after the scan, and the words that the scan changed, with
-- their new numbers.
abbrev pub run_sheet : Run → Scanned → Sheet
run_sheet run after = record {
  epoch = run.epoch;
  turn = run.turn;
  text_length = length run.text;
  word_length = length after.words;
  window = window (memory run.text after.words) run.turn;
  pairs = changes_of run.words after.words;
  outputs = after.outputs;
}

-- The result of a leg that learns.
abbrev pub learning_packet : List ℤ
learning_packet = pos 3 ∷ []

-- A leg that runs a program has run it once.
abbrev pub half_of_run : Meaning → VotedSheet → Option Verdict → Run → HalfScan
half_of_run m voted verdict run =
    let after = run_on m run voted in
    record {
      state = Running (record run { words = after.words });
      verdict = verdict;
      voted = voted;
      own = spelled (run_sheet run after);
      outputs = after.outputs;
      flag = after.flag;
    }

-- A leg that learns has run nothing.
abbrev pub half_of_learner : VotedSheet → Option Verdict → Option Lesson → HalfScan
half_of_learner voted verdict lesson = record {
  state = Learning lesson;
  verdict = verdict;
  voted = voted;
  own = learning_packet;
  outputs = [];
  flag = false;
}

-- By whether the leg runs a program.
abbrev pub half_of : Meaning → VotedSheet → Option Verdict → State → HalfScan
half_of m voted verdict (Running run) = half_of_run m voted verdict run
half_of m voted verdict (Learning lesson) = half_of_learner voted verdict lesson

-- The first half of a scan, from the readings that a leg took from its left and its right.
unfoldable pub half_scan : Meaning → List Point → Leg → LegScan → Prepared → (left right : List ℤ) → HalfScan
half_scan m points leg l ready left right =
    half_of m (vote_sheet_of points (voted_packets leg l left right)) ready.verdict ready.state

-- A leg's result packet towards a side: the words of the RESULT or MUTE line that decides there, else its own result.
abbrev pub result_towards : Side → LegScan → HalfScan → List ℤ
result_towards side l half = decided_or (result_on side l) half.own
