-- The second half of a leg's scan: it judges the results or learns from them, and drives. Own rule.
use Rattle.std.specs.Prelude.{ℕ, ℤ, ◌+◌, ◌%◌, ◌==◌, ◌&&◌, Bool, List, length, Option, Some, None, is_none, if◌then◌else◌}
use Rattle.std.specs.Option.{option_or}
use Rattle.tri_base.specs.declared.leg.Leg.{Leg}
use Rattle.tri_base.specs.declared.leg.Side.{Side}
use Rattle.tri_base.specs.declared.judged.Judged.{Judged}
use Rattle.tri_base.specs.declared.judged.Judged.TheVariants as j
use Rattle.tri_base.specs.Legs.{neighbour}
use Rattle.engine_face.specs.Meaning.{Meaning}
use Rattle.leg_packet.specs.Sheets.{windows_of}
use Rattle.memory_compare.specs.declared.judging.Judgement.{Judgement}
use Rattle.memory_compare.specs.declared.judging.Judgement.TheVariants.{Agrees, Minority, NoVote}
use Rattle.memory_compare.specs.Judging.{judge_of}
use Rattle.re_education.specs.Learning.{Lesson, Whole, Outcome, Waits, Goes_on, Ends, learn_of}
use Rattle.fault_history.specs.Notes.{NoteData}
use Rattle.script_text.specs.LegScans.{LegScan}
use Rattle.leg_laws.specs.States.{Run, State, Running, Learning}
use Rattle.leg_laws.specs.HalfScans.{HalfScan}

-- How a scan ends for a leg: its state behind the scan, what it made of the results, and what it drives.
pub record Closed : Type 0 where
  pub state : State
  pub judged : Judged
  pub drive : Option (List ℤ)

-- ---- a leg that ran its program

-- Where one neighbour alone has another result, a leg accuses that one.
abbrev pub agreed : Leg → (accused : Option Side) → Judged
agreed leg None = j.Agrees
agreed leg (Some side) = j.Accuses (neighbour leg side)

-- How many windows the memory of a run has.
abbrev pub run_windows : Run → ℕ
run_windows run = windows_of (length run.text + length run.words)

-- A run whose next result shows the next window; after the last one the first.
abbrev pub turned : Run → Run
turned run = record run { turn = (run.turn + 1) % run_windows run }

-- A leg in the minority learns from the next scan on, and has no windows. Else it runs on. It drives its outputs where
-- it runs on. The words of a DRIVE or MUTE line go before all.
abbrev pub judged_run : Leg → LegScan → (outputs : List ℤ) → Run → Judgement → Closed
judged_run leg l outputs run Minority = record { state = Learning None; judged = j.Minority; drive = l.drive }
judged_run leg l outputs run (Agrees accused) =
    record { state = Running (turned run); judged = agreed leg accused; drive = option_or l.drive (Some outputs) }
judged_run leg l outputs run NoVote =
    record { state = Running (turned run); judged = j.NoVote; drive = option_or l.drive (Some outputs) }

-- A leg that ran its program judges its own genuine result and those that it took.
unfoldable pub judged_of : Leg → LegScan → (own outputs : List ℤ) → Run → (left right : List ℤ) → Closed
judged_of leg l own outputs run left right = judged_run leg l outputs run (judge_of own left right)

-- ---- a leg that learned

-- A whole memory is a program where its text builds and has as many words.
abbrev pub is_program : Meaning → Whole → Bool
is_program m w = is_none (m.builds w.text) && m.word_count w.text == length w.words

-- The run of a whole memory.
abbrev pub learned_run : Whole → Run
learned_run w = record { text = w.text; words = w.words; epoch = w.epoch; turn = w.turn }

-- A leg with a whole memory runs it from the next scan on, where it is a program; else it has no windows. It drives
-- nothing but what a line says.
abbrev pub learned_by : Meaning → LegScan → Outcome → Closed
learned_by m l Waits = record { state = Learning None; judged = j.Waiting; drive = l.drive }
learned_by m l (Goes_on lesson) =
    record { state = Learning (Some lesson); judged = j.Learned lesson.windows; drive = l.drive }
learned_by m l (Ends w) =
    if is_program m w
    then record { state = Running (learned_run w); judged = j.Ready; drive = l.drive }
    else record { state = Learning None; judged = j.Rejected; drive = l.drive }

-- A leg that was learning learns from the results that it took.
unfoldable pub learned_of : Meaning → LegScan → Option Lesson → (left right : List ℤ) → Closed
learned_of m l lesson left right = learned_by m l (learn_of lesson left right)

-- ---- both

-- By whether the leg ran its program in this scan.
abbrev pub closed_of : Meaning → Leg → LegScan → HalfScan → (left right : List ℤ) → State → Closed
closed_of m leg l half left right (Running run) = judged_of leg l half.own half.outputs run left right
closed_of m leg l half left right (Learning lesson) = learned_of m l lesson left right

-- The second half of a scan, from the results that a leg took from its left and its right.
unfoldable pub closed : Meaning → Leg → LegScan → HalfScan → (left right : List ℤ) → Closed
closed m leg l half left right = closed_of m leg l half left right half.state

-- What a leg notes of a scan, with whether its table of disagreements has a mark.
abbrev pub scan_note : HalfScan → Closed → (marked : Bool) → NoteData
scan_note half end marked = record {
  verdict = half.verdict;
  time = half.voted.time;
  values = half.voted.values;
  judged = end.judged;
  drive = end.drive;
  arith = half.flag;
  marked = marked;
}
