-- One leg's account of one scan, and how it stands at the end, as plain data: lists without their room. Own rule.
use Rattle.std.specs.Prelude.{ℕ, ℤ, pos, Bool, false, List, [], Option, None, option_map}
use Rattle.tri_base.specs.declared.judged.Judged.{Judged}
use Rattle.tri_base.specs.declared.judged.Judged.TheVariants.{Waiting}
use Rattle.tri_base.specs.Rows.{WordsValue}
use Rattle.engine_face.specs.declared.verdict.Verdict.{Verdict}
use Rattle.fault_history.specs.declared.note.Note.{Note}
use Rattle.fault_history.specs.declared.note.Ending.{Ending}
use Rattle.fault_history.specs.declared.note.Ending.TheVariants.{Run, Learn}

-- What a note tells: the verdict on a download, the voted scan time and values, the judgement, what is driven,
-- the flag ARITH of its run, and whether a reading is marked.
pub record NoteData : Type 0 where
  pub verdict : Option Verdict
  pub time : ℤ
  pub values : List ℤ
  pub judged : Judged
  pub drive : Option (List ℤ)
  pub arith : Bool
  pub marked : Bool

-- A note's data.
abbrev pub note_data : Note → NoteData
note_data n = record {
  verdict = n.verdict;
  time = n.voted.dt;
  values = n.voted.values.list;
  judged = n.judged;
  drive = option_map (λ (words : WordsValue). words.list) n.drive;
  arith = n.arith;
  marked = n.marked;
}

-- A note that tells of no scan.
abbrev pub no_note : NoteData
no_note = record {
  verdict = None;
  time = pos 0;
  values = [];
  judged = Waiting;
  drive = None;
  arith = false;
  marked = false;
}

-- A leg runs, with an epoch, a turn and words; or it learns, and has so many windows.
pub data EndingData : Type 0 where
  Runs : (epoch turn : ℤ) → (words : List ℤ) → EndingData
  Learns : (windows : ℕ) → EndingData

-- An ending's data.
abbrev pub ending_data : Ending → EndingData
ending_data (Run epoch turn words) = Runs epoch turn words.now.list
ending_data (Learn windows) = Learns windows
