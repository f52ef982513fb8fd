-- Nobody has to believe what stands here: it serves private functions alone.
-- How notes are kept.
use Rattle.std.specs.Prelude.{◌≤◌, ◌<◌, ◌+◌, ◌^◌, ℕ, List, map, drop}
use Rattle.fault_history.specs.declared.note.Note.{Note}
use Rattle.fault_history.specs.Notes.{NoteData, note_data}

-- What the notes from a place on tell.
abbrev pub notes_from : ℕ → List Note → List NoteData
notes_from given notes = map note_data (drop given notes)

-- No more notes were taken than made; the notes to come have their places, and all are few.
pub record IsRoomy (taken made coming capacity : ℕ) : Type 0 where
  pub given : taken ≤ made
  pub room : made + coming ≤ capacity
  pub few : made + coming < 2 ^ 32
