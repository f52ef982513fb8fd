-- A leg's notes, and the room for those to come. Own rule.
use Rattle.std.specs.Prelude.{◌≡◌, ℕ, ℤ, ◌+◌, ◌≤◌, List, [], ◌∷◌, length, Option, Some, None}
use Rattle.fault_history.specs.Notes.{NoteData}
use Rattle.script_text.specs.LegScans.{LegScan}

-- How many values and how many driven words a note can hold.
pub record RoomValue : Type 0 where
  pub width : ℕ
  pub drive : ℕ

-- How many notes were taken away, those that were not, and the room of those to come.
pub record LogValue : Type 0 where
  pub given : ℕ
  pub notes : List NoteData
  pub rooms : List RoomValue

-- How many words are driven at most where a program has so many outputs: those of a line, where there is one.
abbrev pub drive_room : (outputs : ℕ) → (line : Option (List ℤ)) → ℕ
drive_room outputs None = outputs
drive_room outputs (Some words) = length words

-- The room of the note of a scan.
abbrev pub room_of : (inputs outputs : ℕ) → LegScan → RoomValue
room_of inputs outputs l = record { width = inputs; drive = drive_room outputs l.drive }

-- How many words are driven.
abbrev pub drive_length : Option (List ℤ) → ℕ
drive_length None = 0
drive_length (Some words) = length words

-- The next note can hold so many values and driven words.
abbrev pub HoldsNext : (values : ℕ) (drive : ℕ) → List RoomValue → Type 0
HoldsNext values drive [] = ⊥
HoldsNext values drive (room ∷ rooms) = (values ≤ room.width) × (drive ≤ room.drive)

-- The first note is taken away, where there is one.
abbrev pub TakesNote : LogValue → Option NoteData → LogValue → Type 0
TakesNote log None log' = (log.notes ≡ []) × (log' ≡ log)
TakesNote log (Some note) log' =
    (log.notes ≡ note ∷ log'.notes) × (log'.given ≡ log.given + 1) × (log'.rooms ≡ log.rooms)
