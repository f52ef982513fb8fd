-- A leg's state between two scans. Own rule.
use Rattle.std.specs.Prelude.{◌≡◌, ◌+◌, ◌<◌, ◌≤◌, ◌≤ℤ◌, ℕ, ℤ, pos, List, length, take, Option, Some, None}
use Rattle.std.specs.List.{All}
use Rattle.engine_face.specs.Meaning.{Meaning}
use Rattle.leg_packet.specs.Sheets.{IsByte, epoch_limit, windows_of}
use Rattle.re_education.specs.Learning.{Lesson}
use Rattle.re_education.specs.Learned.{last_turn}

-- A program that runs: its text, the words of its memory, how many downloads were accepted, and which window of the
-- memory its next result shows.
pub record Run : Type 0 where
  pub text : List ℕ
  pub words : List ℤ
  pub epoch : ℕ
  pub turn : ℕ

-- A leg runs a program. Or it learns one, and has some of its windows, or none.
pub data State : Type 0 where
  Running : (run : Run) → State
  Learning : (lesson : Option Lesson) → State

-- A leg starts with a text, that program's first words, epoch 0 and turn 0.
abbrev pub first_state : Meaning → (text : List ℕ) → State
first_state m text = Running (record { text = text; words = m.first text; epoch = 0; turn = 0 })

-- What holds of each run: the text is bytes and builds, there are as many words as the program has, and epoch and turn
-- are within their limits.
pub record IsRun (m : Meaning) (run : Run) : Type 0 where
  pub bytes : All (λ byte. byte < 256) run.text
  pub builds : m.builds run.text ≡ None
  pub count : length run.words ≡ m.word_count run.text
  pub epoch : run.epoch ≤ epoch_limit
  pub turn : pos run.turn ≤ℤ last_turn

-- What holds of each lesson: the image has as many numbers as the lengths say, of which those of the text are bytes;
-- some windows are learned, and not all; and epoch and turn are within their limits.
pub record IsLesson (z : Lesson) : Type 0 where
  pub image_length : length z.image ≡ z.text_length + z.word_length
  pub bytes : All IsByte (take z.text_length z.image)
  pub some : 0 < z.windows
  pub not_all : z.windows < windows_of (z.text_length + z.word_length)
  pub epoch : z.epoch ≤ epoch_limit
  pub turn : pos z.turn ≤ℤ last_turn

-- What holds of each state of a leg.
abbrev pub IsState : Meaning → State → Type 0
IsState m (Running run) = IsRun m run
IsState m (Learning None) = Unit {0}
IsState m (Learning (Some z)) = IsLesson z
