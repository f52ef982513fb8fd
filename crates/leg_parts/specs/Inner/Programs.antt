-- Nobody has to believe what stands here: it serves private functions alone.
-- A program that runs, and the image of one.
use Rattle.std.specs.Prelude.{◌≡◌, ◌≤◌, true, false, length, Option, Some, None}
use Rattle.engine_face.specs.Meaning.{Meaning}
use Rattle.leg_packet.specs.Sheets.{epoch_limit}
use Rattle.re_education.specs.declared.progress.Image.{Image}
use Rattle.re_education.specs.Learned.{ImageOf}
use Rattle.re_education.specs.Learning.{Whole}
use Rattle.leg_laws.specs.States.{Run}
use Rattle.leg_laws.specs.Closing.{is_program, learned_run}

-- What holds of each program that is kept.
pub record FitsProgram (m : Meaning) (run : Run) : Type 0 where
  pub builds : m.builds run.text ≡ None
  pub count : length run.words ≡ m.word_count run.text
  pub epoch : run.epoch ≤ epoch_limit
  pub turn : run.turn ≤ 319

-- An image is that of a whole memory.
abbrev pub IsWhole : Image → Type 0
IsWhole image = (w : Whole) × ImageOf w image

-- The run of the whole memory that an image is, where it is a program; else none.
abbrev pub TellsProgram : Meaning → Image → Option Run → Type 0
TellsProgram m image None = (w : Whole) → ImageOf w image → is_program m w ≡ false
TellsProgram m image (Some run) =
    (w : Whole) → ImageOf w image → (is_program m w ≡ true) × (run ≡ learned_run w) × FitsProgram m run
