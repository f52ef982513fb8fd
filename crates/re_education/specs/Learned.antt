-- What learning answers and leaves. Own rule.
use Rattle.std.specs.Prelude.{◌≡◌, ℤ, pos, ◌≤◌, ◌≤ℤ◌, length, Option, Some, None, Result, Ok, Err}
use Rattle.tri_base.specs.declared.memory.NoMemory.{NoMemory}
use Rattle.leg_packet.specs.Sheets.{epoch_limit}
use Rattle.re_education.specs.declared.progress.Progress.{Progress}
use Rattle.re_education.specs.declared.progress.Progress.TheVariants.{Waiting, Learned, Ready}
use Rattle.re_education.specs.declared.progress.Image.{Image}
use Rattle.re_education.specs.Learning.{Lesson, Whole, Outcome, Waits, Goes_on, Ends}
use Rattle.tri_base.specs.Limits.{text_limit, word_limit}

-- An image of a whole memory.
pub record ImageOf (w : Whole) (i : Image) : Type 0 where
  pub epoch : i.epoch ≡ pos w.epoch
  pub turn : i.turn ≡ pos w.turn
  pub text : i.text.list ≡ w.text
  pub words : i.words.list ≡ w.words

-- An answer tells what came of the packets, and the lesson that is left is that; or memory was wanting.
abbrev pub Learns : Outcome → Result Progress NoMemory → Option Lesson → Type 0
Learns outcome (Err e) lesson = Unit {0}
Learns Waits (Ok Waiting) lesson = lesson ≡ None
Learns (Goes_on z) (Ok (Learned n)) lesson = (n ≡ z.windows) × (lesson ≡ Some z)
Learns (Ends w) (Ok (Ready i)) lesson = ImageOf w i × (lesson ≡ None)
Learns _ _ _ = ⊥

-- The greatest turn of a memory of 16,384 bytes and 4,096 words.
abbrev pub last_turn : ℤ
last_turn = pos 319

-- An image's numbers and lengths are within their limits.
pub record AreBounded (i : Image) : Type 0 where
  pub epoch : i.epoch ≤ℤ pos epoch_limit
  pub turn : i.turn ≤ℤ last_turn
  pub text : length i.text.list ≤ text_limit
  pub words : length i.words.list ≤ word_limit

-- The same of the image in an answer, where it has one.
abbrev pub ImageIsBounded : Progress → Type 0
ImageIsBounded Waiting = Unit {0}
ImageIsBounded (Learned n) = Unit {0}
ImageIsBounded (Ready i) = AreBounded i
