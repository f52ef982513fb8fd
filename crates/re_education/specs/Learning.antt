-- How a leg learns the memory that its two neighbours show, window by window. Own rule.
use Rattle.std.specs.Prelude.{◌≡◌, ℕ, ℤ, pos, nat_abs, ◌+◌, ◌*◌, ◌%◌, ◌≤◌, ◌<◌, ◌==◌, ◌&&◌, nat_lt, Bool, true, false, List, length, take, drop, map, replicate, Option, Some, None, if◌then◌else◌}
use Rattle.std.specs.List.{All}
use Rattle.tri_base.specs.Limits.{text_limit, word_limit}
use Rattle.leg_packet.specs.Sheets.{IsByte, Sheet, epoch_limit, sheet_of, windows_of}
use Rattle.memory_compare.specs.Changes.{applied}
use Rattle.memory_compare.specs.Windows.{written}
use Rattle.memory_compare.specs.Judging.{same_words}

-- What was learned, and what is expected next: the text's bytes and the words as far as they are known, the epoch and
-- the lengths that the packets had, the window that comes next, and how many windows are learned.
pub record Lesson : Type 0 where
  pub image : List ℤ
  pub epoch : ℕ
  pub text_length : ℕ
  pub word_length : ℕ
  pub turn : ℕ
  pub windows : ℕ

-- What holds of each lesson that is kept: the image has as many numbers as the lengths say, of which those of the text
-- are bytes; some windows are learned, and not all; and each number is within its limit.
pub record IsKept (z : Lesson) : Type 0 where
  pub image_length : length z.image ≡ z.text_length + z.word_length
  pub bytes : All IsByte (take z.text_length z.image)
  pub some : 0 < z.windows
  pub not_all : z.windows < windows_of (z.text_length + z.word_length)
  pub turn : z.turn < windows_of (z.text_length + z.word_length)
  pub text_length : z.text_length ≤ text_limit
  pub word_length : z.word_length ≤ word_limit
  pub epoch : z.epoch ≤ epoch_limit

-- The same where there is one.
abbrev pub KeptLesson : Option Lesson → Type 0
KeptLesson None = Unit {0}
KeptLesson (Some z) = IsKept z

-- An image in which a running result's changes are set, at their addresses behind the text, and then its window.
abbrev pub taught : Sheet → List ℤ → List ℤ
taught s image = written (64 * s.turn) s.window (applied s.text_length s.pairs image)

-- A running result goes on with a lesson.
abbrev pub expects : Lesson → Sheet → Bool
expects z s = z.epoch == s.epoch && z.text_length == s.text_length && z.word_length == s.word_length && z.turn == s.turn

-- An image, and how many of its windows are learned.
pub record Held : Type 0 where
  pub image : List ℤ
  pub windows : ℕ

-- Zeros.
abbrev pub nothing_held : Sheet → Held
nothing_held s = record { image = replicate (s.text_length + s.word_length) (pos 0); windows = 0 }

-- What a running result is added to: the lesson that it goes on with, or zeros.
abbrev pub held : Option Lesson → Sheet → Held
held None s = nothing_held s
held (Some z) s = if expects z s then record { image = z.image; windows = z.windows } else nothing_held s

-- How many windows the memory has of which a running result shows one.
abbrev pub sheet_windows : Sheet → ℕ
sheet_windows s = windows_of (s.text_length + s.word_length)

-- The window after the one that a running result shows; the first one after the last.
abbrev pub next_turn : Sheet → ℕ
next_turn s = (s.turn + 1) % sheet_windows s

-- A whole memory, and the window that comes next.
pub record Whole : Type 0 where
  pub epoch : ℕ
  pub turn : ℕ
  pub text : List ℕ
  pub words : List ℤ

-- What comes of two packets: nothing, a lesson that goes on, or a whole memory.
pub data Outcome : Type 0 where
  Waits : Outcome
  Goes_on : (lesson : Lesson) → Outcome
  Ends : (whole : Whole) → Outcome

-- A lesson as long as windows are missing, else the whole memory.
abbrev pub with_window : Sheet → (image : List ℤ) (windows : ℕ) → Outcome
with_window s image windows =
    if nat_lt windows (sheet_windows s)
    then Goes_on (record {
      image = image;
      epoch = s.epoch;
      text_length = s.text_length;
      word_length = s.word_length;
      turn = next_turn s;
      windows = windows;
    })
    else Ends (record {
      epoch = s.epoch;
      turn = next_turn s;
      text = map nat_abs (take s.text_length image);
      words = drop s.text_length image;
    })

-- What comes of one running result: it adds one window. Without one the leg waits.
abbrev pub with_result : Option Lesson → Option Sheet → Outcome
with_result lesson None = Waits
with_result lesson (Some s) = let h = held lesson s in with_window s (taught s h.image) (h.windows + 1)

-- The running result that two packets both are.
abbrev pub shown_by_both : (left right : List ℤ) → Option Sheet
shown_by_both left right = if same_words left right then sheet_of left else None

-- What comes of two packets.
abbrev pub learn_of : Option Lesson → (left right : List ℤ) → Outcome
learn_of lesson left right = with_result lesson (shown_by_both left right)

-- The whole memory is there.
abbrev pub does_end : Outcome → Bool
does_end Waits = false
does_end (Goes_on lesson) = false
does_end (Ends whole) = true
