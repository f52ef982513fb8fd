-- What a caller sees of a learner, and of the size of the memory that two packets show. Own rule.
use Rattle.std.specs.Prelude.{ℕ, ℤ, ◌+◌, List, Option, Some, None}
use Rattle.leg_packet.specs.Sheets.{Sheet}
use Rattle.re_education.specs.Learning.{Lesson, shown_by_both}

-- What it learned, and how many words it has room for in all.
pub record LearnerValue : Type 0 where
  pub lesson : Option Lesson
  pub room : ℕ

-- How many windows are learned.
abbrev pub windows_in : Option Lesson → ℕ
windows_in None = 0
windows_in (Some z) = z.windows

-- How many numbers the memory has of which a running result shows a window.
abbrev pub size_in : Option Sheet → ℕ
size_in None = 0
size_in (Some s) = s.text_length + s.word_length

-- The same of two packets, 0 where they aren't one running result.
abbrev pub size_shown : (left right : List ℤ) → ℕ
size_shown left right = size_in (shown_by_both left right)
