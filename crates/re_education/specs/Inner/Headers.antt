-- Nobody has to believe what stands here: it serves private fields alone.
use Rattle.std.specs.Prelude.{ℤ, List, Option, Some, None, ◌==◌, if◌then◌else◌}
use Rattle.re_education.specs.declared.header.Header.{Header}
use Rattle.re_education.specs.Learning.{Lesson}

-- The lesson of an image and what is kept beside it.
abbrev pub lesson_in : List ℤ → Header → Lesson
lesson_in image h = record {
  image = image;
  epoch = h.epoch;
  text_length = h.text_length;
  word_length = h.word_length;
  turn = h.turn;
  windows = h.windows;
}

-- No lesson where no window is learned.
abbrev pub lesson_kept : List ℤ → Header → Option Lesson
lesson_kept image h = if h.windows == 0 then None else Some (lesson_in image h)
