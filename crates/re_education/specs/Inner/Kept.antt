-- Nobody has to believe what stands here: it serves private fields and functions alone.
use Rattle.std.specs.Prelude.{◌+◌, take, drop, map, nat_abs, Option, Some, None, Bool, false}
use Rattle.leg_packet.specs.Sheets.{Sheet}
use Rattle.re_education.specs.Learning.{Lesson, Whole, expects, held, taught, next_turn}

-- A running result goes on with what is learned.
abbrev pub does_expect : Option Lesson → Sheet → Bool
does_expect None s = false
does_expect (Some z) s = expects z s

-- What is learned with one window more.
abbrev pub next_lesson : Option Lesson → Sheet → Lesson
next_lesson lesson s = record {
  image = taught s (held lesson s).image;
  epoch = s.epoch;
  text_length = s.text_length;
  word_length = s.word_length;
  turn = next_turn s;
  windows = (held lesson s).windows + 1;
}

-- The memory where that is all of it.
abbrev pub whole_of : Lesson → Whole
whole_of z = record {
  epoch = z.epoch;
  turn = z.turn;
  text = map nat_abs (take z.text_length z.image);
  words = drop z.text_length z.image;
}
