-- A reader as a source, and a writer as a sink.
use Rattle.std.specs.Prelude.{ℕ, List, Option}

-- What a caller sees of one: the bytes that the reader will give, or that the writer holds, where it tells them; and
-- how often it has failed.
pub record StreamValue : Type 0 where
  pub bytes : Option (List ℕ)
  pub faults : ℕ
