-- The link from a leg to its printer. Own rule.
use Rattle.std.specs.Prelude.{ℕ}

-- How many notes its box holds.
abbrev pub note_limit : ℕ
note_limit = 4
