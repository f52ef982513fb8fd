-- What a scan may cost. Own rule.
use Rattle.std.specs.Prelude.{ℕ}

-- The most instructions that a scan of a program may take.
abbrev pub cost_limit : ℕ
cost_limit = 1000000
