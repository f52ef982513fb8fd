-- Numbers as far as they are told. Own rule.
use Rattle.std.specs.Prelude.{ℕ, ◌-◌, ◌^◌, min}

-- The greatest number of instructions that is told.
abbrev pub greatest_told : ℕ
greatest_told = 2 ^ 63 - 1

-- A number as it is told: the greatest one in place of any above.
abbrev pub limited : ℕ → ℕ
limited n = min n greatest_told
