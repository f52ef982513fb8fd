-- Nobody has to believe what stands here: it serves the compiler alone.
-- Sums as far as they are told.
use Rattle.std.specs.Prelude.{◌≡◌, ℕ, ◌+◌}
use Rattle.code_size.specs.Limits.{limited}

-- The sum of two numbers, each as far as it is told.
abbrev pub Adds : ℕ → ℕ → ℕ → Type 0
Adds first second sum = (x : ℕ) → (y : ℕ) → first ≡ limited x → second ≡ limited y → sum ≡ limited (x + y)
