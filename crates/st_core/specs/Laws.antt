-- What holds of all acts, and of all loops.
use Rattle.std.specs.Prelude.{◌≡◌, ◌≢◌, ◌+◌, ◌/◌, ℤ, pos, ◌-ℤ◌, unsigned_abs, false, true, [], length}
use Rattle.st_core.specs.Core.{Act}
use Rattle.st_core.specs.Effects.{is_past, written}
use Rattle.st_core.specs.Memory.{Shape}
use Rattle.st_core.specs.Fits.{ActFits, IsSound, StaysLow}

-- A body fits where it is sound and its terms stay low.
abbrev pub FitsWhereSound : Type 0
FitsWhereSound = (shape : Shape) → (a : Act) → IsSound shape [] a → StaysLow a → ActFits shape [] a

-- How many turns a loop has: none where the first number is past the last, and else one more than its steps fit into
-- the distance from the first to the last.
pub record CountsTurns (first last step : ℤ) : Type 0 where
  pub none : is_past step last first ≡ true → written first last step ≡ []
  pub some : is_past step last first ≡ false → step ≢ pos 0
      → length (written first last step) ≡ unsigned_abs (last -ℤ first) / unsigned_abs step + 1

-- Each loop has so many turns.
abbrev pub HasTurns : Type 0
HasTurns = (first last step : ℤ) → CountsTurns first last step
