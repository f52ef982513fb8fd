-- A row of legs, of which one is served after another.
-- Nobody has to believe this: it serves private functions alone.
use Rattle.std.specs.Prelude.{◌≡◌, ℕ, ◌<◌, List, Some, slice_get}
use Rattle.leg_workers.specs.Working.{LegAtPost, IsDone}

-- the first of them are done
abbrev pub AreDoneBelow : ℕ → List LegAtPost → Type 0
AreDoneBelow n row = (i : ℕ) (p : LegAtPost) → i < n → slice_get row i ≡ Some p → IsDone p
