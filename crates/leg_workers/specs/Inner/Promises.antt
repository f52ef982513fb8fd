-- What a worker promises.
-- Nobody has to believe this: it serves private functions alone.
use Rattle.std.specs.Prelude.{◌≡◌, Bool, true, false, List, Option, Some, None}
use Rattle.tri_base.specs.declared.point.Point.{Point}
use Rattle.engine_face.specs.Meaning.{Meaning}
use Rattle.leg_workers.specs.Working.{IsWorked, LegAtPost}

-- the leg was worked to its end, or all stands as it was
abbrev pub IsPromised : (List Point → Meaning) → (was now : LegAtPost) → (is_worked : Bool) → Type 0
IsPromised m was now true = IsWorked m was now
IsPromised m was now false = now ≡ was

-- something went to a worker, which promises it; or it was handed back, is kept, and is related to what it was
abbrev pub IsHandedOut : {T : Type 0} → (T → T → Type 0) → (was : T) → (worker kept : Option T) → Type 0
IsHandedOut R was (Some promised) kept = promised ≡ was
IsHandedOut R was None (Some now) = R was now
IsHandedOut R was None None = ⊥
