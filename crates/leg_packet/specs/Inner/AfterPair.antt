-- Nobody has to believe what stands here: it serves private functions alone.
use Rattle.std.specs.Prelude.{◌≡◌, ℕ, suc, Option, Some, None}
use Rattle.leg_packet.specs.declared.pairs.Left.{Left}
use Rattle.leg_packet.specs.Inner.Behind.{behind}

-- What stands behind one pair, where there is one.
abbrev pub IsAfterPair : ℕ → Left → Option Left → Type 0
IsAfterPair below left None = (n : ℕ) → behind (suc n) left.from below left.words.now ≡ None
IsAfterPair below left (Some after) =
    (n : ℕ) → behind (suc n) left.from below left.words.now ≡ behind n after.from below after.words.now
