-- Nobody has to believe what stands here: it serves private functions alone.
use Rattle.std.specs.Prelude.{ℕ, ℤ, pos, nat_abs, Bool, ◌&&◌, nat_lt, int_le, List, Option, option_map}
use Rattle.leg_packet.specs.Sheets.{pairs_of}

-- An address from one on and below another.
abbrev pub is_address : ℕ → ℕ → ℤ → Bool
is_address from below word = int_le (pos from) word && nat_lt (nat_abs word) below

-- What stands behind so many pairs.
abbrev pub behind : ℕ → ℕ → ℕ → List ℤ → Option (List ℤ)
behind count from below words =
    option_map (λ (found : List (ℕ × ℤ) × List ℤ). found.1) (pairs_of count from below words)
