-- Nobody has to believe what stands here: it serves private functions alone.
use Rattle.std.specs.Prelude.{ℤ, pos, Bool, ◌&&◌, int_le}
use Rattle.std.specs.Ordering.{int_eq}
use Rattle.leg_packet.specs.Sheets.{is_from_to, epoch_limit}
use Rattle.tri_base.specs.Limits.{text_limit, word_limit}

-- Five words that begin a running result.
abbrev pub are_heads : (kind epoch turn text_length word_length : ℤ) → Bool
are_heads kind epoch turn text_length word_length =
    int_eq kind (pos 2) && is_from_to epoch epoch_limit && is_from_to text_length text_limit
    && is_from_to word_length word_limit && int_le (pos 0) turn
