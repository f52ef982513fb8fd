-- What holds of all requests and replies, in words that don't follow how a reply is made.
use Rattle.std.specs.Prelude.{◌≡◌, ℕ, ℤ, ◌+◌, ◌*◌, ◌<◌, ◌≤ℤ◌, true, List, ◌∷◌, length, slice_get, slice_index, Some}
use Rattle.std.specs.Int.{bit_at, cast_signed, w16}
use Rattle.std.specs.List.{All}
use Rattle.tri_base.specs.declared.point.Point.{Point}
use Rattle.tri_base.specs.Limits.{greatest_count, least_count}
use Rattle.modbus_face.specs.Data.{bit_of, bits_of, register_of}
use Rattle.modbus_face.specs.Frames.{is_framed, framed, function_of, parameters_of, transaction_of, unit_of}
use Rattle.modbus_face.specs.Replies.{reply_of}

-- A framed request is the frame of its transaction and unit with its function code and what follows it.
abbrev pub HasItsParts : (request : List ℕ) → Type 0
HasItsParts request = All (λ byte. byte < 256) request → is_framed request ≡ true
    → request ≡ framed (transaction_of request) (unit_of request) (function_of request ∷ parameters_of request)

-- A reply is framed as a request is, with a length of its own, and has the request's transaction and unit.
abbrev pub HasFramedReply : (request : List ℕ) → List Point → (inputs : List ℤ) → (outputs : List ℤ) → Type 0
HasFramedReply request points inputs outputs = (reply : List ℕ) → reply_of request points inputs outputs ≡ Some reply
    → (is_framed reply ≡ true) × (transaction_of reply ≡ transaction_of request) × (unit_of reply ≡ unit_of request)

-- The bit at a place of a byte of the data is the bit of the value there.
abbrev pub HasEachBit : List ℤ → Type 0
HasEachBit values = (byte place : ℕ) → place < 8 → 8 * byte + place < length values
    → bit_at (slice_index (bits_of values) byte) place ≡ bit_of (slice_get values (8 * byte + place))

-- A count's register, read as a signed number of 16 bits, is the count.
abbrev pub ReadsBack : ℤ → Type 0
ReadsBack value = least_count ≤ℤ value → value ≤ℤ greatest_count → cast_signed w16 (register_of value) ≡ value
