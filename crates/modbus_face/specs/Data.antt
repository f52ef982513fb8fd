-- The data of a reply. Modbus application protocol, 'Read Coils' and 'Read Holding Registers'.
use Rattle.std.specs.Prelude.{ℕ, ℤ, pos, ◌+◌, ◌*◌, List, Option, Some, None, map, length, slice_get, if◌then◌else◌}
use Rattle.std.specs.Prelude.{unsigned_abs}
use Rattle.std.specs.Ordering.{int_eq}
use Rattle.std.specs.Int.{div_ceil, int_rem_euclid}
use Rattle.std.specs.List.{flat_map, range_with_len}
use Rattle.modbus_face.specs.Frames.{two_bytes}

-- The bit of a value, if there is one: 0 for the value 0, else 1. Where there is no value it is 0.
abbrev pub bit_of : Option ℤ → ℕ
bit_of None = 0
bit_of (Some value) = if int_eq value (pos 0) then 0 else 1

-- The byte of the bits of eight values from a place on. The first is the lowest bit.
abbrev pub byte_from : List ℤ → ℕ → ℕ
byte_from values place =
    bit_of (slice_get values place)
    + 2 * bit_of (slice_get values (place + 1))
    + 4 * bit_of (slice_get values (place + 2))
    + 8 * bit_of (slice_get values (place + 3))
    + 16 * bit_of (slice_get values (place + 4))
    + 32 * bit_of (slice_get values (place + 5))
    + 64 * bit_of (slice_get values (place + 6))
    + 128 * bit_of (slice_get values (place + 7))

-- Values as bits, eight to a byte. The bits behind the last value are 0.
abbrev pub bits_of : List ℤ → List ℕ
bits_of values = map (λ turn. byte_from values (8 * turn)) (range_with_len 0 (div_ceil (length values) 8))

-- A value's 16 bits in two's complement: what is left of it modulo 65,536.
abbrev pub register_of : ℤ → ℕ
register_of value = unsigned_abs (int_rem_euclid value (pos 65536))

-- Values as registers of two bytes, the high byte first.
abbrev pub registers_of : List ℤ → List ℕ
registers_of values = flat_map (λ value. two_bytes (register_of value)) values
