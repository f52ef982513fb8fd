-- Values taken out of the data again.
use Rattle.std.proofs.Common.{◌≡◌, ◌∙◌, ap, refl, ℕ, zero, suc, ◌+◌, ◌-◌, ◌*◌, ◌%◌, ◌<◌, ◌≤◌, ℤ, pos, negsuc, List, length, cond, Bool, true, false, arith}
use Rattle.std.specs.Prelude.{Option, Some, None, slice_get}
use Rattle.std.specs.Int.{bit_at, cast_signed, div_ceil, w16}
use Rattle.std.specs.Ordering.{int_eq}
use Rattle.std.proofs.lemmas.Int.{ints, to_z-of_z}
use Rattle.std.proofs.lemmas.List.FromFn.{get_or-map-range_with_len}
use Rattle.modbus_face.specs.Data.{bit_of, byte_from}
use Rattle.modbus_face.specs.Laws.{HasEachBit, ReadsBack}

-- ---- bits

one_bit : (value : Option ℤ) → bit_of value ≤ 1
one_bit None = omega arith
one_bit (Some value) = by (int_eq value (pos 0))
  where
    by : (t : Bool) → cond t 0 1 ≤ 1
    by true = omega arith
    by false = omega arith

-- the bits of a sum of eight
record Bits (a b c d e f g h n : ℕ) : Type 0 where
  at_0 : bit_at n 0 ≡ a
  at_1 : bit_at n 1 ≡ b
  at_2 : bit_at n 2 ≡ c
  at_3 : bit_at n 3 ≡ d
  at_4 : bit_at n 4 ≡ e
  at_5 : bit_at n 5 ≡ f
  at_6 : bit_at n 6 ≡ g
  at_7 : bit_at n 7 ≡ h

bits_of_sum : (a b c d e f g h n : ℕ) → a ≤ 1 → b ≤ 1 → c ≤ 1 → d ≤ 1 → e ≤ 1 → f ≤ 1 → g ≤ 1 → h ≤ 1
    → n ≡ a + 2 * b + 4 * c + 8 * d + 16 * e + 32 * f + 64 * g + 128 * h → Bits a b c d e f g h n
bits_of_sum a b c d e f g h n a1 b1 c1 d1 e1 f1 g1 h1 is = record {
  at_0 = omega (arith, is, a1, b1, c1, d1, e1, f1, g1, h1);
  at_1 = omega (arith, is, a1, b1, c1, d1, e1, f1, g1, h1);
  at_2 = omega (arith, is, a1, b1, c1, d1, e1, f1, g1, h1);
  at_3 = omega (arith, is, a1, b1, c1, d1, e1, f1, g1, h1);
  at_4 = omega (arith, is, a1, b1, c1, d1, e1, f1, g1, h1);
  at_5 = omega (arith, is, a1, b1, c1, d1, e1, f1, g1, h1);
  at_6 = omega (arith, is, a1, b1, c1, d1, e1, f1, g1, h1);
  at_7 = omega (arith, is, a1, b1, c1, d1, e1, f1, g1, h1);
}

bit_of_byte : (values : List ℤ) (from place : ℕ) → place < 8 → bit_at (byte_from values from) place ≡ bit_of (slice_get values (from + place))
bit_of_byte values from place small = by place small
  where
    value : ℕ → Option ℤ
    value k = slice_get values (from + k)

    first : slice_get values from ≡ value 0
    first = ap (slice_get values) (omega arith)

    all : Bits (bit_of (slice_get values from)) (bit_of (value 1)) (bit_of (value 2)) (bit_of (value 3)) (bit_of (value 4)) (bit_of (value 5)) (bit_of (value 6)) (bit_of (value 7)) (byte_from values from)
    all = bits_of_sum _ _ _ _ _ _ _ _ _ (one_bit (slice_get values from)) (one_bit (value 1)) (one_bit (value 2)) (one_bit (value 3)) (one_bit (value 4)) (one_bit (value 5)) (one_bit (value 6)) (one_bit (value 7)) refl

    by : (k : ℕ) → k < 8 → bit_at (byte_from values from) k ≡ bit_of (value k)
    by zero h = all.at_0 ∙ ap bit_of first
    by (suc zero) h = all.at_1
    by (suc (suc zero)) h = all.at_2
    by (suc (suc (suc zero))) h = all.at_3
    by (suc (suc (suc (suc zero)))) h = all.at_4
    by (suc (suc (suc (suc (suc zero))))) h = all.at_5
    by (suc (suc (suc (suc (suc (suc zero)))))) h = all.at_6
    by (suc (suc (suc (suc (suc (suc (suc zero))))))) h = all.at_7
    by (suc (suc (suc (suc (suc (suc (suc (suc k)))))))) h = absurd (omega (arith, h))

pub has_each_bit : (values : List ℤ) → HasEachBit values
has_each_bit values byte place small there =
    let count = div_ceil (length values) 8 in
    let inside : byte < count = omega (arith, there) in
    ap (λ n. bit_at n place) (get_or-map-range_with_len (λ turn. byte_from values (8 * turn)) 0 count byte byte 0 inside (omega arith))
    ∙ bit_of_byte values (8 * byte) place small

-- ---- registers

pub reads_back : (value : ℤ) → ReadsBack value
reads_back (pos n) low high =
    let small : n < 32768 = grind (arith, ints, high) in
    let same : n % 65536 ≡ n = omega (arith, small) in
    ap (cast_signed w16) same ∙ to_z-of_z w16 (pos n) (record { sfits = small })
reads_back (negsuc n) low high =
    let small : n < 32768 = grind (arith, ints, low) in
    let same : 65535 - n % 65536 ≡ 65536 - suc n = omega (arith, small) in
    ap (cast_signed w16) same ∙ to_z-of_z w16 (negsuc n) (record { sfits = small })
