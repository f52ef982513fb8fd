-- How much data there is.
use Rattle.std.proofs.Common.{◌≡◌, refl, ℕ, ◌+◌, ◌*◌, ◌≤◌, ℤ, List, [], ◌∷◌, length, Bool, true, false, arith}
use Rattle.std.specs.Prelude.{◌==◌, ◌||◌, not, is_none, nat_lt, take, drop, Option, Some, None}
use Rattle.std.specs.Int.{div_ceil}
use Rattle.std.proofs.lemmas.Bool.{ltb-false}
use Rattle.std.proofs.lemmas.List.{length-take}
use Rattle.std.proofs.lemmas.List.FromFn.{length-map-range_with_len}
use Rattle.tri_base.specs.declared.point.Point.{Point}
use Rattle.tri_base.specs.declared.point.PointKind.{PointKind}
use Rattle.tri_base.specs.declared.point.PointKind.TheVariants.{Di, Ai, Do, Ao}
use Rattle.modbus_face.specs.Data.{bits_of, byte_from, registers_of}
use Rattle.modbus_face.specs.Reads.{data_of, limit_of, seen_of}
use Rattle.modbus_face.specs.Replies.{address_of, count_of, first_that_holds, objections, pdu_of, pdu_unless}

pub length-bits_of : (values : List ℤ) → length (bits_of values) ≡ div_ceil (length values) 8
length-bits_of values = length-map-range_with_len (λ turn. byte_from values (8 * turn)) 0 (div_ceil (length values) 8)

pub length-registers_of : (values : List ℤ) → length (registers_of values) ≡ 2 * length values
length-registers_of [] = refl
length-registers_of (value ∷ values) = omega (arith, length-registers_of values)

few_bits : (values : List ℤ) → length values ≤ 2000 → length (bits_of values) ≤ 250
few_bits values few = omega (arith, few, length-bits_of values)

few_registers : (values : List ℤ) → length values ≤ 125 → length (registers_of values) ≤ 250
few_registers values few = omega (arith, few, length-registers_of values)

-- no more values than one request may read make no more than 250 bytes
pub few_bytes : (kind : PointKind) (values : List ℤ) → length values ≤ limit_of (Some kind) → length (data_of (Some kind) values) ≤ 250
few_bytes Di values few = few_bits values few
few_bytes Do values few = few_bits values few
few_bytes Ai values few = few_registers values few
few_bytes Ao values few = few_registers values few

few_of_any : (kind : Option PointKind) (values : List ℤ) → length values ≤ limit_of kind → length (data_of kind values) ≤ 250
few_of_any None values few = omega arith
few_of_any (Some kind) values few = few_bytes kind values few

-- where nothing speaks against it, no more points are asked for than may be read
few_asked : (z a b c : Bool) (w x y v limit count : ℕ)
    → first_that_holds ((z, w) ∷ (a, x) ∷ (b || nat_lt limit count, y) ∷ (c, v) ∷ []) ≡ None → count ≤ limit
few_asked z a b c w x y v limit count h = by z a b (nat_lt limit count) refl h
  where
    by : (r s t u : Bool) → nat_lt limit count ≡ u → first_that_holds ((r, w) ∷ (s, x) ∷ (t || u, y) ∷ (c, v) ∷ []) ≡ None → count ≤ limit
    by true s t u e k = absurd (cc)
    by false true t u e k = absurd (cc)
    by false false true u e k = absurd (cc)
    by false false false true e k = absurd (cc)
    by false false false false e k = ltb-false limit count e

short_read : (found : Option ℕ) (function : ℕ) (kind : Option PointKind) (parameters : List ℕ) (seen : List ℤ) (n : ℕ)
    → first_that_holds (objections kind parameters n) ≡ found → length (pdu_unless found function kind parameters seen) ≤ 253
short_read (Some code) function kind parameters seen n e = omega arith
short_read None function kind parameters seen n e =
    let few = few_asked (is_none kind) (not (length parameters == 4)) (count_of parameters == 0) (nat_lt n (address_of parameters + count_of parameters))
    1 3 3 2 (limit_of kind) (count_of parameters) e in
    let values = take (count_of parameters) (drop (address_of parameters) seen) in
    omega (arith, few_of_any kind values (omega (arith, few, length-take (count_of parameters) (drop (address_of parameters) seen))))

-- a PDU has at most 253 bytes
pub short_pdu : (kind : Option PointKind) (function : ℕ) (parameters : List ℕ) (points : List Point) (inputs outputs : List ℤ)
    → length (pdu_of kind function parameters points inputs outputs) ≤ 253
short_pdu kind function parameters points inputs outputs =
    let seen = seen_of kind points inputs outputs in
    short_read (first_that_holds (objections kind parameters (length seen))) function kind parameters seen (length seen) refl
