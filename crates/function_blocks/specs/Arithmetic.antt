-- How numbers are computed: exactly, then clamped to a kind, with a flag where that changes them (own rule).
use Rattle.std.specs.Prelude.{ℤ, pos, ◌-ℤ◌, ◌*ℤ◌, true, not, if◌then◌else◌}
use Rattle.std.specs.Int.{int_max, int_min}
use Rattle.std.specs.Int.RustNames.{int_div}
use Rattle.std.specs.Ordering.{int_eq}
use Rattle.function_blocks.specs.declared.kinds.Kind.{Kind}
use Rattle.function_blocks.specs.declared.arithmetic.Computed.{Computed}
use Rattle.function_blocks.specs.Values.{is_on, clamped}

-- a computed number is clamped to the kind, with the flag where that changes it
abbrev pub exact : Kind → ℤ → Computed
exact kind v = record { value = clamped kind v; flag = not (int_eq (clamped kind v) v) }

-- the quotient, truncated toward zero (IEC 61131-3:2013, 6.6.2.5.3); 0 with the flag where the divisor is 0 (own rule)
abbrev pub quotient : Kind → ℤ → ℤ → Computed
quotient kind x y = if is_on y then exact kind (int_div x y) else record { value = pos 0; flag = true }

-- what the truncated quotient leaves, with nothing clamped on the way; 0 with the flag where the divisor is 0
abbrev pub remainder : Kind → ℤ → ℤ → Computed
remainder kind x y = if is_on y then exact kind (x -ℤ int_div x y *ℤ y) else record { value = pos 0; flag = true }

-- an index, clamped to the bounds of its array, with the flag where that changes it (own rule)
abbrev pub bounded : (low high index : ℤ) → Computed
bounded low high x =
    let value = int_max low (int_min x high) in record { value = value; flag = not (int_eq value x) }
