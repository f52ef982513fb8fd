-- The values of a word: BOOL is 0 or 1, INT 16 bits and DINT 32 bits, both signed (IEC 61131-3:2013, 6.4.2).
use Rattle.std.specs.Prelude.{ℤ, pos, negsuc, ◌≤ℤ◌, Bool, true, false, zero, suc}
use Rattle.std.specs.Int.{int_max, int_min}
use Rattle.function_blocks.specs.declared.kinds.Kind.{Kind}
use Rattle.function_blocks.specs.declared.kinds.Kind.TheVariants as kind

-- the least value of a kind
abbrev pub least : Kind → ℤ
least kind.Bool = pos 0
least kind.Int = negsuc 32767
least kind.Dint = negsuc 2147483647

-- the greatest value of a kind
abbrev pub greatest : Kind → ℤ
greatest kind.Bool = pos 1
greatest kind.Int = pos 32767
greatest kind.Dint = pos 2147483647

-- a number counts as TRUE where it isn't 0
abbrev pub is_on : ℤ → Bool
is_on (pos zero) = false
is_on (pos (suc n)) = true
is_on (negsuc n) = true

-- FALSE and TRUE as numbers
abbrev pub number : Bool → ℤ
number false = pos 0
number true = pos 1

-- the number as a value of the kind: for BOOL 1 where it isn't 0, for INT and DINT the nearest value (own rule)
abbrev pub clamped : Kind → ℤ → ℤ
clamped kind.Bool v = number (is_on v)
clamped kind.Int v = int_max (least kind.Int) (int_min v (greatest kind.Int))
clamped kind.Dint v = int_max (least kind.Dint) (int_min v (greatest kind.Dint))

-- a value in its type: a BOOL, or a number of INT or DINT
pub data Value : Type 0 where
  Truth : Bool → Value
  Number : ℤ → Value

-- a word read in a type
abbrev pub in_type : Kind → ℤ → Value
in_type kind.Bool v = Truth (is_on v)
in_type kind.Int v = Number (clamped kind.Int v)
in_type kind.Dint v = Number (clamped kind.Dint v)

-- the word that holds a value
abbrev pub word_of : Value → ℤ
word_of (Truth b) = number b
word_of (Number v) = v

-- the least constant, which is the least DINT
abbrev pub least_constant : ℤ
least_constant = negsuc 2147483647

-- the greatest constant: one above the greatest DINT, so that the least one can be written as its negation
abbrev pub greatest_constant : ℤ
greatest_constant = pos 2147483648

-- the number lies in the range of a constant
abbrev pub IsOperand : ℤ → Type 0
IsOperand v = (least_constant ≤ℤ v) × (v ≤ℤ greatest_constant)
