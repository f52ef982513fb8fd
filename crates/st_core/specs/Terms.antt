-- What an expression is worth (IEC 61131-3:2013, 7.3.2): a number, and whether a computed number or an index was
-- clamped in it or a divisor was 0. All operands are evaluated, whether they decide or not (own rule).
use Rattle.std.specs.Prelude.{ℤ, pos, ◌+ℤ◌, ◌-ℤ◌, ◌*ℤ◌, neg_ℤ, int_lt, unsigned_abs, Bool, false, not, ◌&&◌, ◌||◌, if◌then◌else◌}
use Rattle.std.specs.Int.{int_max, int_min}
use Rattle.std.specs.Int.RustNames.{int_le}
use Rattle.std.specs.Ordering.{int_eq}
use Rattle.function_blocks.specs.declared.kinds.Kind.{Kind}
use Rattle.function_blocks.specs.declared.arithmetic.Computed.{Computed}
use Rattle.function_blocks.specs.Values.{is_on, number, clamped}
use Rattle.function_blocks.specs.Arithmetic.{exact, quotient, remainder, bounded}
use Rattle.st_core.specs.Core.{Name, UnaryOperator, BinaryOperator, TernaryOperator, Term}
use Rattle.st_core.specs.Core as c
use Rattle.st_core.specs.Environments.{Env, number_of}

-- A number that nothing clamped.
abbrev pub plain : ℤ → Computed
plain v = record { value = v; flag = false }

-- TRUE or FALSE, as 1 or 0.
abbrev pub truth : Bool → Computed
truth b = plain (number b)

-- A computed number, where this flag stands of its parts.
abbrev pub flagged : Bool → Computed → Computed
flagged flag x = record { value = x.value; flag = flag || x.flag }

-- An operator with one operand: -, ABS, conversions and NOT (6.6.2.5), and the test of a label.
abbrev pub unary : UnaryOperator → ℤ → Computed
unary (c.Negate kind) x = exact kind (neg_ℤ x)
unary (c.Absolute kind) x = exact kind (pos (unsigned_abs x))
unary (c.Convert kind) x = exact kind x
unary c.Not x = truth (not (is_on x))
unary (c.Within first last) x = truth (int_le first x && int_le x last)

-- An operator with two operands (6.6.2.5).
abbrev pub binary : BinaryOperator → ℤ → ℤ → Computed
binary (c.Add kind) x y = exact kind (x +ℤ y)
binary (c.Subtract kind) x y = exact kind (x -ℤ y)
binary (c.Multiply kind) x y = exact kind (x *ℤ y)
binary (c.Divide kind) x y = quotient kind x y
binary (c.Modulo kind) x y = remainder kind x y
binary (c.Minimum kind) x y = exact kind (int_min x y)
binary (c.Maximum kind) x y = exact kind (int_max x y)
binary c.And x y = truth (is_on x && is_on y)
binary c.Or x y = truth (is_on x || is_on y)
binary c.Xor x y = truth (if is_on x then not (is_on y) else is_on y)
binary c.Equals x y = truth (int_eq x y)
binary c.Differs x y = truth (not (int_eq x y))
binary c.IsBelow x y = truth (int_lt x y)
binary c.IsAbove x y = truth (int_lt y x)
binary c.IsAtMost x y = truth (int_le x y)
binary c.IsAtLeast x y = truth (int_le y x)

-- LIMIT is MIN(MAX(IN, MN), MX), and SEL is IN0 where G is FALSE, else IN1 (6.6.2.5).
abbrev pub ternary : TernaryOperator → ℤ → ℤ → ℤ → Computed
ternary c.Limit mn x mx = plain (int_min (int_max x mn) mx)
ternary c.Select g x y = plain (if is_on g then y else x)

-- The element of an array at an index: the number of its place from the low bound on, read in its type.
abbrev pub element_of : Env → Name → Kind → (low : ℤ) → Computed → Computed
element_of env n kind low index =
    record { value = clamped kind (number_of env n (unsigned_abs (index.value -ℤ low))); flag = index.flag }

-- The value of a term. A field and an element are read in their types, without a flag; an index is clamped to the
-- bounds, with one.
unfoldable pub value_of : Term → Env → Computed
value_of (c.Literal v) env = plain v
value_of (c.Field n place kind) env = plain (clamped kind (number_of env n place))
value_of (c.Element n kind low high t) env =
    let x = value_of t env in
    flagged x.flag (element_of env n kind low (bounded low high x.value))
value_of (c.Unary o t) env = let x = value_of t env in flagged x.flag (unary o x.value)
value_of (c.Binary o t u) env =
    let x = value_of t env in let y = value_of u env in
    flagged (x.flag || y.flag) (binary o x.value y.value)
value_of (c.Ternary o t u w) env =
    let x = value_of t env in let y = value_of u env in let z = value_of w env in
    flagged ((x.flag || y.flag) || z.flag) (ternary o x.value y.value z.value)
