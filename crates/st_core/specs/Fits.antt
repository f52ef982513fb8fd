-- Which acts can be code of the machine: those of well-typed programs whose nesting is within its limit.
use Rattle.std.specs.Prelude.{◌≡◌, ◌≢◌, ℕ, ◌+◌, ◌<◌, ◌≤◌, max, ℤ, pos, ◌-ℤ◌, unsigned_abs, List, [], ◌∷◌}
use Rattle.function_blocks.specs.declared.kinds.Kind.{Kind}
use Rattle.function_blocks.specs.Values.{IsOperand}
use Rattle.function_blocks.specs.Fields.{field_count}
use Rattle.scan_machine.specs.Rules.{IsOf, AreBounds, operand_limit}
use Rattle.st_core.specs.Core.{Name, UnaryOperator, Term, Act}
use Rattle.st_core.specs.Core as c
use Rattle.st_core.specs.Memory.{Shape, count_of}

-- ---- terms

-- How many operands wait at most while a term is evaluated, its value among them.
unfoldable pub height_of : Term → ℕ
height_of (c.Literal v) = 1
height_of (c.Field n place kind) = 1
height_of (c.Element n kind low high t) = height_of t
height_of (c.Unary o t) = height_of t
height_of (c.Binary o t u) = max (height_of t) (height_of u + 1)
height_of (c.Ternary o t u w) = max (height_of t) (max (height_of u + 1) (height_of w + 2))

-- An array with these bounds, of which all words are there.
pub record HasArray (shape : Shape) (n : Name) (low high : ℤ) : Type 0 where
  pub bounds : AreBounds low high
  pub there : unsigned_abs (high -ℤ low) < count_of n shape

-- The numbers of a label can be constants.
abbrev pub OperatorFits : UnaryOperator → Type 0
OperatorFits (c.Within first last) = IsOperand first × IsOperand last
OperatorFits _ = Unit {0}

-- The numbers of a term can be constants, and its fields and arrays are there.
unfoldable pub TermFits : Shape → Term → Type 0
TermFits shape (c.Literal v) = IsOperand v
TermFits shape (c.Field n place kind) = place < count_of n shape
TermFits shape (c.Element n kind low high t) = HasArray shape n low high × TermFits shape t
TermFits shape (c.Unary o t) = OperatorFits o × TermFits shape t
TermFits shape (c.Binary o t u) = TermFits shape t × TermFits shape u
TermFits shape (c.Ternary o t u w) = TermFits shape t × TermFits shape u × TermFits shape w

-- A term fits behind so many waiting operands, where with these no more wait than the machine has room for.
abbrev pub Fits : Shape → ℕ → Term → Type 0
Fits shape waiting t = TermFits shape t × (waiting + height_of t ≤ operand_limit)

-- ---- acts

-- The name is none of these.
unfoldable pub IsFree : Name → List Name → Type 0
IsFree n [] = Unit {0}
IsFree n (m ∷ ms) = (n ≢ m) × IsFree n ms

-- The numbers of a loop are values of its tag's type, the tag is there, and the step isn't 0.
pub record LoopFits (shape : Shape) (n : Name) (kind : Kind) (first last step : ℤ) : Type 0 where
  pub there : 0 < count_of n shape
  pub first_is : IsOf kind first
  pub last_is : IsOf kind last
  pub step_is : IsOf kind step
  pub some : step ≢ pos 0

-- An act within loops that count with these tags: it sets none of them, EXIT stands within a loop, its terms fit, and
-- its tags have their words.
unfoldable pub ActFits : Shape → List Name → Act → Type 0
ActFits shape loops c.Skip = Unit {0}
ActFits shape loops (c.Then a b) = ActFits shape loops a × ActFits shape loops b
ActFits shape loops (c.Assign n place kind t) = IsFree n loops × (place < count_of n shape) × Fits shape 0 t
ActFits shape loops (c.AssignElement n kind low high t u) =
    IsFree n loops × HasArray shape n low high × Fits shape 0 t × Fits shape 1 u
ActFits shape loops (c.Invoke kind n) = IsFree n loops × (count_of n shape ≡ field_count kind)
ActFits shape loops (c.If t a b) = Fits shape 0 t × ActFits shape loops a × ActFits shape loops b
ActFits shape loops (c.For n kind first last step a) =
    IsFree n loops × LoopFits shape n kind first last step × ActFits shape (n ∷ loops) a
ActFits shape loops c.Exit = loops ≢ []
ActFits shape loops c.Return = Unit {0}

-- ---- what of this typing gives, and what the limit of nesting gives

-- As ActFits, with nothing said of waiting operands: this is what typing gives.
unfoldable pub IsSound : Shape → List Name → Act → Type 0
IsSound shape loops c.Skip = Unit {0}
IsSound shape loops (c.Then a b) = IsSound shape loops a × IsSound shape loops b
IsSound shape loops (c.Assign n place kind t) = IsFree n loops × (place < count_of n shape) × TermFits shape t
IsSound shape loops (c.AssignElement n kind low high t u) =
    IsFree n loops × HasArray shape n low high × TermFits shape t × TermFits shape u
IsSound shape loops (c.Invoke kind n) = IsFree n loops × (count_of n shape ≡ field_count kind)
IsSound shape loops (c.If t a b) = TermFits shape t × IsSound shape loops a × IsSound shape loops b
IsSound shape loops (c.For n kind first last step a) =
    IsFree n loops × LoopFits shape n kind first last step × IsSound shape (n ∷ loops) a
IsSound shape loops c.Exit = loops ≢ []
IsSound shape loops c.Return = Unit {0}

-- No term has too many operands waiting: this is what the limit of nesting gives.
unfoldable pub StaysLow : Act → Type 0
StaysLow c.Skip = Unit {0}
StaysLow (c.Then a b) = StaysLow a × StaysLow b
StaysLow (c.Assign n place kind t) = height_of t ≤ operand_limit
StaysLow (c.AssignElement n kind low high t u) = (height_of t ≤ operand_limit) × (1 + height_of u ≤ operand_limit)
StaysLow (c.Invoke kind n) = Unit {0}
StaysLow (c.If t a b) = (height_of t ≤ operand_limit) × StaysLow a × StaysLow b
StaysLow (c.For n kind first last step a) = StaysLow a
StaysLow c.Exit = Unit {0}
StaysLow c.Return = Unit {0}
