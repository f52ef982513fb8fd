-- What is found of an expression, and what is found of operands that stand together. A rule on an expression is looked
-- at only where its parts break none (own rule).
use Rattle.std.specs.Prelude.{ℕ, Bool, true, false, if◌then◌else◌, List, [], ◌∷◌, ◌++◌, Option, Some, None}
use Rattle.std.specs.List.{flat_map, fold}
use Rattle.tri_base.specs.declared.faults.TypeCause.TheVariants as cause
use Rattle.tri_base.specs.declared.faults.TypeFault.{TypeFault}
use Rattle.function_blocks.specs.declared.kinds.Kind.{Kind}
use Rattle.function_blocks.specs.declared.kinds.Kind.TheVariants as kind
use Rattle.st_tree.specs.declared.declaration.Integer.{Integer}
use Rattle.st_tree.specs.Typing.Faults.{fault}
use Rattle.st_tree.specs.Typing.Literals.{outside}

-- What is found of an expression: the rules that it breaks, of which there is one at least; its type; or, where it has
-- no integers but literals, these, whose type is still open.
pub data Outcome : Type 0 where
  Faulty : TypeFault → List TypeFault → Outcome
  Typed : Kind → Outcome
  Free : List Integer → Outcome

-- an expression: the place of its first token, and what is found of it
pub record Typing : Type 0 where
  pub first : ℕ
  pub outcome : Outcome

-- an expression that begins at this place, and what is found of it
abbrev pub found : ℕ → Outcome → Typing
found first outcome = record { first = first; outcome = outcome }

-- another type than asked for
abbrev pub wrong_type : ℕ → Outcome
wrong_type place = Faulty (fault place cause.WrongType) []

-- ---- faults

-- the rules that it breaks
abbrev pub faults_of : Outcome → List TypeFault
faults_of (Faulty f fs) = f ∷ fs
faults_of (Typed k) = []
faults_of (Free literals) = []

-- the type that it has, if it has one
abbrev pub type_in : Outcome → Option Kind
type_in (Faulty f fs) = None
type_in (Typed k) = Some k
type_in (Free literals) = None

-- the rules that several expressions break
abbrev pub faults_in : List Typing → List TypeFault
faults_in parts = flat_map (λ p. faults_of p.outcome) parts

-- the faults, or else what a rule gives
abbrev pub once_sound : List TypeFault → Outcome → Outcome
once_sound [] rule = rule
once_sound (f ∷ fs) rule = Faulty f fs

-- ---- what a place asks for

-- literals that take this type
abbrev pub fixed : Kind → List Integer → Outcome
fixed k literals = once_sound (outside k literals) (Typed k)

-- the two types are one
abbrev pub same_kind : Kind → Kind → Bool
same_kind kind.Bool kind.Bool = true
same_kind kind.Int kind.Int = true
same_kind kind.Dint kind.Dint = true
same_kind _ _ = false

-- by what is found of it
abbrev pub asked_of : Kind → ℕ → Outcome → Outcome
asked_of k first (Faulty f fs) = Faulty f fs
asked_of k first (Typed own) = if same_kind k own then Typed own else wrong_type first
asked_of kind.Bool first (Free literals) = wrong_type first
asked_of kind.Int first (Free literals) = fixed kind.Int literals
asked_of kind.Dint first (Free literals) = fixed kind.Dint literals

-- an expression at a place that asks for this type, which literals alone take
abbrev pub asked : Kind → Typing → Outcome
asked k part = asked_of k part.first part.outcome

-- by what is found of it
abbrev pub integer_of : ℕ → Outcome → Outcome
integer_of first (Faulty f fs) = Faulty f fs
integer_of first (Typed kind.Bool) = wrong_type first
integer_of first (Typed kind.Int) = Typed kind.Int
integer_of first (Typed kind.Dint) = Typed kind.Dint
integer_of first (Free literals) = fixed kind.Dint literals

-- an expression at a place that asks for an integer of either type; literals alone are DINT
abbrev pub as_integer : Typing → Outcome
as_integer part = integer_of part.first part.outcome

-- ---- operands that stand together

-- each is BOOL
abbrev pub all_bool : List Typing → Outcome
all_bool [] = Typed kind.Bool
all_bool (part ∷ parts) = once_sound (faults_of (asked kind.Bool part)) (all_bool parts)

-- operands of AND, OR, XOR (IEC 61131-3:2013, 7.3.2)
abbrev pub booleans : List Typing → Outcome
booleans parts = once_sound (faults_in parts) (all_bool parts)

-- Integers from the left: the place of the first that has another type than those before it, or is BOOL; or the type
-- that they have, if one of them has a type, and the literals among them.
pub data Join : Type 0 where
  Unlike : ℕ → Join
  Alike : Option Kind → List Integer → Join

-- with one operand more, by what is found of that
abbrev pub joined_part : Option Kind → List Integer → ℕ → Outcome → Join
joined_part k literals first (Free more) = Alike k (literals ++ more)
joined_part k literals first (Faulty f fs) = Alike k literals
joined_part k literals first (Typed kind.Bool) = Unlike first
joined_part None literals first (Typed own) = Alike (Some own) literals
joined_part (Some k) literals first (Typed own) = if same_kind k own then Alike (Some k) literals else Unlike first

-- with one operand more
abbrev pub joined : Join → Typing → Join
joined (Unlike place) part = Unlike place
joined (Alike k literals) part = joined_part k literals part.first part.outcome

-- the type of all of them, which the literals take; literals alone stay open
abbrev pub settled : Join → Outcome
settled (Unlike place) = wrong_type place
settled (Alike (Some kind.Int) literals) = fixed kind.Int literals
settled (Alike (Some kind.Dint) literals) = fixed kind.Dint literals
settled (Alike _ literals) = Free literals

-- operands that are integers of one type (IEC 61131-3:2013, 7.3.2)
abbrev pub integers : List Typing → Outcome
integers parts = once_sound (faults_in parts) (settled (fold joined (Alike None []) parts))

-- by what is found of the first of two
abbrev pub alike_by : Outcome → List Typing → Outcome
alike_by (Typed kind.Bool) parts = booleans parts
alike_by _ parts = integers parts

-- two operands that are BOOL, or integers of one type
abbrev pub alike : Typing → Typing → Outcome
alike left right = alike_by left.outcome (left ∷ right ∷ [])

-- a comparison of such is BOOL; literals alone are compared as DINT
abbrev pub compared : Outcome → Outcome
compared (Faulty f fs) = Faulty f fs
compared (Typed k) = Typed kind.Bool
compared (Free literals) = once_sound (outside kind.Dint literals) (Typed kind.Bool)

-- operands in a row, grouped to the left (IEC 61131-3:2013, 7.3.2)
abbrev pub chain : (Typing → Typing → Outcome) → Typing → List Typing → Typing
chain rule first more = fold (λ left right. found left.first (rule left right)) first more

-- two operands of AND, OR, XOR
abbrev pub both_bool : Typing → Typing → Outcome
both_bool left right = booleans (left ∷ right ∷ [])

-- two operands of an arithmetic operator
abbrev pub both_integer : Typing → Typing → Outcome
both_integer left right = integers (left ∷ right ∷ [])

-- two operands of = or <>
abbrev pub compared_alike : Typing → Typing → Outcome
compared_alike left right = compared (alike left right)

-- two operands of <, >, <= or >=
abbrev pub compared_integers : Typing → Typing → Outcome
compared_integers left right = compared (both_integer left right)
