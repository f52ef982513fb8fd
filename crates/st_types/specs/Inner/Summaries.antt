-- Nobody has to believe what stands here: it serves private functions alone.
-- What the checker keeps of an expression: of all its faults the first, and of its literals the first that lies outside
-- each type. And each rule a second time, on what is kept.
use Rattle.std.specs.Prelude.{ℕ, if◌then◌else◌, List, Option, Some, None}
use Rattle.std.specs.List.{fold}
use Rattle.tri_base.specs.declared.faults.TypeCause.{TypeCause}
use Rattle.tri_base.specs.declared.faults.TypeCause.TheVariants as cause
use Rattle.tri_base.specs.declared.faults.TypeFault.{TypeFault}
use Rattle.function_blocks.specs.declared.kinds.Kind.{Kind}
use Rattle.function_blocks.specs.declared.kinds.Kind.TheVariants as kind
use Rattle.st_tree.specs.declared.declaration.PlacedName.{PlacedName}
use Rattle.st_tree.specs.declared.declaration.Integer.{Integer}
use Rattle.st_tree.specs.declared.declaration.DeclaredType.{DeclaredType}
use Rattle.st_tree.specs.declared.declaration.DeclaredType.TheVariants as declared
use Rattle.st_tree.specs.declared.tag.Tag.{Tag}
use Rattle.st_tree.specs.declared.expression.Function.{Function}
use Rattle.st_tree.specs.declared.expression.Function.TheVariants as function
use Rattle.st_types.specs.declared.finding.Misfits.{Misfits}
use Rattle.st_types.specs.declared.finding.Finding.{Finding}
use Rattle.st_types.specs.declared.finding.Finding.TheVariants as finding
use Rattle.st_types.specs.declared.finding.Checked.{Checked}
use Rattle.st_types.specs.declared.finding.CheckedPrimary.{CheckedPrimary}
use Rattle.st_types.specs.declared.finding.CheckedPrimary.TheVariants as primary
use Rattle.st_types.specs.declared.join.Joint.{Joint}
use Rattle.st_types.specs.declared.join.Joint.TheVariants as joint
use Rattle.st_tree.specs.Typing.Faults.{fault, sooner, first_of}
use Rattle.st_types.specs.Inner.Firsts.{soonest}
use Rattle.st_tree.specs.Typing.Operands as operand
use Rattle.st_tree.specs.Typing.Operands.{Outcome, Typing, Join, same_kind}
use Rattle.st_tree.specs.Typing.Expressions as expression
use Rattle.st_tree.specs.Typing.Expressions.{PrimaryTyping, plain_literal, negated_literal}
use Rattle.st_tree.specs.Typing.Literals.{range_faults, outside}

-- of these literals the first outside each type
abbrev pub misfits_of : List Integer → Misfits
misfits_of literals =
    record { int = first_of (outside kind.Int literals); dint = first_of (outside kind.Dint literals) }

-- what is kept of what is known of an expression
abbrev pub finding_of : Outcome → Finding
finding_of (operand.Faulty f fs) = finding.Faulty (fold sooner f fs)
finding_of (operand.Typed k) = finding.Typed k
finding_of (operand.Free literals) = finding.Free (misfits_of literals)

-- what is kept of an expression
abbrev pub checked_of : Typing → Checked
checked_of t = record { first = t.first; finding = finding_of t.outcome }

-- what is kept of a primary
abbrev pub primary_of : PrimaryTyping → CheckedPrimary
primary_of (expression.NumberToken number place) = primary.NumberToken number place
primary_of (expression.Other t) = primary.Other (checked_of t)

-- what is kept of a join
abbrev pub joint_of : Join → Joint
joint_of (operand.Unlike place) = joint.Unlike place
joint_of (operand.Alike k literals) = joint.Alike k (misfits_of literals)

-- ---- the rules on what is kept

-- the first rule that is broken, if one is
abbrev pub fault_of : Finding → Option TypeFault
fault_of (finding.Faulty f) = Some f
fault_of (finding.Typed k) = None
fault_of (finding.Free m) = None

-- the type, if there is one
abbrev pub kind_of : Finding → Option Kind
kind_of (finding.Faulty f) = None
kind_of (finding.Typed k) = Some k
kind_of (finding.Free m) = None

-- a rule that is looked at only where there is no fault before it
abbrev pub unless : Option TypeFault → Finding → Finding
unless (Some f) rule = finding.Faulty f
unless None rule = rule

-- a rule that is broken at a place
abbrev pub broken : ℕ → TypeCause → Finding
broken place c = finding.Faulty (fault place c)

-- another type than asked for
abbrev pub wrong_type : ℕ → Finding
wrong_type place = broken place cause.WrongType

-- what two parts break first
abbrev pub fault_of_two : Checked → Checked → Option TypeFault
fault_of_two left right = soonest (fault_of left.finding) (fault_of right.finding)

-- a part that begins at this place, where this type is asked for
abbrev pub asked_of : Kind → ℕ → Finding → Finding
asked_of k first (finding.Faulty f) = finding.Faulty f
asked_of k first (finding.Typed own) = if same_kind k own then finding.Typed own else wrong_type first
asked_of kind.Bool first (finding.Free m) = wrong_type first
asked_of kind.Int first (finding.Free m) = unless m.int (finding.Typed kind.Int)
asked_of kind.Dint first (finding.Free m) = unless m.dint (finding.Typed kind.Dint)

-- a part, where this type is asked for
abbrev pub asked : Kind → Checked → Finding
asked k part = asked_of k part.first part.finding

-- a part that begins at this place, where an integer is asked for; literals alone are DINT
abbrev pub integer_of : ℕ → Finding → Finding
integer_of first (finding.Faulty f) = finding.Faulty f
integer_of first (finding.Typed kind.Bool) = wrong_type first
integer_of first (finding.Typed kind.Int) = finding.Typed kind.Int
integer_of first (finding.Typed kind.Dint) = finding.Typed kind.Dint
integer_of first (finding.Free m) = unless m.dint (finding.Typed kind.Dint)

-- a part, where an integer is asked for
abbrev pub as_integer : Checked → Finding
as_integer part = integer_of part.first part.finding

-- of the literals of two parts the first outside each type
abbrev pub merged : Misfits → Misfits → Misfits
merged m n = record { int = soonest m.int n.int; dint = soonest m.dint n.dint }

-- no literal lies outside a type
abbrev pub no_misfits : Misfits
no_misfits = record { int = None; dint = None }

-- integers that are joined so far, and one part more, which begins at this place
abbrev pub joined_part : Option Kind → Misfits → ℕ → Finding → Joint
joined_part k m first (finding.Free n) = joint.Alike k (merged m n)
joined_part k m first (finding.Faulty f) = joint.Alike k m
joined_part k m first (finding.Typed kind.Bool) = joint.Unlike first
joined_part None m first (finding.Typed own) = joint.Alike (Some own) m
joined_part (Some k) m first (finding.Typed own) =
    if same_kind k own then joint.Alike (Some k) m else joint.Unlike first

-- integers that are joined so far, and one part more
abbrev pub joined : Joint → Checked → Joint
joined (joint.Unlike place) part = joint.Unlike place
joined (joint.Alike k m) part = joined_part k m part.first part.finding

-- the type that all parts have, which the literals take
abbrev pub settled : Joint → Finding
settled (joint.Unlike place) = wrong_type place
settled (joint.Alike (Some kind.Int) m) = unless m.int (finding.Typed kind.Int)
settled (joint.Alike (Some kind.Dint) m) = unless m.dint (finding.Typed kind.Dint)
settled (joint.Alike _ m) = finding.Free m

-- no integers yet
abbrev pub start : Joint
start = joint.Alike None no_misfits

-- one integer
abbrev pub integer_of_one : Checked → Finding
integer_of_one part = unless (fault_of part.finding) (settled (joined start part))

-- two integers of one type
abbrev pub integers : Checked → Checked → Finding
integers left right = unless (fault_of_two left right) (settled (joined (joined start left) right))

-- a rule that is looked at only where what goes before is sound
abbrev pub when_sound : Finding → Finding → Finding
when_sound (finding.Faulty f) more = finding.Faulty f
when_sound _ more = more

-- two sound parts that are asked to be BOOL, the left one first
abbrev pub both_bool : Checked → Checked → Finding
both_bool left right = when_sound (asked kind.Bool left) (when_sound (asked kind.Bool right) (finding.Typed kind.Bool))

-- two BOOL
abbrev pub booleans : Checked → Checked → Finding
booleans left right = unless (fault_of_two left right) (both_bool left right)

-- two BOOL where the left one is, else two integers of one type
abbrev pub alike_by : Finding → Checked → Checked → Finding
alike_by (finding.Typed kind.Bool) left right = booleans left right
alike_by _ left right = integers left right

-- two BOOL, or two integers of one type
abbrev pub alike : Checked → Checked → Finding
alike left right = alike_by left.finding left right

-- a comparison is BOOL; literals alone are compared as DINT
abbrev pub compared : Finding → Finding
compared (finding.Faulty f) = finding.Faulty f
compared (finding.Typed k) = finding.Typed kind.Bool
compared (finding.Free m) = unless m.dint (finding.Typed kind.Bool)

-- a literal alone
abbrev pub literal : Integer → Finding
literal i =
    finding.Free (record { int = first_of (range_faults kind.Int i); dint = first_of (range_faults kind.Dint i) })

-- a primary without a sign
abbrev pub unsigned : CheckedPrimary → Checked
unsigned (primary.NumberToken number place) = record { first = place; finding = literal (plain_literal number place) }
unsigned (primary.Other part) = part

-- a primary behind a minus sign, which stands at this place
abbrev pub negated : ℕ → CheckedPrimary → Checked
negated at (primary.NumberToken number place) =
    record { first = at; finding = literal (negated_literal at number place) }
negated at (primary.Other part) = record { first = at; finding = integer_of_one part }

-- what three parts break first
abbrev pub fault_of_three : Checked → Checked → Checked → Option TypeFault
fault_of_three a b c = soonest (fault_of_two a b) (fault_of c.finding)

-- three integers of one type
abbrev pub integers_of_three : Checked → Checked → Checked → Finding
integers_of_three a b c = unless (fault_of_three a b c) (settled (joined (joined (joined start a) b) c))

-- another number of arguments
abbrev pub wrong_count : ℕ → Finding
wrong_count place = broken place cause.ArgumentCount

-- a conversion asks for one type and gives the other
abbrev pub converted : Kind → Kind → Checked → Finding
converted from to a = when_sound (asked from a) (finding.Typed to)

-- SEL of its three arguments
abbrev pub selected : Checked → Checked → Checked → Finding
selected a b c = unless (fault_of_three a b c) (when_sound (asked kind.Bool a) (alike b c))

-- a function of one argument
abbrev pub of_one : Function → ℕ → Checked → Finding
of_one function.Abs place a = integer_of_one a
of_one function.IntToDint place a = converted kind.Int kind.Dint a
of_one function.DintToInt place a = converted kind.Dint kind.Int a
of_one _ place a = unless (fault_of a.finding) (wrong_count place)

-- a function of two arguments
abbrev pub of_two : Function → ℕ → Checked → Checked → Finding
of_two function.Min place a b = integers a b
of_two function.Max place a b = integers a b
of_two _ place a b = unless (fault_of_two a b) (wrong_count place)

-- a function of three arguments
abbrev pub of_three : Function → ℕ → Checked → Checked → Checked → Finding
of_three function.Limit place a b c = integers_of_three a b c
of_three function.Sel place a b c = selected a b c
of_three _ place a b c = unless (fault_of_three a b c) (wrong_count place)

-- an element of a tag that is declared so
abbrev pub value_of_element : PlacedName → Checked → DeclaredType → Finding
value_of_element n index (declared.Simple k) = wrong_type n.place
value_of_element n index (declared.Array low high k) = when_sound (as_integer index) (finding.Typed k)
value_of_element n index (declared.Block b) = wrong_type n.place

-- an element of the tag that a name means
abbrev pub element_value : PlacedName → Checked → Option Tag → Finding
element_value n index None = broken n.place cause.UnknownName
element_value n index (Some tag) = value_of_element n index tag.declared
