-- What a written statement is in the core (IEC 61131-3:2013, 7.3.3). ELSIF is an IF within ELSE, and CASE is an IF
-- whose conditions test the labels.
use Rattle.std.specs.Prelude.{ℤ, pos, List, [], ◌∷◌, fold, map, Option, None, Some}
use Rattle.std.specs.Option.{option_map}
use Rattle.function_blocks.specs.declared.kinds.Kind.TheVariants as kind
use Rattle.st_tree.specs.declared.declaration.Integer.{Integer}
use Rattle.st_tree.specs.declared.declaration.DeclaredType.{DeclaredType}
use Rattle.st_tree.specs.declared.statement.Assignment.{Assignment}
use Rattle.st_tree.specs.declared.statement.Input.{Input}
use Rattle.st_tree.specs.declared.statement.BlockCall.{BlockCall}
use Rattle.st_tree.specs.declared.statement.Label.{Label}
use Rattle.st_tree.specs.declared.statement.Statement.{Statement}
use Rattle.st_tree.specs.declared.statement.Statement.TheOpen.{Statement-F}
use Rattle.st_tree.specs.declared.tag.Tag.{Tag}
use Rattle.st_tree.specs.Integers.{integer_value}
use Rattle.st_tree.specs.Listed.{listed}
use Rattle.st_tree.specs.StatementFolds.{StatementSteps, fold_statement}
use Rattle.st_tree.specs.Typing.Statements.{inputs_in}
use Rattle.st_core.specs.Core.{Name, Term, Act}
use Rattle.st_core.specs.Core as c
use Rattle.st_meaning.specs.Types.{type_of, word_type, element_type, low_bound, high_bound, block_of, field_place, field_type}
use Rattle.st_meaning.specs.Expressions.{Elaborated, settled_term, elaborated, term_of, integer_of}

-- ---- acts in a row, and choices

-- One act behind another.
unfoldable pub in_order : List Act → Act
in_order [] = c.Skip
in_order (a ∷ acts) = c.Then a (in_order acts)

-- A condition, and what is done where it holds.
pub record Guarded : Type 0 where
  pub condition : Term
  pub body : Act

-- The first whose condition holds is done, or else the other act.
unfoldable pub choice : List Guarded → Act → Act
choice [] other = other
choice (g ∷ gs) other = c.If g.condition g.body (choice gs other)

-- What stands behind ELSE; nothing where there is no ELSE.
abbrev pub otherwise : Option (List Act) → Act
otherwise None = c.Skip
otherwise (Some acts) = in_order acts

-- ---- assignments (7.3.3.2)

-- name := value, or name[index] := value
abbrev pub set_to : Name → Option DeclaredType → Option Elaborated → Elaborated → Act
set_to n type None value = c.Assign n 0 (word_type type) (value.asked (word_type type))
set_to n type (Some index) value =
    c.AssignElement n (element_type type) (low_bound type) (high_bound type)
    (settled_term index) (value.asked (element_type type))

-- An assignment.
abbrev pub assignment : List Tag → Assignment → Act
assignment tags a =
    set_to a.target.name (type_of tags a.target.name) (option_map (elaborated tags) a.index) (elaborated tags a.value)

-- ---- calls of blocks (6.6.3)

-- An input that a call names: its name, and its value.
pub record Given : Type 0 where
  pub name : Name
  pub value : Elaborated

-- An input of a block is set.
abbrev pub set_input : Name → Option DeclaredType → Given → Act
set_input n type input =
    let b = block_of type in
    c.Assign n (field_place b input.name) (field_type b input.name) (input.value.asked (field_type b input.name))

-- A call sets the inputs that are named, in the order in which they are written, and then the block is stepped.
abbrev pub call_with : Name → Option DeclaredType → List Given → Act
call_with n type inputs = c.Then (in_order (map (set_input n type) inputs)) (c.Invoke (block_of type) n)

-- An input as it is written.
abbrev pub given : List Tag → Input → Given
given tags input = record { name = input.name.name; value = elaborated tags input.value }

-- A call of a block.
abbrev pub block_call : List Tag → BlockCall → Act
block_call tags call =
    call_with call.block.name (type_of tags call.block.name) (map (given tags) (inputs_in call.inputs))

-- ---- CASE (7.3.3.3)

-- The last number that a label holds: that of a range, or its only one.
abbrev pub last_of : Integer → Option Integer → ℤ
last_of low None = integer_value low
last_of low (Some high) = integer_value high

-- The numbers that a label holds: from the first to the last; none where the first is the greater (own rule).
abbrev pub range_of : Label → ℤ × ℤ
range_of l = (integer_value l.low, last_of l.low l.high)

-- Labels, and what is done where one of them holds the selector.
pub record Labelled : Type 0 where
  pub first : ℤ × ℤ
  pub more : List (ℤ × ℤ)
  pub body : Act

-- The selector lies in the range of a label.
abbrev pub within : Term → ℤ × ℤ → Term
within selector range = c.Unary (c.Within range.0 range.1) selector

-- One label more.
abbrev pub or_within : Term → Term → ℤ × ℤ → Term
or_within selector test range = c.Binary c.Or test (within selector range)

-- An element of CASE is done where a label of it holds the selector.
abbrev pub guarded : Term → Labelled → Guarded
guarded selector l =
    record { condition = fold (or_within selector) (within selector l.first) l.more; body = l.body }

-- ---- FOR (7.3.3.4)

-- A step that isn't written is 1.
abbrev pub step_of : Option Integer → ℤ
step_of None = pos 1
step_of (Some i) = integer_value i

-- ---- all statements

-- What a statement is.
abbrev pub statement : List Tag → Statement-F Act Guarded Labelled → Act
statement tags Statement-F.Empty = c.Skip
statement tags (Statement-F.Assignment a) = assignment tags a
statement tags (Statement-F.BlockCall call) = block_call tags call
statement tags (Statement-F.If first more others) = choice (listed first more) (otherwise others)
statement tags (Statement-F.Case selector first more others) =
    choice (map (guarded (integer_of tags selector)) (listed first more)) (otherwise others)
statement tags (Statement-F.For n first last step body) =
    c.For n.name (word_type (type_of tags n.name)) (integer_value first) (integer_value last) (step_of step)
    (in_order body)
statement tags (Statement-F.Exit place) = c.Exit
statement tags Statement-F.Return = c.Return

-- What each part of a statement is, under these tags.
abbrev pub statement_parts : List Tag → StatementSteps Act Guarded Labelled
statement_parts tags = record {
  statement = statement tags;
  branch = λ condition body. record { condition = term_of tags kind.Bool condition; body = in_order body };
  element = λ first more body. record { first = range_of first; more = map range_of more; body = in_order body };
}

-- What a whole statement is, under these tags.
unfoldable pub act_of : List Tag → Statement → Act
act_of tags = fold_statement (statement_parts tags)

-- What statements in a row are.
abbrev pub acts_of : List Tag → List Statement → Act
acts_of tags statements = in_order (map (act_of tags) statements)
