-- The typing rules that a statement breaks (IEC 61131-3:2013, 7.3.3).
use Rattle.std.specs.Prelude.{ℕ, pos, Bool, ◌&&◌, List, [], ◌∷◌, ◌++◌, length, ◌==◌, Option, Some, None}
use Rattle.std.specs.List.{flat_map, list_any}
use Rattle.std.specs.Ordering.{int_eq}
use Rattle.std.specs.Str.{bytes_eq}
use Rattle.tri_base.specs.declared.point.Point.{Point}
use Rattle.tri_base.specs.declared.faults.TypeCause.TheVariants as cause
use Rattle.tri_base.specs.declared.faults.TypeFault.{TypeFault}
use Rattle.function_blocks.specs.declared.kinds.Kind.{Kind}
use Rattle.function_blocks.specs.declared.kinds.Kind.TheVariants as kind
use Rattle.function_blocks.specs.declared.blocks.BlockKind.{BlockKind}
use Rattle.function_blocks.specs.Fields.{input_named}
use Rattle.st_tree.specs.declared.declaration.PlacedName.{PlacedName}
use Rattle.st_tree.specs.declared.declaration.Integer.{Integer}
use Rattle.st_tree.specs.declared.declaration.DeclaredType.{DeclaredType}
use Rattle.st_tree.specs.declared.declaration.DeclaredType.TheVariants as declared
use Rattle.st_tree.specs.declared.expression.Expr.{Expr}
use Rattle.st_tree.specs.declared.statement.Assignment.{Assignment}
use Rattle.st_tree.specs.declared.statement.Input.{Input}
use Rattle.st_tree.specs.declared.statement.Inputs.{Inputs}
use Rattle.st_tree.specs.declared.statement.Label.{Label}
use Rattle.st_tree.specs.declared.statement.Statement.{Statement}
use Rattle.st_tree.specs.declared.statement.Statement.TheOpen.{Statement-F}
use Rattle.st_tree.specs.declared.tag.Tag.{Tag}
use Rattle.st_tree.specs.Listed.{listed, inputs_of}
use Rattle.st_tree.specs.Integers.{integer_value, integer_place}
use Rattle.st_tree.specs.Tags.{tag_named}
use Rattle.st_tree.specs.StatementFolds.{StatementSteps, fold_statement}
use Rattle.st_tree.specs.Typing.Faults.{fault, fault_if}
use Rattle.st_tree.specs.Typing.Points.{is_input_point}
use Rattle.st_tree.specs.Typing.Literals.{range_faults}
use Rattle.st_tree.specs.Typing.Operands.{faults_of, type_in, asked, as_integer}
use Rattle.st_tree.specs.Typing.Expressions.{typing_of}

-- What the statements of a program are judged by.
pub record Scope : Type 0 where
  pub points : List Point
  pub tags : List Tag

-- the names of the tags that the FOR loops around a statement count with, the outermost first
abbrev pub Loops : Type 0
Loops = List (List ℕ)

-- an expression at a place that asks for this type
abbrev pub value_faults : List Tag → Kind → Expr → List TypeFault
value_faults tags k e = faults_of (asked k (typing_of tags e))

-- an expression at a place that asks for an integer of either type
abbrev pub integer_faults : List Tag → Expr → List TypeFault
integer_faults tags e = faults_of (as_integer (typing_of tags e))

-- a name that isn't declared
abbrev pub unknown_faults : PlacedName → List TypeFault
unknown_faults n = fault n.place cause.UnknownName ∷ []

-- a tag of another sort than asked for
abbrev pub wrong_faults : PlacedName → List TypeFault
wrong_faults n = fault n.place cause.WrongType ∷ []

-- ---- assignments (7.3.3.2)

-- the tag is that of an input point
abbrev pub is_input_tag : List Point → Tag → Bool
is_input_tag points tag = tag.external && is_input_point points tag.name

-- a loop around counts with the tag of this name
abbrev pub in_loop : Loops → List ℕ → Bool
in_loop loops name = list_any (bytes_eq name) loops

-- a tag of one word that is set, by an assignment or a loop
abbrev pub setting_faults : List Point → Loops → PlacedName → Tag → List TypeFault
setting_faults points loops n tag =
    fault_if (is_input_tag points tag) n.place cause.NotAssignable
    ++ fault_if (in_loop loops n.name) n.place cause.LoopTag

-- name := value
abbrev pub plain_faults : List Point → List Tag → Loops → PlacedName → Expr → Tag → DeclaredType → List TypeFault
plain_faults points tags loops n value tag (declared.Simple k) =
    setting_faults points loops n tag ++ value_faults tags k value
plain_faults points tags loops n value tag (declared.Array low high k) = wrong_faults n
plain_faults points tags loops n value tag (declared.Block b) = wrong_faults n

-- name[index] := value
abbrev pub element_faults : List Tag → PlacedName → Expr → Expr → DeclaredType → List TypeFault
element_faults tags n index value (declared.Simple k) = wrong_faults n
element_faults tags n index value (declared.Array low high k) = integer_faults tags index ++ value_faults tags k value
element_faults tags n index value (declared.Block b) = wrong_faults n

-- either, by the tag that the name means
abbrev pub set_faults : List Point → List Tag → Loops → PlacedName → Option Expr → Expr → Option Tag → List TypeFault
set_faults points tags loops n index value None = unknown_faults n
set_faults points tags loops n None value (Some tag) = plain_faults points tags loops n value tag tag.declared
set_faults points tags loops n (Some index) value (Some tag) = element_faults tags n index value tag.declared

-- the rules that an assignment breaks
abbrev pub assignment_faults : List Point → List Tag → Loops → Assignment → List TypeFault
assignment_faults points tags loops a =
    set_faults points tags loops a.target a.index a.value (tag_named tags a.target.name)

-- ---- calls of blocks (6.6.3)

-- a field that is no input of the block
abbrev pub bad_field_faults : PlacedName → List TypeFault
bad_field_faults n = fault n.place cause.BadField ∷ []

-- an input that is named again or not, with its value
abbrev pub input_faults : List Tag → Bool → PlacedName → Expr → Option Kind → List TypeFault
input_faults tags again n value None = bad_field_faults n
input_faults tags again n value (Some k) = fault_if again n.place cause.Twice ++ value_faults tags k value

-- inputs behind others, which have these names
abbrev pub inputs_faults : List Tag → BlockKind → List (List ℕ) → List Input → List TypeFault
inputs_faults tags b named [] = []
inputs_faults tags b named (i ∷ inputs) =
    input_faults tags (list_any (bytes_eq i.name.name) named) i.name i.value (input_named b i.name.name)
    ++ inputs_faults tags b (named ++ i.name.name ∷ []) inputs

-- the inputs of a call, if there are any
abbrev pub inputs_in : Option Inputs → List Input
inputs_in None = []
inputs_in (Some inputs) = inputs_of inputs

-- only a block is called
abbrev pub called_faults : List Tag → PlacedName → Option Inputs → DeclaredType → List TypeFault
called_faults tags n inputs (declared.Simple k) = wrong_faults n
called_faults tags n inputs (declared.Array low high k) = wrong_faults n
called_faults tags n inputs (declared.Block b) = inputs_faults tags b [] (inputs_in inputs)

-- the rules that a call breaks, by the tag that the name means
abbrev pub call_faults : List Tag → PlacedName → Option Inputs → Option Tag → List TypeFault
call_faults tags n inputs None = unknown_faults n
call_faults tags n inputs (Some tag) = called_faults tags n inputs tag.declared

-- ---- CASE (7.3.3.3)

-- the upper end of a label that has one
abbrev pub end_faults : Kind → Option Integer → List TypeFault
end_faults k None = []
end_faults k (Some high) = range_faults k high

-- a label, for a selector of this type
abbrev pub label_faults : Kind → Label → List TypeFault
label_faults k l = range_faults k l.low ++ end_faults k l.high

-- labels; none is judged where the selector has no type
abbrev pub labels_faults : Option Kind → List Label → List TypeFault
labels_faults (Some k) labels = flat_map (label_faults k) labels
labels_faults None labels = []

-- ---- FOR (7.3.3.4)

-- a step isn't 0
abbrev pub step_faults : Kind → Option Integer → List TypeFault
step_faults k None = []
step_faults k (Some step) =
    fault_if (int_eq (integer_value step) (pos 0)) (integer_place step) cause.ZeroStep ++ range_faults k step

-- the numbers of a loop that counts with a tag of this type
abbrev pub bounds_faults : Kind → Integer → Integer → Option Integer → List TypeFault
bounds_faults k first last step = range_faults k first ++ range_faults k last ++ step_faults k step

-- a loop counts with an integer
abbrev pub counted_faults : List Point → Loops → PlacedName → Integer → Integer → Option Integer → Tag → DeclaredType
    → List TypeFault
counted_faults points loops n first last step tag (declared.Simple kind.Bool) = wrong_faults n
counted_faults points loops n first last step tag (declared.Simple kind.Int) =
    setting_faults points loops n tag ++ bounds_faults kind.Int first last step
counted_faults points loops n first last step tag (declared.Simple kind.Dint) =
    setting_faults points loops n tag ++ bounds_faults kind.Dint first last step
counted_faults points loops n first last step tag (declared.Array low high k) = wrong_faults n
counted_faults points loops n first last step tag (declared.Block b) = wrong_faults n

-- the rules that FOR breaks outside its body, by the tag that the name means
abbrev pub for_faults : List Point → Loops → PlacedName → Integer → Integer → Option Integer → Option Tag
    → List TypeFault
for_faults points loops n first last step None = unknown_faults n
for_faults points loops n first last step (Some tag) = counted_faults points loops n first last step tag tag.declared

-- EXIT stands within a loop
abbrev pub exit_faults : Loops → ℕ → List TypeFault
exit_faults loops place = fault_if (length loops == 0) place cause.ExitOutside

-- ---- statements

-- the rules that a statement breaks, by the loops around it
abbrev pub Checks : Type 0
Checks = Loops → List TypeFault

-- the rules that an element of CASE breaks, also by the selector's type, if it has one
abbrev pub ElementChecks : Type 0
ElementChecks = Option Kind → Loops → List TypeFault

-- those of each of several statements or branches
abbrev pub each_in : List Checks → Checks
each_in checks loops = flat_map (λ (check : Checks). check loops) checks

-- those of the statements behind ELSE
abbrev pub otherwise_in : Option (List Checks) → Checks
otherwise_in None loops = []
otherwise_in (Some checks) loops = each_in checks loops

-- those of each element, for a selector of this type
abbrev pub elements_in : Option Kind → List ElementChecks → Checks
elements_in selector elements loops = flat_map (λ (check : ElementChecks). check selector loops) elements

-- The rules that each statement breaks, with those inside. The selector of CASE is an integer. Within the body of FOR
-- its tag is one that a loop counts with.
abbrev pub statement_checks : Scope → Statement-F Checks Checks ElementChecks → Checks
statement_checks s Statement-F.Empty loops = []
statement_checks s (Statement-F.Assignment a) loops = assignment_faults s.points s.tags loops a
statement_checks s (Statement-F.BlockCall c) loops =
    call_faults s.tags c.block c.inputs (tag_named s.tags c.block.name)
statement_checks s (Statement-F.If first more others) loops =
    first loops ++ each_in more loops ++ otherwise_in others loops
statement_checks s (Statement-F.Case selector first more others) loops =
    let found = as_integer (typing_of s.tags selector) in
    faults_of found ++ first (type_in found) loops ++ elements_in (type_in found) more loops
    ++ otherwise_in others loops
statement_checks s (Statement-F.For tag first last step body) loops =
    for_faults s.points loops tag first last step (tag_named s.tags tag.name) ++ each_in body (loops ++ tag.name ∷ [])
statement_checks s (Statement-F.Exit place) loops = exit_faults loops place
statement_checks s Statement-F.Return loops = []

-- the rules that a branch of IF breaks; its condition is BOOL
abbrev pub branch_checks : Scope → Expr → List Checks → Checks
branch_checks s condition body loops = value_faults s.tags kind.Bool condition ++ each_in body loops

-- the rules that an element breaks
abbrev pub element_checks : Label → List Label → List Checks → ElementChecks
element_checks first more body selector loops = labels_faults selector (listed first more) ++ each_in body loops

-- the rules that each part of a statement breaks
abbrev pub statement_rules : Scope → StatementSteps Checks Checks ElementChecks
statement_rules s = record {
  statement = statement_checks s;
  branch = branch_checks s;
  element = element_checks;
}

-- the rules that a statement within these loops breaks
abbrev pub statement_faults : Scope → Loops → Statement → List TypeFault
statement_faults s loops statement = fold_statement (statement_rules s) statement loops
