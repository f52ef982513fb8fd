-- Nobody has to believe what stands here: it serves private functions alone.
-- The rules that the parts of a program break, as the checker goes through them.
use Rattle.std.specs.Prelude.{ℕ, Bool, List, [], ◌∷◌, ◌++◌, map, Option, Some, None}
use Rattle.std.specs.List.{flat_map}
use Rattle.tri_base.specs.declared.point.Point.{Point}
use Rattle.tri_base.specs.declared.faults.TypeFault.{TypeFault}
use Rattle.function_blocks.specs.declared.kinds.Kind.{Kind}
use Rattle.function_blocks.specs.declared.blocks.BlockKind.{BlockKind}
use Rattle.function_blocks.specs.Fields.{input_named}
use Rattle.st_tree.specs.declared.declaration.Integer.{Integer}
use Rattle.st_tree.specs.declared.declaration.PlacedName.{PlacedName}
use Rattle.st_tree.specs.declared.declaration.Constant.{Constant}
use Rattle.st_tree.specs.declared.declaration.DeclaredType.{DeclaredType}
use Rattle.st_tree.specs.declared.declaration.Names.{Names}
use Rattle.st_tree.specs.declared.expression.Arguments.{Arguments}
use Rattle.st_tree.specs.declared.statement.BlockCall.{BlockCall}
use Rattle.st_tree.specs.declared.statement.Branch.{Branch}
use Rattle.st_tree.specs.declared.statement.Element.{Element}
use Rattle.st_tree.specs.declared.statement.Input.{Input}
use Rattle.st_tree.specs.declared.statement.Statement.{Statement}
use Rattle.st_tree.specs.declared.tag.Tag.{Tag}
use Rattle.st_tree.specs.Listed.{names_of}
use Rattle.st_tree.specs.Tags.{tag_of, tag_named}
use Rattle.st_tree.specs.ExpressionFolds.{fold_arguments}
use Rattle.st_tree.specs.StatementFolds.{fold_branch, fold_element}
use Rattle.st_tree.specs.Typing.Operands.{Typing}
use Rattle.st_tree.specs.Typing.Expressions.{expression_types}
use Rattle.st_tree.specs.Typing.Statements as rule
use Rattle.st_tree.specs.Typing.Statements.{Scope, Loops, statement_rules, statement_faults}

-- the tags of the names of one declaration
abbrev pub tags_of_names : Bool → DeclaredType → Option Constant → Names → List Tag
tags_of_names external declared constant names = map (tag_of external declared constant) (names_of names)

-- the arguments of a function
abbrev pub arguments_of : List Tag → Arguments → List Typing
arguments_of tags arguments = fold_arguments (expression_types tags) arguments

-- these points and tags
abbrev pub scope : List Point → List Tag → Scope
scope points tags = record { points = points; tags = tags }

-- statements
abbrev pub statements_faults : Scope → Loops → List Statement → List TypeFault
statements_faults s loops statements = flat_map (statement_faults s loops) statements

-- a branch of IF
abbrev pub branch_faults : Scope → Loops → Branch → List TypeFault
branch_faults s loops branch = fold_branch (statement_rules s) branch loops

-- branches of IF
abbrev pub branches_faults : Scope → Loops → List Branch → List TypeFault
branches_faults s loops branches = flat_map (branch_faults s loops) branches

-- an element of CASE
abbrev pub element_faults : Scope → Option Kind → Loops → Element → List TypeFault
element_faults s kind loops element = fold_element (statement_rules s) element kind loops

-- elements of CASE
abbrev pub elements_faults : Scope → Option Kind → Loops → List Element → List TypeFault
elements_faults s kind loops elements = flat_map (element_faults s kind loops) elements

-- the statements behind ELSE, if it is written
abbrev pub behind_else : Option (List Statement) → List Statement
behind_else None = []
behind_else (Some body) = body

-- the body of a FOR that counts with the tag of this name
abbrev pub loop_faults : Scope → Loops → List ℕ → List Statement → List TypeFault
loop_faults s loops name body = statements_faults s (loops ++ name ∷ []) body

-- the tag and the numbers of FOR
abbrev pub for_faults : Scope → Loops → PlacedName → (first last : Integer) → Option Integer → List TypeFault
for_faults s loops n first last step = rule.for_faults s.points loops n first last step (tag_named s.tags n.name)

-- a call of a block
abbrev pub call_faults : List Tag → BlockCall → List TypeFault
call_faults tags call = rule.call_faults tags call.block call.inputs (tag_named tags call.block.name)

-- an input of a call, which is named again or not
abbrev pub input_faults : List Tag → BlockKind → Bool → Input → List TypeFault
input_faults tags block again input =
    rule.input_faults tags again input.name input.value (input_named block input.name.name)
