-- How deep a tree nests, one level for each "(" and "[" and for each IF, CASE and FOR around a part.
use Rattle.std.specs.Prelude.{ℕ, ◌+◌, max, List, map, fold, Option, None, Some}
use Rattle.st_tree.specs.declared.expression.Operation.{Operation}
use Rattle.st_tree.specs.declared.expression.Expr.{Expr}
use Rattle.st_tree.specs.declared.expression.Primary.TheOpen.{Primary-F, Unary-F}
use Rattle.st_tree.specs.declared.declaration.DeclaredType.{DeclaredType}
use Rattle.st_tree.specs.declared.declaration.DeclaredType.TheVariants as declared
use Rattle.st_tree.specs.declared.declaration.Block.{Block}
use Rattle.st_tree.specs.declared.statement.Assignment.{Assignment}
use Rattle.st_tree.specs.declared.statement.Input.{Input}
use Rattle.st_tree.specs.declared.statement.Inputs.{Inputs}
use Rattle.st_tree.specs.declared.statement.BlockCall.{BlockCall}
use Rattle.st_tree.specs.declared.statement.Statement.{Statement}
use Rattle.st_tree.specs.declared.statement.Statement.TheOpen.{Statement-F}
use Rattle.st_tree.specs.declared.program.Tree.{Tree}
use Rattle.st_tree.specs.Listed.{listed, operands, inputs_of}
use Rattle.st_tree.specs.ExpressionFolds.{ExpressionSteps, PrimaryPart, UnaryPart, fold_expr}
use Rattle.st_tree.specs.StatementFolds.{StatementSteps, fold_statement}
use Rattle.st_tree.specs.DeclarationFolds.{DeclarationSteps, fold_block}

-- the deepest of several, or 0
abbrev pub deepest : List ℕ → ℕ
deepest = fold max 0

-- ---- expressions

-- an index, brackets and the arguments of a function are one level more
abbrev pub primary_nesting : PrimaryPart ℕ ℕ ℕ → ℕ
primary_nesting (Primary-F.Element array index) = index + 1
primary_nesting (Primary-F.Bracketed place inside) = inside + 1
primary_nesting (Primary-F.Call function place arguments) = arguments + 1
primary_nesting _ = 0

-- a sign or NOT adds nothing
abbrev pub unary_nesting : UnaryPart ℕ ℕ ℕ → ℕ
unary_nesting (Unary-F.Plain primary) = primary
unary_nesting (Unary-F.Minus place primary) = primary
unary_nesting (Unary-F.Not place primary) = primary

-- operands in a row nest as deep as the deepest of them
abbrev pub deepest_operand : {O : Type 0} → ℕ → List (Operation O ℕ) → ℕ
deepest_operand first more = fold max first (operands more)

-- how deep each part of an expression nests
abbrev pub expression_nestings : ExpressionSteps ℕ ℕ ℕ
expression_nestings = record {
  primary = primary_nesting;
  unary = unary_nesting;
  product = deepest_operand;
  sum = deepest_operand;
  comparison = deepest_operand;
  equality = deepest_operand;
  conjunction = fold max;
  exclusive = fold max;
  disjunction = fold max;
  arguments = fold max;
}

-- how deep an expression nests
unfoldable pub expr_nesting : Expr → ℕ
expr_nesting = fold_expr expression_nestings

-- ---- declarations

-- the bounds of an array stand in brackets
abbrev pub type_nesting : DeclaredType → ℕ
type_nesting (declared.Array low high element) = 1
type_nesting _ = 0

-- how deep each part of a declaration nests
abbrev pub declaration_nestings : DeclarationSteps ℕ ℕ
declaration_nestings = record {
  declaration = λ d. type_nesting d.declared;
  external = λ d. 0;
  plain_block = deepest;
  external_block = deepest;
}

-- how deep a block of declarations nests
unfoldable pub block_nesting : Block → ℕ
block_nesting = fold_block declaration_nestings

-- ---- statements

-- such a part, or 0 where there is none
abbrev pub if_any : {A : Type 0} → (A → ℕ) → Option A → ℕ
if_any nesting None = 0
if_any nesting (Some part) = nesting part

-- an index stands in brackets
abbrev pub assignment_nesting : Assignment → ℕ
assignment_nesting a = max (if_any (λ index. expr_nesting index + 1) a.index) (expr_nesting a.value)

-- an input nests as its value
abbrev pub input_nesting : Input → ℕ
input_nesting input = expr_nesting input.value

-- inputs nest as deep as the deepest of them
abbrev pub inputs_nesting : Inputs → ℕ
inputs_nesting inputs = deepest (map input_nesting (inputs_of inputs))

-- a call's inputs stand in brackets
abbrev pub call_nesting : BlockCall → ℕ
call_nesting call = if_any inputs_nesting call.inputs + 1

-- IF, CASE and FOR are one level more than the deepest part of them
abbrev pub statement_nesting : Statement-F ℕ ℕ ℕ → ℕ
statement_nesting Statement-F.Empty = 0
statement_nesting (Statement-F.Assignment a) = assignment_nesting a
statement_nesting (Statement-F.BlockCall c) = call_nesting c
statement_nesting (Statement-F.If first more others) = max (deepest (listed first more)) (if_any deepest others) + 1
statement_nesting (Statement-F.Case selector first more others) =
    max (max (expr_nesting selector) (deepest (listed first more))) (if_any deepest others) + 1
statement_nesting (Statement-F.For tag first last step body) = deepest body + 1
statement_nesting (Statement-F.Exit place) = 0
statement_nesting Statement-F.Return = 0

-- how deep each part of a statement nests
abbrev pub statement_nestings : StatementSteps ℕ ℕ ℕ
statement_nestings = record {
  statement = statement_nesting;
  branch = λ condition body. max (expr_nesting condition) (deepest body);
  element = λ first more body. deepest body;
}

-- how deep statements in a row nest
unfoldable pub body_nesting : List Statement → ℕ
body_nesting statements = deepest (map (fold_statement statement_nestings) statements)

-- how deep a program nests
unfoldable pub nesting_of : Tree → ℕ
nesting_of tree = max (deepest (map block_nesting tree.blocks)) (body_nesting tree.statements)
