-- Nobody has to believe what stands here: it serves private functions alone.
-- Reading statements: each part as a parser. The number is more than the tokens that are left, `expr` reads a whole
-- expression, and `statements` the statements inside another.
use Rattle.std.specs.Prelude.{ℕ, zero, suc, Bool, true, false, ◌||◌, List, Option, Some, ◌⊎◌}
use Rattle.std.proofs.Common.{inl, inr}
use Rattle.st_tree.specs.declared.token.Fixed.{Fixed}
use Rattle.st_tree.specs.declared.token.Fixed.TheVariants as w
use Rattle.st_tree.specs.declared.token.TokenKind.TheVariants as kind
use Rattle.st_tree.specs.declared.declaration.PlacedName.{PlacedName}
use Rattle.st_tree.specs.declared.declaration.Integer.{Integer}
use Rattle.st_tree.specs.declared.expression.Expr.{Expr}
use Rattle.st_tree.specs.declared.statement.Input.{Input}
use Rattle.st_tree.specs.declared.statement.Inputs.{Inputs}
use Rattle.st_tree.specs.declared.statement.Label.{Label}
use Rattle.st_tree.specs.declared.statement.Statement.{Statement}
use Rattle.st_tree.specs.declared.statement.Statement.TheVariants as statement_is
use Rattle.st_tree.specs.declared.statement.Branch.{Branch, roll-Branch}
use Rattle.st_tree.specs.declared.statement.Element.{Element, roll-Element}
use Rattle.st_parser.specs.declared.bounds.Bounds.{Bounds}
use Rattle.st_parser.specs.Inner.Parsers.{Parser, Look, refuse, ◌⨟◌, made, either, maybe, many, after, expect, place_of, name, sees, sees_name, sees_number, sees_some}
use Rattle.st_parser.specs.Inner.Tables.{sign_of}
use Rattle.st_parser.specs.Inner.ReadExpressions.{expr_at}
use Rattle.st_parser.specs.Inner.ReadDeclarations.{integer}

-- a label comes next
abbrev pub sees_label : Look → Bool
sees_label look = sees_number look || sees_some sign_of look

abbrev pub starts_statement : Fixed → Bool
starts_statement w.Semicolon = true
starts_statement w.If = true
starts_statement w.Case = true
starts_statement w.For = true
starts_statement w.Exit = true
starts_statement w.Return = true
starts_statement _ = false

-- a statement comes next
abbrev pub sees_statement : Look → Bool
sees_statement (Some (kind.Name n)) = true
sees_statement (Some (kind.Fixed w)) = starts_statement w
sees_statement _ = false

-- [ ".." integer ]
abbrev pub range_end : Parser (Option Integer)
range_end = maybe (sees w.Range) (after w.Range integer)

-- [ BY integer ]
abbrev pub step : Parser (Option Integer)
step = maybe (sees w.By) (after w.By integer)

unfoldable pub label : Parser Label
label = made (λ x. record { low = x.0; high = x.1 }) (integer ⨟ range_end)

unfoldable pub next_label : Parser Label
next_label = after w.Comma label

-- what stands behind a name: the inputs of a call, or an index and a value
abbrev pub named : PlacedName × (Option Inputs ⊎ (Option Expr × Expr)) → Statement
named (block, inl inputs) = statement_is.BlockCall (record { block = block; inputs = inputs })
named (target, inr x) = statement_is.Assignment (record { target = target; index = x.0; value = x.1 })

module _ (turns : ℕ) (expr : Parser Expr) (statements : Parser (List Statement)) where
  unfoldable pub input : Parser Input
  input = made (λ x. record { name = x.0; value = x.1 }) (name ⨟ after w.Assign expr)

  unfoldable pub next_input : Parser Input
  next_input = after w.Comma input

  abbrev pub more_inputs : Parser (List Input)
  more_inputs = many (sees w.Comma) next_input turns

  unfoldable pub inputs : Parser Inputs
  inputs = made (λ x. record { first = x.0; more = x.1 }) (input ⨟ more_inputs)

  abbrev pub some_inputs : Parser (Option Inputs)
  some_inputs = maybe sees_name inputs

  unfoldable pub call_part : Parser (Option Inputs)
  call_part = made (λ x. x.0) (after w.OpenParen (some_inputs ⨟ after w.CloseParen (expect w.Semicolon)))

  unfoldable pub index_part : Parser Expr
  index_part = made (λ x. x.0) (after w.OpenBracket (expr ⨟ expect w.CloseBracket))

  abbrev pub some_index : Parser (Option Expr)
  some_index = maybe (sees w.OpenBracket) index_part

  unfoldable pub assigned : Parser (Option Expr × Expr)
  assigned = made (λ x. (x.0, x.1.0)) (some_index ⨟ after w.Assign (expr ⨟ expect w.Semicolon))

  unfoldable pub named_statement : Parser Statement
  named_statement = made named (name ⨟ either (sees w.OpenParen) (made inl call_part) (made inr assigned))

  abbrev pub more_labels : Parser (List Label)
  more_labels = many (sees w.Comma) next_label turns

  unfoldable pub element : Parser Element
  element = made (λ x. roll-Element (record { first = x.0; more = x.1.0; body = x.1.1 }))
      (label ⨟ more_labels ⨟ after w.Colon statements)

  abbrev pub more_elements : Parser (List Element)
  more_elements = many sees_label element turns

  unfoldable pub branch : Parser Branch
  branch = made (λ x. roll-Branch (record { condition = x.0; body = x.1 })) (expr ⨟ after w.Then statements)

  unfoldable pub next_branch : Parser Branch
  next_branch = after w.Elsif branch

  abbrev pub more_branches : Parser (List Branch)
  more_branches = many (sees w.Elsif) next_branch turns

  unfoldable pub otherwise : Parser (Option (List Statement))
  otherwise = maybe (sees w.Else) (after w.Else statements)

  unfoldable pub conditional : Parser Statement
  conditional = made (λ x. statement_is.If x.0 x.1.0 x.1.1.0)
      (after w.If (branch ⨟ more_branches ⨟ otherwise ⨟ after w.EndIf (expect w.Semicolon)))

  unfoldable pub choice : Parser Statement
  choice = made (λ x. statement_is.Case x.0 x.1.0 x.1.1.0 x.1.1.1.0)
      (after w.Case (expr ⨟ after w.Of (element ⨟ more_elements ⨟ otherwise ⨟ after w.EndCase (expect w.Semicolon))))

  unfoldable pub counted : Parser Statement
  counted = made (λ x. statement_is.For x.0 x.1.0 x.1.1.0 x.1.1.1.0 x.1.1.1.1.0)
      (after w.For (name ⨟ after w.Assign (integer ⨟ after w.To (integer ⨟ step
      ⨟ after w.Do (statements ⨟ after w.EndFor (expect w.Semicolon))))))

  unfoldable pub exit_of : Parser Statement
  exit_of = made (λ x. statement_is.Exit x.0) (place_of w.Exit ⨟ expect w.Semicolon)

  unfoldable pub return_of : Parser Statement
  return_of = made (λ _. statement_is.Return) (after w.Return (expect w.Semicolon))

  unfoldable pub statement : Parser Statement
  statement =
      either (sees w.Semicolon) (made (λ _. statement_is.Empty) (expect w.Semicolon))
      (either sees_name named_statement
      (either (sees w.If) conditional
      (either (sees w.Case) choice
      (either (sees w.For) counted
      (either (sees w.Exit) exit_of return_of)))))

  abbrev pub several : Parser (List Statement)
  several = many sees_statement statement turns

-- statements one after the other, nested in fewer levels than this
unfoldable pub statements_at : ℕ → Parser (List Statement)
statements_at zero = refuse
statements_at (suc levels) = several (suc levels) (expr_at levels) (statements_at levels)

-- a rule within these bounds
abbrev pub within : {A : Type 0} → (ℕ → Parser Expr → Parser (List Statement) → Parser A) → Bounds → Parser A
within rule bounds = rule bounds.turns (expr_at bounds.levels) (statements_at bounds.levels)
