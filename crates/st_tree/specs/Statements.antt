-- The grammar of statements (IEC 61131-3:2013, 7.3.3): what each part spells, where its statements spell these pieces.
use Rattle.std.specs.Prelude.{List, Option}
use Rattle.st_tree.specs.declared.token.Fixed.TheVariants as w
use Rattle.st_tree.specs.declared.statement.Assignment.{Assignment}
use Rattle.st_tree.specs.declared.statement.Input.{Input}
use Rattle.st_tree.specs.declared.statement.Inputs.{Inputs}
use Rattle.st_tree.specs.declared.statement.BlockCall.{BlockCall}
use Rattle.st_tree.specs.declared.statement.Label.{Label}
use Rattle.st_tree.specs.declared.statement.Statement.{Statement}
use Rattle.st_tree.specs.declared.statement.Statement.TheOpen.{Statement-F}
use Rattle.st_tree.specs.StatementFolds.{StatementSteps, fold_statement}
use Rattle.st_tree.specs.Listed.{listed, inputs_of}
use Rattle.st_tree.specs.Pieces.{Piece, ◌·◌, word, word_at, name, each, separated, maybe}
use Rattle.st_tree.specs.Expressions.{spell_expr}
use Rattle.st_tree.specs.Declarations.{spell_integer}

-- name [ "[" expr "]" ] ":=" expr ";"
abbrev pub spell_assignment : Assignment → List Piece
spell_assignment a =
    name a.target · maybe (λ i. word w.OpenBracket · spell_expr i · word w.CloseBracket) a.index
    · word w.Assign · spell_expr a.value · word w.Semicolon

-- input = name ":=" expr
abbrev pub spell_input : Input → List Piece
spell_input i = name i.name · word w.Assign · spell_expr i.value

-- input { "," input }
abbrev pub spell_inputs : Inputs → List Piece
spell_inputs inputs = separated w.Comma spell_input (inputs_of inputs)

-- name "(" [ input { "," input } ] ")" ";"
abbrev pub spell_call : BlockCall → List Piece
spell_call c = name c.block · word w.OpenParen · maybe spell_inputs c.inputs · word w.CloseParen · word w.Semicolon

-- label = integer [ ".." integer ]
abbrev pub spell_label : Label → List Piece
spell_label l = spell_integer l.low · maybe (λ high. word w.Range · spell_integer high) l.high

-- [ ELSE { statement } ]
abbrev pub otherwise : Option (List (List Piece)) → List Piece
otherwise statements = maybe (λ body. word w.Else · each (λ s. s) body) statements

-- what a statement spells, where the statements inside spell these pieces
abbrev pub statement : Statement-F (List Piece) (List Piece) (List Piece) → List Piece
-- ";"
statement Statement-F.Empty = word w.Semicolon
statement (Statement-F.Assignment a) = spell_assignment a
statement (Statement-F.BlockCall c) = spell_call c
-- IF expr THEN { statement } { ELSIF expr THEN { statement } } [ ELSE { statement } ] END_IF ";"
statement (Statement-F.If first more others) =
    word w.If · separated w.Elsif (λ branch. branch) (listed first more) · otherwise others
    · word w.EndIf · word w.Semicolon
-- CASE expr OF element { element } [ ELSE { statement } ] END_CASE ";"
statement (Statement-F.Case selector first more others) =
    word w.Case · spell_expr selector · word w.Of · each (λ element. element) (listed first more) · otherwise others
    · word w.EndCase · word w.Semicolon
-- FOR name ":=" integer TO integer [ BY integer ] DO { statement } END_FOR ";"
-- Own rule: FOR goes over a written list of numbers, so that each loop ends.
statement (Statement-F.For tag first last step body) =
    word w.For · name tag · word w.Assign · spell_integer first · word w.To · spell_integer last
    · maybe (λ i. word w.By · spell_integer i) step · word w.Do · each (λ statement. statement) body
    · word w.EndFor · word w.Semicolon
-- EXIT ";" and RETURN ";"
statement (Statement-F.Exit place) = word_at w.Exit place · word w.Semicolon
statement Statement-F.Return = word w.Return · word w.Semicolon

-- what each part of a statement spells, where the statements inside spell these pieces
abbrev pub spelled : StatementSteps (List Piece) (List Piece) (List Piece)
spelled = record {
  statement = statement;
  -- expr THEN { statement }
  branch = λ condition body. spell_expr condition · word w.Then · each (λ statement. statement) body;
  -- element = label { "," label } ":" { statement }
  element = λ first more body.
      separated w.Comma spell_label (listed first more) · word w.Colon · each (λ statement. statement) body;
}

-- what a whole statement spells
unfoldable pub spell_statement : Statement → List Piece
spell_statement = fold_statement spelled
