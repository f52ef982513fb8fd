-- What each whole statement and block of declarations spells, by its parts.
use Rattle.std.proofs.Common.{◌≡◌, ℕ, List, ◌++◌, map, Option, Some, None, refl, ap, ◌∙◌, append_assoc}
use Rattle.std.specs.Option.{option_map}
use Rattle.st_tree.specs.declared.token.Fixed.TheVariants as w
use Rattle.st_tree.specs.declared.declaration.PlacedName.{PlacedName}
use Rattle.st_tree.specs.declared.declaration.Integer.{Integer}
use Rattle.st_tree.specs.declared.declaration.Declaration.{Declaration}
use Rattle.st_tree.specs.declared.declaration.ExternalDeclaration.{ExternalDeclaration}
use Rattle.st_tree.specs.declared.declaration.Block.TheVariants as part
use Rattle.st_tree.specs.declared.expression.Expr.{Expr}
use Rattle.st_tree.specs.declared.statement.Assignment.{Assignment}
use Rattle.st_tree.specs.declared.statement.BlockCall.{BlockCall}
use Rattle.st_tree.specs.declared.statement.Label.{Label}
use Rattle.st_tree.specs.declared.statement.Statement.{Statement}
use Rattle.st_tree.specs.declared.statement.Statement.TheVariants as v
use Rattle.st_tree.specs.declared.statement.Branch.{Branch, roll-Branch}
use Rattle.st_tree.specs.declared.statement.Element.{Element, roll-Element}
use Rattle.st_tree.specs.Pieces.{Piece, ◌·◌, word, word_at, each}
use Rattle.st_tree.specs.Pieces as pieces
use Rattle.st_tree.specs.Expressions.{spell_expr}
use Rattle.st_tree.specs.Declarations.{spell_integer, spell_declaration, spell_external, spell_block}
use Rattle.st_tree.specs.StatementFolds.{fold_branch, fold_element}
use Rattle.st_tree.specs.Statements.{otherwise, spelled, spell_assignment, spell_call, spell_label, spell_statement}
use Rattle.st_tree.proofs.StatementEquations.{at-empty, at-assignment, at-blockcall, at-if, at-case, at-for, at-exit, at-return, at-branch, at-element}
use Rattle.st_parser.proofs.Spelling.{each_map}

-- ---- blocks of declarations

pub plain_block-is : (declarations : List Declaration) → spell_block (part.Plain declarations) ≡ word w.Var · each spell_declaration declarations · word w.EndVar
unfolding spell_block
plain_block-is declarations = ap (λ ps. word w.Var ++ (ps ++ word w.EndVar)) (each_map (λ ps. ps) spell_declaration declarations)

pub external_block-is : (externals : List ExternalDeclaration) → spell_block (part.External externals) ≡ word w.VarExternal · each spell_external externals · word w.EndVar
unfolding spell_block
external_block-is externals = ap (λ ps. word w.VarExternal ++ (ps ++ word w.EndVar)) (each_map (λ ps. ps) spell_external externals)

-- ---- statements

-- a condition with the statements behind THEN
unfoldable pub spell_branch : Branch → List Piece
spell_branch = fold_branch spelled

-- labels with the statements behind the colon
unfoldable pub spell_element : Element → List Piece
spell_element = fold_element spelled

-- statements in a row
each_statement : (body : List Statement) → each (λ ps. ps) (map spell_statement body) ≡ each spell_statement body
each_statement body = each_map (λ ps. ps) spell_statement body

-- [ ELSE { statement } ]
abbrev pub spell_otherwise : Option (List Statement) → List Piece
spell_otherwise = pieces.maybe (λ body. word w.Else · each spell_statement body)

otherwise-is : (others : Option (List Statement)) → otherwise (option_map (map spell_statement) others) ≡ spell_otherwise others
otherwise-is None = refl
otherwise-is (Some body) = ap (λ ps. word w.Else ++ ps) (each_statement body)

pub branch-is : (condition : Expr) (body : List Statement) → spell_branch (roll-Branch (record { condition = condition; body = body })) ≡ spell_expr condition · word w.Then · each spell_statement body
unfolding spell_statement spell_branch spell_element
branch-is condition body = at-branch spelled condition body ∙ ap (λ ps. spell_expr condition ++ (word w.Then ++ ps)) (each_statement body)

pub element-is : (first : Label) (more : List Label) (body : List Statement) → spell_element (roll-Element (record { first = first; more = more; body = body }))
    ≡ spell_label first · each (λ l. word w.Comma · spell_label l) more · word w.Colon · each spell_statement body
unfolding spell_statement spell_branch spell_element
element-is first more body =
    let labels = each (λ l. word w.Comma · spell_label l) more in
    at-element spelled first more body
    ∙ (ap (λ ps. (spell_label first ++ labels) ++ (word w.Colon ++ ps)) (each_statement body)
    ∙ append_assoc (spell_label first) labels (word w.Colon ++ each spell_statement body))

pub empty-is : spell_statement v.Empty ≡ word w.Semicolon
unfolding spell_statement
empty-is = at-empty spelled

pub assignment-is : (a : Assignment) → spell_statement (v.Assignment a) ≡ spell_assignment a
unfolding spell_statement
assignment-is a = at-assignment spelled a

pub call-is : (a : BlockCall) → spell_statement (v.BlockCall a) ≡ spell_call a
unfolding spell_statement
call-is a = at-blockcall spelled a

pub exit-is : (place : ℕ) → spell_statement (v.Exit place) ≡ word_at w.Exit place · word w.Semicolon
unfolding spell_statement
exit-is place = at-exit spelled place

pub return-is : spell_statement v.Return ≡ word w.Return · word w.Semicolon
unfolding spell_statement
return-is = at-return spelled

pub if-is : (first : Branch) (more : List Branch) (others : Option (List Statement)) → spell_statement (v.If first more others)
    ≡ word w.If · spell_branch first · each (λ b. word w.Elsif · spell_branch b) more · spell_otherwise others · word w.EndIf · word w.Semicolon
unfolding spell_statement spell_branch spell_element
if-is first more others =
    let branches = each (λ b. word w.Elsif · spell_branch b) more in
    let end = word w.EndIf · word w.Semicolon in
    at-if spelled first more others
    ∙ ((λ i. word w.If ++ ((spell_branch first ++ each_map (λ b. word w.Elsif · b) spell_branch more i) ++ (otherwise-is others i ++ end)))
    ∙ ap (λ ps. word w.If ++ ps) (append_assoc (spell_branch first) branches (spell_otherwise others ++ end)))

pub case-is : (selector : Expr) (first : Element) (more : List Element) (others : Option (List Statement)) → spell_statement (v.Case selector first more others)
    ≡ word w.Case · spell_expr selector · word w.Of · spell_element first · each spell_element more · spell_otherwise others · word w.EndCase · word w.Semicolon
unfolding spell_statement spell_branch spell_element
case-is selector first more others =
    let end = word w.EndCase · word w.Semicolon in
    at-case spelled selector first more others
    ∙ ((λ i. word w.Case ++ (spell_expr selector ++ (word w.Of ++ ((spell_element first ++ each_map (λ e. e) spell_element more i) ++ (otherwise-is others i ++ end)))))
    ∙ ap (λ ps. word w.Case ++ (spell_expr selector ++ (word w.Of ++ ps))) (append_assoc (spell_element first) (each spell_element more) (spell_otherwise others ++ end)))

pub for-is : (tag : PlacedName) (first last : Integer) (step : Option Integer) (body : List Statement) → spell_statement (v.For tag first last step body)
    ≡ word w.For · pieces.name tag · word w.Assign · spell_integer first · word w.To · spell_integer last · pieces.maybe (λ i. word w.By · spell_integer i) step · word w.Do · each spell_statement body · word w.EndFor · word w.Semicolon
unfolding spell_statement
for-is tag first last step body = at-for spelled tag first last step body
    ∙ ap (λ ps. word w.For · pieces.name tag · word w.Assign · spell_integer first · word w.To · spell_integer last · pieces.maybe (λ i. word w.By · spell_integer i) step · word w.Do · ps · word w.EndFor · word w.Semicolon) (each_statement body)
