-- The rules of statements keep the laws, where the readers of expressions and of the statements inside keep them one level lower.
use Rattle.std.proofs.Common.{◌≡◌, ℕ, zero, suc, ◌<◌, Bool, true, false, ◌⊎◌, inl, inr, List, [], ◌∷◌, length, Option, refl, sym, ◌∙◌, subst, arith}
use Rattle.st_tree.specs.declared.token.Fixed.TheVariants as w
use Rattle.st_tree.specs.declared.token.TokenKind.TheVariants as kind
use Rattle.st_tree.specs.declared.token.Token.{Token}
use Rattle.st_tree.specs.declared.declaration.PlacedName.{PlacedName}
use Rattle.st_tree.specs.declared.declaration.Integer.{Integer}
use Rattle.st_tree.specs.declared.expression.Expr.{Expr}
use Rattle.st_tree.specs.declared.statement.Inputs.{Inputs}
use Rattle.st_tree.specs.declared.statement.Statement.{Statement, roll-Statement, out-Statement, roll-out-Statement}
use Rattle.st_tree.specs.declared.statement.Statement.TheVariants as v
use Rattle.st_tree.specs.declared.statement.Statement.TheVariants.{rolls-Empty, rolls-Assignment, rolls-BlockCall, rolls-If, rolls-Case, rolls-For, rolls-Exit, rolls-Return}
use Rattle.st_tree.specs.declared.statement.Branch.{Branch, roll-Branch, out-Branch, roll-out-Branch}
use Rattle.st_tree.specs.declared.statement.Element.{Element, roll-Element, out-Element, roll-out-Element}
use Rattle.st_tree.specs.declared.statement.Statement.TheOpen.{Statement-F}
use Rattle.st_tree.specs.Pieces.{Piece, ArePieces, ◌·◌, word, word_at, each}
use Rattle.st_tree.specs.Pieces as pieces
use Rattle.st_tree.specs.Expressions.{spell_expr}
use Rattle.st_tree.specs.Declarations.{spell_integer}
use Rattle.st_tree.specs.Statements.{spell_input, spell_inputs, spell_label, spell_statement}
use Rattle.st_parser.specs.Inner.Parsers.{Parser, Look, place_of, name, sees, sees_name}
use Rattle.st_parser.specs.Inner.ReadExpressions.{expr_at}
use Rattle.st_parser.specs.Inner.ReadStatements as read
use Rattle.st_parser.specs.Inner.ReadStatements.{sees_label, sees_statement, named, statements_at}
use Rattle.st_parser.proofs.Lawful.{Is, Lawful}
use Rattle.st_parser.proofs.Parts.{pair, both}
use Rattle.st_parser.proofs.Choices.{Always, Made, Either, Or, Not, recast, adjust, fewer, expect_word, after_word, made_part, rebuilt, either_part, maybe_part}
use Rattle.st_parser.proofs.Repeats.{many_part}
use Rattle.st_parser.proofs.Sets.{fit}
use Rattle.st_parser.proofs.Tokens.{name_law, place_law}
use Rattle.st_parser.proofs.ExpressionLaws.{starts_unary, ends_expr, expr_laws, put, get, some_token}
use Rattle.st_parser.proofs.DeclarationLaws.{after_same, starts_integer, integer_law}
use Rattle.st_parser.proofs.StatementSpelling.{spell_branch, spell_element, spell_otherwise, branch-is, element-is, empty-is, assignment-is, call-is, exit-is, return-is, if-is, case-is, for-is}

range_law : (n : ℕ) → Lawful n read.range_end read.range_end (Is (pieces.maybe (λ i. word w.Range · spell_integer i))) (Or (sees w.Range) (Not (sees w.Range))) (Not (sees w.Range))
range_law n = maybe_part n (sees w.Range) _ _ (λ i. word w.Range · spell_integer i) (sees w.Range) Always (Not (sees w.Range)) (after_same n w.Range _ _ spell_integer starts_integer Always (integer_law n))
    (fit (sees w.Range) (sees w.Range) refl (λ _. refl) (λ _. refl) refl) (fit (Not (sees w.Range)) (Not (sees w.Range)) refl (λ _. refl) (λ _. refl) refl) (fit (Not (sees w.Range)) (Always) refl (λ _. refl) (λ _. refl) refl)

label_law : (n : ℕ) → Lawful n read.label read.label (Is spell_label) starts_integer (Not (sees w.Range))
unfolding read.label
label_law n = rebuilt n (λ x. record { low = x.0; high = x.1 }) (λ x. (x.low, x.high)) _ _ _ spell_label starts_integer (Not (sees w.Range)) (λ b. refl) (λ a. refl)
    (both n _ _ _ _ spell_integer (pieces.maybe (λ i. word w.Range · spell_integer i)) starts_integer Always (Or (sees w.Range) (Not (sees w.Range))) (Not (sees w.Range)) (integer_law n) (range_law n) (fit (Or (sees w.Range) (Not (sees w.Range))) (Always) refl (λ _. refl) (λ _. refl) refl))

next_label_law : (n : ℕ) → Lawful n read.next_label read.next_label (Is (λ l. word w.Comma · spell_label l)) (sees w.Comma) (Not (sees w.Range))
unfolding read.next_label
next_label_law n = after_same n w.Comma _ _ spell_label starts_integer (Not (sees w.Range)) (label_law n)

step_law : (n : ℕ) → Lawful n read.step read.step (Is (pieces.maybe (λ i. word w.By · spell_integer i))) (Or (sees w.By) (sees w.Do)) (sees w.Do)
step_law n = maybe_part n (sees w.By) _ _ (λ i. word w.By · spell_integer i) (sees w.By) Always (sees w.Do) (after_same n w.By _ _ spell_integer starts_integer Always (integer_law n))
    (fit (sees w.By) (sees w.By) refl (λ _. refl) (λ _. refl) refl) (fit (sees w.Do) (Not (sees w.By)) refl (λ _. refl) (λ _. refl) refl) (fit (sees w.Do) (Always) refl (λ _. refl) (λ _. refl) refl)

-- what may follow a list of statements
abbrev pub ends_statements : Look → Bool
ends_statements = Not sees_statement

module _ (n : ℕ) (e e' : Parser Expr) (st st' : Parser (List Statement)) (le : Lawful n e e' (Is spell_expr) starts_unary ends_expr) (ls : Lawful n st st' (Is (each spell_statement)) Always ends_statements) where
  input_law : Lawful (suc n) (read.input (suc n) e st) (read.input (suc (suc n)) e' st') (Is (spell_input)) (sees_name) (ends_expr)
  unfolding read.input
  input_law = rebuilt (suc n) (λ x. record { name = x.0; value = x.1 }) (λ x. (x.name, x.value)) _ _ _ spell_input sees_name ends_expr (λ b. refl) (λ a. refl)
      (both (suc n) name name _ _ pieces.name (λ x. word w.Assign · spell_expr x) sees_name Always (sees w.Assign) ends_expr (name_law (suc n)) (after_word n w.Assign e e' spell_expr starts_unary ends_expr le) (fit (sees w.Assign) (Always) refl (λ _. refl) (λ _. refl) refl))

  next_input_law : Lawful (suc n) (read.next_input (suc n) e st) (read.next_input (suc (suc n)) e' st') (Is (λ x. word w.Comma · spell_input x)) (sees w.Comma) (ends_expr)
  unfolding read.next_input
  next_input_law = after_same (suc n) w.Comma _ _ spell_input sees_name ends_expr input_law

  more_inputs_law : Lawful (suc n) (read.more_inputs (suc n) e st) (read.more_inputs (suc (suc n)) e' st') (Is (each (λ x. word w.Comma · spell_input x))) (Or (sees w.Comma) (sees w.CloseParen)) (sees w.CloseParen)
  more_inputs_law = many_part (suc n) (sees w.Comma) _ _ (λ x. word w.Comma · spell_input x) (sees w.Comma) ends_expr (sees w.CloseParen) next_input_law
      (fit (sees w.Comma) (sees w.Comma) refl (λ _. refl) (λ _. refl) refl) (fit (sees w.CloseParen) (Not (sees w.Comma)) refl (λ _. refl) (λ _. refl) refl) (fit (Or (sees w.Comma) (sees w.CloseParen)) (ends_expr) refl (λ _. refl) (λ _. refl) refl) (λ a ts h. some_token (word w.Comma · spell_input a) refl ts h)

  inputs_law : Lawful (suc n) (read.inputs (suc n) e st) (read.inputs (suc (suc n)) e' st') (Is (spell_inputs)) (sees_name) (sees w.CloseParen)
  unfolding read.inputs
  inputs_law = rebuilt (suc n) (λ x. record { first = x.0; more = x.1 }) (λ x. (x.first, x.more)) _ _ _ spell_inputs sees_name (sees w.CloseParen) (λ b. refl) (λ a. refl)
      (both (suc n) _ _ _ _ spell_input (each (λ x. word w.Comma · spell_input x)) sees_name ends_expr (Or (sees w.Comma) (sees w.CloseParen)) (sees w.CloseParen) input_law more_inputs_law (fit (Or (sees w.Comma) (sees w.CloseParen)) (ends_expr) refl (λ _. refl) (λ _. refl) refl))

  some_inputs_law : Lawful (suc n) (read.some_inputs (suc n) e st) (read.some_inputs (suc (suc n)) e' st') (Is (pieces.maybe spell_inputs)) (Or sees_name (sees w.CloseParen)) (sees w.CloseParen)
  some_inputs_law = maybe_part (suc n) sees_name _ _ spell_inputs sees_name (sees w.CloseParen) (sees w.CloseParen) inputs_law (fit (sees_name) (sees_name) refl (λ _. refl) (λ _. refl) refl) (fit (sees w.CloseParen) (Not sees_name) refl (λ _. refl) (λ _. refl) refl) (fit (sees w.CloseParen) (sees w.CloseParen) refl (λ _. refl) (λ _. refl) refl)

  call_part_law : Lawful (suc n) (read.call_part (suc n) e st) (read.call_part (suc (suc n)) e' st') (Is (λ x. word w.OpenParen · pieces.maybe spell_inputs x · word w.CloseParen · word w.Semicolon)) (sees w.OpenParen) (Always)
  unfolding read.call_part
  call_part_law = rebuilt (suc n) (λ x. x.0) (λ x. (x, tt)) _ _ _ (λ x. word w.OpenParen · pieces.maybe spell_inputs x · word w.CloseParen · word w.Semicolon) (sees w.OpenParen) Always (λ b. refl) (λ a. refl)
      (after_same (suc n) w.OpenParen _ _ (λ (x : Option Inputs × Unit {0}). pieces.maybe spell_inputs x.0 · word w.CloseParen · word w.Semicolon) (Or sees_name (sees w.CloseParen)) Always
      (both (suc n) _ _ _ _ (pieces.maybe spell_inputs) (λ _. word w.CloseParen · word w.Semicolon) (Or sees_name (sees w.CloseParen)) (sees w.CloseParen) (sees w.CloseParen) Always some_inputs_law
      (after_same (suc n) w.CloseParen _ _ (λ _. word w.Semicolon) (sees w.Semicolon) Always (expect_word (suc n) w.Semicolon)) (fit (sees w.CloseParen) (sees w.CloseParen) refl (λ _. refl) (λ _. refl) refl)))

  index_part_law : Lawful (suc n) (read.index_part (suc n) e st) (read.index_part (suc (suc n)) e' st') (Is (λ x. word w.OpenBracket · spell_expr x · word w.CloseBracket)) (sees w.OpenBracket) (Always)
  unfolding read.index_part
  index_part_law = rebuilt (suc n) (λ x. x.0) (λ x. (x, tt)) _ _ _ (λ x. word w.OpenBracket · spell_expr x · word w.CloseBracket) (sees w.OpenBracket) Always (λ b. refl) (λ a. refl)
      (after_word n w.OpenBracket _ _ (λ (x : Expr × Unit {0}). spell_expr x.0 · word w.CloseBracket) starts_unary Always
      (both n e e' _ _ spell_expr (λ _. word w.CloseBracket) starts_unary ends_expr (sees w.CloseBracket) Always le (expect_word n w.CloseBracket) (fit (sees w.CloseBracket) (ends_expr) refl (λ _. refl) (λ _. refl) refl)))

  some_index_law : Lawful (suc n) (read.some_index (suc n) e st) (read.some_index (suc (suc n)) e' st') (Is (pieces.maybe (λ x. word w.OpenBracket · spell_expr x · word w.CloseBracket))) (Or (sees w.OpenBracket) (sees w.Assign)) (sees w.Assign)
  some_index_law = maybe_part (suc n) (sees w.OpenBracket) _ _ (λ x. word w.OpenBracket · spell_expr x · word w.CloseBracket) (sees w.OpenBracket) Always (sees w.Assign) index_part_law (fit (sees w.OpenBracket) (sees w.OpenBracket) refl (λ _. refl) (λ _. refl) refl) (fit (sees w.Assign) (Not (sees w.OpenBracket)) refl (λ _. refl) (λ _. refl) refl) (fit (sees w.Assign) (Always) refl (λ _. refl) (λ _. refl) refl)

  assigned_law : Lawful (suc n) (read.assigned (suc n) e st) (read.assigned (suc (suc n)) e' st') (Is (λ x. pieces.maybe (λ x. word w.OpenBracket · spell_expr x · word w.CloseBracket) x.0 · word w.Assign · spell_expr x.1 · word w.Semicolon)) (Or (sees w.OpenBracket) (sees w.Assign)) (Always)
  unfolding read.assigned
  assigned_law = rebuilt (suc n) (λ x. (x.0, x.1.0)) (λ x. (x.0, (x.1, tt))) _ _ _ (λ x. pieces.maybe (λ x. word w.OpenBracket · spell_expr x · word w.CloseBracket) x.0 · word w.Assign · spell_expr x.1 · word w.Semicolon) (Or (sees w.OpenBracket) (sees w.Assign)) Always (λ b. refl) (λ a. refl)
      (both (suc n) _ _ _ _ (pieces.maybe (λ x. word w.OpenBracket · spell_expr x · word w.CloseBracket)) (λ (x : Expr × Unit {0}). word w.Assign · spell_expr x.0 · word w.Semicolon) (Or (sees w.OpenBracket) (sees w.Assign)) (sees w.Assign) (sees w.Assign) Always some_index_law
      (after_word n w.Assign _ _ (λ (x : Expr × Unit {0}). spell_expr x.0 · word w.Semicolon) starts_unary Always (both n e e' _ _ spell_expr (λ _. word w.Semicolon) starts_unary ends_expr (sees w.Semicolon) Always le (expect_word n w.Semicolon) (fit (sees w.Semicolon) (ends_expr) refl (λ _. refl) (λ _. refl) refl)))
      (fit (sees w.Assign) (sees w.Assign) refl (λ _. refl) (λ _. refl) refl))

  abbrev Behind : Type 0
  Behind = Option Inputs ⊎ (Option Expr × Expr)

  abbrev spell_behind : Option Inputs ⊎ (Option Expr × Expr) → List Piece
  spell_behind (inl x) = word w.OpenParen · pieces.maybe spell_inputs x · word w.CloseParen · word w.Semicolon
  spell_behind (inr x) = pieces.maybe (λ x. word w.OpenBracket · spell_expr x · word w.CloseBracket) x.0 · word w.Assign · spell_expr x.1 · word w.Semicolon

  abbrev Behinds : Option Inputs ⊎ (Option Expr × Expr) → List Token → Type 0
  Behinds = Either (Made inl (Is (λ x. word w.OpenParen · pieces.maybe spell_inputs x · word w.CloseParen · word w.Semicolon))) (Made inr (Is (λ x. pieces.maybe (λ x. word w.OpenBracket · spell_expr x · word w.CloseBracket) x.0 · word w.Assign · spell_expr x.1 · word w.Semicolon)))

  to_behind : (b : Option Inputs ⊎ (Option Expr × Expr)) (ts : List Token) → Behinds b ts → Is spell_behind b ts
  to_behind b ts (inl h) = subst (λ (x : Option Inputs ⊎ (Option Expr × Expr)). ArePieces (spell_behind x) ts) h.1 h.2
  to_behind b ts (inr h) = subst (λ (x : Option Inputs ⊎ (Option Expr × Expr)). ArePieces (spell_behind x) ts) h.1 h.2

  from_behind : (b : Option Inputs ⊎ (Option Expr × Expr)) (ts : List Token) → Is spell_behind b ts → Behinds b ts
  from_behind (inl x) ts h = inl (x, refl, h)
  from_behind (inr x) ts h = inr (x, refl, h)

  abbrev starts_behind : Look → Bool
  starts_behind = Or (sees w.OpenParen) (Or (sees w.OpenBracket) (sees w.Assign))

  named_statement_law : Lawful (suc n) (read.named_statement (suc n) e st) (read.named_statement (suc (suc n)) e' st') (Made named (Is (pair pieces.name spell_behind))) sees_name Always
  unfolding read.named_statement
  named_statement_law = made_part (suc n) named _ _ _ sees_name Always
      (both (suc n) name name _ _ pieces.name spell_behind sees_name Always starts_behind Always (name_law (suc n))
      (recast (suc n) _ _ Behinds (Is spell_behind) starts_behind Always to_behind from_behind
      (either_part (suc n) (sees w.OpenParen) _ _ _ _ _ _ (sees w.OpenParen) (Or (sees w.OpenBracket) (sees w.Assign)) Always
      (made_part (suc n) inl _ _ _ (sees w.OpenParen) Always call_part_law) (made_part (suc n) inr _ _ _ (Or (sees w.OpenBracket) (sees w.Assign)) Always assigned_law)
      (fit (sees w.OpenParen) (sees w.OpenParen) refl (λ _. refl) (λ _. refl) refl) (fit (Or (sees w.OpenBracket) (sees w.Assign)) (Not (sees w.OpenParen)) refl (λ _. refl) (λ _. refl) refl)))
      (fit (starts_behind) (Always) refl (λ _. refl) (λ _. refl) refl))

  more_labels_law : Lawful (suc n) (read.more_labels (suc n) e st) (read.more_labels (suc (suc n)) e' st') (Is (each (λ l. word w.Comma · spell_label l))) (Or (sees w.Comma) (sees w.Colon)) (sees w.Colon)
  more_labels_law = many_part (suc n) (sees w.Comma) _ _ (λ l. word w.Comma · spell_label l) (sees w.Comma) (Not (sees w.Range)) (sees w.Colon) (next_label_law (suc n))
      (fit (sees w.Comma) (sees w.Comma) refl (λ _. refl) (λ _. refl) refl) (fit (sees w.Colon) (Not (sees w.Comma)) refl (λ _. refl) (λ _. refl) refl) (fit (Or (sees w.Comma) (sees w.Colon)) (Not (sees w.Range)) refl (λ _. refl) (λ _. refl) refl) (λ a ts h. some_token (word w.Comma · spell_label a) refl ts h)

  element_law : Lawful (suc n) (read.element (suc n) e st) (read.element (suc (suc n)) e' st') (Is (spell_element)) (starts_integer) (ends_statements)
  unfolding read.element
  element_law = rebuilt (suc n) (λ x. roll-Element (record { first = x.0; more = x.1.0; body = x.1.1 })) (λ b. ((out-Element b).first, ((out-Element b).more, (out-Element b).body))) _ _ _ spell_element starts_integer ends_statements
      (λ b. roll-out-Element b) (λ x. element-is x.0 x.1.0 x.1.1)
      (both (suc n) _ _ _ _ spell_label (λ x. each (λ l. word w.Comma · spell_label l) x.0 · word w.Colon · each spell_statement x.1) starts_integer (Not (sees w.Range)) (Or (sees w.Comma) (sees w.Colon)) ends_statements (label_law (suc n))
      (both (suc n) _ _ _ _ (each (λ l. word w.Comma · spell_label l)) (λ b. word w.Colon · each spell_statement b) (Or (sees w.Comma) (sees w.Colon)) (sees w.Colon) (sees w.Colon) ends_statements more_labels_law
      (after_word n w.Colon st st' (each spell_statement) Always ends_statements ls) (fit (sees w.Colon) (sees w.Colon) refl (λ _. refl) (λ _. refl) refl))
      (fit (Or (sees w.Comma) (sees w.Colon)) (Not (sees w.Range)) refl (λ _. refl) (λ _. refl) refl))

  element_some : (b : Element) (ts : List Token) → Is spell_element b ts → 0 < length ts
  element_some b [] h = absurd (none (element_law.heads b [] (record { kind = kind.Fixed w.Else; place = 0 } ∷ []) h refl))
    where
      none : false ≡ true → ⊥
      none k = absurd (cc)
  element_some b (t ∷ ts) h = omega arith

  more_elements_law : Lawful (suc n) (read.more_elements (suc n) e st) (read.more_elements (suc (suc n)) e' st') (Is (each spell_element)) (Or starts_integer (Or (sees w.Else) (sees w.EndCase))) (Or (sees w.Else) (sees w.EndCase))
  more_elements_law = many_part (suc n) sees_label _ _ spell_element starts_integer ends_statements (Or (sees w.Else) (sees w.EndCase)) element_law
      (fit (starts_integer) (sees_label) refl (λ _. refl) (λ _. refl) refl) (fit (Or (sees w.Else) (sees w.EndCase)) (Not sees_label) refl (λ _. refl) (λ _. refl) refl) (fit (Or starts_integer (Or (sees w.Else) (sees w.EndCase))) (ends_statements) refl (λ _. refl) (λ _. refl) refl) element_some

  branch_law : Lawful n (read.branch (suc n) e st) (read.branch (suc (suc n)) e' st') (Is (spell_branch)) (starts_unary) (ends_statements)
  unfolding read.branch
  branch_law = rebuilt n (λ x. roll-Branch (record { condition = x.0; body = x.1 })) (λ b. ((out-Branch b).condition, (out-Branch b).body)) _ _ _ spell_branch starts_unary ends_statements (λ b. roll-out-Branch b) (λ x. branch-is x.0 x.1)
      (both n e e' _ _ spell_expr (λ b. word w.Then · each spell_statement b) starts_unary ends_expr (sees w.Then) ends_statements le (after_same n w.Then st st' (each spell_statement) Always ends_statements ls) (fit (sees w.Then) (ends_expr) refl (λ _. refl) (λ _. refl) refl))

  next_branch_law : Lawful (suc n) (read.next_branch (suc n) e st) (read.next_branch (suc (suc n)) e' st') (Is (λ b. word w.Elsif · spell_branch b)) (sees w.Elsif) (ends_statements)
  unfolding read.next_branch
  next_branch_law = after_word n w.Elsif _ _ spell_branch starts_unary ends_statements branch_law

  more_branches_law : Lawful (suc n) (read.more_branches (suc n) e st) (read.more_branches (suc (suc n)) e' st') (Is (each (λ b. word w.Elsif · spell_branch b))) (Or (sees w.Elsif) (Or (sees w.Else) (sees w.EndIf))) (Or (sees w.Else) (sees w.EndIf))
  more_branches_law = many_part (suc n) (sees w.Elsif) _ _ (λ b. word w.Elsif · spell_branch b) (sees w.Elsif) ends_statements (Or (sees w.Else) (sees w.EndIf)) next_branch_law
      (fit (sees w.Elsif) (sees w.Elsif) refl (λ _. refl) (λ _. refl) refl) (fit (Or (sees w.Else) (sees w.EndIf)) (Not (sees w.Elsif)) refl (λ _. refl) (λ _. refl) refl) (fit (Or (sees w.Elsif) (Or (sees w.Else) (sees w.EndIf))) (ends_statements) refl (λ _. refl) (λ _. refl) refl) (λ a ts h. some_token (word w.Elsif · spell_branch a) refl ts h)

  otherwise_if_law : Lawful (suc n) (read.otherwise (suc n) e st) (read.otherwise (suc (suc n)) e' st') (Is (spell_otherwise)) (Or (sees w.Else) (sees w.EndIf)) (sees w.EndIf)
  unfolding read.otherwise
  otherwise_if_law = maybe_part (suc n) (sees w.Else) _ _ (λ body. word w.Else · each spell_statement body) (sees w.Else) ends_statements (sees w.EndIf) (after_word n w.Else st st' (each spell_statement) Always ends_statements ls)
      (fit (sees w.Else) (sees w.Else) refl (λ _. refl) (λ _. refl) refl) (fit (sees w.EndIf) (Not (sees w.Else)) refl (λ _. refl) (λ _. refl) refl) (fit (sees w.EndIf) (ends_statements) refl (λ _. refl) (λ _. refl) refl)

  otherwise_case_law : Lawful (suc n) (read.otherwise (suc n) e st) (read.otherwise (suc (suc n)) e' st') (Is (spell_otherwise)) (Or (sees w.Else) (sees w.EndCase)) (sees w.EndCase)
  unfolding read.otherwise
  otherwise_case_law = maybe_part (suc n) (sees w.Else) _ _ (λ body. word w.Else · each spell_statement body) (sees w.Else) ends_statements (sees w.EndCase) (after_word n w.Else st st' (each spell_statement) Always ends_statements ls)
      (fit (sees w.Else) (sees w.Else) refl (λ _. refl) (λ _. refl) refl) (fit (sees w.EndCase) (Not (sees w.Else)) refl (λ _. refl) (λ _. refl) refl) (fit (sees w.EndCase) (ends_statements) refl (λ _. refl) (λ _. refl) refl)

  conditional_law : Lawful (suc n) (read.conditional (suc n) e st) (read.conditional (suc (suc n)) e' st') (Made (λ (x : Branch × (List Branch × (Option (List Statement) × Unit {0}))). v.If x.0 x.1.0 x.1.1.0) (Is (λ x. word w.If · spell_branch x.0 · each (λ b. word w.Elsif · spell_branch b) x.1.0 · spell_otherwise x.1.1.0 · word w.EndIf · word w.Semicolon))) (sees w.If) Always
  unfolding read.conditional
  conditional_law = made_part (suc n) (λ (x : Branch × (List Branch × (Option (List Statement) × Unit {0}))). v.If x.0 x.1.0 x.1.1.0) _ _ _ (sees w.If) Always
      (after_word n w.If _ _ (λ (x : Branch × (List Branch × (Option (List Statement) × Unit {0}))). spell_branch x.0 · each (λ b. word w.Elsif · spell_branch b) x.1.0 · spell_otherwise x.1.1.0 · word w.EndIf · word w.Semicolon) starts_unary Always
      (both n _ _ _ _ spell_branch (λ (x : List Branch × (Option (List Statement) × Unit {0})). each (λ b. word w.Elsif · spell_branch b) x.0 · spell_otherwise x.1.0 · word w.EndIf · word w.Semicolon) starts_unary ends_statements (Or (sees w.Elsif) (Or (sees w.Else) (sees w.EndIf))) Always branch_law
      (both n _ _ _ _ (each (λ b. word w.Elsif · spell_branch b)) (λ (x : Option (List Statement) × Unit {0}). spell_otherwise x.0 · word w.EndIf · word w.Semicolon) (Or (sees w.Elsif) (Or (sees w.Else) (sees w.EndIf))) (Or (sees w.Else) (sees w.EndIf)) (Or (sees w.Else) (sees w.EndIf)) Always (fewer n _ _ _ _ _ more_branches_law)
      (both n _ _ _ _ spell_otherwise (λ _. word w.EndIf · word w.Semicolon) (Or (sees w.Else) (sees w.EndIf)) (sees w.EndIf) (sees w.EndIf) Always (fewer n _ _ _ _ _ otherwise_if_law) (after_same n w.EndIf _ _ (λ _. word w.Semicolon) (sees w.Semicolon) Always (expect_word n w.Semicolon)) (fit (sees w.EndIf) (sees w.EndIf) refl (λ _. refl) (λ _. refl) refl))
      (fit (Or (sees w.Else) (sees w.EndIf)) (Or (sees w.Else) (sees w.EndIf)) refl (λ _. refl) (λ _. refl) refl))
      (fit (Or (sees w.Elsif) (Or (sees w.Else) (sees w.EndIf))) (ends_statements) refl (λ _. refl) (λ _. refl) refl)))

  choice_law : Lawful (suc n) (read.choice (suc n) e st) (read.choice (suc (suc n)) e' st') (Made (λ (x : Expr × (Element × (List Element × (Option (List Statement) × Unit {0})))). v.Case x.0 x.1.0 x.1.1.0 x.1.1.1.0) (Is (λ x. word w.Case · spell_expr x.0 · word w.Of · spell_element x.1.0 · each spell_element x.1.1.0 · spell_otherwise x.1.1.1.0 · word w.EndCase · word w.Semicolon))) (sees w.Case) Always
  unfolding read.choice
  choice_law = made_part (suc n) (λ (x : Expr × (Element × (List Element × (Option (List Statement) × Unit {0})))). v.Case x.0 x.1.0 x.1.1.0 x.1.1.1.0) _ _ _ (sees w.Case) Always
      (after_word n w.Case _ _ (λ (x : Expr × (Element × (List Element × (Option (List Statement) × Unit {0})))). spell_expr x.0 · word w.Of · spell_element x.1.0 · each spell_element x.1.1.0 · spell_otherwise x.1.1.1.0 · word w.EndCase · word w.Semicolon) starts_unary Always
      (both n e e' _ _ spell_expr (λ (x : Element × (List Element × (Option (List Statement) × Unit {0}))). word w.Of · spell_element x.0 · each spell_element x.1.0 · spell_otherwise x.1.1.0 · word w.EndCase · word w.Semicolon) starts_unary ends_expr (sees w.Of) Always le
      (after_same n w.Of _ _ (λ (x : Element × (List Element × (Option (List Statement) × Unit {0}))). spell_element x.0 · each spell_element x.1.0 · spell_otherwise x.1.1.0 · word w.EndCase · word w.Semicolon) starts_integer Always
      (both n _ _ _ _ spell_element (λ (x : List Element × (Option (List Statement) × Unit {0})). each spell_element x.0 · spell_otherwise x.1.0 · word w.EndCase · word w.Semicolon) starts_integer ends_statements (Or starts_integer (Or (sees w.Else) (sees w.EndCase))) Always (fewer n _ _ _ _ _ element_law)
      (both n _ _ _ _ (each spell_element) (λ (x : Option (List Statement) × Unit {0}). spell_otherwise x.0 · word w.EndCase · word w.Semicolon) (Or starts_integer (Or (sees w.Else) (sees w.EndCase))) (Or (sees w.Else) (sees w.EndCase)) (Or (sees w.Else) (sees w.EndCase)) Always (fewer n _ _ _ _ _ more_elements_law)
      (both n _ _ _ _ spell_otherwise (λ _. word w.EndCase · word w.Semicolon) (Or (sees w.Else) (sees w.EndCase)) (sees w.EndCase) (sees w.EndCase) Always (fewer n _ _ _ _ _ otherwise_case_law) (after_same n w.EndCase _ _ (λ _. word w.Semicolon) (sees w.Semicolon) Always (expect_word n w.Semicolon)) (fit (sees w.EndCase) (sees w.EndCase) refl (λ _. refl) (λ _. refl) refl))
      (fit (Or (sees w.Else) (sees w.EndCase)) (Or (sees w.Else) (sees w.EndCase)) refl (λ _. refl) (λ _. refl) refl))
      (fit (Or starts_integer (Or (sees w.Else) (sees w.EndCase))) (ends_statements) refl (λ _. refl) (λ _. refl) refl)))
      (fit (sees w.Of) (ends_expr) refl (λ _. refl) (λ _. refl) refl)))

  counted_law : Lawful (suc n) (read.counted (suc n) e st) (read.counted (suc (suc n)) e' st') (Made (λ (x : PlacedName × (Integer × (Integer × (Option Integer × (List Statement × Unit {0}))))). v.For x.0 x.1.0 x.1.1.0 x.1.1.1.0 x.1.1.1.1.0) (Is (λ x. word w.For · pieces.name x.0 · word w.Assign · spell_integer x.1.0 · word w.To · spell_integer x.1.1.0 · pieces.maybe (λ i. word w.By · spell_integer i) x.1.1.1.0 · word w.Do · each spell_statement x.1.1.1.1.0 · word w.EndFor · word w.Semicolon))) (sees w.For) Always
  unfolding read.counted
  counted_law = made_part (suc n) (λ (x : PlacedName × (Integer × (Integer × (Option Integer × (List Statement × Unit {0}))))). v.For x.0 x.1.0 x.1.1.0 x.1.1.1.0 x.1.1.1.1.0) _ _ _ (sees w.For) Always
      (after_word n w.For _ _ (λ (x : PlacedName × (Integer × (Integer × (Option Integer × (List Statement × Unit {0}))))). pieces.name x.0 · word w.Assign · spell_integer x.1.0 · word w.To · spell_integer x.1.1.0 · pieces.maybe (λ i. word w.By · spell_integer i) x.1.1.1.0 · word w.Do · each spell_statement x.1.1.1.1.0 · word w.EndFor · word w.Semicolon) sees_name Always
      (both n name name _ _ pieces.name (λ (x : Integer × (Integer × (Option Integer × (List Statement × Unit {0})))). word w.Assign · spell_integer x.0 · word w.To · spell_integer x.1.0 · pieces.maybe (λ i. word w.By · spell_integer i) x.1.1.0 · word w.Do · each spell_statement x.1.1.1.0 · word w.EndFor · word w.Semicolon) sees_name Always (sees w.Assign) Always (name_law n)
      (after_same n w.Assign _ _ (λ (x : Integer × (Integer × (Option Integer × (List Statement × Unit {0})))). spell_integer x.0 · word w.To · spell_integer x.1.0 · pieces.maybe (λ i. word w.By · spell_integer i) x.1.1.0 · word w.Do · each spell_statement x.1.1.1.0 · word w.EndFor · word w.Semicolon) starts_integer Always
      (both n _ _ _ _ spell_integer (λ (x : Integer × (Option Integer × (List Statement × Unit {0}))). word w.To · spell_integer x.0 · pieces.maybe (λ i. word w.By · spell_integer i) x.1.0 · word w.Do · each spell_statement x.1.1.0 · word w.EndFor · word w.Semicolon) starts_integer Always (sees w.To) Always (integer_law n)
      (after_same n w.To _ _ (λ (x : Integer × (Option Integer × (List Statement × Unit {0}))). spell_integer x.0 · pieces.maybe (λ i. word w.By · spell_integer i) x.1.0 · word w.Do · each spell_statement x.1.1.0 · word w.EndFor · word w.Semicolon) starts_integer Always
      (both n _ _ _ _ spell_integer (λ (x : Option Integer × (List Statement × Unit {0})). pieces.maybe (λ i. word w.By · spell_integer i) x.0 · word w.Do · each spell_statement x.1.0 · word w.EndFor · word w.Semicolon) starts_integer Always (Or (sees w.By) (sees w.Do)) Always (integer_law n)
      (both n _ _ _ _ (pieces.maybe (λ i. word w.By · spell_integer i)) (λ (x : List Statement × Unit {0}). word w.Do · each spell_statement x.0 · word w.EndFor · word w.Semicolon) (Or (sees w.By) (sees w.Do)) (sees w.Do) (sees w.Do) Always (step_law n)
      (after_same n w.Do _ _ (λ (x : List Statement × Unit {0}). each spell_statement x.0 · word w.EndFor · word w.Semicolon) Always Always
      (both n st st' _ _ (each spell_statement) (λ _. word w.EndFor · word w.Semicolon) Always ends_statements (sees w.EndFor) Always ls (after_same n w.EndFor _ _ (λ _. word w.Semicolon) (sees w.Semicolon) Always (expect_word n w.Semicolon)) (fit (sees w.EndFor) (ends_statements) refl (λ _. refl) (λ _. refl) refl)))
      (fit (sees w.Do) (sees w.Do) refl (λ _. refl) (λ _. refl) refl))
      (fit (Or (sees w.By) (sees w.Do)) (Always) refl (λ _. refl) (λ _. refl) refl)))
      (fit (sees w.To) (Always) refl (λ _. refl) (λ _. refl) refl)))
      (fit (sees w.Assign) (Always) refl (λ _. refl) (λ _. refl) refl)))

  exit_law : Lawful (suc n) (read.exit_of (suc n) e st) (read.exit_of (suc (suc n)) e' st') (Made (λ (x : ℕ × Unit {0}). v.Exit x.0) (Is (λ x. word_at w.Exit x.0 · word w.Semicolon))) (sees w.Exit) Always
  unfolding read.exit_of
  exit_law = made_part (suc n) (λ (x : ℕ × Unit {0}). v.Exit x.0) _ _ _ (sees w.Exit) Always
      (both (suc n) (place_of w.Exit) (place_of w.Exit) _ _ (λ place. word_at w.Exit place) (λ _. word w.Semicolon) (sees w.Exit) Always (sees w.Semicolon) Always (place_law (suc n) w.Exit) (expect_word (suc n) w.Semicolon) (fit (sees w.Semicolon) (Always) refl (λ _. refl) (λ _. refl) refl))

  return_law : Lawful (suc n) (read.return_of (suc n) e st) (read.return_of (suc (suc n)) e' st') (Made (λ (_ : Unit {0}). v.Return) (Is (λ _. word w.Return · word w.Semicolon))) (sees w.Return) Always
  unfolding read.return_of
  return_law = made_part (suc n) (λ _. v.Return) _ _ _ (sees w.Return) Always
      (after_same (suc n) w.Return _ _ (λ _. word w.Semicolon) (sees w.Semicolon) Always (expect_word (suc n) w.Semicolon))

  abbrev Emptys : Statement → List Token → Type 0
  Emptys = Made (λ (_ : Unit {0}). v.Empty) (Is (λ _. word w.Semicolon))

  abbrev Named_ones : Statement → List Token → Type 0
  Named_ones = Made named (Is (pair pieces.name spell_behind))

  abbrev Ifs : Statement → List Token → Type 0
  Ifs = Made (λ (x : Branch × (List Branch × (Option (List Statement) × Unit {0}))). v.If x.0 x.1.0 x.1.1.0) (Is (λ x. word w.If · spell_branch x.0 · each (λ b. word w.Elsif · spell_branch b) x.1.0 · spell_otherwise x.1.1.0 · word w.EndIf · word w.Semicolon))

  abbrev Cases : Statement → List Token → Type 0
  Cases = Made (λ (x : Expr × (Element × (List Element × (Option (List Statement) × Unit {0})))). v.Case x.0 x.1.0 x.1.1.0 x.1.1.1.0) (Is (λ x. word w.Case · spell_expr x.0 · word w.Of · spell_element x.1.0 · each spell_element x.1.1.0 · spell_otherwise x.1.1.1.0 · word w.EndCase · word w.Semicolon))

  abbrev Fors : Statement → List Token → Type 0
  Fors = Made (λ (x : PlacedName × (Integer × (Integer × (Option Integer × (List Statement × Unit {0}))))). v.For x.0 x.1.0 x.1.1.0 x.1.1.1.0 x.1.1.1.1.0) (Is (λ x. word w.For · pieces.name x.0 · word w.Assign · spell_integer x.1.0 · word w.To · spell_integer x.1.1.0 · pieces.maybe (λ i. word w.By · spell_integer i) x.1.1.1.0 · word w.Do · each spell_statement x.1.1.1.1.0 · word w.EndFor · word w.Semicolon))

  abbrev Exits : Statement → List Token → Type 0
  Exits = Made (λ (x : ℕ × Unit {0}). v.Exit x.0) (Is (λ x. word_at w.Exit x.0 · word w.Semicolon))

  abbrev Returns : Statement → List Token → Type 0
  Returns = Made (λ (_ : Unit {0}). v.Return) (Is (λ _. word w.Return · word w.Semicolon))

  abbrev Statements : Statement → List Token → Type 0
  Statements = Either Emptys (Either Named_ones (Either Ifs (Either Cases (Either Fors (Either Exits (Returns))))))

  named-is : (x : PlacedName × (Option Inputs ⊎ (Option Expr × Expr))) → spell_statement (named x) ≡ pair pieces.name spell_behind x
  named-is x = by x.0 x.1
    where
      by : (m : PlacedName) (b : Option Inputs ⊎ (Option Expr × Expr)) → spell_statement (named (m, b)) ≡ pair pieces.name spell_behind (m, b)
      by m (inl i) = call-is (record { block = m; inputs = i })
      by m (inr y) = assignment-is (record { target = m; index = y.0; value = y.1 })

  to_statement : (b : Statement) (ts : List Token) → Statements b ts → Is spell_statement b ts
  to_statement b ts (inl h) = put spell_statement b _ _ ts h.1 empty-is h.2
  to_statement b ts (inr (inl h)) = put spell_statement b _ _ ts h.1 (named-is h.0) h.2
  to_statement b ts (inr (inr (inl h))) = put spell_statement b _ _ ts h.1 (if-is h.0.0 h.0.1.0 h.0.1.1.0) h.2
  to_statement b ts (inr (inr (inr (inl h)))) = put spell_statement b _ _ ts h.1 (case-is h.0.0 h.0.1.0 h.0.1.1.0 h.0.1.1.1.0) h.2
  to_statement b ts (inr (inr (inr (inr (inl h))))) = put spell_statement b _ _ ts h.1 (for-is h.0.0 h.0.1.0 h.0.1.1.0 h.0.1.1.1.0 h.0.1.1.1.1.0) h.2
  to_statement b ts (inr (inr (inr (inr (inr (inl h)))))) = put spell_statement b _ _ ts h.1 (exit-is h.0.0) h.2
  to_statement b ts (inr (inr (inr (inr (inr (inr h)))))) = put spell_statement b _ _ ts h.1 return-is h.2

  from_statement : (b : Statement) (ts : List Token) → Is spell_statement b ts → Statements b ts
  from_statement b ts h = by (out-Statement b) (roll-out-Statement b)
    where
      by : (o : Statement-F Statement Branch Element) → roll-Statement o ≡ b → Statements b ts
      by Statement-F.Empty k = let is = sym rolls-Empty ∙ k in inl (tt, is, get spell_statement b _ _ ts is empty-is h)
      by (Statement-F.Assignment a) k = let is = sym (rolls-Assignment a) ∙ k in inr (inl ((a.target, inr (a.index, a.value)), is, get spell_statement b _ _ ts is (assignment-is a) h))
      by (Statement-F.BlockCall a) k = let is = sym (rolls-BlockCall a) ∙ k in inr (inl ((a.block, inl a.inputs), is, get spell_statement b _ _ ts is (call-is a) h))
      by (Statement-F.If first more others) k = let is = sym (rolls-If first more others) ∙ k in inr (inr (inl ((first, (more, (others, tt))), is, get spell_statement b _ _ ts is (if-is first more others) h)))
      by (Statement-F.Case s first more others) k = let is = sym (rolls-Case s first more others) ∙ k in inr (inr (inr (inl ((s, (first, (more, (others, tt)))), is, get spell_statement b _ _ ts is (case-is s first more others) h))))
      by (Statement-F.For tag first last step body) k = let is = sym (rolls-For tag first last step body) ∙ k in
          inr (inr (inr (inr (inl ((tag, (first, (last, (step, (body, tt))))), is, get spell_statement b _ _ ts is (for-is tag first last step body) h)))))
      by (Statement-F.Exit place) k = let is = sym (rolls-Exit place) ∙ k in inr (inr (inr (inr (inr (inl ((place, tt), is, get spell_statement b _ _ ts is (exit-is place) h))))))
      by Statement-F.Return k = let is = sym rolls-Return ∙ k in inr (inr (inr (inr (inr (inr (tt, is, get spell_statement b _ _ ts is return-is h))))))

  statement_law : Lawful (suc n) (read.statement (suc n) e st) (read.statement (suc (suc n)) e' st') (Is spell_statement) sees_statement Always
  unfolding read.statement
  statement_law = adjust (suc n) _ _ _ (Or (sees w.Semicolon) (Or (sees_name) (Or (sees w.If) (Or (sees w.Case) (Or (sees w.For) (Or (sees w.Exit) (sees w.Return))))))) Always sees_statement Always (fit (Or (sees w.Semicolon) (Or (sees_name) (Or (sees w.If) (Or (sees w.Case) (Or (sees w.For) (Or (sees w.Exit) (sees w.Return))))))) (sees_statement) refl (λ _. refl) (λ _. refl) refl) (fit (Always) (Always) refl (λ _. refl) (λ _. refl) refl)
      (recast (suc n) _ _ Statements (Is spell_statement) _ Always to_statement from_statement
      (either_part (suc n) (sees w.Semicolon) _ _ _ _ _ _ (sees w.Semicolon) (Or (sees_name) (Or (sees w.If) (Or (sees w.Case) (Or (sees w.For) (Or (sees w.Exit) (sees w.Return)))))) Always (made_part (suc n) (λ _. v.Empty) _ _ _ (sees w.Semicolon) Always (expect_word (suc n) w.Semicolon))
      (either_part (suc n) (sees_name) _ _ _ _ _ _ (sees_name) (Or (sees w.If) (Or (sees w.Case) (Or (sees w.For) (Or (sees w.Exit) (sees w.Return))))) Always named_statement_law
      (either_part (suc n) (sees w.If) _ _ _ _ _ _ (sees w.If) (Or (sees w.Case) (Or (sees w.For) (Or (sees w.Exit) (sees w.Return)))) Always conditional_law
      (either_part (suc n) (sees w.Case) _ _ _ _ _ _ (sees w.Case) (Or (sees w.For) (Or (sees w.Exit) (sees w.Return))) Always choice_law
      (either_part (suc n) (sees w.For) _ _ _ _ _ _ (sees w.For) (Or (sees w.Exit) (sees w.Return)) Always counted_law
      (either_part (suc n) (sees w.Exit) _ _ _ _ _ _ (sees w.Exit) (sees w.Return) Always exit_law
      return_law
      (fit (sees w.Exit) (sees w.Exit) refl (λ _. refl) (λ _. refl) refl) (fit (sees w.Return) (Not (sees w.Exit)) refl (λ _. refl) (λ _. refl) refl))
      (fit (sees w.For) (sees w.For) refl (λ _. refl) (λ _. refl) refl) (fit (Or (sees w.Exit) (sees w.Return)) (Not (sees w.For)) refl (λ _. refl) (λ _. refl) refl))
      (fit (sees w.Case) (sees w.Case) refl (λ _. refl) (λ _. refl) refl) (fit (Or (sees w.For) (Or (sees w.Exit) (sees w.Return))) (Not (sees w.Case)) refl (λ _. refl) (λ _. refl) refl))
      (fit (sees w.If) (sees w.If) refl (λ _. refl) (λ _. refl) refl) (fit (Or (sees w.Case) (Or (sees w.For) (Or (sees w.Exit) (sees w.Return)))) (Not (sees w.If)) refl (λ _. refl) (λ _. refl) refl))
      (fit (sees_name) (sees_name) refl (λ _. refl) (λ _. refl) refl) (fit (Or (sees w.If) (Or (sees w.Case) (Or (sees w.For) (Or (sees w.Exit) (sees w.Return))))) (Not (sees_name)) refl (λ _. refl) (λ _. refl) refl))
      (fit (sees w.Semicolon) (sees w.Semicolon) refl (λ _. refl) (λ _. refl) refl) (fit (Or (sees_name) (Or (sees w.If) (Or (sees w.Case) (Or (sees w.For) (Or (sees w.Exit) (sees w.Return)))))) (Not (sees w.Semicolon)) refl (λ _. refl) (λ _. refl) refl)))

  statement_some : (b : Statement) (ts : List Token) → Is spell_statement b ts → 0 < length ts
  statement_some b [] h = absurd (none (statement_law.heads b [] [] h refl))
    where
      none : false ≡ true → ⊥
      none k = absurd (cc)
  statement_some b (t ∷ ts) h = omega arith

  pub several_law : Lawful (suc n) (read.several (suc n) e st) (read.several (suc (suc n)) e' st') (Is (each spell_statement)) Always ends_statements
  several_law = adjust (suc n) _ _ _ (Or sees_statement ends_statements) ends_statements Always ends_statements (fit (Or sees_statement ends_statements) (Always) refl (λ _. refl) (λ _. refl) refl) (fit (ends_statements) (ends_statements) refl (λ _. refl) (λ _. refl) refl)
      (many_part (suc n) sees_statement _ _ spell_statement sees_statement Always ends_statements statement_law (fit (sees_statement) (sees_statement) refl (λ _. refl) (λ _. refl) refl) (fit (ends_statements) (Not sees_statement) refl (λ _. refl) (λ _. refl) refl) (fit (Or sees_statement ends_statements) (Always) refl (λ _. refl) (λ _. refl) refl) statement_some)

  -- the statements up to END_PROGRAM
  pub to_end_law : Lawful (suc n) (read.several (suc n) e st) (read.several (suc (suc n)) e' st') (Is (each spell_statement)) (Or sees_statement (sees w.EndProgram)) (sees w.EndProgram)
  to_end_law = many_part (suc n) sees_statement _ _ spell_statement sees_statement Always (sees w.EndProgram) statement_law (fit (sees_statement) (sees_statement) refl (λ _. refl) (λ _. refl) refl) (fit (sees w.EndProgram) (Not sees_statement) refl (λ _. refl) (λ _. refl) refl) (fit (Or sees_statement (sees w.EndProgram)) (Always) refl (λ _. refl) (λ _. refl) refl) statement_some

-- ---- the recursion

zero_law : Lawful 0 (statements_at 0) (statements_at 1) (Is (each spell_statement)) Always ends_statements
unfolding statements_at
zero_law = record {
  takes = λ ts a ks h. absurd (cc);
  fails = λ ts left h. record { front = []; ks = ts; whole = refl; remains = cc; local = λ js e. refl; end = []; value = []; completed = tt };
  again = λ a front ks h short. absurd (omega arith);
  heads = λ a front ks h e. refl;
  same = λ ts short. absurd (omega arith);
  sample = record { value = []; tokens = []; spelled = tt };
}

pub statement_laws : (n : ℕ) → Lawful n (statements_at n) (statements_at (suc n)) (Is (each spell_statement)) Always ends_statements
unfolding statements_at
statement_laws zero = zero_law
statement_laws (suc n) = several_law n (expr_at n) (expr_at (suc n)) (statements_at n) (statements_at (suc n)) (expr_laws n) (statement_laws n)

pub statements_to_end : (n : ℕ) → Lawful (suc n) (statements_at (suc n)) (statements_at (suc (suc n))) (Is (each spell_statement)) (Or sees_statement (sees w.EndProgram)) (sees w.EndProgram)
unfolding statements_at
statements_to_end n = to_end_law n (expr_at n) (expr_at (suc n)) (statements_at n) (statements_at (suc n)) (expr_laws n) (statement_laws n)
