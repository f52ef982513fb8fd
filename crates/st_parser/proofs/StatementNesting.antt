-- How deep statements nest.
use Rattle.std.proofs.Common.{◌≡◌, ℕ, ◌+◌, max, List, [], ◌∷◌, ◌++◌, map, Option, None, Some, arith, refl, ap, sym, ◌∙◌, subst, append_assoc, append-nil}
use Rattle.std.specs.Option.{option_map}
use Rattle.st_tree.specs.declared.token.Fixed.TheVariants as w
use Rattle.st_tree.specs.declared.token.TokenKind.TheVariants as kind
use Rattle.st_tree.specs.declared.declaration.PlacedName.{PlacedName}
use Rattle.st_tree.specs.declared.declaration.Integer.{Integer}
use Rattle.st_tree.specs.declared.declaration.Sign.{Sign}
use Rattle.st_tree.specs.declared.declaration.Sign.TheVariants as sign
use Rattle.st_tree.specs.declared.expression.Expr.{Expr}
use Rattle.st_tree.specs.declared.statement.Assignment.{Assignment}
use Rattle.st_tree.specs.declared.statement.Input.{Input}
use Rattle.st_tree.specs.declared.statement.Inputs.{Inputs}
use Rattle.st_tree.specs.declared.statement.BlockCall.{BlockCall}
use Rattle.st_tree.specs.declared.statement.Label.{Label}
use Rattle.st_tree.specs.declared.statement.Statement.{Statement, roll-Statement, map-Statement, ind-Statement}
use Rattle.st_tree.specs.declared.statement.Statement.TheVariants.{rolls-Empty, rolls-Assignment, rolls-BlockCall, rolls-If, rolls-Case, rolls-For, rolls-Exit, rolls-Return}
use Rattle.st_tree.specs.declared.statement.Branch.{Branch, roll-Branch, map-Branch}
use Rattle.st_tree.specs.declared.statement.Element.{Element, roll-Element, map-Element}
use Rattle.st_tree.specs.declared.statement.Statement.TheOpen.{Statement-F, Branch-F, Element-F}
use Rattle.st_tree.specs.Pieces.{Piece, Anywhere, Placed, ◌·◌, word, word_at, name, each}
use Rattle.st_tree.specs.Pieces as pieces
use Rattle.st_tree.specs.Nesting.{nesting_with}
use Rattle.st_tree.specs.TreeNesting.{deepest, if_any, expr_nesting, assignment_nesting, input_nesting, inputs_nesting, call_nesting, statement_nestings}
use Rattle.st_tree.specs.StatementFolds.{fold_statement, fold_branch, fold_element}
use Rattle.st_tree.specs.Expressions.{spell_expr}
use Rattle.st_tree.specs.Declarations.{spell_integer, sign_word}
use Rattle.st_tree.specs.Statements.{spell_assignment, spell_input, spell_inputs, spell_call, spell_label, spell_statement}
use Rattle.st_tree.proofs.StatementEquations.{at-empty, at-assignment, at-blockcall, at-if, at-case, at-for, at-exit, at-return, at-branch, at-element}
use Rattle.st_parser.proofs.StatementSpelling.{spell_branch, spell_element, spell_otherwise, branch-is, element-is, empty-is, assignment-is, call-is, exit-is, return-is, if-is, case-is, for-is}
use Rattle.st_parser.proofs.PieceNesting.{Nests, nests_to, nests_piece, nests_append, nests_bracket, nests_each, nests_behind, nests_none, nests_before, nests_closed, nests_more, nests_all, nests_flat, closes_one}
use Rattle.st_parser.proofs.ExpressionNesting.{nests_expr}

-- ---- what has no brackets

quiet_sign : (s : Sign) (d : ℕ) → nesting_with d (kind.Fixed (sign_word s)) ≡ d
quiet_sign sign.Plus d = refl
quiet_sign sign.Minus d = refl

pub nests_integer : (i : Integer) → Nests (spell_integer i) 0
nests_integer i = by i.sign
  where
    by : (s : Option (Sign × ℕ)) → Nests (pieces.maybe (λ (s : Sign × ℕ). word_at (sign_word s.0) s.1) s · pieces.number_at i.number i.place) 0
    by None = nests_piece (Placed (kind.Number i.number) i.place) (λ d. refl)
    by (Some s) = nests_behind (Placed (kind.Fixed (sign_word s.0)) s.1) _ 0 (quiet_sign s.0) (nests_piece (Placed (kind.Number i.number) i.place) (λ d. refl))

nests_label : (l : Label) → Nests (spell_label l) 0
nests_label l = by l.high
  where
    by : (high : Option Integer) → Nests (spell_integer l.low · pieces.maybe (λ high. word w.Range · spell_integer high) high) 0
    by None = nests_to _ (spell_integer l.low) 0 0 (append-nil (spell_integer l.low)) refl (nests_integer l.low)
    by (Some high) = nests_append (spell_integer l.low) (word w.Range · spell_integer high) 0 0 (nests_integer l.low) (nests_behind (Anywhere (kind.Fixed w.Range)) _ 0 (λ d. refl) (nests_integer high))

-- ---- statements without statements

nests_assignment : (a : Assignment) → Nests (spell_assignment a) (assignment_nesting a)
nests_assignment a = by a.index
  where
    value : Nests (word w.Assign · spell_expr a.value · word w.Semicolon) (expr_nesting a.value)
    value = nests_behind (Anywhere (kind.Fixed w.Assign)) _ (expr_nesting a.value) (λ d. refl) (nests_before (Anywhere (kind.Fixed w.Semicolon)) (spell_expr a.value) (expr_nesting a.value) (λ d. refl) (nests_expr a.value))

    by : (index : Option Expr) → Nests (name a.target · pieces.maybe (λ i. word w.OpenBracket · spell_expr i · word w.CloseBracket) index · word w.Assign · spell_expr a.value · word w.Semicolon) (max (if_any (λ i. expr_nesting i + 1) index) (expr_nesting a.value))
    by None = nests_behind (Placed (kind.Name a.target.name) a.target.place) _ _ (λ d. refl) (nests_to _ _ _ (expr_nesting a.value) refl (omega arith) value)
    by (Some i) = nests_behind (Placed (kind.Name a.target.name) a.target.place) _ _ (λ d. refl)
        (nests_append (word w.OpenBracket · spell_expr i · word w.CloseBracket) (word w.Assign · spell_expr a.value · word w.Semicolon) (expr_nesting i + 1) (expr_nesting a.value)
        (nests_bracket (Anywhere (kind.Fixed w.OpenBracket)) (Anywhere (kind.Fixed w.CloseBracket)) (spell_expr i) (expr_nesting i) (λ d. refl) closes_one (nests_expr i)) value)

nests_input : (i : Input) → Nests (spell_input i) (input_nesting i)
nests_input i = nests_behind (Placed (kind.Name i.name.name) i.name.place) _ _ (λ d. refl) (nests_behind (Anywhere (kind.Fixed w.Assign)) _ _ (λ d. refl) (nests_expr i.value))

nests_inputs : (i : Inputs) → Nests (spell_inputs i) (inputs_nesting i)
nests_inputs i = nests_each (λ i. word w.Comma · spell_input i) input_nesting (λ i. nests_behind (Anywhere (kind.Fixed w.Comma)) _ _ (λ d. refl) (nests_input i)) i.more (spell_input i.first) (max 0 (input_nesting i.first))
    (nests_to _ _ _ (input_nesting i.first) refl (omega arith) (nests_input i.first))

nests_call : (c : BlockCall) → Nests (spell_call c) (call_nesting c)
nests_call c = nests_behind (Placed (kind.Name c.block.name) c.block.place) _ _ (λ d. refl)
    (nests_closed (Anywhere (kind.Fixed w.OpenParen)) (Anywhere (kind.Fixed w.CloseParen)) (Anywhere (kind.Fixed w.Semicolon)) (pieces.maybe spell_inputs c.inputs) (if_any inputs_nesting c.inputs) (λ d. refl) closes_one (λ d. refl) (inputs c.inputs))
  where
    inputs : (o : Option Inputs) → Nests (pieces.maybe spell_inputs o) (if_any inputs_nesting o)
    inputs None = nests_none
    inputs (Some i) = nests_inputs i

-- ---- all statements

abbrev pub statement_depth : Statement → ℕ
statement_depth = fold_statement statement_nestings

abbrev branch_depth : Branch → ℕ
branch_depth = fold_branch statement_nestings

abbrev element_depth : Element → ℕ
element_depth = fold_element statement_nestings

abbrev OfStatement : Statement → Type 0
OfStatement s = Nests (spell_statement s) (statement_depth s)

abbrev PStatement : Type 0
PStatement = (s : Statement) × OfStatement s

abbrev OfBranch : Branch → Type 0
OfBranch b = Nests (spell_branch b) (branch_depth b)

abbrev PBranch : Type 0
PBranch = (b : Branch) × OfBranch b

abbrev OfElement : Element → Type 0
OfElement e = Nests (spell_element e) (element_depth e)

abbrev PElement : Type 0
PElement = (e : Element) × OfElement e

abbrev statements : List PStatement → List Statement
statements qs = map (λ (q : PStatement). q.0) qs

body_nests : (qs : List PStatement) → Nests (each spell_statement (statements qs)) (deepest (map statement_depth (statements qs)))
body_nests qs = nests_all spell_statement statement_depth (λ (q : PStatement). q.0) (λ q. q.1) qs

abbrev else_depth : Option (List Statement) → ℕ
else_depth others = if_any deepest (option_map (map statement_depth) others)

else_nests : (o : Option (List PStatement)) → Nests (spell_otherwise (option_map statements o)) (else_depth (option_map statements o))
else_nests None = nests_none
else_nests (Some qs) = nests_behind (Anywhere (kind.Fixed w.Else)) _ _ (λ d. refl) (body_nests qs)

if_nests : (first : PBranch) (more : List PBranch) (others : Option (List PStatement)) → Nests (word w.If · spell_branch first.0 · each (λ b. word w.Elsif · spell_branch b) (map (λ (q : PBranch). q.0) more) · spell_otherwise (option_map statements others) · word w.EndIf · word w.Semicolon)
    (max (deepest (branch_depth first.0 ∷ map branch_depth (map (λ (q : PBranch). q.0) more))) (else_depth (option_map statements others)) + 1)
if_nests first more others =
    let a = spell_branch first.0 in
    let b = each (λ (b : Branch). word w.Elsif · spell_branch b) (map (λ (q : PBranch). q.0) more) in
    let o = spell_otherwise (option_map statements others) in
    let c = Anywhere (kind.Fixed w.EndIf) ∷ Anywhere (kind.Fixed w.Semicolon) ∷ [] in
    let flat : a ++ (b ++ (o ++ c)) ≡ ((a ++ b) ++ o) ++ c = sym (append_assoc (a ++ b) o c ∙ append_assoc a b (o ++ c)) in
    nests_to _ (Anywhere (kind.Fixed w.If) ∷ (((a ++ b) ++ o) ++ c)) _ _ (ap (λ l. Anywhere (kind.Fixed w.If) ∷ l) flat) refl
    (nests_closed (Anywhere (kind.Fixed w.If)) (Anywhere (kind.Fixed w.EndIf)) (Anywhere (kind.Fixed w.Semicolon)) ((a ++ b) ++ o) _ (λ d. refl) closes_one (λ d. refl)
    (nests_append (a ++ b) o _ _ (nests_more (λ (b : Branch). word w.Elsif · spell_branch b) branch_depth (λ (q : PBranch). q.0) (λ q. nests_behind (Anywhere (kind.Fixed w.Elsif)) _ _ (λ d. refl) q.1) more a (max 0 (branch_depth first.0))
    (nests_to _ _ _ (branch_depth first.0) refl (omega arith) first.1)) (else_nests others)))

case_nests : (selector : Expr) (first : PElement) (more : List PElement) (others : Option (List PStatement)) → Nests (word w.Case · spell_expr selector · word w.Of · spell_element first.0 · each spell_element (map (λ (q : PElement). q.0) more) · spell_otherwise (option_map statements others) · word w.EndCase · word w.Semicolon)
    (max (max (expr_nesting selector) (deepest (element_depth first.0 ∷ map element_depth (map (λ (q : PElement). q.0) more)))) (else_depth (option_map statements others)) + 1)
case_nests selector first more others =
    let s = spell_expr selector in
    let a = spell_element first.0 ++ each spell_element (map (λ (q : PElement). q.0) more) in
    let o = spell_otherwise (option_map statements others) in
    let c = Anywhere (kind.Fixed w.EndCase) ∷ Anywhere (kind.Fixed w.Semicolon) ∷ [] in
    let of = Anywhere (kind.Fixed w.Of) in
    let flat : s ++ (of ∷ (spell_element first.0 ++ (each spell_element (map (λ (q : PElement). q.0) more) ++ (o ++ c)))) ≡ ((s ++ (of ∷ a)) ++ o) ++ c =
    ap (λ l. s ++ (of ∷ l)) (sym (append_assoc (spell_element first.0) (each spell_element (map (λ (q : PElement). q.0) more)) (o ++ c)))
    ∙ sym (append_assoc (s ++ (of ∷ a)) o c ∙ append_assoc s (of ∷ a) (o ++ c)) in
    nests_to _ (Anywhere (kind.Fixed w.Case) ∷ (((s ++ (of ∷ a)) ++ o) ++ c)) _ _ (ap (λ l. Anywhere (kind.Fixed w.Case) ∷ l) flat) refl
    (nests_closed (Anywhere (kind.Fixed w.Case)) (Anywhere (kind.Fixed w.EndCase)) (Anywhere (kind.Fixed w.Semicolon)) ((s ++ (of ∷ a)) ++ o) _ (λ d. refl) closes_one (λ d. refl)
    (nests_append (s ++ (of ∷ a)) o _ _ (nests_append s (of ∷ a) _ _ (nests_expr selector) (nests_behind of a _ (λ d. refl)
    (nests_more spell_element element_depth (λ (q : PElement). q.0) (λ q. q.1) more (spell_element first.0) (max 0 (element_depth first.0)) (nests_to _ _ _ (element_depth first.0) refl (omega arith) first.1)))) (else_nests others)))

step_nests : (o : Option Integer) → Nests (pieces.maybe (λ i. word w.By · spell_integer i) o) 0
step_nests None = nests_none
step_nests (Some i) = nests_behind (Anywhere (kind.Fixed w.By)) _ 0 (λ d. refl) (nests_integer i)

for_nests : (tag : PlacedName) (first last : Integer) (step : Option Integer) (body : List PStatement) → Nests (word w.For · name tag · word w.Assign · spell_integer first · word w.To · spell_integer last · pieces.maybe (λ i. word w.By · spell_integer i) step · word w.Do · each spell_statement (statements body) · word w.EndFor · word w.Semicolon)
    (deepest (map statement_depth (statements body)) + 1)
for_nests tag first last step body =
    let f = spell_integer first in
    let l = Anywhere (kind.Fixed w.To) ∷ spell_integer last in
    let s = pieces.maybe (λ i. word w.By · spell_integer i) step in
    let b = Anywhere (kind.Fixed w.Do) ∷ each spell_statement (statements body) in
    let c = Anywhere (kind.Fixed w.EndFor) ∷ Anywhere (kind.Fixed w.Semicolon) ∷ [] in
    let n = deepest (map statement_depth (statements body)) in
    let front = λ (ps : List Piece). Placed (kind.Name tag.name) tag.place ∷ (Anywhere (kind.Fixed w.Assign) ∷ ps) in
    let flat : f ++ (l ++ (s ++ (b ++ c))) ≡ (((f ++ l) ++ s) ++ b) ++ c = sym (append_assoc ((f ++ l) ++ s) b c ∙ (append_assoc (f ++ l) s (b ++ c) ∙ append_assoc f l (s ++ (b ++ c)))) in
    let flat_parts : Nests ((f ++ l) ++ s) 0 = nests_append (f ++ l) s 0 0 (nests_append f l 0 0 (nests_integer first) (nests_behind (Anywhere (kind.Fixed w.To)) _ 0 (λ d. refl) (nests_integer last))) (step_nests step) in
    let inside : Nests (((f ++ l) ++ s) ++ b) n = nests_to _ _ n (max 0 n) refl (omega arith) (nests_append ((f ++ l) ++ s) b 0 n flat_parts (nests_behind (Anywhere (kind.Fixed w.Do)) _ n (λ d. refl) (body_nests body))) in
    nests_to _ (Anywhere (kind.Fixed w.For) ∷ (front (((f ++ l) ++ s) ++ b) ++ c)) _ _ (ap (λ l. Anywhere (kind.Fixed w.For) ∷ front l) flat) refl
    (nests_closed (Anywhere (kind.Fixed w.For)) (Anywhere (kind.Fixed w.EndFor)) (Anywhere (kind.Fixed w.Semicolon)) (front (((f ++ l) ++ s) ++ b)) n (λ d. refl) closes_one (λ d. refl)
    (nests_behind (Placed (kind.Name tag.name) tag.place) _ n (λ d. refl) (nests_behind (Anywhere (kind.Fixed w.Assign)) _ n (λ d. refl) inside)))

-- a variant as it is rolled, by what is known of it where it is made
of_made : (z made : Statement) (n : ℕ) (ps : List Piece) → z ≡ made → spell_statement made ≡ ps → statement_depth made ≡ n → Nests ps n → OfStatement z
of_made z made n ps is spelled deep h = nests_to _ ps _ n (ap spell_statement is ∙ spelled) (ap statement_depth is ∙ deep) h

of_statement_layer : (x : Statement-F Statement Branch Element) (y : Statement-F PStatement PBranch PElement) → map-Statement PStatement PBranch PElement Statement Branch Element (λ q. q.0) (λ q. q.0) (λ q. q.0) y ≡ x → OfStatement (roll-Statement x)
of_statement_layer x Statement-F.Empty is = subst (λ z. OfStatement (roll-Statement z)) is
    (of_made _ _ _ _ rolls-Empty empty-is (at-empty statement_nestings) (nests_piece (Anywhere (kind.Fixed w.Semicolon)) (λ d. refl)))
of_statement_layer x (Statement-F.Assignment a) is = subst (λ z. OfStatement (roll-Statement z)) is
    (of_made _ _ _ _ (rolls-Assignment a) (assignment-is a) (at-assignment statement_nestings a) (nests_assignment a))
of_statement_layer x (Statement-F.BlockCall c) is = subst (λ z. OfStatement (roll-Statement z)) is
    (of_made _ _ _ _ (rolls-BlockCall c) (call-is c) (at-blockcall statement_nestings c) (nests_call c))
of_statement_layer x (Statement-F.If first more None) is =
    let bs = map (λ (q : PBranch). q.0) more in
    subst (λ z. OfStatement (roll-Statement z)) is
    (of_made _ _ _ _ (rolls-If first.0 bs None) (if-is first.0 bs None) (at-if statement_nestings first.0 bs None) (if_nests first more None))
of_statement_layer x (Statement-F.If first more (Some body)) is =
    let bs = map (λ (q : PBranch). q.0) more in
    let ss = Some (statements body) in
    subst (λ z. OfStatement (roll-Statement z)) is
    (of_made _ _ _ _ (rolls-If first.0 bs ss) (if-is first.0 bs ss) (at-if statement_nestings first.0 bs ss) (if_nests first more (Some body)))
of_statement_layer x (Statement-F.Case selector first more None) is =
    let es = map (λ (q : PElement). q.0) more in
    subst (λ z. OfStatement (roll-Statement z)) is
    (of_made _ _ _ _ (rolls-Case selector first.0 es None) (case-is selector first.0 es None) (at-case statement_nestings selector first.0 es None) (case_nests selector first more None))
of_statement_layer x (Statement-F.Case selector first more (Some body)) is =
    let es = map (λ (q : PElement). q.0) more in
    let ss = Some (statements body) in
    subst (λ z. OfStatement (roll-Statement z)) is
    (of_made _ _ _ _ (rolls-Case selector first.0 es ss) (case-is selector first.0 es ss) (at-case statement_nestings selector first.0 es ss) (case_nests selector first more (Some body)))
of_statement_layer x (Statement-F.For tag first last step body) is =
    let ss = statements body in
    subst (λ z. OfStatement (roll-Statement z)) is
    (of_made _ _ _ _ (rolls-For tag first last step ss) (for-is tag first last step ss) (at-for statement_nestings tag first last step ss) (for_nests tag first last step body))
of_statement_layer x (Statement-F.Exit place) is = subst (λ z. OfStatement (roll-Statement z)) is
    (of_made _ _ _ _ (rolls-Exit place) (exit-is place) (at-exit statement_nestings place) (nests_behind (Placed (kind.Fixed w.Exit) place) _ 0 (λ d. refl) (nests_piece (Anywhere (kind.Fixed w.Semicolon)) (λ d. refl))))
of_statement_layer x Statement-F.Return is = subst (λ z. OfStatement (roll-Statement z)) is
    (of_made _ _ _ _ rolls-Return return-is (at-return statement_nestings) (nests_behind (Anywhere (kind.Fixed w.Return)) _ 0 (λ d. refl) (nests_piece (Anywhere (kind.Fixed w.Semicolon)) (λ d. refl))))

of_branch : (condition : Expr) (body : List PStatement) → OfBranch (roll-Branch (record { condition = condition; body = statements body }))
of_branch condition body =
    let ss = statements body in
    nests_to _ _ _ _ (branch-is condition ss) (at-branch statement_nestings condition ss)
    (nests_append (spell_expr condition) (word w.Then · each spell_statement ss) _ _ (nests_expr condition) (nests_behind (Anywhere (kind.Fixed w.Then)) _ _ (λ d. refl) (body_nests body)))

of_branch_layer : (x : Branch-F Statement Branch Element) (y : Branch-F PStatement PBranch PElement) → map-Branch PStatement PBranch PElement Statement Branch Element (λ q. q.0) (λ q. q.0) (λ q. q.0) y ≡ x → OfBranch (roll-Branch x)
of_branch_layer x y is = subst (λ z. OfBranch (roll-Branch z)) is (of_branch y.condition y.body)

of_element : (first : Label) (more : List Label) (body : List PStatement) → OfElement (roll-Element (record { first = first; more = more; body = statements body }))
of_element first more body =
    let ss = statements body in
    let n = deepest (map statement_depth ss) in
    let labels = each (λ (l : Label). word w.Comma · spell_label l) more in
    nests_to _ _ _ n (element-is first more ss) (at-element statement_nestings first more ss)
    (nests_to _ _ n (max 0 (max 0 n)) refl (omega arith) (nests_append (spell_label first) (labels · word w.Colon · each spell_statement ss) 0 (max 0 n) (nests_label first)
    (nests_append labels (word w.Colon · each spell_statement ss) 0 n (nests_flat (λ (l : Label). word w.Comma · spell_label l) (λ l. nests_behind (Anywhere (kind.Fixed w.Comma)) _ 0 (λ d. refl) (nests_label l)) more) (nests_behind (Anywhere (kind.Fixed w.Colon)) _ n (λ d. refl) (body_nests body)))))

of_element_layer : (x : Element-F Statement Branch Element) (y : Element-F PStatement PBranch PElement) → map-Element PStatement PBranch PElement Statement Branch Element (λ q. q.0) (λ q. q.0) (λ q. q.0) y ≡ x → OfElement (roll-Element x)
of_element_layer x y is = subst (λ z. OfElement (roll-Element z)) is (of_element y.first y.more y.body)

-- a statement's tokens nest as deep as the statement
pub nests_statement : (s : Statement) → Nests (spell_statement s) (statement_depth s)
nests_statement = ind-Statement OfStatement OfBranch OfElement of_statement_layer of_branch_layer of_element_layer
