-- Statements that nest at most 64 deep have no term with too many operands waiting.
use Rattle.std.proofs.Common.{◌≡◌, ℕ, ℤ, ◌+◌, ◌≤◌, max, List, [], ◌∷◌, map, fold, Option, None, Some, arith, refl, ap, sym, ◌∙◌, subst}
use Rattle.std.specs.Option.{option_map}
use Rattle.function_blocks.specs.declared.kinds.Kind.{Kind}
use Rattle.function_blocks.specs.declared.kinds.Kind.TheVariants as kind
use Rattle.st_tree.specs.declared.declaration.DeclaredType.{DeclaredType}
use Rattle.st_tree.specs.declared.expression.Expr.{Expr}
use Rattle.st_tree.specs.declared.statement.Assignment.{Assignment}
use Rattle.st_tree.specs.declared.statement.Input.{Input}
use Rattle.st_tree.specs.declared.statement.Inputs.{Inputs}
use Rattle.st_tree.specs.declared.statement.BlockCall.{BlockCall}
use Rattle.st_tree.specs.declared.statement.Label.{Label}
use Rattle.st_tree.specs.declared.statement.Statement.{Statement, roll-Statement, map-Statement, ind-Statement}
use Rattle.st_tree.specs.declared.statement.Statement.TheVariants.{rolls-Empty, rolls-Assignment, rolls-BlockCall, rolls-If, rolls-Case, rolls-For, rolls-Exit, rolls-Return}
use Rattle.st_tree.specs.declared.statement.Branch.{Branch, roll-Branch, map-Branch}
use Rattle.st_tree.specs.declared.statement.Element.{Element, roll-Element, map-Element}
use Rattle.st_tree.specs.declared.statement.Statement.TheOpen.{Statement-F, Branch-F, Element-F}
use Rattle.st_tree.specs.declared.tag.Tag.{Tag}
use Rattle.st_tree.specs.Typing.Statements.{inputs_in}
use Rattle.st_tree.specs.TreeNesting.{deepest, if_any, expr_nesting, assignment_nesting, input_nesting, inputs_nesting, call_nesting, statement_nestings, body_nesting}
use Rattle.st_tree.specs.StatementFolds.{fold_statement, fold_branch, fold_element}
use Rattle.st_tree.proofs.StatementEquations.{at-empty, at-assignment, at-blockcall, at-if, at-case, at-for, at-exit, at-return, at-branch, at-element}
use Rattle.st_core.specs.Core.{Name, Term, Act}
use Rattle.st_core.specs.Core as c
use Rattle.st_core.specs.Fits.{height_of, StaysLow}
use Rattle.st_meaning.specs.Types.{type_of, word_type, element_type, block_of, field_type}
use Rattle.st_meaning.specs.Expressions.{settled, settled_term, elaborated, integer_of}
use Rattle.st_meaning.specs.Statements.{Guarded, Labelled, in_order, choice, otherwise, set_to, assignment, Given, set_input, given, block_call, within, or_within, guarded, statement_parts, act_of, acts_of}
use Rattle.st_meaning.specs.Laws.{StaysLowWhereShallow}
use Rattle.st_meaning.proofs.Heights.{low_expr}

-- ---- tests of labels

or_height : (t u : Term) → height_of (c.Binary c.Or t u) ≡ max (height_of t) (height_of u + 1)
unfolding height_of
or_height t u = refl

within_height : (t : Term) (range : ℤ × ℤ) → height_of (within t range) ≡ height_of t
unfolding height_of
within_height t range = refl

labels_low : (t : Term) (more : List (ℤ × ℤ)) (a : Term) → height_of a ≤ height_of t + 1 → height_of (fold (or_within t) a more) ≤ height_of t + 1
labels_low t [] a h = h
labels_low t (r ∷ rs) a h = labels_low t rs (or_within t a r) (omega (arith, h, or_height a (within t r), within_height t r))

guarded_low : (t : Term) (l : Labelled) → height_of (guarded t l).condition ≤ height_of t + 1
guarded_low t l = labels_low t l.more (within t l.first) (omega (arith, within_height t l.first))

max_first : (ds : List ℕ) (m : ℕ) → m ≤ fold max m ds
max_first [] m = omega arith
max_first (d ∷ ds) m = omega (arith, max_first ds (max m d))

-- ---- choices

-- a condition and its body
abbrev LowGuard : Guarded → Type 0
LowGuard g = (height_of g.condition ≤ 1024) × StaysLow g.body

unfoldable LowGuards : List Guarded → Type 0
LowGuards [] = Unit {0}
LowGuards (g ∷ gs) = LowGuard g × LowGuards gs

choice_low : (gs : List Guarded) (other : Act) → LowGuards gs → StaysLow other → StaysLow (choice gs other)
unfolding choice StaysLow LowGuards
choice_low [] other h o = o
choice_low (g ∷ gs) other h o = (h.0.0, h.0.1, choice_low gs other h.1 o)

abbrev statement_depth : Statement → ℕ
statement_depth = fold_statement statement_nestings

abbrev branch_depth : Branch → ℕ
branch_depth = fold_branch statement_nestings

abbrev element_depth : Element → ℕ
element_depth = fold_element statement_nestings

module _ (tags : List Tag) where
  expr_low : (e : Expr) (k : Kind) → expr_nesting e ≤ 64 → height_of ((elaborated tags e).asked k) ≤ 1000
  expr_low e k le = omega (arith, le, low_expr tags e k)

  -- ---- statements without statements

  set_low : (n : Name) (type : Option DeclaredType) (index : Option Expr) (value : Expr) → max (if_any (λ i. expr_nesting i + 1) index) (expr_nesting value) ≤ 64
      → StaysLow (set_to n type (option_map (elaborated tags) index) (elaborated tags value))
  unfolding StaysLow
  set_low n type None value le = omega (arith, expr_low value (word_type type) (omega (arith, le)))
  set_low n type (Some index) value le =
      (omega (arith, expr_low index (settled (elaborated tags index).own) (omega (arith, le))), omega (arith, expr_low value (element_type type) (omega (arith, le))))

  inputs_low : (n : Name) (type : Option DeclaredType) (more : List Input) (m : ℕ) → fold max m (map input_nesting more) ≤ 64 → StaysLow (in_order (map (set_input n type) (map (given tags) more))) × (m ≤ 64)
  unfolding StaysLow in_order
  inputs_low n type [] m h = (tt, h)
  inputs_low n type (i ∷ more) m h =
      let next = inputs_low n type more (max m (input_nesting i)) h in
      ((omega (arith, expr_low i.value (field_type (block_of type) i.name.name) (omega (arith, next.1))), next.0), omega (arith, next.1))

  call_low : (n : Name) (type : Option DeclaredType) (o : Option Inputs) → if_any inputs_nesting o ≤ 64 → StaysLow (in_order (map (set_input n type) (map (given tags) (inputs_in o))))
  unfolding StaysLow in_order
  call_low n type None h = tt
  call_low n type (Some i) h = (inputs_low n type (i.first ∷ i.more) 0 h).0

  -- ---- all statements

  abbrev Act_of : Statement → Act
  Act_of = fold_statement (statement_parts tags)

  abbrev Guarded_of : Branch → Guarded
  Guarded_of = fold_branch (statement_parts tags)

  abbrev Labelled_of : Element → Labelled
  Labelled_of = fold_element (statement_parts tags)

  abbrev OfStatement : Statement → Type 0
  OfStatement s = statement_depth s ≤ 64 → StaysLow (Act_of s)

  abbrev PStatement : Type 0
  PStatement = (s : Statement) × OfStatement s

  abbrev OfBranch : Branch → Type 0
  OfBranch b = branch_depth b ≤ 64 → LowGuard (Guarded_of b)

  abbrev PBranch : Type 0
  PBranch = (b : Branch) × OfBranch b

  abbrev OfElement : Element → Type 0
  OfElement e = element_depth e ≤ 64 → StaysLow (Labelled_of e).body

  abbrev PElement : Type 0
  PElement = (e : Element) × OfElement e

  abbrev statements : List PStatement → List Statement
  statements qs = map (λ (q : PStatement). q.0) qs

  abbrev branches : List PBranch → List Branch
  branches qs = map (λ (q : PBranch). q.0) qs

  abbrev elements : List PElement → List Element
  elements qs = map (λ (q : PElement). q.0) qs

  body_low : (qs : List PStatement) (m : ℕ) → fold max m (map statement_depth (statements qs)) ≤ 64 → StaysLow (in_order (map Act_of (statements qs))) × (m ≤ 64)
  unfolding StaysLow in_order
  body_low [] m h = (tt, h)
  body_low (q ∷ qs) m h =
      let next = body_low qs (max m (statement_depth q.0)) h in
      ((q.1 (omega (arith, next.1)), next.0), omega (arith, next.1))

  guards_low : (qs : List PBranch) (m : ℕ) → fold max m (map branch_depth (branches qs)) ≤ 64 → LowGuards (map Guarded_of (branches qs)) × (m ≤ 64)
  unfolding LowGuards
  guards_low [] m h = (tt, h)
  guards_low (q ∷ qs) m h =
      let next = guards_low qs (max m (branch_depth q.0)) h in
      ((q.1 (omega (arith, next.1)), next.0), omega (arith, next.1))

  elements_low : (t : Term) → height_of t ≤ 1000 → (qs : List PElement) (m : ℕ) → fold max m (map element_depth (elements qs)) ≤ 64 → LowGuards (map (guarded t) (map Labelled_of (elements qs))) × (m ≤ 64)
  unfolding LowGuards
  elements_low t low [] m h = (tt, h)
  elements_low t low (q ∷ qs) m h =
      let next = elements_low t low qs (max m (element_depth q.0)) h in
      (((omega (arith, low, guarded_low t (Labelled_of q.0)), q.1 (omega (arith, next.1))), next.0), omega (arith, next.1))

  abbrev else_depth : Option (List Statement) → ℕ
  else_depth others = if_any deepest (option_map (map statement_depth) others)

  else_low : (o : Option (List PStatement)) → else_depth (option_map statements o) ≤ 64 → StaysLow (otherwise (option_map (map Act_of) (option_map statements o)))
  unfolding StaysLow
  else_low None h = tt
  else_low (Some qs) h = (body_low qs 0 h).0

  if_low : (first : PBranch) (more : List PBranch) (others : Option (List PStatement))
      → max (deepest (branch_depth first.0 ∷ map branch_depth (branches more))) (else_depth (option_map statements others)) + 1 ≤ 64
      → StaysLow (choice (Guarded_of first.0 ∷ map Guarded_of (branches more)) (otherwise (option_map (map Act_of) (option_map statements others))))
  if_low first more others h =
      choice_low _ _ (guards_low (first ∷ more) 0 (omega (arith, h))).0 (else_low others (omega (arith, h)))

  case_low : (selector : Expr) (first : PElement) (more : List PElement) (others : Option (List PStatement))
      → max (max (expr_nesting selector) (deepest (element_depth first.0 ∷ map element_depth (elements more)))) (else_depth (option_map statements others)) + 1 ≤ 64
      → StaysLow (choice (map (guarded (integer_of tags selector)) (Labelled_of first.0 ∷ map Labelled_of (elements more))) (otherwise (option_map (map Act_of) (option_map statements others))))
  case_low selector first more others h =
      let low : height_of (integer_of tags selector) ≤ 1000 = expr_low selector (settled (elaborated tags selector).own) (omega (arith, h)) in
      choice_low _ _ (elements_low (integer_of tags selector) low (first ∷ more) 0 (omega (arith, h))).0 (else_low others (omega (arith, h)))

  -- a variant as it is rolled, by what is known of it where it is made
  of_made : (z made : Statement) (n : ℕ) (a : Act) → z ≡ made → Act_of made ≡ a → statement_depth made ≡ n → (n ≤ 64 → StaysLow a) → OfStatement z
  of_made z made n a is does deep h le = subst StaysLow (sym (ap Act_of is ∙ does)) (h (subst (λ i. i ≤ 64) (ap statement_depth is ∙ deep) le))

  of_statement_layer : (x : Statement-F Statement Branch Element) (y : Statement-F PStatement PBranch PElement) → map-Statement PStatement PBranch PElement Statement Branch Element (λ q. q.0) (λ q. q.0) (λ q. q.0) y ≡ x → OfStatement (roll-Statement x)
  unfolding StaysLow
  of_statement_layer x (Statement-F.Empty) is = subst (λ z. OfStatement (roll-Statement z)) is
      (of_made _ _ _ _ (rolls-Empty) (at-empty (statement_parts tags)) (at-empty statement_nestings) (λ le. tt))
  of_statement_layer x (Statement-F.Assignment a) is = subst (λ z. OfStatement (roll-Statement z)) is
      (of_made _ _ _ _ (rolls-Assignment a) (at-assignment (statement_parts tags) a) (at-assignment statement_nestings a) (λ le. set_low a.target.name (type_of tags a.target.name) a.index a.value le))
  of_statement_layer x (Statement-F.BlockCall b) is = subst (λ z. OfStatement (roll-Statement z)) is
      (of_made _ _ _ _ (rolls-BlockCall b) (at-blockcall (statement_parts tags) b) (at-blockcall statement_nestings b) (λ le. (call_low b.block.name (type_of tags b.block.name) b.inputs (omega (arith, le)), tt)))
  of_statement_layer x (Statement-F.If first more None) is = subst (λ z. OfStatement (roll-Statement z)) is
      (of_made _ _ _ _ (rolls-If first.0 (branches more) None) (at-if (statement_parts tags) first.0 (branches more) None) (at-if statement_nestings first.0 (branches more) None) (λ le. if_low first more None le))
  of_statement_layer x (Statement-F.Case selector first more None) is = subst (λ z. OfStatement (roll-Statement z)) is
      (of_made _ _ _ _ (rolls-Case selector first.0 (elements more) None) (at-case (statement_parts tags) selector first.0 (elements more) None) (at-case statement_nestings selector first.0 (elements more) None) (λ le. case_low selector first more None le))
  of_statement_layer x (Statement-F.If first more (Some body)) is = subst (λ z. OfStatement (roll-Statement z)) is
      (of_made _ _ _ _ (rolls-If first.0 (branches more) (Some (statements body))) (at-if (statement_parts tags) first.0 (branches more) (Some (statements body))) (at-if statement_nestings first.0 (branches more) (Some (statements body))) (λ le. if_low first more (Some body) le))
  of_statement_layer x (Statement-F.Case selector first more (Some body)) is = subst (λ z. OfStatement (roll-Statement z)) is
      (of_made _ _ _ _ (rolls-Case selector first.0 (elements more) (Some (statements body))) (at-case (statement_parts tags) selector first.0 (elements more) (Some (statements body))) (at-case statement_nestings selector first.0 (elements more) (Some (statements body))) (λ le. case_low selector first more (Some body) le))
  of_statement_layer x (Statement-F.For n first last step body) is = subst (λ z. OfStatement (roll-Statement z)) is
      (of_made _ _ _ _ (rolls-For n first last step (statements body)) (at-for (statement_parts tags) n first last step (statements body)) (at-for statement_nestings n first last step (statements body)) (λ le. (body_low body 0 (omega (arith, le))).0))
  of_statement_layer x (Statement-F.Exit place) is = subst (λ z. OfStatement (roll-Statement z)) is
      (of_made _ _ _ _ (rolls-Exit place) (at-exit (statement_parts tags) place) (at-exit statement_nestings place) (λ le. tt))
  of_statement_layer x (Statement-F.Return) is = subst (λ z. OfStatement (roll-Statement z)) is
      (of_made _ _ _ _ (rolls-Return) (at-return (statement_parts tags)) (at-return statement_nestings) (λ le. tt))

  of_branch : (condition : Expr) (body : List PStatement) → OfBranch (roll-Branch (record { condition = condition; body = statements body }))
  of_branch condition body le =
      let depth : max (expr_nesting condition) (deepest (map statement_depth (statements body))) ≤ 64 = subst (λ n. n ≤ 64) (at-branch statement_nestings condition (statements body)) le in
      subst LowGuard (sym (at-branch (statement_parts tags) condition (statements body)))
      (omega (arith, expr_low condition kind.Bool (omega (arith, depth))), (body_low body 0 (omega (arith, depth))).0)

  of_branch_layer : (x : Branch-F Statement Branch Element) (y : Branch-F PStatement PBranch PElement) → map-Branch PStatement PBranch PElement Statement Branch Element (λ q. q.0) (λ q. q.0) (λ q. q.0) y ≡ x → OfBranch (roll-Branch x)
  of_branch_layer x y is = subst (λ z. OfBranch (roll-Branch z)) is (of_branch y.condition y.body)

  of_element : (first : Label) (more : List Label) (body : List PStatement) → OfElement (roll-Element (record { first = first; more = more; body = statements body }))
  of_element first more body le =
      let depth : deepest (map statement_depth (statements body)) ≤ 64 = subst (λ n. n ≤ 64) (at-element statement_nestings first more (statements body)) le in
      subst (λ (l : Labelled). StaysLow l.body) (sym (at-element (statement_parts tags) first more (statements body))) (body_low body 0 depth).0

  of_element_layer : (x : Element-F Statement Branch Element) (y : Element-F PStatement PBranch PElement) → map-Element PStatement PBranch PElement Statement Branch Element (λ q. q.0) (λ q. q.0) (λ q. q.0) y ≡ x → OfElement (roll-Element x)
  of_element_layer x y is = subst (λ z. OfElement (roll-Element z)) is (of_element y.first y.more y.body)

  low_statement : (s : Statement) → OfStatement s
  low_statement = ind-Statement OfStatement OfBranch OfElement of_statement_layer of_branch_layer of_element_layer

  statements_low : (ss : List Statement) (m : ℕ) → fold max m (map statement_depth ss) ≤ 64 → StaysLow (in_order (map (act_of tags) ss)) × (m ≤ 64)
  unfolding StaysLow in_order act_of
  statements_low [] m h = (tt, h)
  statements_low (s ∷ ss) m h =
      let next = statements_low ss (max m (statement_depth s)) h in
      ((low_statement s (omega (arith, next.1)), next.0), omega (arith, next.1))

pub stays_low : StaysLowWhereShallow
unfolding body_nesting
stays_low tags statements le = (statements_low tags statements 0 le).0
