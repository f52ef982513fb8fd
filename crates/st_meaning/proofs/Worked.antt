-- The programs worked by hand.
use Rattle.std.proofs.Common.{◌≡◌, ℕ, ◌+◌, ◌*◌, ◌/◌, max, ℤ, pos, ◌-ℤ◌, unsigned_abs, Bool, true, false, List, [], ◌∷◌, None, map, codes, length, refl, ap, sym, ◌∙◌}
use Rattle.function_blocks.specs.declared.kinds.Kind.{Kind}
use Rattle.function_blocks.specs.declared.kinds.Kind.TheVariants as kind
use Rattle.tri_base.specs.declared.point.PointKind.TheVariants.{Ai, Ao}
use Rattle.chassis.specs.Points.{outputs_of}
use Rattle.st_tree.specs.declared.expression.Primary.{Primary}
use Rattle.st_tree.specs.declared.expression.Primary.TheVariants as tree_primary
use Rattle.st_tree.specs.declared.expression.Primary.TheOpen.{Primary-F, Unary-F}
use Rattle.st_tree.specs.declared.expression.Unary.TheVariants as tree_unary
use Rattle.st_tree.specs.declared.expression.Product.{roll-Product}
use Rattle.st_tree.specs.declared.expression.Sum.{roll-Sum}
use Rattle.st_tree.specs.declared.expression.Comparison.{roll-Comparison}
use Rattle.st_tree.specs.declared.expression.Equality.{roll-Equality}
use Rattle.st_tree.specs.declared.expression.Conjunction.{roll-Conjunction}
use Rattle.st_tree.specs.declared.expression.Exclusive.{roll-Exclusive}
use Rattle.st_tree.specs.declared.tag.Tag.{Tag}
use Rattle.st_tree.specs.ExpressionFolds.{fold_primary}
use Rattle.st_tree.specs.Tags.{tags_of}
use Rattle.st_tree.proofs.ExpressionEquations.{at-number, at-truth, at-tag, at-plain, at-product, at-sum, at-comparison, at-equality, at-conjunction, at-exclusive, at-expr}
use Rattle.st_tree.proofs.StatementEquations.{at-assignment}
use Rattle.st_core.specs.Core.{Name, Term, Act}
use Rattle.st_core.specs.Core as c
use Rattle.st_core.specs.Environments.{numbers_of, with_numbers}
use Rattle.st_core.specs.Terms.{value_of}
use Rattle.st_core.specs.Effects.{effect_of, turns, is_past, written_from}
use Rattle.st_core.specs.Costs.{term_cost, loop_cost, cost_of}
use Rattle.st_core.specs.Memory.{words_of}
use Rattle.st_core.proofs.Loops.{written_more}
use Rattle.st_core.proofs.Counts.{turns_counted}
use Rattle.st_tree.specs.Tags.{tag_named}
use Rattle.st_meaning.specs.Functions.{combined}
use Rattle.st_meaning.specs.Types.{type_of}
use Rattle.st_meaning.specs.Expressions.{Elaborated, settled_term, primary, unary, expression_parts, elaborated}
use Rattle.st_meaning.specs.Statements.{Guarded, Labelled, in_order, choice, set_to, guarded, statement_parts, act_of}
use Rattle.st_meaning.specs.Programs.{Scanned, body_of, with_inputs, output_of, scan_of}
use Rattle.st_meaning.specs.Worked.{tags, literal, truth_literal, written_name, analogue, for_i, counts, alone, sets_x, written_case, written_if, x_behind, valve_follows, WorkedValues, WorkedOperators, WorkedForms, WorkedStatements, WorkedCosts, WorkedPoints, WorkedScan, Worked}

values : WorkedValues
unfolding numbers_of with_numbers value_of effect_of turns written_from words_of tag_named combined in_order choice
values = record {
  sum_is_clamped = refl;
  quotient_is_clamped = refl;
  by_zero = refl;
  toward_zero = refl;
  conversion_is_clamped = refl;
  from_the_left = refl;
  functions = refl;
  index_is_clamped = refl;
}

operators : WorkedOperators
unfolding numbers_of value_of tag_named combined
operators = record {
  one_with_two = refl;
  two_with_two = refl;
  three_with_two = refl;
  true_with_true = refl;
  true_with_false = refl;
  false_with_true = refl;
  false_with_false = refl;
  rows_group_to_the_left = refl;
  functions_choose = refl;
  conversions_keep = refl;
  fields_of_blocks = refl;
}

-- ---- whole expressions

-- a primary alone is what the primary is
alone_is : (ts : List Tag) (x : Primary) → elaborated ts (alone x) ≡ unary (Unary-F.Plain (fold_primary (expression_parts ts) x))
unfolding elaborated
alone_is ts x =
    let s = expression_parts ts in
    let product = roll-Product (record { first = tree_unary.Plain x; more = [] }) in
    let sum = roll-Sum (record { first = product; more = [] }) in
    let comparison = roll-Comparison (record { first = sum; more = [] }) in
    let equality = roll-Equality (record { first = comparison; more = [] }) in
    let conjunction = roll-Conjunction (record { first = equality; more = [] }) in
    let exclusive = roll-Exclusive (record { first = conjunction; more = [] }) in
    at-expr s exclusive [] ∙ at-exclusive s conjunction [] ∙ at-conjunction s equality [] ∙ at-equality s comparison []
    ∙ at-comparison s sum [] ∙ at-sum s product [] ∙ at-product s (tree_unary.Plain x) [] ∙ at-plain s x

number_is : (n : ℕ) → elaborated tags (alone (tree_primary.Number n 0)) ≡ literal n
number_is n =
    alone_is tags (tree_primary.Number n 0) ∙ ap (λ e. unary (Unary-F.Plain e)) (at-number (expression_parts tags) n 0)

truth_is : (b : Bool) → elaborated tags (alone (tree_primary.Truth b 0)) ≡ truth_literal b
truth_is b =
    alone_is tags (tree_primary.Truth b 0) ∙ ap (λ e. unary (Unary-F.Plain e)) (at-truth (expression_parts tags) b 0)

tag_is : (ts : List Tag) (n : Name) → elaborated ts (alone (tree_primary.Tag (written_name n))) ≡ unary (Unary-F.Plain (primary ts (Primary-F.Tag (written_name n))))
tag_is ts n =
    alone_is ts (tree_primary.Tag (written_name n)) ∙ ap (λ e. unary (Unary-F.Plain e)) (at-tag (expression_parts ts) (written_name n))

-- ---- statements as the tree has them

-- 1..4: X := 1;
abbrev one_to_four : Labelled
one_to_four = record { first = (pos 1, pos 4); more = []; body = in_order (sets_x 1) }

abbrev case_with : Elaborated → Act
case_with selector = choice (guarded (settled_term selector) one_to_four ∷ []) (in_order (sets_x 2))

case_is : (n : ℕ) → written_case n ≡ case_with (literal n)
case_is n = ap case_with (number_is n)

abbrev branch_with : Elaborated → ℕ → Guarded
branch_with e n = record { condition = e.asked kind.Bool; body = in_order (sets_x n) }

abbrev if_with : (a b : Elaborated) → Act
if_with a b = choice (branch_with a 1 ∷ branch_with b 2 ∷ []) (in_order (sets_x 3))

if_is : (a b : Bool) → written_if a b ≡ if_with (truth_literal a) (truth_literal b)
if_is a b =
    ap (λ e. if_with e (elaborated tags (alone (tree_primary.Truth b 0)))) (truth_is a)
    ∙ ap (if_with (truth_literal a)) (truth_is b)

-- a list of four, value by value
four : {a b c d w x y z : ℤ} → a ≡ w → b ≡ x → c ≡ y → d ≡ z → a ∷ b ∷ c ∷ d ∷ [] ≡ w ∷ x ∷ y ∷ z ∷ []
four {a} {b} {c} {d} {w} {x} {y} {z} p q r s =
    ap (λ v. v ∷ b ∷ c ∷ d ∷ []) p ∙ ap (λ v. w ∷ v ∷ c ∷ d ∷ []) q ∙ ap (λ v. w ∷ x ∷ v ∷ d ∷ []) r
    ∙ ap (λ v. w ∷ x ∷ y ∷ v ∷ []) s

case_answers : (n : ℕ) (v : ℤ) → x_behind (case_with (literal n)) ≡ v → x_behind (written_case n) ≡ v
case_answers n v h = ap x_behind (case_is n) ∙ h

if_answers : (a b : Bool) (v : ℤ) → x_behind (if_with (truth_literal a) (truth_literal b)) ≡ v → x_behind (written_if a b) ≡ v
if_answers a b v h = ap x_behind (if_is a b) ∙ h

cases : map (λ n. x_behind (written_case n)) (0 ∷ 1 ∷ 4 ∷ 5 ∷ []) ≡ pos 2 ∷ pos 1 ∷ pos 1 ∷ pos 2 ∷ []
unfolding numbers_of with_numbers value_of effect_of tag_named in_order choice
cases =
    four (case_answers 0 (pos 2) refl) (case_answers 1 (pos 1) refl) (case_answers 4 (pos 1) refl)
    (case_answers 5 (pos 2) refl)

branches : x_behind (written_if true true) ∷ x_behind (written_if true false) ∷ x_behind (written_if false true) ∷ x_behind (written_if false false) ∷ [] ≡ pos 1 ∷ pos 1 ∷ pos 2 ∷ pos 3 ∷ []
unfolding numbers_of with_numbers value_of effect_of tag_named in_order choice
branches =
    four (if_answers true true (pos 1) refl) (if_answers true false (pos 1) refl)
    (if_answers false true (pos 2) refl) (if_answers false false (pos 3) refl)

forms : WorkedForms
unfolding numbers_of with_numbers value_of effect_of turns written_from words_of tag_named in_order
forms = record {
  step_of_one = refl;
  step_of_two = refl;
  range_with_both_ends = cases;
  first_branch_that_holds = branches;
}

statements : WorkedStatements
unfolding numbers_of with_numbers value_of effect_of turns written_from words_of tag_named combined in_order choice
statements = record {
  no_turn = refl;
  up_to_the_greatest = refl;
  downward = refl;
  exit_leaves_the_loop = refl;
  return_leaves_the_body = refl;
  first_label_that_holds = refl;
  on_delay = refl;
}

-- a loop with a turn
loop_cost_is : (n : Name) (k : Kind) (first last step : ℤ) (a : Act) → is_past step last first ≡ false → cost_of (c.For n k first last step a) ≡ 2 + (unsigned_abs (last -ℤ first) / max 1 (unsigned_abs step) + 1) * (cost_of a + 1)
unfolding cost_of
loop_cost_is n k first last step a now =
    let more = written_more (unsigned_abs (last -ℤ first)) step last first now in
    ap (λ vs. loop_cost vs (cost_of a)) more ∙ ap (λ k. 2 + k * (cost_of a + 1)) (sym (ap length more) ∙ turns_counted first last step now)

body_cost : cost_of counts ≡ 4
unfolding term_cost cost_of tag_named
body_cost = refl

inner_cost : cost_of (c.For (codes "J") kind.Int (pos 1) (pos 30000) (pos 1) counts) ≡ 150002
inner_cost = loop_cost_is (codes "J") kind.Int (pos 1) (pos 30000) (pos 1) counts refl ∙ ap (λ n. 2 + 30000 * (n + 1)) body_cost

outer_cost : cost_of (for_i (pos 1) (pos 30000) (pos 1) (c.For (codes "J") kind.Int (pos 1) (pos 30000) (pos 1) counts)) ≡ 4500090002
outer_cost =
    loop_cost_is (codes "I") kind.Int (pos 1) (pos 30000) (pos 1) (c.For (codes "J") kind.Int (pos 1) (pos 30000) (pos 1) counts) refl
    ∙ ap (λ n. 2 + 30000 * (n + 1)) inner_cost

costs : WorkedCosts
unfolding term_cost cost_of tag_named in_order
costs = record { assignment = refl; call = refl; nested_loops = outer_cost }

points : WorkedPoints
unfolding numbers_of with_numbers tag_named
points = record { inputs_are_set = refl; output_is_clamped = refl; output_is_not_declared = refl }

-- ---- a whole scan

-- VALVE := PRESS
abbrev follows : Act
follows = c.Then (c.Assign (codes "VALVE") 0 kind.Int (c.Field (codes "PRESS") 0 kind.Int)) c.Skip

body_is : body_of valve_follows ≡ follows
unfolding act_of tags_of tag_named in_order
body_is =
    let ts = tags_of valve_follows in
    ap (λ a. in_order (a ∷ [])) (at-assignment (statement_parts ts) (record { target = written_name (codes "VALVE"); index = None; value = alone (tree_primary.Tag (written_name (codes "PRESS"))) })
    ∙ ap (set_to (codes "VALVE") (type_of ts (codes "VALVE")) None) (tag_is ts (codes "PRESS")))

abbrev scan_with : Act → Scanned
scan_with body =
    let points = analogue (codes "PRESS") Ai ∷ analogue (codes "VALVE") Ao ∷ [] in
    let ts = tags_of valve_follows in
    let env = with_inputs points ts (pos 7 ∷ []) ((codes "PRESS", pos 3 ∷ []) ∷ (codes "VALVE", pos 3 ∷ []) ∷ []) in
    let e = effect_of (pos 100) body env in
    record { env = e.env; flag = e.flag; outputs = map (output_of ts e.env) (outputs_of points) }

scan_is : scan_with follows ≡ record { env = (codes "PRESS", pos 7 ∷ []) ∷ (codes "VALVE", pos 7 ∷ []) ∷ []; flag = false; outputs = pos 7 ∷ [] }
unfolding numbers_of with_numbers value_of effect_of tags_of tag_named
scan_is = refl

follows_cost : cost_of follows ≡ 2
unfolding term_cost cost_of
follows_cost = refl

scan : WorkedScan
unfolding scan_of
scan = record { scan = ap scan_with body_is ∙ scan_is; cost = ap cost_of body_is ∙ follows_cost }

pub worked : Worked
worked = record {
  values = values;
  operators = operators;
  forms = forms;
  statements = statements;
  costs = costs;
  points = points;
  scan = scan;
}
