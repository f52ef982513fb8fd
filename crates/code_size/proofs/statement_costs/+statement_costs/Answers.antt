use Rattle.std.proofs.Common.{arith, ◌+◌, map, fold, refl, ap, sym, ◌∙◌, subst}
use Rattle.std.specs.Option.{option_map}
use Rattle.function_blocks.specs.declared.kinds.Kind.TheVariants as k
use Rattle.st_tree.specs.declared.statement.Branch.{out-Branch}
use Rattle.st_tree.specs.declared.statement.Element.{out-Element}
use Rattle.st_core.specs.Core.{Act}
use Rattle.st_core.specs.Costs.{term_cost, cost_of}
use Rattle.st_meaning.specs.Types.{type_of}
use Rattle.st_meaning.specs.Expressions.{settled, elaborated, term_of, integer_of}
use Rattle.st_meaning.specs.Statements.{Labelled, within, or_within, range_of, Guarded, guarded, in_order, act_of, acts_of}
use Rattle.code_size.specs.Limits.{limited}
use Rattle.code_size.specs.Inner.Parts.{branch_in, element_in, behind_else}
use Rattle.code_size.specs.Inner.Paths.{IsPaths, IsWithPath, test_after, path_after, tests_after, best_after}
use Rattle.code_size.proofs.ActParts.{empty-is, assignment-is, block-call-is, if-is, case-is, for-is, exit-is, return-is, branch-out, element-out}
use Rattle.code_size.proofs.Countings.{counts_from, counts_more, counts_none, map_twice}
use Rattle.code_size.proofs.ActSizes.{assignment_same, call_same}
use Rattle.code_size.proofs.PathCosts.{order_cost, none_cost, skip_cost, exit_cost, return_cost, loop_none_cost, loop_some_cost, whole_cost, paths_from, paths_more, paths_all}
use Rattle.code_size.proofs.statement_costs.+statement_costs.Goals as goal

pub cost_of_block-loop-s-init : goal.cost_of_block-loop-s-init
cost_of_block-loop-s-init t c = λ ts. counts_from (λ xs. cost_of (in_order (map (act_of ts) xs))) (λ s. cost_of (act_of ts s)) (λ x xs. order_cost (act_of ts x) (map (act_of ts) xs)) c.args.statements.now _ 0 0 refl (omega arith)

pub cost_of_block-loop-s-preserved : goal.cost_of_block-loop-s-preserved
cost_of_block-loop-s-preserved t c = λ ts.
    counts_more (λ xs. cost_of (in_order (map (act_of ts) xs))) (λ s. cost_of (act_of ts s)) (λ x xs. order_cost (act_of ts x) (map (act_of ts) xs)) c.args.statements.now c.loop-s.s-index _ c.s-item.result c.loop-s.cost c.cost_of_statement.result c.plus-cost.result c.loop-s-test.true c.s-item.is (c.loop-s.invariant ts) (c.cost_of_statement.ensures ts) c.plus-cost.ensures

pub cost_of_block-returns : goal.cost_of_block-returns
cost_of_block-returns t c = λ ts. counts_none (λ xs. cost_of (in_order (map (act_of ts) xs))) (λ s. cost_of (act_of ts s)) (λ x xs. order_cost (act_of ts x) (map (act_of ts) xs)) c.args.statements.now c.loop-s.s-index _ c.loop-s.cost c.loop-s-test.false (c.loop-s.invariant ts) none_cost

pub with_branch-returns : goal.with_branch-returns
with_branch-returns t c = λ ts t' m p.
    let b = out-Branch c.args.b.now in
    subst (λ (g : Guarded). IsWithPath c.with_path.result t' m g) (sym (branch-out ts c.args.b.now))
    (c.with_path.ensures t' m (term_cost (term_of ts k.Bool b.condition)) (cost_of (acts_of ts b.body)) p (c.cost_of_expr-test.ensures ts k.Bool) (c.cost_of_block.ensures ts ∙ ap (λ l. limited (cost_of (acts_of ts l))) c.as_slice.ensures))

pub with_branches-loop-b-init : goal.with_branches-loop-b-init
with_branches-loop-b-init t c = λ ts t' m p. paths_from (branch_in ts) t' m c.args.branches.now c.args.paths p

pub with_branches-loop-b-preserved : goal.with_branches-loop-b-preserved
with_branches-loop-b-preserved t c = λ ts t' m p. paths_more (branch_in ts) t' m c.args.branches.now c.loop-b.b-index c.b-item.result c.loop-b.all c.with_branch-all.result c.loop-b-test.true c.b-item.is (c.loop-b.invariant ts t' m p) (c.with_branch-all.ensures ts)

pub with_branches-returns : goal.with_branches-returns
with_branches-returns t c = λ ts t' m p. paths_all (branch_in ts) t' m c.args.branches.now c.loop-b.b-index c.loop-b.all c.loop-b-test.false (c.loop-b.invariant ts t' m p)

pub with_element-returns : goal.with_element-returns
with_element-returns t c = λ ts u t' m h p.
    let e = out-Element c.args.e.now in
    let test = fold (or_within u) (within u (range_of e.first)) (map range_of e.more) in
    subst (λ (x : Labelled). IsWithPath c.with_path.result t' m (guarded u x)) (sym (element-out ts c.args.e.now))
    (c.with_path.ensures t' m (term_cost test) (cost_of (acts_of ts e.body)) p
    (c.cost_of_labels-test.ensures u (range_of e.first) h ∙ ap (λ l. limited (term_cost (fold (or_within u) (within u (range_of e.first)) (map range_of l)))) c.as_slice.ensures)
    (c.cost_of_block.ensures ts ∙ ap (λ l. limited (cost_of (acts_of ts l))) c.as_slice-2.ensures))

pub with_elements-loop-e-init : goal.with_elements-loop-e-init
with_elements-loop-e-init t c = λ ts u t' m h p. paths_from (λ e. guarded u (element_in ts e)) t' m c.args.elements.now c.args.paths p

pub with_elements-loop-e-preserved : goal.with_elements-loop-e-preserved
with_elements-loop-e-preserved t c = λ ts u t' m h p. paths_more (λ e. guarded u (element_in ts e)) t' m c.args.elements.now c.loop-e.e-index c.e-item.result c.loop-e.all c.with_element-all.result c.loop-e-test.true c.e-item.is (c.loop-e.invariant ts u t' m h p) (λ x y q. c.with_element-all.ensures ts u x y h q)

pub with_elements-returns : goal.with_elements-returns
with_elements-returns t c = λ ts u t' m h p.
    subst (λ gs. IsPaths c.loop-e.all (tests_after t' gs) (best_after t' m gs)) (sym (map_twice (element_in ts) (guarded u) c.args.elements.now))
    (paths_all (λ e. guarded u (element_in ts e)) t' m c.args.elements.now c.loop-e.e-index c.loop-e.all c.loop-e-test.false (c.loop-e.invariant ts u t' m h p))

pub cost_of_statement-returns-in-Empty : goal.cost_of_statement-returns-in-Empty
cost_of_statement-returns-in-Empty t c = λ ts. ap limited skip_cost ∙ ap (λ (a : Act). limited (cost_of a)) (sym (ap (act_of ts) c.in-Empty.is ∙ empty-is ts))

pub cost_of_statement-returns-in-Exit : goal.cost_of_statement-returns-in-Exit
cost_of_statement-returns-in-Exit t c = λ ts. ap limited exit_cost ∙ ap (λ (a : Act). limited (cost_of a)) (sym (ap (act_of ts) c.in-Exit.is ∙ exit-is ts c.in-Exit.field-0))

pub cost_of_statement-returns-in-Return : goal.cost_of_statement-returns-in-Return
cost_of_statement-returns-in-Return t c = λ ts. ap limited return_cost ∙ ap (λ (a : Act). limited (cost_of a)) (sym (ap (act_of ts) c.in-Return.is ∙ return-is ts))

pub cost_of_statement-returns-in-Assignment : goal.cost_of_statement-returns-in-Assignment
cost_of_statement-returns-in-Assignment t c = λ ts. c.size_of_assignment.ensures ts ∙ ap limited (assignment_same c.in-Assignment.a.target.name (type_of ts c.in-Assignment.a.target.name) (option_map (elaborated ts) c.in-Assignment.a.index) (elaborated ts c.in-Assignment.a.value)) ∙ ap (λ (a : Act). limited (cost_of a)) (sym (ap (act_of ts) c.in-Assignment.is ∙ assignment-is ts c.in-Assignment.a))

pub cost_of_statement-returns-in-BlockCall : goal.cost_of_statement-returns-in-BlockCall
cost_of_statement-returns-in-BlockCall t c = λ ts. c.size_of_block_call.ensures ts ∙ ap limited (call_same ts c.in-BlockCall.call) ∙ ap (λ (a : Act). limited (cost_of a)) (sym (ap (act_of ts) c.in-BlockCall.is ∙ block-call-is ts c.in-BlockCall.call))

pub cost_of_statement-returns-then-has_no_turn : goal.cost_of_statement-returns-then-has_no_turn
cost_of_statement-returns-then-has_no_turn t c = λ ts.
    ap limited (sym (ap cost_of (ap (act_of ts) c.in-For.is ∙ for-is ts c.in-For.tag c.in-For.first c.in-For.last c.in-For.step c.in-For.body) ∙ loop_none_cost _ _ _ _ _ _ (sym c.if-has_no_turn.ensures)))

pub cost_of_statement-returns-else-has_no_turn : goal.cost_of_statement-returns-else-has_no_turn
cost_of_statement-returns-else-has_no_turn t c = λ ts.
    let b = acts_of ts c.in-For.body in
    c.plus-else-has_no_turn.ensures 2 _ refl (c.times.ensures _ (cost_of b + 1) c.turn_count.ensures (c.plus-turn.ensures (cost_of b) 1 (c.cost_of_block.ensures ts ∙ ap (λ l. limited (cost_of (acts_of ts l))) c.as_slice-else-has_no_turn.ensures) refl))
    ∙ ap limited (sym (ap cost_of (ap (act_of ts) c.in-For.is ∙ for-is ts c.in-For.tag c.in-For.first c.in-For.last c.in-For.step c.in-For.body) ∙ loop_some_cost _ _ _ _ _ _ (sym c.if-has_no_turn.ensures)))

pub cost_of_statement-returns-in-If : goal.cost_of_statement-returns-in-If
cost_of_statement-returns-in-If t c = λ ts.
    let g = branch_in ts c.in-If.first in let gs = map (branch_in ts) c.in-If.more in
    let t1 = test_after 0 g in let m1 = path_after 0 0 g in
    let all : IsPaths c.with_branches-all.result (tests_after t1 gs) (best_after t1 m1 gs) = subst (λ l. IsPaths c.with_branches-all.result (tests_after t1 (map (branch_in ts) l)) (best_after t1 m1 (map (branch_in ts) l))) c.as_slice.ensures (c.with_branches-all.ensures ts t1 m1 (c.with_branch-one.ensures ts 0 0 (refl, refl))) in
    let b = acts_of ts (behind_else c.in-If.otherwise) in
    c.greater.ensures (best_after t1 m1 gs) (tests_after t1 gs + cost_of b) all.1 (c.plus.ensures (tests_after t1 gs) (cost_of b) all.0 (c.cost_of_block-others.ensures ts ∙ ap (λ l. limited (cost_of (acts_of ts l))) c.behind_else.ensures))
    ∙ ap limited (whole_cost g gs b ∙ sym (ap cost_of (ap (act_of ts) c.in-If.is ∙ if-is ts c.in-If.first c.in-If.more c.in-If.otherwise)))

pub cost_of_statement-returns-in-Case : goal.cost_of_statement-returns-in-Case
cost_of_statement-returns-in-Case t c = λ ts.
    let u = integer_of ts c.in-Case.selector in
    let g = guarded u (element_in ts c.in-Case.first) in let gs = map (guarded u) (map (element_in ts) c.in-Case.more) in
    let h = c.cost_of_expr-cost.ensures ts (settled (elaborated ts c.in-Case.selector).own) in
    let t1 = test_after 0 g in let m1 = path_after 0 0 g in
    let all : IsPaths c.with_elements-all.result (tests_after t1 gs) (best_after t1 m1 gs) = subst (λ l. IsPaths c.with_elements-all.result (tests_after t1 (map (guarded u) (map (element_in ts) l))) (best_after t1 m1 (map (guarded u) (map (element_in ts) l)))) c.as_slice-in-Case.ensures (c.with_elements-all.ensures ts u t1 m1 h (c.with_element-one.ensures ts u 0 0 h (refl, refl))) in
    let b = acts_of ts (behind_else c.in-Case.otherwise) in
    c.greater-in-Case.ensures (best_after t1 m1 gs) (tests_after t1 gs + cost_of b) all.1 (c.plus-in-Case.ensures (tests_after t1 gs) (cost_of b) all.0 (c.cost_of_block-others-in-Case.ensures ts ∙ ap (λ l. limited (cost_of (acts_of ts l))) c.behind_else-in-Case.ensures))
    ∙ ap limited (whole_cost g gs b ∙ sym (ap cost_of (ap (act_of ts) c.in-Case.is ∙ case-is ts c.in-Case.selector c.in-Case.first c.in-Case.more c.in-Case.otherwise)))
