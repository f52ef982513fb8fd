use Rattle.std.proofs.Common.{arith, ◌+◌, map, fold, refl, ap, sym, ◌∙◌}
use Rattle.function_blocks.specs.declared.kinds.Kind.TheVariants as k
use Rattle.st_tree.specs.declared.statement.Branch.{out-Branch}
use Rattle.st_tree.specs.declared.statement.Element.{out-Element}
use Rattle.st_core.specs.Core.{Act}
use Rattle.st_core.specs.Costs.{term_cost}
use Rattle.st_core.specs.Codes.{size_of}
use Rattle.st_meaning.specs.Expressions.{settled, elaborated, term_of, integer_of}
use Rattle.st_meaning.specs.Statements.{Labelled, within, or_within, range_of, Guarded, guarded, in_order, act_of, acts_of}
use Rattle.code_size.specs.Limits.{limited}
use Rattle.code_size.specs.Inner.Parts.{branch_in, element_in, behind_else}
use Rattle.code_size.specs.Inner.Guards.{guard_size, guards_size}
use Rattle.code_size.proofs.ActParts.{empty-is, assignment-is, block-call-is, if-is, case-is, for-is, exit-is, return-is, branch-out, element-out}
use Rattle.code_size.proofs.Countings.{counts_from, counts_more, counts_none}
use Rattle.code_size.proofs.ActSizes.{order_size, none_size, guards_more, no_guards, choice_sizes, skip_size, exit_size, return_size, loop_none_size, loop_some_size}
use Rattle.code_size.proofs.sizes.+sizes.Goals as goal

pub size_of_block-loop-s-init : goal.size_of_block-loop-s-init
size_of_block-loop-s-init t c = λ ts. counts_from (λ xs. size_of (in_order (map (act_of ts) xs))) (λ s. size_of (act_of ts s)) (λ x xs. order_size (act_of ts x) (map (act_of ts) xs)) c.args.statements.now _ 0 0 refl (omega arith)

pub size_of_block-loop-s-preserved : goal.size_of_block-loop-s-preserved
size_of_block-loop-s-preserved t c = λ ts.
    counts_more (λ xs. size_of (in_order (map (act_of ts) xs))) (λ s. size_of (act_of ts s)) (λ x xs. order_size (act_of ts x) (map (act_of ts) xs)) c.args.statements.now c.loop-s.s-index _ c.s-item.result c.loop-s.size c.size_of_statement.result c.plus-size.result c.loop-s-test.true c.s-item.is (c.loop-s.invariant ts) (c.size_of_statement.ensures ts) c.plus-size.ensures

pub size_of_block-returns : goal.size_of_block-returns
size_of_block-returns t c = λ ts. counts_none (λ xs. size_of (in_order (map (act_of ts) xs))) (λ s. size_of (act_of ts s)) (λ x xs. order_size (act_of ts x) (map (act_of ts) xs)) c.args.statements.now c.loop-s.s-index _ c.loop-s.size c.loop-s-test.false (c.loop-s.invariant ts) none_size

pub size_of_branches-loop-b-init : goal.size_of_branches-loop-b-init
size_of_branches-loop-b-init t c = λ ts. counts_from (λ xs. guards_size (map (branch_in ts) xs)) (λ b. guard_size (branch_in ts b)) (λ x xs. guards_more (branch_in ts x) (map (branch_in ts) xs)) c.args.branches.now _ 0 0 refl (omega arith)

pub size_of_branches-loop-b-preserved : goal.size_of_branches-loop-b-preserved
size_of_branches-loop-b-preserved t c = λ ts.
    counts_more (λ xs. guards_size (map (branch_in ts) xs)) (λ b. guard_size (branch_in ts b)) (λ x xs. guards_more (branch_in ts x) (map (branch_in ts) xs)) c.args.branches.now c.loop-b.b-index _ c.b-item.result c.loop-b.size c.size_of_branch.result c.plus-size.result c.loop-b-test.true c.b-item.is (c.loop-b.invariant ts) (c.size_of_branch.ensures ts) c.plus-size.ensures

pub size_of_branches-returns : goal.size_of_branches-returns
size_of_branches-returns t c = λ ts. counts_none (λ xs. guards_size (map (branch_in ts) xs)) (λ b. guard_size (branch_in ts b)) (λ x xs. guards_more (branch_in ts x) (map (branch_in ts) xs)) c.args.branches.now c.loop-b.b-index _ c.loop-b.size c.loop-b-test.false (c.loop-b.invariant ts) no_guards

pub size_of_elements-loop-e-init : goal.size_of_elements-loop-e-init
size_of_elements-loop-e-init t c = λ ts u h. counts_from (λ xs. guards_size (map (guarded u) (map (element_in ts) xs))) (λ e. guard_size (guarded u (element_in ts e))) (λ x xs. guards_more (guarded u (element_in ts x)) (map (guarded u) (map (element_in ts) xs))) c.args.elements.now _ 0 0 refl (omega arith)

pub size_of_elements-loop-e-preserved : goal.size_of_elements-loop-e-preserved
size_of_elements-loop-e-preserved t c = λ ts u h.
    counts_more (λ xs. guards_size (map (guarded u) (map (element_in ts) xs))) (λ e. guard_size (guarded u (element_in ts e))) (λ x xs. guards_more (guarded u (element_in ts x)) (map (guarded u) (map (element_in ts) xs))) c.args.elements.now c.loop-e.e-index _ c.e-item.result c.loop-e.size c.size_of_element.result c.plus-size.result c.loop-e-test.true c.e-item.is (c.loop-e.invariant ts u h) (c.size_of_element.ensures ts u h) c.plus-size.ensures

pub size_of_elements-returns : goal.size_of_elements-returns
size_of_elements-returns t c = λ ts u h. counts_none (λ xs. guards_size (map (guarded u) (map (element_in ts) xs))) (λ e. guard_size (guarded u (element_in ts e))) (λ x xs. guards_more (guarded u (element_in ts x)) (map (guarded u) (map (element_in ts) xs))) c.args.elements.now c.loop-e.e-index _ c.loop-e.size c.loop-e-test.false (c.loop-e.invariant ts u h) no_guards

pub size_of_branch-returns : goal.size_of_branch-returns
size_of_branch-returns t c = λ ts.
    let b = out-Branch c.args.b.now in
    let test = term_of ts k.Bool b.condition in
    c.plus-2.ensures (term_cost test + 1 + size_of (acts_of ts b.body)) 1
    (c.plus.ensures (term_cost test + 1) (size_of (acts_of ts b.body)) (c.plus-test.ensures (term_cost test) 1 (c.cost_of_expr.ensures ts k.Bool) refl) (c.size_of_block.ensures ts ∙ ap (λ l. limited (size_of (acts_of ts l))) c.as_slice.ensures)) refl
    ∙ ap (λ (g : Guarded). limited (guard_size g)) (sym (branch-out ts c.args.b.now))

pub size_of_element-returns : goal.size_of_element-returns
size_of_element-returns t c = λ ts u h.
    let e = out-Element c.args.e.now in
    let test = fold (or_within u) (within u (range_of e.first)) (map range_of e.more) in
    c.plus-2.ensures (term_cost test + 1 + size_of (acts_of ts e.body)) 1
    (c.plus.ensures (term_cost test + 1) (size_of (acts_of ts e.body))
    (c.plus-test.ensures (term_cost test) 1 (c.cost_of_labels.ensures u (range_of e.first) h ∙ ap (λ l. limited (term_cost (fold (or_within u) (within u (range_of e.first)) (map range_of l)))) c.as_slice.ensures) refl)
    (c.size_of_block.ensures ts ∙ ap (λ l. limited (size_of (acts_of ts l))) c.as_slice-2.ensures)) refl
    ∙ ap (λ (x : Labelled). limited (guard_size (guarded u x))) (sym (element-out ts c.args.e.now))

pub size_of_statement-returns-in-Empty : goal.size_of_statement-returns-in-Empty
size_of_statement-returns-in-Empty t c = λ ts. ap limited skip_size ∙ ap (λ (a : Act). limited (size_of a)) (sym (ap (act_of ts) c.in-Empty.is ∙ empty-is ts))

pub size_of_statement-returns-in-Exit : goal.size_of_statement-returns-in-Exit
size_of_statement-returns-in-Exit t c = λ ts. ap limited exit_size ∙ ap (λ (a : Act). limited (size_of a)) (sym (ap (act_of ts) c.in-Exit.is ∙ exit-is ts c.in-Exit.field-0))

pub size_of_statement-returns-in-Return : goal.size_of_statement-returns-in-Return
size_of_statement-returns-in-Return t c = λ ts. ap limited return_size ∙ ap (λ (a : Act). limited (size_of a)) (sym (ap (act_of ts) c.in-Return.is ∙ return-is ts))

pub size_of_statement-returns-in-Assignment : goal.size_of_statement-returns-in-Assignment
size_of_statement-returns-in-Assignment t c = λ ts. c.size_of_assignment.ensures ts ∙ ap (λ (a : Act). limited (size_of a)) (sym (ap (act_of ts) c.in-Assignment.is ∙ assignment-is ts c.in-Assignment.a))

pub size_of_statement-returns-in-BlockCall : goal.size_of_statement-returns-in-BlockCall
size_of_statement-returns-in-BlockCall t c = λ ts. c.size_of_block_call.ensures ts ∙ ap (λ (a : Act). limited (size_of a)) (sym (ap (act_of ts) c.in-BlockCall.is ∙ block-call-is ts c.in-BlockCall.call))

pub size_of_statement-returns-then-has_no_turn : goal.size_of_statement-returns-then-has_no_turn
size_of_statement-returns-then-has_no_turn t c = λ ts.
    ap limited (sym (ap size_of (ap (act_of ts) c.in-For.is ∙ for-is ts c.in-For.tag c.in-For.first c.in-For.last c.in-For.step c.in-For.body) ∙ loop_none_size _ _ _ _ _ _ (sym c.if-has_no_turn.ensures)))

pub size_of_statement-returns-else-has_no_turn : goal.size_of_statement-returns-else-has_no_turn
size_of_statement-returns-else-has_no_turn t c = λ ts.
    let b = acts_of ts c.in-For.body in
    c.plus-else-has_no_turn-2.ensures (2 + size_of b) 1 (c.plus-else-has_no_turn.ensures 2 (size_of b) refl (c.size_of_block-else-has_no_turn.ensures ts ∙ ap (λ l. limited (size_of (acts_of ts l))) c.as_slice-else-has_no_turn.ensures)) refl
    ∙ ap limited (sym (ap size_of (ap (act_of ts) c.in-For.is ∙ for-is ts c.in-For.tag c.in-For.first c.in-For.last c.in-For.step c.in-For.body) ∙ loop_some_size _ _ _ _ _ _ (sym c.if-has_no_turn.ensures)))

pub size_of_statement-returns-in-If : goal.size_of_statement-returns-in-If
size_of_statement-returns-in-If t c = λ ts.
    let g = branch_in ts c.in-If.first in let gs = map (branch_in ts) c.in-If.more in
    let b = acts_of ts (behind_else c.in-If.otherwise) in
    c.plus.ensures (guard_size g + guards_size gs) (size_of b) (c.plus-several.ensures (guard_size g) (guards_size gs) (c.size_of_branch-one.ensures ts) (c.size_of_branches.ensures ts ∙ ap (λ l. limited (guards_size (map (branch_in ts) l))) c.as_slice.ensures)) (c.size_of_block.ensures ts ∙ ap (λ l. limited (size_of (acts_of ts l))) c.behind_else.ensures)
    ∙ ap limited (choice_sizes g gs b ∙ sym (ap size_of (ap (act_of ts) c.in-If.is ∙ if-is ts c.in-If.first c.in-If.more c.in-If.otherwise)))

pub size_of_statement-returns-in-Case : goal.size_of_statement-returns-in-Case
size_of_statement-returns-in-Case t c = λ ts.
    let u = integer_of ts c.in-Case.selector in
    let g = guarded u (element_in ts c.in-Case.first) in let gs = map (guarded u) (map (element_in ts) c.in-Case.more) in
    let b = acts_of ts (behind_else c.in-Case.otherwise) in
    let h = c.cost_of_expr-cost.ensures ts (settled (elaborated ts c.in-Case.selector).own) in
    c.plus-in-Case.ensures (guard_size g + guards_size gs) (size_of b) (c.plus-several-in-Case.ensures (guard_size g) (guards_size gs) (c.size_of_element-one.ensures ts u h) (c.size_of_elements.ensures ts u h ∙ ap (λ l. limited (guards_size (map (guarded u) (map (element_in ts) l)))) c.as_slice-in-Case.ensures)) (c.size_of_block-in-Case.ensures ts ∙ ap (λ l. limited (size_of (acts_of ts l))) c.behind_else-in-Case.ensures)
    ∙ ap limited (choice_sizes g gs b ∙ sym (ap size_of (ap (act_of ts) c.in-Case.is ∙ case-is ts c.in-Case.selector c.in-Case.first c.in-Case.more c.in-Case.otherwise)))
