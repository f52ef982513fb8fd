use Rattle.std.proofs.Common.{◌≡◌, ◌+◌, ◌++◌, [], ◌∷◌, drop, map, fold, length, OnOk, ap, sym, ◌∙◌, refl, subst, append-nil}
use Rattle.function_blocks.specs.declared.kinds.Kind.TheVariants as k
use Rattle.st_tree.specs.declared.statement.Element.{Element, out-Element}
use Rattle.st_tree.specs.declared.statement.Branch.{out-Branch}
use Rattle.st_tree.specs.Integers.{integer_value}
use Rattle.st_core.specs.Core.{Act}
use Rattle.st_core.specs.Core as core
use Rattle.st_core.specs.Codes.{act_code, size_of, term_code}
use Rattle.st_meaning.specs.Types.{type_of, word_type}
use Rattle.st_meaning.specs.Expressions.{term_of, integer_of}
use Rattle.st_meaning.specs.Statements.{Labelled, guarded, range_of, within, or_within, Guarded, in_order, step_of, act_of, acts_of}
use Rattle.st_sound.specs.Shapes.{shape_in}
use Rattle.code_size.specs.Inner.Parts.{branch_in, element_in, behind_else}
use Rattle.code_size.proofs.ActParts.{element-out, case-is, empty-is, assignment-is, block-call-is, if-is, for-is, exit-is, return-is, branch-out}
use Rattle.code_size.proofs.Countings.{map_twice}
use Rattle.scan_code.specs.Inner.Found.{word_type_of}
use Rattle.scan_code.specs.Inner.Emits.{spot_at, behind}
use Rattle.scan_code.specs.Inner.GuardCodes.{guard_code, guards_code, tail_code}
use Rattle.scan_code.proofs.ListCodes.{codes_more, codes_all, order_code, guards_code_more, no_guards_code}
use Rattle.scan_code.proofs.Primaries.{on_ok}
use Rattle.scan_code.proofs.StatementCodes.{tail_put, guard_put, choice_put, loop_put, no_loop_put, skip_put, none_put, exit_put, return_put}
use Rattle.scan_code.proofs.statements.+statements.Goals as goal

pub emit_block-loop-s-init : goal.emit_block-loop-s-init
emit_block-loop-s-init t c = refl

pub emit_block-loop-s-preserved : goal.emit_block-loop-s-preserved
emit_block-loop-s-preserved t c =
    let x = c.s-item.result in
    codes_more (λ xs n. act_code (shape_in c.args.layout.now) (in_order (map (act_of c.args.layout.now) xs)) (spot_at n c.args.exit c.args.finish)) c.args.statements.now c.loop-s.s-index _ c.loop-s.code.items (act_code (shape_in c.args.layout.now) (act_of c.args.layout.now x) (behind c.loop-s.code.items c.args.exit c.args.finish)) c.emit_statement.new.code.items x c.loop-s-test.true c.s-item.is c.loop-s.invariant
    (order_code (shape_in c.args.layout.now) (act_of c.args.layout.now x) (map (act_of c.args.layout.now) (drop (c.loop-s.s-index + 1) c.args.statements.now)) (length c.loop-s.code.items) c.args.exit c.args.finish) c.in_ok-emit_statement.ensures

pub emit_block-returns : goal.emit_block-returns
emit_block-returns t c =
    none_put (shape_in c.args.layout.now) c.loop-s.code.items c.args.exit c.args.finish ∙ codes_all (λ xs n. act_code (shape_in c.args.layout.now) (in_order (map (act_of c.args.layout.now) xs)) (spot_at n c.args.exit c.args.finish)) c.args.statements.now c.loop-s.s-index _ c.loop-s.code.items c.loop-s-test.false c.loop-s.invariant

pub emit_branches-loop-b-init : goal.emit_branches-loop-b-init
emit_branches-loop-b-init t c = refl

pub emit_branches-loop-b-preserved : goal.emit_branches-loop-b-preserved
emit_branches-loop-b-preserved t c =
    let x = c.b-item.result in
    codes_more (λ xs n. guards_code (shape_in c.args.layout.now) (map (branch_in c.args.layout.now) xs) n c.args.exit c.args.finish c.args.end) c.args.branches.now c.loop-b.b-index _ c.loop-b.code.items (guard_code (shape_in c.args.layout.now) (branch_in c.args.layout.now x) (behind c.loop-b.code.items c.args.exit c.args.finish) c.args.end) c.emit_branch.new.code.items x c.loop-b-test.true c.b-item.is c.loop-b.invariant
    (guards_code_more (shape_in c.args.layout.now) (branch_in c.args.layout.now x) (map (branch_in c.args.layout.now) (drop (c.loop-b.b-index + 1) c.args.branches.now)) (length c.loop-b.code.items) c.args.exit c.args.finish c.args.end) c.in_ok-emit_branch.ensures

pub emit_branches-returns : goal.emit_branches-returns
emit_branches-returns t c =
    sym (append-nil c.loop-b.code.items) ∙ (ap (λ l. c.loop-b.code.items ++ l) (sym (no_guards_code (shape_in c.args.layout.now) (length c.loop-b.code.items) c.args.exit c.args.finish c.args.end)) ∙ codes_all (λ xs n. guards_code (shape_in c.args.layout.now) (map (branch_in c.args.layout.now) xs) n c.args.exit c.args.finish c.args.end) c.args.branches.now c.loop-b.b-index _ c.loop-b.code.items c.loop-b-test.false c.loop-b.invariant)

pub emit_branch-returns : goal.emit_branch-returns
emit_branch-returns t c =
    let b = out-Branch c.args.b.now in
    let g : Guarded = record { condition = term_of c.args.layout.now k.Bool b.condition; body = acts_of c.args.layout.now b.body } in
    subst (λ (g : Guarded). OnOk c.emit_tail.result (c.emit_tail.new.code.items ≡ c.args.code.now.items ++ guard_code (shape_in c.args.layout.now) g (behind c.args.code.now.items c.args.exit c.args.finish) c.args.end)) (sym (branch-out c.args.layout.now c.args.b.now))
    (on_ok c.emit_tail.result c.emit_tail.ensures (λ e. guard_put (shape_in c.args.layout.now) g c.args.code.now.items c.emit_expr.new.code.items c.emit_tail.new.code.items c.args.end c.args.exit c.args.finish c.in_ok-emit_expr.ensures (e ∙ ap (λ l. c.emit_expr.new.code.items ++ tail_code (shape_in c.args.layout.now) (acts_of c.args.layout.now l) (length c.emit_expr.new.code.items) c.args.exit c.args.finish c.args.end) c.as_slice.ensures)))

pub emit_tail-returns : goal.emit_tail-returns
emit_tail-returns t c =
    on_ok c.put-2.result c.put-2.ensures (λ e. tail_put (shape_in c.args.layout.now) (acts_of c.args.layout.now c.args.statements.now) c.args.code.now.items c.put.new.code.items c.emit_block.new.code.items c.put-2.new.code.items c.in_ok-first.first c.in_ok-jump.jump c.in_ok-second.second c.args.end c.args.exit c.args.finish
    (c.in_ok-first.ensures 1 refl ∙ ap (λ n. n + 1) (c.len.ensures ∙ c.args.code.now.ok.0)) (c.in_ok-jump.ensures (size_of (acts_of c.args.layout.now c.args.statements.now)) (c.size_of_block.ensures c.args.layout.now)) (c.in_ok-second.ensures 1 refl)
    c.in_ok-put.ensures c.in_ok-emit_block.ensures e)

pub emit_loop-returns-then-has_no_turn : goal.emit_loop-returns-then-has_no_turn
emit_loop-returns-then-has_no_turn t c = λ n is. no_loop_put (shape_in c.args.layout.now) _ _ _ _ _ _ c.args.code.now.items c.args.exit c.args.finish (sym c.if-has_no_turn.ensures)

pub emit_loop-returns : goal.emit_loop-returns
emit_loop-returns t c = λ n is.
    let a = acts_of c.args.layout.now c.args.statements.now in let kind = word_type_of c.args.counter.tag.of in
    let first = integer_value c.args.counter.first in let last = integer_value c.args.counter.last in let step = step_of c.args.counter.step in
    on_ok c.put-3.result c.put-3.ensures (λ e. loop_put (shape_in c.args.layout.now) n kind first last step a c.args.code.now.items c.put.new.code.items c.put-2.new.code.items c.emit_block.new.code.items c.put-3.new.code.items c.in_ok-back.back c.in_ok-next.next c.in_ok-leave.leave c.args.exit c.args.finish c.args.counter.tag.address
    (sym c.if-has_no_turn.ensures) is.address (c.in_ok-back.ensures 2 refl ∙ ap (λ n. n + 2) (c.len.ensures ∙ c.args.code.now.ok.0)) (c.in_ok-next.ensures (size_of a) (c.size_of_block.ensures c.args.layout.now)) (c.in_ok-leave.ensures 1 refl)
    (c.in_ok-put.ensures ∙ ap (λ x. c.args.code.now.items ++ x ∷ []) c.push_integer.ensures) (c.in_ok-put-2.ensures ∙ ap (λ x. c.put.new.code.items ++ x ∷ []) c.store.ensures) c.in_ok-emit_block.ensures
    (e ∙ ap (λ x. c.emit_block.new.code.items ++ x ∷ []) c.next_of.ensures)
    ∙ ap (λ k. c.args.code.now.items ++ act_code (shape_in c.args.layout.now) (core.For n k first last step a) (behind c.args.code.now.items c.args.exit c.args.finish)) is.word)

pub emit_statement-returns-in-Empty : goal.emit_statement-returns-in-Empty
emit_statement-returns-in-Empty t c =
    skip_put (shape_in c.args.layout.now) c.args.code.now.items c.args.exit c.args.finish ∙ ap (λ (a : Act). c.args.code.now.items ++ act_code (shape_in c.args.layout.now) a (behind c.args.code.now.items c.args.exit c.args.finish)) (sym (ap (act_of c.args.layout.now) c.in-Empty.is ∙ empty-is c.args.layout.now))

pub emit_statement-returns-in-Assignment : goal.emit_statement-returns-in-Assignment
emit_statement-returns-in-Assignment t c = subst (λ (a : Act). OnOk c.emit_assignment.result (c.emit_assignment.new.code.items ≡ c.args.code.now.items ++ act_code (shape_in c.args.layout.now) a (behind c.args.code.now.items c.args.exit c.args.finish))) (sym (ap (act_of c.args.layout.now) c.in-Assignment.is ∙ assignment-is c.args.layout.now c.in-Assignment.a)) c.emit_assignment.ensures

pub emit_statement-returns-in-BlockCall : goal.emit_statement-returns-in-BlockCall
emit_statement-returns-in-BlockCall t c = subst (λ (a : Act). OnOk c.emit_block_call.result (c.emit_block_call.new.code.items ≡ c.args.code.now.items ++ act_code (shape_in c.args.layout.now) a (behind c.args.code.now.items c.args.exit c.args.finish))) (sym (ap (act_of c.args.layout.now) c.in-BlockCall.is ∙ block-call-is c.args.layout.now c.in-BlockCall.call)) c.emit_block_call.ensures

pub emit_statement-returns-in-Exit : goal.emit_statement-returns-in-Exit
emit_statement-returns-in-Exit t c =
    subst (λ (a : Act). OnOk c.put.result (c.put.new.code.items ≡ c.args.code.now.items ++ act_code (shape_in c.args.layout.now) a (behind c.args.code.now.items c.args.exit c.args.finish))) (sym (ap (act_of c.args.layout.now) c.in-Exit.is ∙ exit-is c.args.layout.now c.in-Exit.field-0))
    (on_ok c.put.result c.put.ensures (λ e. exit_put (shape_in c.args.layout.now) c.args.code.now.items c.put.new.code.items c.args.exit c.args.finish e))

pub emit_statement-returns-in-Return : goal.emit_statement-returns-in-Return
emit_statement-returns-in-Return t c =
    subst (λ (a : Act). OnOk c.put-in-Return.result (c.put-in-Return.new.code.items ≡ c.args.code.now.items ++ act_code (shape_in c.args.layout.now) a (behind c.args.code.now.items c.args.exit c.args.finish))) (sym (ap (act_of c.args.layout.now) c.in-Return.is ∙ return-is c.args.layout.now))
    (on_ok c.put-in-Return.result c.put-in-Return.ensures (λ e. return_put (shape_in c.args.layout.now) c.args.code.now.items c.put-in-Return.new.code.items c.args.exit c.args.finish e))

pub emit_statement-returns-in-For : goal.emit_statement-returns-in-For
emit_statement-returns-in-For t c =
    subst (λ (a : Act). OnOk c.emit_loop.result (c.emit_loop.new.code.items ≡ c.args.code.now.items ++ act_code (shape_in c.args.layout.now) a (behind c.args.code.now.items c.args.exit c.args.finish))) (ap (λ l. core.For c.in-For.tag.name (word_type (type_of c.args.layout.now c.in-For.tag.name)) (integer_value c.in-For.first) (integer_value c.in-For.last) (step_of c.in-For.step) (acts_of c.args.layout.now l)) c.as_slice-in-For.ensures ∙ sym (ap (act_of c.args.layout.now) c.in-For.is ∙ for-is c.args.layout.now c.in-For.tag c.in-For.first c.in-For.last c.in-For.step c.in-For.body))
    (c.emit_loop.ensures c.in-For.tag.name c.find.ensures.found)

pub emit_statement-returns-in_ok-emit_branches-in-If : goal.emit_statement-returns-in_ok-emit_branches-in-If
emit_statement-returns-in_ok-emit_branches-in-If t c =
    let s = act_of c.args.layout.now c.args.s.now in
    on_ok c.emit_block.result c.emit_block.ensures (λ e. choice_put (shape_in c.args.layout.now) (branch_in c.args.layout.now c.in-If.first) (map (branch_in c.args.layout.now) c.in-If.more) (acts_of c.args.layout.now (behind_else c.in-If.otherwise)) s c.args.code.now.items c.emit_branch.new.code.items c.emit_branches.new.code.items c.emit_block.new.code.items c.in_ok-end-in-If.end c.args.exit c.args.finish
    (ap (act_of c.args.layout.now) c.in-If.is ∙ if-is c.args.layout.now c.in-If.first c.in-If.more c.in-If.otherwise)
    (c.in_ok-end-in-If.ensures (size_of s) (c.size_of_statement.ensures c.args.layout.now) ∙ ap (λ n. n + size_of s) (c.len.ensures ∙ c.args.code.now.ok.0)) c.in_ok-emit_branch-in-If.ensures
    (c.in_ok-emit_branches-in-If.ensures ∙ ap (λ l. c.emit_branch.new.code.items ++ guards_code (shape_in c.args.layout.now) (map (branch_in c.args.layout.now) l) (length c.emit_branch.new.code.items) c.args.exit c.args.finish c.in_ok-end-in-If.end) c.as_slice.ensures)
    (e ∙ ap (λ l. c.emit_branches.new.code.items ++ act_code (shape_in c.args.layout.now) (acts_of c.args.layout.now l) (behind c.emit_branches.new.code.items c.args.exit c.args.finish)) c.behind_else.ensures))

pub emit_statement-loop-e-init : goal.emit_statement-loop-e-init
emit_statement-loop-e-init t c = refl

pub emit_statement-loop-e-preserved : goal.emit_statement-loop-e-preserved
emit_statement-loop-e-preserved t c =
    let x = c.e-item.result in let o = out-Element x in let u = integer_of c.args.layout.now c.in-Case.selector in
    codes_more (λ xs n. guards_code (shape_in c.args.layout.now) (map (λ (e : Element). guarded (integer_of c.args.layout.now c.in-Case.selector) (element_in c.args.layout.now e)) xs) n c.args.exit c.args.finish c.in_ok-end-in-Case.end) c.as_slice-others.result.now c.loop-e.e-index _ c.loop-e.code.items (guard_code (shape_in c.args.layout.now) (guarded u (element_in c.args.layout.now x)) (behind c.loop-e.code.items c.args.exit c.args.finish) c.in_ok-end-in-Case.end) c.emit_tail-in-loop-e.new.code.items x c.loop-e-test.true c.e-item.is c.loop-e.invariant
    (guards_code_more (shape_in c.args.layout.now) (guarded u (element_in c.args.layout.now x)) (map (λ (e : Element). guarded (integer_of c.args.layout.now c.in-Case.selector) (element_in c.args.layout.now e)) (drop (c.loop-e.e-index + 1) c.as_slice-others.result.now)) (length c.loop-e.code.items) c.args.exit c.args.finish c.in_ok-end-in-Case.end)
    (guard_put (shape_in c.args.layout.now) (guarded u (record { first = range_of o.first; more = map range_of o.more; body = acts_of c.args.layout.now o.body })) c.loop-e.code.items c.emit_labels-in-loop-e.new.code.items c.emit_tail-in-loop-e.new.code.items c.in_ok-end-in-Case.end c.args.exit c.args.finish
    (c.in_ok-emit_labels-in-Case-2.ensures ∙ ap (λ l. c.loop-e.code.items ++ term_code (shape_in c.args.layout.now) (fold (or_within u) (within u (range_of o.first)) (map range_of l))) c.as_slice-in-loop-e.ensures)
    (c.in_ok-emit_tail-in-Case-2.ensures ∙ ap (λ l. c.emit_labels-in-loop-e.new.code.items ++ tail_code (shape_in c.args.layout.now) (acts_of c.args.layout.now l) (length c.emit_labels-in-loop-e.new.code.items) c.args.exit c.args.finish c.in_ok-end-in-Case.end) c.as_slice-in-loop-e-2.ensures)
    ∙ ap (λ (l : Labelled). c.loop-e.code.items ++ guard_code (shape_in c.args.layout.now) (guarded u l) (behind c.loop-e.code.items c.args.exit c.args.finish) c.in_ok-end-in-Case.end) (sym (element-out c.args.layout.now x)))

pub emit_statement-returns-after-loop-e : goal.emit_statement-returns-after-loop-e
emit_statement-returns-after-loop-e t c =
    let o = out-Element c.in-Case.first in let u = integer_of c.args.layout.now c.in-Case.selector in let s = act_of c.args.layout.now c.args.s.now in
    on_ok c.emit_block-in-Case.result c.emit_block-in-Case.ensures (λ e. choice_put (shape_in c.args.layout.now) (guarded u (element_in c.args.layout.now c.in-Case.first)) (map (guarded u) (map (element_in c.args.layout.now) c.in-Case.more)) (acts_of c.args.layout.now (behind_else c.in-Case.otherwise)) s c.args.code.now.items c.emit_tail.new.code.items c.loop-e.code.items c.emit_block-in-Case.new.code.items c.in_ok-end-in-Case.end c.args.exit c.args.finish
    (ap (act_of c.args.layout.now) c.in-Case.is ∙ case-is c.args.layout.now c.in-Case.selector c.in-Case.first c.in-Case.more c.in-Case.otherwise)
    (c.in_ok-end-in-Case.ensures (size_of s) (c.size_of_statement-in-Case.ensures c.args.layout.now) ∙ ap (λ n. n + size_of s) (c.len-in-Case.ensures ∙ c.args.code.now.ok.0))
    (guard_put (shape_in c.args.layout.now) (guarded u (record { first = range_of o.first; more = map range_of o.more; body = acts_of c.args.layout.now o.body })) c.args.code.now.items c.emit_labels.new.code.items c.emit_tail.new.code.items c.in_ok-end-in-Case.end c.args.exit c.args.finish
    (c.in_ok-emit_labels-in-Case.ensures ∙ ap (λ l. c.args.code.now.items ++ term_code (shape_in c.args.layout.now) (fold (or_within u) (within u (range_of o.first)) (map range_of l))) c.as_slice-in-Case.ensures)
    (c.in_ok-emit_tail-in-Case.ensures ∙ ap (λ l. c.emit_labels.new.code.items ++ tail_code (shape_in c.args.layout.now) (acts_of c.args.layout.now l) (length c.emit_labels.new.code.items) c.args.exit c.args.finish c.in_ok-end-in-Case.end) c.as_slice-in-Case-2.ensures)
    ∙ ap (λ (l : Labelled). c.args.code.now.items ++ guard_code (shape_in c.args.layout.now) (guarded u l) (behind c.args.code.now.items c.args.exit c.args.finish) c.in_ok-end-in-Case.end) (sym (element-out c.args.layout.now c.in-Case.first)))
    (sym (append-nil c.loop-e.code.items) ∙ (ap (λ l. c.loop-e.code.items ++ l) (sym (no_guards_code (shape_in c.args.layout.now) (length c.loop-e.code.items) c.args.exit c.args.finish c.in_ok-end-in-Case.end)) ∙ (codes_all (λ xs n. guards_code (shape_in c.args.layout.now) (map (λ (e : Element). guarded (integer_of c.args.layout.now c.in-Case.selector) (element_in c.args.layout.now e)) xs) n c.args.exit c.args.finish c.in_ok-end-in-Case.end) c.as_slice-others.result.now c.loop-e.e-index _ c.loop-e.code.items c.loop-e-test.false c.loop-e.invariant
    ∙ ap (λ l. c.emit_tail.new.code.items ++ guards_code (shape_in c.args.layout.now) l (length c.emit_tail.new.code.items) c.args.exit c.args.finish c.in_ok-end-in-Case.end) (ap (map (λ (e : Element). guarded (integer_of c.args.layout.now c.in-Case.selector) (element_in c.args.layout.now e))) c.as_slice-others.ensures ∙ sym (map_twice (element_in c.args.layout.now) (guarded u) c.in-Case.more)))))
    (e ∙ ap (λ l. c.loop-e.code.items ++ act_code (shape_in c.args.layout.now) (acts_of c.args.layout.now l) (behind c.loop-e.code.items c.args.exit c.args.finish)) c.behind_else-in-Case.ensures))
