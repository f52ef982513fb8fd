use Rattle.std.proofs.Common.{◌≡◌, [], ◌∷◌, ◌++◌, None, refl, ap, sym, ◌∙◌, subst}
use Rattle.std.specs.List.{flat_map}
use Rattle.function_blocks.specs.declared.kinds.Kind.TheVariants as kind
use Rattle.st_tree.specs.declared.statement.Branch.{out-Branch}
use Rattle.st_tree.specs.declared.statement.Element.{out-Element}
use Rattle.tri_base.specs.declared.faults.TypeCause.TheVariants as cause
use Rattle.st_types.specs.Inner.Summaries.{checked_of, kind_of, fault_of, as_integer}
use Rattle.st_types.proofs.Kept.{kept_kind, kept_integer}
use Rattle.st_tree.specs.StatementFolds.{fold_branch, fold_element}
use Rattle.st_tree.proofs.StatementEquations.{at-empty, at-assignment, at-blockcall, at-exit, at-return}
use Rattle.st_types.proofs.Lists.{part_more, two_parts}
use Rattle.st_types.proofs.Parts.{branch_is, element_is, if_is, case_is, for_is, of_part, with_part}
use Rattle.st_types.specs.Inner.Parts.{behind_else}
use Rattle.st_types.proofs.statements.+checking.Goals as goal
use Rattle.st_types.specs.Inner.Finds.{Finds}
use Rattle.st_tree.specs.Tags.{tag_named}
use Rattle.st_tree.specs.Typing.Faults.{fault_if, first_of}
use Rattle.st_tree.specs.Typing.Operands as operand
use Rattle.st_tree.specs.Typing.Operands.{faults_of, type_in}
use Rattle.st_tree.specs.Typing.Expressions.{typing_of}
use Rattle.st_tree.specs.Typing.Statements.{Checks, statement_rules, statement_faults, value_faults, labels_faults, for_faults, assignment_faults, exit_faults}

pub branch_fault-returns : goal.branch_fault-returns
branch_fault-returns t c = with_part _ (value_faults c.args.tags.now kind.Bool (out-Branch c.args.branch.now).condition) (flat_map (statement_faults (record { points = c.args.chassis.now; tags = c.args.tags.now }) c.args.loops.now) (out-Branch c.args.branch.now).body) _ _ _ c.soonest.ensures (branch_is (record { points = c.args.chassis.now; tags = c.args.tags.now }) c.args.loops.now c.args.branch.now) c.value_fault-condition.ensures (c.in_ok-body.ensures ∙ ap (λ ss. first_of (flat_map (statement_faults (record { points = c.args.chassis.now; tags = c.args.tags.now }) c.args.loops.now) ss)) c.as_slice.ensures)

pub element_fault-returns : goal.element_fault-returns
element_fault-returns t c = with_part _ (labels_faults c.args.kind ((out-Element c.args.element.now).first ∷ (out-Element c.args.element.now).more)) (flat_map (statement_faults (record { points = c.args.chassis.now; tags = c.args.tags.now }) c.args.loops.now) (out-Element c.args.element.now).body) _ _ _ c.soonest.ensures (element_is (record { points = c.args.chassis.now; tags = c.args.tags.now }) c.args.kind c.args.loops.now c.args.element.now) (c.labels_fault-labels.ensures ∙ ap (λ ls. first_of (labels_faults c.args.kind ((out-Element c.args.element.now).first ∷ ls))) c.as_slice.ensures) (c.in_ok-body.ensures ∙ ap (λ ss. first_of (flat_map (statement_faults (record { points = c.args.chassis.now; tags = c.args.tags.now }) c.args.loops.now) ss)) c.as_slice-2.ensures)

pub statements_fault-loop-statement-preserved : goal.statements_fault-loop-statement-preserved
statements_fault-loop-statement-preserved t c = c.soonest-fault.ensures ∙ part_more (statement_faults (record { points = c.args.chassis.now; tags = c.args.tags.now }) c.args.loops.now) c.args.statements.now c.loop-statement.statement-index c.statement-item.result c.loop-statement.fault c.in_ok-next.next c.loop-statement-test.true c.statement-item.is c.loop-statement.invariant c.in_ok-next.ensures

pub branches_fault-loop-branch-preserved : goal.branches_fault-loop-branch-preserved
branches_fault-loop-branch-preserved t c = c.soonest-fault.ensures ∙ part_more (λ b. fold_branch (statement_rules (record { points = c.args.chassis.now; tags = c.args.tags.now })) b c.args.loops.now) c.args.branches.now c.loop-branch.branch-index c.branch-item.result c.loop-branch.fault c.in_ok-next.next c.loop-branch-test.true c.branch-item.is c.loop-branch.invariant c.in_ok-next.ensures

pub elements_fault-loop-element-preserved : goal.elements_fault-loop-element-preserved
elements_fault-loop-element-preserved t c = c.soonest-fault.ensures ∙ part_more (λ e. fold_element (statement_rules (record { points = c.args.chassis.now; tags = c.args.tags.now })) e c.args.kind c.args.loops.now) c.args.elements.now c.loop-element.element-index c.element-item.result c.loop-element.fault c.in_ok-next.next c.loop-element-test.true c.element-item.is c.loop-element.invariant c.in_ok-next.ensures

pub statement_fault-returns-in-Assignment : goal.statement_fault-returns-in-Assignment
statement_fault-returns-in-Assignment t c = of_part (record { points = c.args.chassis.now; tags = c.args.tags.now }) c.args.loops.now c.args.statement.now _ (assignment_faults c.args.chassis.now c.args.tags.now c.args.loops.now c.in-Assignment.a) _ c.in-Assignment.is (ap (λ (f : Checks). f c.args.loops.now) (at-assignment (statement_rules (record { points = c.args.chassis.now; tags = c.args.tags.now })) c.in-Assignment.a)) c.assignment_fault.ensures

pub statement_fault-returns-in-BlockCall : goal.statement_fault-returns-in-BlockCall
statement_fault-returns-in-BlockCall t c = subst (λ l. Finds l c.call_fault.result) (sym (ap (statement_faults (record { points = c.args.chassis.now; tags = c.args.tags.now }) c.args.loops.now) c.in-BlockCall.is ∙ (ap (λ (f : Checks). f c.args.loops.now) (at-blockcall (statement_rules (record { points = c.args.chassis.now; tags = c.args.tags.now })) c.in-BlockCall.call)))) c.call_fault.ensures

pub statement_fault-returns-in-Exit : goal.statement_fault-returns-in-Exit
statement_fault-returns-in-Exit t c = of_part (record { points = c.args.chassis.now; tags = c.args.tags.now }) c.args.loops.now c.args.statement.now _ (exit_faults c.args.loops.now c.in-Exit.place) _ c.in-Exit.is (ap (λ (f : Checks). f c.args.loops.now) (at-exit (statement_rules (record { points = c.args.chassis.now; tags = c.args.tags.now })) c.in-Exit.place)) (c.fault_if.ensures ∙ ap (λ b. first_of (fault_if b c.in-Exit.place cause.ExitOutside)) c.is_empty.ensures)

pub statement_fault-returns-in_ok-body-in-For : goal.statement_fault-returns-in_ok-body-in-For
statement_fault-returns-in_ok-body-in-For t c =
    of_part (record { points = c.args.chassis.now; tags = c.args.tags.now }) c.args.loops.now c.args.statement.now _ _ _ c.in-For.is (for_is (record { points = c.args.chassis.now; tags = c.args.tags.now }) c.args.loops.now c.in-For.tag c.in-For.first c.in-For.last c.in-For.step c.in-For.body)
    (c.soonest-in-For.ensures ∙ two_parts (for_faults c.args.chassis.now c.args.loops.now c.in-For.tag c.in-For.first c.in-For.last c.in-For.step (tag_named c.args.tags.now c.in-For.tag.name)) (flat_map (statement_faults (record { points = c.args.chassis.now; tags = c.args.tags.now }) (c.args.loops.now ++ c.in-For.tag.name ∷ [])) c.in-For.body) _ _ c.for_fault-numbers.ensures
    (c.in_ok-body-in-For.ensures ∙ ap (λ ss. first_of (flat_map (statement_faults (record { points = c.args.chassis.now; tags = c.args.tags.now }) (c.args.loops.now ++ c.in-For.tag.name ∷ [])) ss)) c.as_slice-in-For.ensures))

pub statement_fault-returns-in-Empty : goal.statement_fault-returns-in-Empty
statement_fault-returns-in-Empty t c = of_part (record { points = c.args.chassis.now; tags = c.args.tags.now }) c.args.loops.now c.args.statement.now _ [] None c.in-Empty.is (ap (λ (f : Checks). f c.args.loops.now) (at-empty (statement_rules (record { points = c.args.chassis.now; tags = c.args.tags.now })))) refl

pub statement_fault-returns-in-Return : goal.statement_fault-returns-in-Return
statement_fault-returns-in-Return t c = of_part (record { points = c.args.chassis.now; tags = c.args.tags.now }) c.args.loops.now c.args.statement.now _ [] None c.in-Return.is (ap (λ (f : Checks). f c.args.loops.now) (at-return (statement_rules (record { points = c.args.chassis.now; tags = c.args.tags.now })))) refl

pub statement_fault-returns-in_ok-others-in-If : goal.statement_fault-returns-in_ok-others-in-If
statement_fault-returns-in_ok-others-in-If t c =
    let others : c.in_ok-others-in-If.others ≡ first_of (flat_map (statement_faults (record { points = c.args.chassis.now; tags = c.args.tags.now }) c.args.loops.now) (behind_else c.in-If.otherwise)) = c.in_ok-others-in-If.ensures ∙ ap (λ ss. first_of (flat_map (statement_faults (record { points = c.args.chassis.now; tags = c.args.tags.now }) c.args.loops.now) ss)) c.behind_else.ensures in
    let more : c.in_ok-more-in-If.more ≡ first_of (flat_map (λ b. fold_branch (statement_rules (record { points = c.args.chassis.now; tags = c.args.tags.now })) b c.args.loops.now) c.in-If.more) = c.in_ok-more-in-If.ensures ∙ ap (λ bs. first_of (flat_map (λ b. fold_branch (statement_rules (record { points = c.args.chassis.now; tags = c.args.tags.now })) b c.args.loops.now) bs)) c.as_slice.ensures in
    of_part (record { points = c.args.chassis.now; tags = c.args.tags.now }) c.args.loops.now c.args.statement.now _ _ _ c.in-If.is (if_is (record { points = c.args.chassis.now; tags = c.args.tags.now }) c.args.loops.now c.in-If.first c.in-If.more c.in-If.otherwise)
    (c.soonest-in-If.ensures ∙ two_parts (fold_branch (statement_rules (record { points = c.args.chassis.now; tags = c.args.tags.now })) c.in-If.first c.args.loops.now ++ flat_map (λ b. fold_branch (statement_rules (record { points = c.args.chassis.now; tags = c.args.tags.now })) b c.args.loops.now) c.in-If.more) (flat_map (statement_faults (record { points = c.args.chassis.now; tags = c.args.tags.now }) c.args.loops.now) (behind_else c.in-If.otherwise)) _ _
    (c.soonest.ensures ∙ two_parts (fold_branch (statement_rules (record { points = c.args.chassis.now; tags = c.args.tags.now })) c.in-If.first c.args.loops.now) (flat_map (λ b. fold_branch (statement_rules (record { points = c.args.chassis.now; tags = c.args.tags.now })) b c.args.loops.now) c.in-If.more) _ _ c.in_ok-first-in-If.ensures more) others)

pub statement_fault-returns-in_ok-others-in-Case : goal.statement_fault-returns-in_ok-others-in-Case
statement_fault-returns-in_ok-others-in-Case t c =
    let others : c.in_ok-others-in-Case.others ≡ first_of (flat_map (statement_faults (record { points = c.args.chassis.now; tags = c.args.tags.now }) c.args.loops.now) (behind_else c.in-Case.otherwise)) = c.in_ok-others-in-Case.ensures ∙ ap (λ ss. first_of (flat_map (statement_faults (record { points = c.args.chassis.now; tags = c.args.tags.now }) c.args.loops.now) ss)) c.behind_else-in-Case.ensures in
    let found : c.as_integer-found.result ≡ as_integer (checked_of (typing_of c.args.tags.now c.in-Case.selector)) = c.as_integer-found.ensures ∙ ap as_integer c.type_expression.ensures in
    let kind_is : c.kind.result ≡ (type_in (operand.as_integer (typing_of c.args.tags.now c.in-Case.selector))) = c.kind.ensures ∙ (ap kind_of found ∙ kept_kind (typing_of c.args.tags.now c.in-Case.selector)) in
    let again : c.kind-in-Case.result ≡ (type_in (operand.as_integer (typing_of c.args.tags.now c.in-Case.selector))) = c.kind-in-Case.ensures ∙ (ap kind_of found ∙ kept_kind (typing_of c.args.tags.now c.in-Case.selector)) in
    let own : c.fault.result ≡ first_of (faults_of (operand.as_integer (typing_of c.args.tags.now c.in-Case.selector))) = c.fault.ensures ∙ (ap fault_of found ∙ sym (kept_integer (typing_of c.args.tags.now c.in-Case.selector))) in
    let first : c.in_ok-first-in-Case.first ≡ first_of (fold_element (statement_rules (record { points = c.args.chassis.now; tags = c.args.tags.now })) c.in-Case.first (type_in (operand.as_integer (typing_of c.args.tags.now c.in-Case.selector))) c.args.loops.now) = c.in_ok-first-in-Case.ensures ∙ ap (λ k. first_of (fold_element (statement_rules (record { points = c.args.chassis.now; tags = c.args.tags.now })) c.in-Case.first k c.args.loops.now)) kind_is in
    let more : c.in_ok-more-in-Case.more ≡ first_of (flat_map (λ e. fold_element (statement_rules (record { points = c.args.chassis.now; tags = c.args.tags.now })) e (type_in (operand.as_integer (typing_of c.args.tags.now c.in-Case.selector))) c.args.loops.now) c.in-Case.more) = c.in_ok-more-in-Case.ensures ∙ λ i. first_of (flat_map (λ e. fold_element (statement_rules (record { points = c.args.chassis.now; tags = c.args.tags.now })) e (again i) c.args.loops.now) (c.as_slice-in-Case.ensures i)) in
    of_part (record { points = c.args.chassis.now; tags = c.args.tags.now }) c.args.loops.now c.args.statement.now _ _ _ c.in-Case.is (case_is (record { points = c.args.chassis.now; tags = c.args.tags.now }) c.args.loops.now c.in-Case.selector c.in-Case.first c.in-Case.more c.in-Case.otherwise)
    (c.soonest-in-Case-3.ensures ∙ two_parts (((faults_of (operand.as_integer (typing_of c.args.tags.now c.in-Case.selector))) ++ fold_element (statement_rules (record { points = c.args.chassis.now; tags = c.args.tags.now })) c.in-Case.first (type_in (operand.as_integer (typing_of c.args.tags.now c.in-Case.selector))) c.args.loops.now) ++ flat_map (λ e. fold_element (statement_rules (record { points = c.args.chassis.now; tags = c.args.tags.now })) e (type_in (operand.as_integer (typing_of c.args.tags.now c.in-Case.selector))) c.args.loops.now) c.in-Case.more) (flat_map (statement_faults (record { points = c.args.chassis.now; tags = c.args.tags.now }) c.args.loops.now) (behind_else c.in-Case.otherwise)) _ _
    (c.soonest-in-Case-2.ensures ∙ two_parts ((faults_of (operand.as_integer (typing_of c.args.tags.now c.in-Case.selector))) ++ fold_element (statement_rules (record { points = c.args.chassis.now; tags = c.args.tags.now })) c.in-Case.first (type_in (operand.as_integer (typing_of c.args.tags.now c.in-Case.selector))) c.args.loops.now) (flat_map (λ e. fold_element (statement_rules (record { points = c.args.chassis.now; tags = c.args.tags.now })) e (type_in (operand.as_integer (typing_of c.args.tags.now c.in-Case.selector))) c.args.loops.now) c.in-Case.more) _ _
    (c.soonest-in-Case.ensures ∙ two_parts (faults_of (operand.as_integer (typing_of c.args.tags.now c.in-Case.selector))) (fold_element (statement_rules (record { points = c.args.chassis.now; tags = c.args.tags.now })) c.in-Case.first (type_in (operand.as_integer (typing_of c.args.tags.now c.in-Case.selector))) c.args.loops.now) _ _ own first) more) others)
