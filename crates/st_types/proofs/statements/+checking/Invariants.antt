use Rattle.std.proofs.Common.{◌≡◌, take}
use Rattle.std.specs.List.{flat_map}
use Rattle.st_tree.specs.StatementFolds.{fold_branch, fold_element}
use Rattle.st_types.proofs.statements.+checking.Given as goal
use Rattle.st_tree.specs.Typing.Faults.{first_of}
use Rattle.st_tree.specs.Typing.Statements.{statement_faults, statement_rules}

abbrev pub invariant-statements_fault-loop-statement : goal.invariant-statements_fault-loop-statement
invariant-statements_fault-loop-statement l = l.fault ≡ first_of (flat_map (statement_faults (record { points = l.chassis; tags = l.tags }) l.loops) (take l.statement-index l.statements))

abbrev pub invariant-branches_fault-loop-branch : goal.invariant-branches_fault-loop-branch
invariant-branches_fault-loop-branch l = l.fault ≡ first_of (flat_map (λ b. fold_branch (statement_rules (record { points = l.chassis; tags = l.tags })) b l.loops) (take l.branch-index l.branches))

abbrev pub invariant-elements_fault-loop-element : goal.invariant-elements_fault-loop-element
invariant-elements_fault-loop-element l = l.fault ≡ first_of (flat_map (λ e. fold_element (statement_rules (record { points = l.chassis; tags = l.tags })) e l.kind l.loops) (take l.element-index l.elements))
