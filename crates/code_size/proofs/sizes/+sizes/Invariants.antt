use Rattle.std.proofs.Common.{◌≡◌, List, map}
use Rattle.st_tree.specs.declared.tag.Tag.{Tag}
use Rattle.st_core.specs.Core.{Term}
use Rattle.st_core.specs.Costs.{term_cost}
use Rattle.st_core.specs.Codes.{size_of}
use Rattle.st_meaning.specs.Statements.{guarded, in_order, act_of}
use Rattle.code_size.specs.Limits.{limited}
use Rattle.code_size.specs.Inner.Parts.{branch_in, element_in}
use Rattle.code_size.specs.Inner.Guards.{guard_size, guards_size}
use Rattle.code_size.proofs.Countings.{Counts}
use Rattle.code_size.proofs.ActSizes.{order_size, guards_more}
use Rattle.code_size.proofs.sizes.+sizes.Given as goal

abbrev pub invariant-size_of_block-loop-s : goal.invariant-size_of_block-loop-s
invariant-size_of_block-loop-s l = (ts : List Tag) → Counts (λ xs. size_of (in_order (map (act_of ts) xs))) (λ s. size_of (act_of ts s)) (λ x xs. order_size (act_of ts x) (map (act_of ts) xs)) l.statements l.s-index (size_of (in_order (map (act_of ts) l.statements))) l.size

abbrev pub invariant-size_of_branches-loop-b : goal.invariant-size_of_branches-loop-b
invariant-size_of_branches-loop-b l = (ts : List Tag) → Counts (λ xs. guards_size (map (branch_in ts) xs)) (λ b. guard_size (branch_in ts b)) (λ x xs. guards_more (branch_in ts x) (map (branch_in ts) xs)) l.branches l.b-index (guards_size (map (branch_in ts) l.branches)) l.size

abbrev pub invariant-size_of_elements-loop-e : goal.invariant-size_of_elements-loop-e
invariant-size_of_elements-loop-e l = (ts : List Tag) → (u : Term) → l.selector ≡ limited (term_cost u) → Counts (λ xs. guards_size (map (guarded u) (map (element_in ts) xs))) (λ e. guard_size (guarded u (element_in ts e))) (λ x xs. guards_more (guarded u (element_in ts x)) (map (guarded u) (map (element_in ts) xs))) l.elements l.e-index (guards_size (map (guarded u) (map (element_in ts) l.elements))) l.size
