use Rattle.std.proofs.Common.{◌≡◌, ℕ, List, map}
use Rattle.st_tree.specs.declared.tag.Tag.{Tag}
use Rattle.st_core.specs.Core.{Term}
use Rattle.st_core.specs.Costs.{term_cost, cost_of}
use Rattle.st_meaning.specs.Statements.{guarded, in_order, act_of}
use Rattle.code_size.specs.Limits.{limited}
use Rattle.code_size.specs.Inner.Parts.{branch_in, element_in}
use Rattle.code_size.specs.Inner.Paths.{IsPaths}
use Rattle.code_size.proofs.Countings.{Counts}
use Rattle.code_size.proofs.PathCosts.{order_cost, PathsLeft}
use Rattle.code_size.proofs.statement_costs.+statement_costs.Given as goal

abbrev pub invariant-cost_of_block-loop-s : goal.invariant-cost_of_block-loop-s
invariant-cost_of_block-loop-s l = (ts : List Tag) → Counts (λ xs. cost_of (in_order (map (act_of ts) xs))) (λ s. cost_of (act_of ts s)) (λ x xs. order_cost (act_of ts x) (map (act_of ts) xs)) l.statements l.s-index (cost_of (in_order (map (act_of ts) l.statements))) l.cost

abbrev pub invariant-with_branches-loop-b : goal.invariant-with_branches-loop-b
invariant-with_branches-loop-b l = (ts : List Tag) → (t : ℕ) → (m : ℕ) → IsPaths l.fn.paths t m → PathsLeft (branch_in ts) t m l.branches l.b-index l.all

abbrev pub invariant-with_elements-loop-e : goal.invariant-with_elements-loop-e
invariant-with_elements-loop-e l = (ts : List Tag) → (u : Term) → (t : ℕ) → (m : ℕ) → l.selector ≡ limited (term_cost u) → IsPaths l.fn.paths t m → PathsLeft (λ e. guarded u (element_in ts e)) t m l.elements l.e-index l.all
