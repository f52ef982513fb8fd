use Rattle.std.proofs.Common.{◌≡◌, ℤ, take}
use Rattle.st_core.specs.Core.{Term}
use Rattle.st_core.specs.Costs.{term_cost}
use Rattle.code_size.specs.Limits.{limited}
use Rattle.code_size.proofs.LabelCosts.{rows}
use Rattle.code_size.proofs.labels.cost_of_labels.Given as goal

abbrev pub invariant-loop-label : goal.invariant-loop-label
invariant-loop-label l = (t : Term) → (first : ℤ × ℤ) → l.fn.selector ≡ limited (term_cost t) → l.cost ≡ limited (term_cost (rows t first (take l._label-index l.more)))
