use Rattle.std.proofs.Common.{refl, ap, sym, ◌∙◌}
use Rattle.st_core.specs.Costs.{term_cost}
use Rattle.code_size.specs.Limits.{limited}
use Rattle.code_size.proofs.LabelCosts.{within_cost, rows_cost, rows_all}
use Rattle.code_size.proofs.labels.cost_of_labels.Goals as goal

pub loop-label-init : goal.loop-label-init
loop-label-init c = λ t first h. c.plus-one.ensures (term_cost t) 1 h refl ∙ ap limited (sym (within_cost t first))

pub loop-label-preserved : goal.loop-label-preserved
loop-label-preserved c = λ t first h. rows_cost t first c.args.more.now c.loop-label._label-index c.loop-label.cost c.plus-one.result c.plus.result c.plus-cost.result c.loop-label-test.true (c.loop-label.invariant t first h) (c.plus-one.ensures (term_cost t) 1 h refl) c.plus.ensures c.plus-cost.ensures

pub returns : goal.returns
returns c = λ t first h. c.loop-label.invariant t first h ∙ ap (λ x. limited (term_cost x)) (rows_all t first c.args.more.now c.loop-label._label-index c.loop-label-test.false)
