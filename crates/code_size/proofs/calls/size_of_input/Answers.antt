use Rattle.std.proofs.Common.{refl, ap, ◌∙◌}
use Rattle.st_core.specs.Costs.{term_cost}
use Rattle.st_meaning.specs.Types.{block_of, field_type}
use Rattle.st_meaning.specs.Expressions.{elaborated}
use Rattle.code_size.specs.Limits.{limited}
use Rattle.code_size.proofs.ActSizes.{assign_size}
use Rattle.code_size.proofs.calls.size_of_input.Goals as goal

pub returns : goal.returns
returns c = λ ts n type.
    let kind = field_type (block_of type) c.args.input.now.name.name in
    c.plus.ensures (term_cost ((elaborated ts c.args.input.now.value).asked kind)) 1 (c.cost_of_expr.ensures ts kind) refl ∙ ap limited (assign_size _ _ _ _)
