use Rattle.std.proofs.Common.{ap, sym, ◌∙◌, codes}
use Rattle.std.proofs.lemmas.List.{take_rest}
use Rattle.st_tree.specs.Words.{begins_with}
use Rattle.st_reader.proofs.Fronts.{ends_further}
use Rattle.st_reader.proofs.item.comment_end.Goals as goal

pub loop-at-preserved : goal.loop-at-preserved
loop-at-preserved c =
    let text = c.args.text.now in
    let at = c.loop-at.at in
    let other = ap (λ bs. begins_with bs (codes "*)")) (sym (take_rest text at)) ∙ (sym c.starts_with.ensures.value ∙ c.if-starts_with.false) in
    sym (ends_further text at c.loop-at-test.true other) ∙ c.loop-at.invariant
