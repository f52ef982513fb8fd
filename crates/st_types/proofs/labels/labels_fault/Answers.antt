use Rattle.std.proofs.Common.{◌∷◌, ap, sym, ◌∙◌}
use Rattle.std.specs.List.{flat_map}
use Rattle.std.proofs.lemmas.List.{get_or_default}
use Rattle.st_types.proofs.Lists.{part_more, part_end, two_parts}
use Rattle.st_types.proofs.labels.labels_fault.Goals as goal
use Rattle.st_tree.specs.Typing.Faults.{first_of}
use Rattle.st_tree.specs.Typing.Statements.{label_faults, labels_faults}

pub returns : goal.returns
returns c =
    c.soonest.ensures
    ∙ (two_parts (label_faults c.in-Some.kind c.args.first) (flat_map (label_faults c.in-Some.kind) c.args.more.now) _ _ c.label_fault-2.ensures
    (part_end (label_faults c.in-Some.kind) c.args.more.now c.loop-label.label-index c.loop-label.fault c.loop-label-test.false c.loop-label.invariant)
    ∙ ap (λ k. first_of (labels_faults k (c.args.first ∷ c.args.more.now))) (sym c.in-Some.is))

pub loop-label-preserved : goal.loop-label-preserved
loop-label-preserved c =
    c.soonest-fault.ensures ∙ part_more (label_faults c.in-Some.kind) c.args.more.now c.loop-label.label-index _ c.loop-label.fault c.label_fault.result c.loop-label-test.true
    (get_or_default c.args.more.now c.loop-label.label-index _ _ c.loop-label-test.true) c.loop-label.invariant c.label_fault.ensures
