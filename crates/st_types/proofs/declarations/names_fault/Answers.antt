use Rattle.std.proofs.Common.{[], ◌+◌, map, take, drop, ap, sym, ◌∙◌}
use Rattle.std.specs.List.{list_any}
use Rattle.std.specs.Str.{bytes_eq}
use Rattle.std.proofs.lemmas.List.{drop_all}
use Rattle.st_tree.specs.declared.tag.Tag.{Tag}
use Rattle.st_tree.specs.Typing.Faults.{first_of}
use Rattle.st_tree.specs.Typing.Declarations.{names_faults, name_faults}
use Rattle.st_types.specs.Inner.Firsts.{soonest}
use Rattle.st_types.proofs.Parts.{soonest-none}
use Rattle.st_types.proofs.Pushes.{name_more, names_next}
use Rattle.st_types.proofs.declarations.names_fault.Goals as goal

pub returns : goal.returns
returns c =
    let xs = c.items-tag-items.result.now in
    sym (soonest-none c.loop-at.fault)
    ∙ (ap (λ ts. soonest c.loop-at.fault (first_of (names_faults c.args.chassis.now (map (λ (t : Tag). t.name) (take c.loop-at.at xs)) ts))) (sym (drop_all c.loop-at.at xs c.loop-at-test.false))
    ∙ c.loop-at.invariant)

pub loop-at-init : goal.loop-at-init
loop-at-init c = ap (λ ts. first_of (names_faults c.args.chassis.now [] ts)) c.items-tag-items.ensures

pub loop-at-preserved : goal.loop-at-preserved
loop-at-preserved c =
    let x = c.tag-item.result in
    let xs = c.items-tag-items.result.now in
    let i = c.loop-at.at in
    (λ j. soonest (c.soonest-fault.ensures j) (first_of (names_faults c.args.chassis.now (names_next xs i x c.loop-at-test.true c.tag-item.is j) (drop (i + 1) xs))))
    ∙ name_more c.args.chassis.now (map (λ (t : Tag). t.name) (take i xs)) xs i x c.loop-at.fault c.name_fault.result _ c.loop-at-test.true c.tag-item.is
    (c.name_fault.ensures ∙ ap (λ b. first_of (name_faults c.args.chassis.now b x)) (c.is_again-again.ensures ∙ ap (λ ts. list_any (bytes_eq x.name) (map (λ (t : Tag). t.name) (take i ts))) (sym c.items-tag-items.ensures)))
    c.loop-at.invariant
