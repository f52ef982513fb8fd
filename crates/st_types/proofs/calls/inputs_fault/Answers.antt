use Rattle.std.proofs.Common.{[], ◌∷◌, ◌+◌, false, drop, ap, sym, ◌∙◌}
use Rattle.std.proofs.lemmas.List.{drop_all}
use Rattle.function_blocks.specs.Fields.{input_named}
use Rattle.indexmap.specs.IndexSet.{insert_key}
use Rattle.tri_base.specs.Inner.NameFields.{same_name}
use Rattle.st_tree.specs.Typing.Faults.{first_of}
use Rattle.st_tree.specs.Typing.Statements.{inputs_faults, input_faults}
use Rattle.st_types.specs.Inner.Firsts.{soonest}
use Rattle.st_types.proofs.Firsts.{first_of_append}
use Rattle.st_types.proofs.Inputs.{kept_faults}
use Rattle.st_types.proofs.Parts.{input_more, soonest-none}
use Rattle.st_types.proofs.calls.inputs_fault.Goals as goal

pub returns : goal.returns
returns c =
    sym (soonest-none c.loop-input.fault)
    ∙ (ap (λ xs. soonest c.loop-input.fault (first_of (inputs_faults c.args.tags.now c.args.block c.loop-input.named.keys xs))) (sym (drop_all c.loop-input.input-index c.as_slice-input-items.result.now c.loop-input-test.false))
    ∙ (c.loop-input.invariant ∙ ap (λ xs. first_of (inputs_faults c.args.tags.now c.args.block [] (c.args.inputs.now.first ∷ xs))) c.as_slice-input-items.ensures))

pub loop-input-init : goal.loop-input-init
loop-input-init c =
    let name = c.args.inputs.now.first.name.name in
    let xs = c.as_slice-input-items.result.now in
    let this = input_faults c.args.tags.now false c.args.inputs.now.first.name c.args.inputs.now.first.value (input_named c.args.block name) in
    (λ j. soonest (c.input_fault-fault.ensures j) (first_of (inputs_faults c.args.tags.now c.args.block (c.in_ok-note_name.ensures.kept j) xs)))
    ∙ (ap (λ l. soonest (first_of this) (first_of l)) (ap (λ ks. inputs_faults c.args.tags.now c.args.block ks xs) (ap (λ ks. insert_key same_name ks name) c.new-named.ensures.empty))
    ∙ sym (first_of_append this (inputs_faults c.args.tags.now c.args.block (name ∷ []) xs)))

pub loop-input-preserved : goal.loop-input-preserved
loop-input-preserved c =
    let x = c.input-item.result in
    let rest = drop (c.loop-input.input-index + 1) c.as_slice-input-items.result.now in
    (λ j. soonest (c.soonest-fault.ensures j) (first_of (inputs_faults c.args.tags.now c.args.block (c.in_ok-again.ensures.kept j) rest)))
    ∙ (ap (λ l. soonest (soonest c.loop-input.fault c.input_fault.result) (first_of l)) (kept_faults c.args.tags.now c.args.block c.loop-input.named.keys x.name.name rest)
    ∙ input_more c.args.tags.now c.args.block c.loop-input.named.keys c.as_slice-input-items.result.now c.loop-input.input-index x c.loop-input.fault c.input_fault.result _ c.loop-input-test.true c.input-item.is
    (c.input_fault.ensures ∙ ap (λ b. first_of (input_faults c.args.tags.now b x.name x.value (input_named c.args.block x.name.name))) c.in_ok-again.ensures.again)
    c.loop-input.invariant)
