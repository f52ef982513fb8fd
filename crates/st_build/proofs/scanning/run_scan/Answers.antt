use Rattle.std.proofs.Common.{length, sym, ap, ◌∙◌}
use Rattle.tag_layout.specs.Layout.{total_words}
use Rattle.scan_machine.specs.Codes.{CodeValue}
use Rattle.st_build.proofs.Keeping.{code_words, set_length}
use Rattle.st_build.proofs.scanning.run_scan.Goals as goal

pub run_counted-flag-requires-clause-words : goal.run_counted-flag-requires-clause-words
run_counted-flag-requires-clause-words c =
    set_length c.args.points.now.chassis c.args.program.now c.layout-layout.result.now c.args.inputs.now c.args.words.now.list c.set_inputs.new.words.list c.layout-layout.ensures.kept
    c.layout-layout.ensures.value c.requires.words c.set_inputs.ensures.words
    ∙ (c.requires.words
    ∙ (sym (code_words c.args.program.now c.layout-layout.ensures.kept)
    ∙ sym (ap (λ (v : CodeValue). v.words) c.code.ensures.value)))

pub take_outputs-requires-clause-words : goal.take_outputs-requires-clause-words
take_outputs-requires-clause-words c =
    ap length c.items.ensures
    ∙ (c.run_counted-flag.ensures.length
    ∙ (set_length c.args.points.now.chassis c.args.program.now c.layout-layout.result.now c.args.inputs.now c.args.words.now.list c.set_inputs.new.words.list c.layout-layout.ensures.kept
    c.layout-layout.ensures.value c.requires.words c.set_inputs.ensures.words
    ∙ (c.requires.words ∙ sym (ap total_words c.layout-layout.ensures.value))))

pub returns-clause-length : goal.returns-clause-length
returns-clause-length c =
    c.run_counted-flag.ensures.length
    ∙ set_length c.args.points.now.chassis c.args.program.now c.layout-layout.result.now c.args.inputs.now c.args.words.now.list c.set_inputs.new.words.list c.layout-layout.ensures.kept
    c.layout-layout.ensures.value c.requires.words c.set_inputs.ensures.words
