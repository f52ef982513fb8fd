use Rattle.std.proofs.Common.{◌≤◌, ℤ, FitsSigned, w64, rules, List, sym, ap, ◌∙◌, subst}
use Rattle.std.proofs.lemmas.Int.{to_z-of_z}
use Rattle.st_tree.specs.declared.tag.Tag.{Tag}
use Rattle.tag_layout.specs.Layout.{total_words}
use Rattle.st_build.proofs.Keeping.{tags_known}
use Rattle.st_build.proofs.Leaving.{RanOn, leaves}
use Rattle.st_build.proofs.scanning.scan_program.Goals as goal

pub run_scan-requires-clause-words : goal.run_scan-requires-clause-words
run_scan-requires-clause-words c =
    c.requires.words ∙ ap total_words (sym (tags_known c.args.points.now.chassis c.args.program.now c.code-code.ensures.kept c.requires.program))

pub run_scan-requires-clause-touched : goal.run_scan-requires-clause-touched
run_scan-requires-clause-touched c =
    subst (λ (tags : List Tag). total_words tags ≤ c.args.touched.now.size) (sym (tags_known c.args.points.now.chassis c.args.program.now c.code-code.ensures.kept c.requires.program)) c.requires.touched

pub returns-clause-words : goal.returns-clause-words
returns-clause-words c =
    let fits : FitsSigned w64 c.args.dt = search rules in
    let points = c.args.points.now.chassis in
    let p = c.args.program.now in
    let kept = c.code-code.ensures.kept in
    let words = c.args.words.now.list in
    let after = c.run_scan.new.words.list in
    let pairs = c.run_scan.new.touched.pairs in
    let ran = subst (λ (dt : ℤ). RanOn points p.tags p.code.list words c.args.inputs.now dt after c.run_scan.result pairs) (to_z-of_z w64 c.args.dt fits) c.run_scan.ensures.ran in
    (leaves points p words c.args.inputs.now c.args.dt after c.run_scan.new.outputs.list c.run_scan.result pairs kept c.requires.program
    c.points-points.ensures.chassis c.points-points.ensures.holds_zero (c.requires.words ∙ ap total_words (sym (tags_known points p kept c.requires.program))) ran c.run_scan.ensures.outputs).words_are

pub returns-clause-outputs : goal.returns-clause-outputs
returns-clause-outputs c =
    let fits : FitsSigned w64 c.args.dt = search rules in
    let points = c.args.points.now.chassis in
    let p = c.args.program.now in
    let kept = c.code-code.ensures.kept in
    let words = c.args.words.now.list in
    let after = c.run_scan.new.words.list in
    let pairs = c.run_scan.new.touched.pairs in
    let ran = subst (λ (dt : ℤ). RanOn points p.tags p.code.list words c.args.inputs.now dt after c.run_scan.result pairs) (to_z-of_z w64 c.args.dt fits) c.run_scan.ensures.ran in
    (leaves points p words c.args.inputs.now c.args.dt after c.run_scan.new.outputs.list c.run_scan.result pairs kept c.requires.program
    c.points-points.ensures.chassis c.points-points.ensures.holds_zero (c.requires.words ∙ ap total_words (sym (tags_known points p kept c.requires.program))) ran c.run_scan.ensures.outputs).outputs_are

pub returns-clause-flag : goal.returns-clause-flag
returns-clause-flag c =
    let fits : FitsSigned w64 c.args.dt = search rules in
    let points = c.args.points.now.chassis in
    let p = c.args.program.now in
    let kept = c.code-code.ensures.kept in
    let words = c.args.words.now.list in
    let after = c.run_scan.new.words.list in
    let pairs = c.run_scan.new.touched.pairs in
    let ran = subst (λ (dt : ℤ). RanOn points p.tags p.code.list words c.args.inputs.now dt after c.run_scan.result pairs) (to_z-of_z w64 c.args.dt fits) c.run_scan.ensures.ran in
    (leaves points p words c.args.inputs.now c.args.dt after c.run_scan.new.outputs.list c.run_scan.result pairs kept c.requires.program
    c.points-points.ensures.chassis c.points-points.ensures.holds_zero (c.requires.words ∙ ap total_words (sym (tags_known points p kept c.requires.program))) ran c.run_scan.ensures.outputs).flag_is

pub returns-clause-stores : goal.returns-clause-stores
returns-clause-stores c =
    let fits : FitsSigned w64 c.args.dt = search rules in
    let points = c.args.points.now.chassis in
    let p = c.args.program.now in
    let kept = c.code-code.ensures.kept in
    let words = c.args.words.now.list in
    let after = c.run_scan.new.words.list in
    let pairs = c.run_scan.new.touched.pairs in
    let ran = subst (λ (dt : ℤ). RanOn points p.tags p.code.list words c.args.inputs.now dt after c.run_scan.result pairs) (to_z-of_z w64 c.args.dt fits) c.run_scan.ensures.ran in
    (leaves points p words c.args.inputs.now c.args.dt after c.run_scan.new.outputs.list c.run_scan.result pairs kept c.requires.program
    c.points-points.ensures.chassis c.points-points.ensures.holds_zero (c.requires.words ∙ ap total_words (sym (tags_known points p kept c.requires.program))) ran c.run_scan.ensures.outputs).stores_are

pub returns-clause-output_number : goal.returns-clause-output_number
returns-clause-output_number c =
    let fits : FitsSigned w64 c.args.dt = search rules in
    let points = c.args.points.now.chassis in
    let p = c.args.program.now in
    let kept = c.code-code.ensures.kept in
    let words = c.args.words.now.list in
    let after = c.run_scan.new.words.list in
    let pairs = c.run_scan.new.touched.pairs in
    let ran = subst (λ (dt : ℤ). RanOn points p.tags p.code.list words c.args.inputs.now dt after c.run_scan.result pairs) (to_z-of_z w64 c.args.dt fits) c.run_scan.ensures.ran in
    (leaves points p words c.args.inputs.now c.args.dt after c.run_scan.new.outputs.list c.run_scan.result pairs kept c.requires.program
    c.points-points.ensures.chassis c.points-points.ensures.holds_zero (c.requires.words ∙ ap total_words (sym (tags_known points p kept c.requires.program))) ran c.run_scan.ensures.outputs).number

pub returns-clause-within : goal.returns-clause-within
returns-clause-within c =
    let fits : FitsSigned w64 c.args.dt = search rules in
    let points = c.args.points.now.chassis in
    let p = c.args.program.now in
    let kept = c.code-code.ensures.kept in
    let words = c.args.words.now.list in
    let after = c.run_scan.new.words.list in
    let pairs = c.run_scan.new.touched.pairs in
    let ran = subst (λ (dt : ℤ). RanOn points p.tags p.code.list words c.args.inputs.now dt after c.run_scan.result pairs) (to_z-of_z w64 c.args.dt fits) c.run_scan.ensures.ran in
    (leaves points p words c.args.inputs.now c.args.dt after c.run_scan.new.outputs.list c.run_scan.result pairs kept c.requires.program
    c.points-points.ensures.chassis c.points-points.ensures.holds_zero (c.requires.words ∙ ap total_words (sym (tags_known points p kept c.requires.program))) ran c.run_scan.ensures.outputs).within

pub returns-clause-restores : goal.returns-clause-restores
returns-clause-restores c =
    let fits : FitsSigned w64 c.args.dt = search rules in
    let points = c.args.points.now.chassis in
    let p = c.args.program.now in
    let kept = c.code-code.ensures.kept in
    let words = c.args.words.now.list in
    let after = c.run_scan.new.words.list in
    let pairs = c.run_scan.new.touched.pairs in
    let ran = subst (λ (dt : ℤ). RanOn points p.tags p.code.list words c.args.inputs.now dt after c.run_scan.result pairs) (to_z-of_z w64 c.args.dt fits) c.run_scan.ensures.ran in
    (leaves points p words c.args.inputs.now c.args.dt after c.run_scan.new.outputs.list c.run_scan.result pairs kept c.requires.program
    c.points-points.ensures.chassis c.points-points.ensures.holds_zero (c.requires.words ∙ ap total_words (sym (tags_known points p kept c.requires.program))) ran c.run_scan.ensures.outputs).restores
