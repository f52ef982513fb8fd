use Rattle.std.proofs.Common.{ap, ◌∙◌, ◌++◌}
use Rattle.std.proofs.lemmas.List.{get_or_default}
use Rattle.st_core.specs.Codes.{term_code}
use Rattle.st_meaning.specs.Expressions.{integer_of}
use Rattle.st_meaning.specs.Statements.{range_of}
use Rattle.st_sound.specs.Shapes.{shape_in}
use Rattle.code_size.proofs.LabelCosts.{rows_all}
use Rattle.scan_code.proofs.LabelCodes.{rows_code}
use Rattle.scan_code.proofs.labels.emit_labels.Goals as goal

pub loop-label-init : goal.loop-label-init
loop-label-init c = c.in_ok-emit_within.ensures

pub loop-label-preserved : goal.loop-label-preserved
loop-label-preserved c = rows_code (shape_in c.args.layout.now) (integer_of c.args.layout.now c.args.selector.now) (range_of c.args.first) c.args.more.now c.loop-label.label-index _ c.args.code.now.items c.loop-label.code.items c.emit_within-in-loop-label.new.code.items c.put.new.code.items c.loop-label-test.true (get_or_default c.args.more.now c.loop-label.label-index _ _ c.loop-label-test.true) c.loop-label.invariant c.in_ok-emit_within-2.ensures c.in_ok-put.ensures

pub returns : goal.returns
returns c = c.loop-label.invariant ∙ ap (λ x. c.args.code.now.items ++ term_code (shape_in c.args.layout.now) x) (rows_all (integer_of c.args.layout.now c.args.selector.now) (range_of c.args.first) c.args.more.now c.loop-label.label-index c.loop-label-test.false)
