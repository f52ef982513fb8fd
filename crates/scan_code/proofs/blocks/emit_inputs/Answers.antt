use Rattle.std.proofs.Common.{◌+◌, length, drop, map, refl, ◌∙◌}
use Rattle.st_core.specs.Codes.{act_code}
use Rattle.st_meaning.specs.Types.{type_of}
use Rattle.st_meaning.specs.Statements.{in_order, set_input, given}
use Rattle.st_sound.specs.Shapes.{shape_in}
use Rattle.scan_code.specs.Inner.Emits.{spot_at, behind}
use Rattle.scan_code.proofs.ListCodes.{codes_more, codes_all, order_code}
use Rattle.scan_code.proofs.StatementCodes.{none_put}
use Rattle.scan_code.proofs.blocks.emit_inputs.Goals as goal

pub loop-input-init : goal.loop-input-init
loop-input-init c = refl

pub loop-input-preserved : goal.loop-input-preserved
loop-input-preserved c =
    let act = set_input c.args.block (type_of c.args.layout.now c.args.block) (given c.args.layout.now c.input-item.result) in
    codes_more (λ xs n. act_code (shape_in c.args.layout.now) (in_order (map (set_input c.args.block (type_of c.args.layout.now c.args.block)) (map (given c.args.layout.now) xs))) (spot_at n c.args.exit c.args.finish)) c.args.inputs.now c.loop-input.input-index _ c.loop-input.code.items (act_code (shape_in c.args.layout.now) act (behind c.loop-input.code.items c.args.exit c.args.finish)) c.emit_input.new.code.items c.input-item.result c.loop-input-test.true c.input-item.is c.loop-input.invariant
    (order_code (shape_in c.args.layout.now) act (map (set_input c.args.block (type_of c.args.layout.now c.args.block)) (map (given c.args.layout.now) (drop (c.loop-input.input-index + 1) c.args.inputs.now))) (length c.loop-input.code.items) c.args.exit c.args.finish) c.in_ok-emit_input.ensures

pub returns : goal.returns
returns c =
    none_put (shape_in c.args.layout.now) c.loop-input.code.items c.args.exit c.args.finish ∙ codes_all (λ xs n. act_code (shape_in c.args.layout.now) (in_order (map (set_input c.args.block (type_of c.args.layout.now c.args.block)) (map (given c.args.layout.now) xs))) (spot_at n c.args.exit c.args.finish)) c.args.inputs.now c.loop-input.input-index _ c.loop-input.code.items c.loop-input-test.false c.loop-input.invariant
