use Rattle.std.proofs.Common.{◌++◌, map}
use Rattle.st_core.specs.Codes.{act_code}
use Rattle.st_meaning.specs.Types.{type_of}
use Rattle.st_meaning.specs.Statements.{in_order, set_input, given}
use Rattle.st_sound.specs.Shapes.{shape_in}
use Rattle.scan_code.specs.Inner.Emits.{spot_at, behind}
use Rattle.scan_code.proofs.ListCodes.{Codes}
use Rattle.scan_code.proofs.blocks.emit_inputs.Given as goal

abbrev pub invariant-loop-input : goal.invariant-loop-input
invariant-loop-input l = Codes (λ xs n. act_code (shape_in l.layout) (in_order (map (set_input l.block (type_of l.layout l.block)) (map (given l.layout) xs))) (spot_at n l.exit l.finish)) l.inputs l.input-index (l.fn.code.items ++ act_code (shape_in l.layout) (in_order (map (set_input l.block (type_of l.layout l.block)) (map (given l.layout) l.inputs))) (behind l.fn.code.items l.exit l.finish)) l.code.items
