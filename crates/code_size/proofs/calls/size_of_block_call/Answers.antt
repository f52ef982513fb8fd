use Rattle.std.proofs.Common.{map, refl, ap, ◌∙◌}
use Rattle.st_tree.specs.Typing.Statements.{inputs_in}
use Rattle.st_core.specs.Codes.{size_of}
use Rattle.st_meaning.specs.Types.{type_of, block_of}
use Rattle.st_meaning.specs.Statements.{in_order, set_input, given}
use Rattle.code_size.specs.Limits.{limited}
use Rattle.code_size.proofs.ActSizes.{invoke_size}
use Rattle.code_size.proofs.calls.size_of_block_call.Goals as goal

pub returns : goal.returns
returns c = λ ts.
    let call = c.args.call.now in let type = type_of ts call.block.name in let a = in_order (map (set_input call.block.name type) (map (given ts) (inputs_in call.inputs))) in
    c.plus.ensures (size_of a) 1 (c.size_of_inputs.ensures ts call.block.name type) refl ∙ ap limited (invoke_size a (block_of type) call.block.name)
