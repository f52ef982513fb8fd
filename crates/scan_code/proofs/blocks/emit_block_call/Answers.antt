use Rattle.std.proofs.Common.{◌++◌, [], ◌∷◌, map, ap, ◌∙◌}
use Rattle.st_tree.specs.Typing.Statements.{inputs_in}
use Rattle.st_meaning.specs.Types.{type_of}
use Rattle.st_meaning.specs.Statements.{in_order, set_input, given}
use Rattle.scan_code.proofs.Primaries.{on_ok}
use Rattle.scan_code.proofs.BlockCodes.{invoke_put}
use Rattle.scan_code.proofs.blocks.emit_block_call.Goals as goal

pub returns : goal.returns
returns c =
    let n = c.args.written.now.block.name in
    on_ok c.put.result c.put.ensures (λ e. invoke_put c.args.layout.now n c.find.result (in_order (map (set_input n (type_of c.args.layout.now n)) (map (given c.args.layout.now) (inputs_in c.args.written.now.inputs)))) c.args.code.now.items c.emit_named.new.code.items c.put.new.code.items c.args.exit c.args.finish c.find.ensures.found c.in_ok-emit_named.ensures (e ∙ ap (λ x. c.emit_named.new.code.items ++ x ∷ []) c.call.ensures))
