use Rattle.std.proofs.Common.{◌≡◌, ◌++◌, OnOk, Option, map, ap, sym, ◌∙◌, subst}
use Rattle.st_tree.specs.declared.statement.Inputs.{Inputs}
use Rattle.st_tree.specs.Typing.Statements.{inputs_in}
use Rattle.st_core.specs.Codes.{act_code}
use Rattle.st_meaning.specs.Types.{type_of}
use Rattle.st_meaning.specs.Statements.{in_order, set_input, given}
use Rattle.st_sound.specs.Shapes.{shape_in}
use Rattle.scan_code.specs.Inner.Emits.{behind}
use Rattle.scan_code.proofs.Primaries.{on_ok}
use Rattle.scan_code.proofs.StatementCodes.{none_put}
use Rattle.scan_code.proofs.BlockCodes.{first_put}
use Rattle.scan_code.proofs.blocks.emit_named.Goals as goal

pub returns-in-None : goal.returns-in-None
returns-in-None c =
    none_put (shape_in c.args.layout.now) c.args.code.now.items c.args.exit c.args.finish ∙ ap (λ (o : Option Inputs). c.args.code.now.items ++ act_code (shape_in c.args.layout.now) (in_order (map (set_input c.args.block (type_of c.args.layout.now c.args.block)) (map (given c.args.layout.now) (inputs_in o)))) (behind c.args.code.now.items c.args.exit c.args.finish)) (sym c.in-None.is)

pub returns-in_ok-emit_input-in-Some : goal.returns-in_ok-emit_input-in-Some
returns-in_ok-emit_input-in-Some c =
    subst (λ (o : Option Inputs). OnOk c.emit_inputs.result (c.emit_inputs.new.code.items ≡ c.args.code.now.items ++ act_code (shape_in c.args.layout.now) (in_order (map (set_input c.args.block (type_of c.args.layout.now c.args.block)) (map (given c.args.layout.now) (inputs_in o)))) (behind c.args.code.now.items c.args.exit c.args.finish))) (sym c.in-Some.is)
    (on_ok c.emit_inputs.result c.emit_inputs.ensures (λ e. first_put (shape_in c.args.layout.now) (set_input c.args.block (type_of c.args.layout.now c.args.block) (given c.args.layout.now c.in-Some.inputs.first)) (map (set_input c.args.block (type_of c.args.layout.now c.args.block)) (map (given c.args.layout.now) c.in-Some.inputs.more)) c.args.code.now.items c.emit_input.new.code.items c.emit_inputs.new.code.items c.args.exit c.args.finish c.in_ok-emit_input-in-Some.ensures
    (e ∙ ap (λ l. c.emit_input.new.code.items ++ act_code (shape_in c.args.layout.now) (in_order (map (set_input c.args.block (type_of c.args.layout.now c.args.block)) (map (given c.args.layout.now) l))) (behind c.emit_input.new.code.items c.args.exit c.args.finish)) c.as_slice.ensures)))
