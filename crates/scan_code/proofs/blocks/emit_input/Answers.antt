use Rattle.std.proofs.Common.{◌∙◌}
use Rattle.st_meaning.specs.Expressions.{elaborated}
use Rattle.scan_code.proofs.Primaries.{on_ok}
use Rattle.scan_code.proofs.BlockCodes.{input_put}
use Rattle.scan_code.proofs.blocks.emit_input.Goals as goal

pub returns : goal.returns
returns c =
    on_ok c.put.result c.put.ensures (λ e. input_put c.args.layout.now c.args.block c.args.input.now.name.name c.find-tag.result c.block_of.result c.find_field-found.result.place c.find_field-found.result.of (elaborated c.args.layout.now c.args.input.now.value).asked c.args.code.now.items c.emit_expr.new.code.items c.put.new.code.items c.args.exit c.args.finish
    c.find-tag.ensures.found (c.block_of.ensures ∙ c.find-tag.ensures.found.block) c.find_field-found.ensures.place c.find_field-found.ensures.kind c.in_ok-emit_expr.ensures e)
