use Rattle.std.proofs.Common.{◌∙◌}
use Rattle.scan_code.proofs.Primaries.{on_ok, field_code}
use Rattle.scan_code.proofs.fields.emit_field.Goals as goal

pub returns : goal.returns
returns c =
    on_ok c.put.result c.put.ensures (λ e. field_code c.args.layout.now c.args.block c.args.field c.find-tag.result c.block_of.result c.find_field-found.result.place c.find_field-found.result.of c.args.code.now.items c.put.new.code.items c.find-tag.ensures.found (c.block_of.ensures ∙ c.find-tag.ensures.found.block) c.find_field-found.ensures.place c.find_field-found.ensures.kind e)
