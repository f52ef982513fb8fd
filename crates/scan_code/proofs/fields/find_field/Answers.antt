use Rattle.std.proofs.Common.{◌<◌, length, slice_get, arith, ◌∙◌, ap}
use Rattle.function_blocks.specs.Fields.{fields_of}
use Rattle.scan_code.specs.Inner.Found.{typed_field}
use Rattle.scan_code.proofs.FieldPlaces.{left_all, left_next, left_found}
use Rattle.scan_code.proofs.fields.find_field.Goals as goal

pub loop-place-init : goal.loop-place-init
loop-place-init c = left_all c.args.name (fields_of c.args.block)

pub loop-place-preserved : goal.loop-place-preserved
loop-place-preserved c =
    let fs = fields_of c.args.block in
    let less : c.loop-place.place < length fs = omega (arith, c.loop-place-test.true, c.field_count-place-end.ensures) in
    left_next c.args.name fs c.loop-place.place (c.in_default.ensures ∙ ap (typed_field (slice_get fs c.loop-place.place)) c.bytes.ensures.value) less c.loop-place.invariant

pub returns-in-Some-clause-place : goal.returns-in-Some-clause-place
returns-in-Some-clause-place c =
    let fs = fields_of c.args.block in
    (left_found c.args.name fs c.loop-place.place c.in-Some.of (c.in-Some.ensures ∙ ap (typed_field (slice_get fs c.loop-place.place)) c.bytes.ensures.value) c.loop-place.invariant).place
