use Rattle.function_blocks.specs.Fields.{fields_of}
use Rattle.scan_code.proofs.FieldPlaces.{Left}
use Rattle.scan_code.proofs.fields.find_field.Given as goal

abbrev pub invariant-loop-place : goal.invariant-loop-place
invariant-loop-place l = Left l.name (fields_of l.block) l.place
