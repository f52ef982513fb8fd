use Rattle.std.proofs.Common.{◌≡◌, to_z, of_z, w64, arith}
use Rattle.std.proofs.lemmas.Int.{ints}
use Rattle.scan_machine.proofs.Calling.{called_words}
use Rattle.scan_machine.proofs.memory.call.Goals as goal

pub returns-clause-words : goal.returns-clause-words
returns-clause-words c =
    called_words c.args.kind c.args.dt _ c.args.address c.field_count.result c.args.words.now c.step_block.new.fields c.field_count.ensures
    (let e : to_z w64 (of_z w64 c.args.dt) ≡ c.args.dt = omega (arith, ints) in e) c.step_block.ensures
