use Rattle.std.proofs.Common.{◌≡◌, ◌+◌, to_z, of_z, w64, arith, ap, ◌∙◌}
use Rattle.std.specs.Prelude.{slice_set}
use Rattle.std.proofs.lemmas.Int.{ints}
use Rattle.scan_machine.specs.Inner.Waiting.{waiting}
use Rattle.scan_machine.proofs.Stacking.{one_pushed}
use Rattle.scan_machine.proofs.stack.push.Goals as goal

pub returns-clause-stack : goal.returns-clause-stack
returns-clause-stack c =
    let fits : to_z w64 (of_z w64 c.args.value) ≡ c.args.value = omega (arith, ints) in
    let put = c.put.ensures.places in
    let is : c.put.new.self ≡ slice_set c.args.places.now c.args.depth.now c.args.value = cc in
    ap (λ l. waiting l (c.args.depth.now + 1)) is ∙ one_pushed c.args.places.now c.args.depth.now c.args.value c.put.ensures.there
