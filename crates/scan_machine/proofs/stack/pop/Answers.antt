use Rattle.std.proofs.Common.{◌≡◌, ◌-◌, ◌∷◌, to_z, of_z, w64, arith, ap, sym, ◌∙◌}
use Rattle.std.proofs.lemmas.Int.{ints}
use Rattle.scan_machine.specs.Inner.Waiting.{waiting}
use Rattle.scan_machine.proofs.Stacking.{one_popped}
use Rattle.scan_machine.proofs.stack.pop.Goals as goal

pub returns-clause-top : goal.returns-clause-top
returns-clause-top c =
    let fits : to_z w64 (of_z w64 c.at.result) ≡ c.at.result = omega (arith, ints) in
    one_popped c.args.places.now c.args.depth.now c.requires.some
    ∙ ap (λ v. v ∷ waiting c.args.places.now (c.args.depth.now - 1)) (sym (fits ∙ c.at.ensures.value))
