use Rattle.std.proofs.Common.{◌≡◌, ◌<◌, ◌+◌, ◌-ℤ◌, length, to_z, of_z, w64, arith, ap, sym, subst}
use Rattle.std.proofs.lemmas.Int.{ints}
use Rattle.std.specs.Prelude.{unsigned_abs}
use Rattle.scan_machine.specs.Rules.{AreBounds, HasConstants}
use Rattle.scan_machine.specs.Inner.Reaches.{reach}
use Rattle.scan_machine.proofs.Reaches.{array_there}
use Rattle.scan_machine.proofs.memory.load_element.Goals as goal

pub load_at-clamped-requires-clause-place : goal.load_at-clamped-requires-clause-place
load_at-clamped-requires-clause-place c =
    let n = c.in-LoadAt in
    let bounds : AreBounds n.low n.high = subst HasConstants n.is c.requires.constants in
    let el : to_z w64 (of_z w64 n.low) ≡ n.low = omega (arith, ints) in
    let eh : to_z w64 (of_z w64 n.high) ≡ n.high = omega (arith, ints) in
    subst (λ z. n.address + unsigned_abs (z -ℤ to_z w64 (of_z w64 n.low)) < length c.args.words.now) (sym eh)
    (subst (λ z. n.address + unsigned_abs (n.high -ℤ z) < length c.args.words.now) (sym el)
    (array_there (length c.args.words.now) n.address n.low n.high c.args.instr.now bounds.0 (ap reach n.is) c.requires.words))
