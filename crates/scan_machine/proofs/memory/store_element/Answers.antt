use Rattle.std.proofs.Common.{◌≡◌, ◌<◌, ◌+◌, pos, ◌-ℤ◌, [], length, to_z, of_z, w64, arith, ap, sym, subst, ◌∙◌}
use Rattle.std.proofs.lemmas.Int.{ints}
use Rattle.std.specs.Prelude.{unsigned_abs}
use Rattle.scan_machine.specs.declared.instructions.Instr.{Instr}
use Rattle.scan_machine.specs.Rules.{AreBounds, HasConstants}
use Rattle.scan_machine.specs.Inner.Reaches.{reach}
use Rattle.scan_machine.specs.Machine.{State, does}
use Rattle.scan_machine.specs.Inner.Waiting.{waiting}
use Rattle.scan_machine.proofs.Reaches.{array_there}
use Rattle.scan_machine.proofs.Turning.{stored_element}
use Rattle.scan_machine.proofs.memory.store_element.Goals as goal

pub store_at-clamped-requires-clause-place : goal.store_at-clamped-requires-clause-place
store_at-clamped-requires-clause-place c =
    let n = c.in-StoreAt in
    let bounds : AreBounds n.low n.high = subst HasConstants n.is c.requires.constants in
    let el : to_z w64 (of_z w64 n.low) ≡ n.low = omega (arith, ints) in
    let eh : to_z w64 (of_z w64 n.high) ≡ n.high = omega (arith, ints) in
    subst (λ z. n.address + unsigned_abs (z -ℤ to_z w64 (of_z w64 n.low)) < length c.args.words.now) (sym eh)
    (subst (λ z. n.address + unsigned_abs (n.high -ℤ z) < length c.args.words.now) (sym el)
    (array_there (length c.args.words.now) n.address n.low n.high c.args.instr.now bounds.0 (ap reach n.is) c.requires.words))

pub returns-clause-value : goal.returns-clause-value
returns-clause-value c dt index =
    let n = c.in-StoreAt in let done = c.store_at-clamped in
    let el : to_z w64 (of_z w64 n.low) ≡ n.low = omega (arith, ints) in
    let eh : to_z w64 (of_z w64 n.high) ≡ n.high = omega (arith, ints) in
    let s : State = record { index = index; stack = waiting c.args.places.now c.args.depth.now; words = c.args.words.now; flag = c.args.flag.now; stores = c.args.touched.now.pairs } in
    ap (λ (m : Instr). does dt m s) n.is
    ∙ stored_element n.address n.kind n.low n.high (waiting c.args.places.now c.args.depth.now) [] (waiting c.args.places.now done.new.depth) c.args.words.now done.new.words c.args.touched.now.pairs done.new.touched.pairs (pos 0) (pos 0)
    dt index c.args.flag.now c.raise.new.flag done.result (to_z w64 (of_z w64 n.low)) (to_z w64 (of_z w64 n.high)) el eh (done.ensures.value dt) c.raise.ensures
