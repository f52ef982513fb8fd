use Rattle.std.proofs.Common.{◌≡◌, ℤ, ◌∷◌, refl, to_z, of_z, w64, arith, ap}
use Rattle.std.proofs.lemmas.Int.{ints}
use Rattle.tri_base.specs.Noted.{TouchedValue}
use Rattle.scan_machine.specs.Inner.Waiting.{waiting}
use Rattle.scan_machine.proofs.Turning.{stores_at}
use Rattle.scan_machine.proofs.memory.store_at.Goals as goal

pub returns-clause-value : goal.returns-clause-value
returns-clause-value c dt =
    let waits = waiting c.args.places.now in
    let p : ℤ → ℤ = λ z. to_z w64 (of_z w64 z) in
    let two = c.pop_two-index in let v = two.result.1 in let x = two.result.0 in let rest = waits two.new.depth in let low = c.args.low in let high = c.args.high in
    let index = c.bounded-index.result in let value = c.clamp_to-value.result in
    let ev : to_z w64 (of_z w64 v) ≡ v = omega (arith, ints) in
    let ex : to_z w64 (of_z w64 x) ≡ x = omega (arith, ints) in
    let el : to_z w64 (of_z w64 low) ≡ low = omega (arith, ints) in
    let eh : to_z w64 (of_z w64 high) ≡ high = omega (arith, ints) in
    let ei : to_z w64 (of_z w64 index.value) ≡ index.value = omega (arith, ints) in
    let ed : to_z w64 (of_z w64 value) ≡ value = omega (arith, ints) in
    stores_at c.args.address c.args.kind low high (waits c.args.depth.now) (x ∷ rest) rest c.args.words.now c.put.new.words
    c.args.touched.now.pairs c.put.new.touched.pairs v x
    (p v) (p x) (p low) (p high) (p index.value) (p value) value index c.element.result
    two.ensures.top refl ev ex el eh ei ed c.clamp_to-value.ensures.value c.bounded-index.ensures.value c.element.ensures
    c.put.ensures.words (ap (λ (t : TouchedValue). t.pairs) c.put.ensures.touched)
