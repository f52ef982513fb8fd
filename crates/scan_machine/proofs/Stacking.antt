-- Operands at their places.
use Rattle.std.proofs.Common.{◌≡◌, ℕ, zero, suc, ◌+◌, ◌-◌, ◌<◌, ◌≤◌, ℤ, pos, List, [], ◌∷◌, length, arith, refl, ap, subst}
use Rattle.std.specs.Prelude.{slice_index_or, slice_set}
use Rattle.std.proofs.lemmas.List.{get_or-set_other, get_or-set_same}
use Rattle.scan_machine.specs.Inner.Waiting.{waiting}

pub waiting-none : (places : List ℤ) → waiting places 0 ≡ []
unfolding waiting
waiting-none places = refl

pub length-waiting : (places : List ℤ) (depth : ℕ) → length (waiting places depth) ≡ depth
unfolding waiting
length-waiting places zero = refl
length-waiting places (suc n) = omega (arith, length-waiting places n)

below_set : (places : List ℤ) (place n : ℕ) (v : ℤ) → n ≤ place → waiting (slice_set places place v) n ≡ waiting places n
unfolding waiting
below_set places place zero v h = refl
below_set places place (suc n) v h =
    let same = get_or-set_other places place n v (pos 0) (λ e. absurd (omega arith)) in
    let rest = below_set places place n v (omega arith) in
    λ i. same i ∷ rest i

on_top_set : (places : List ℤ) (place : ℕ) (v : ℤ) → place < length places → waiting (slice_set places place v) (suc place) ≡ v ∷ waiting places place
unfolding waiting
on_top_set places place v there =
    let here = get_or-set_same places place v (pos 0) there in
    let rest = below_set places place place v (omega arith) in
    λ i. here i ∷ rest i

pub one_pushed : (places : List ℤ) (place : ℕ) (v : ℤ) → place < length places → waiting (slice_set places place v) (place + 1) ≡ v ∷ waiting places place
one_pushed places place v there =
    let e : suc place ≡ place + 1 = omega arith in
    subst (λ n. waiting (slice_set places place v) n ≡ v ∷ waiting places place) e (on_top_set places place v there)

pub one_popped : (places : List ℤ) (depth : ℕ) → 0 < depth → waiting places depth ≡ slice_index_or places (depth - 1) (pos 0) ∷ waiting places (depth - 1)
unfolding waiting
one_popped places zero some = absurd (omega arith)
one_popped places (suc n) some =
    let e : n ≡ suc n - 1 = omega arith in
    ap (λ n. slice_index_or places n (pos 0) ∷ waiting places n) e
