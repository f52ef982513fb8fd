use Rattle.std.proofs.Common.{◌≡◌, arith, rules, subst, sym, ap, List, ℕ, [], replicate, vec_capacity, length}
use Rattle.std.proofs.lemmas.Grind.{common_steps}
use Rattle.std.proofs.lemmas.List.{length-replicate}
use Rattle.tri_base.specs.Inner.TouchedFields.{Tied}
use Rattle.tri_base.proofs.Places.{Pair, untouched}
use Rattle.tri_base.proofs.touched.Touched.new.Goals as goal

pub invariant_of-result : goal.invariant_of-result
invariant_of-result c =
    let empty : c.in_ok-pairs.pairs.items ≡ [] = first_of (search rules, grind (arith, common_steps)) in
    let room : vec_capacity c.in_ok-pairs.pairs ≡ c.args.size = first_of (search rules, grind (arith, common_steps)) in
    let zeros : c.in_ok-places.places.items ≡ replicate c.args.size 0 = first_of (search rules, grind (arith, common_steps)) in
    record {
      tied = subst (λ (x : List Pair × List ℕ). Tied x.0 x.1) (λ i. (sym empty i, sym zeros i)) (untouched c.args.size);
      room = omega (arith, room, ap length zeros, length-replicate {A = ℕ} c.args.size 0);
    }
