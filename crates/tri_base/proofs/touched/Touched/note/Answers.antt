use Rattle.std.proofs.Common.{◌≡◌, ◌<◌, arith, subst, sym, ap, ◌∙◌, List, ℕ, [], ◌∷◌, ◌++◌, ◌-◌, ◌+◌, get_or, length, w64, to_z, of_z, is_ok, if◌then◌else◌}
use Rattle.std.proofs.lemmas.List.{length-set, length_push}
use Rattle.std.proofs.lemmas.Int.{to_z-of_z}
use Rattle.std.proofs.Math.ListN.{set}
use Rattle.tri_base.specs.Noted.{noted}
use Rattle.tri_base.specs.Inner.TouchedFields.{Tied}
use Rattle.tri_base.proofs.Places.{Pair, read, room, more, knows_none, knows, noted-first, noted-again}
use Rattle.tri_base.proofs.touched.Touched.note.Goals as goal

pub unwrap-requires : goal.unwrap-requires
unwrap-requires c =
    let a = c.args.address in
    let places = c.self.inside.places in
    let pairs = c.self.inside.pairs in
    let inside : a < length places.items = omega (arith, ap (λ t. t.size) c.self.view_is) in
    let zero_is : get_or places.items a 0 ≡ 0 = read places.items a places.len c.index.result.now c.index.ensures (omega (arith, places.ok.0)) places.ok.0 ∙ c.if-index-eq0.true in
    c.push.ensures.succeeds (omega (arith, room pairs.items places.items a c.self.invariant.tied inside zero_is, pairs.ok.0, c.self.invariant.room))

pub invariant_of-self : goal.invariant_of-self
invariant_of-self c =
    let a = c.args.address in
    let places = c.self.inside.places in
    let pairs = c.self.inside.pairs.items in
    let inside : a < length places.items = omega (arith, ap (λ t. t.size) c.self.view_is) in
    let zero_is : get_or places.items a 0 ≡ 0 = read places.items a places.len c.index.result.now c.index.ensures (omega (arith, places.ok.0)) places.ok.0 ∙ c.if-index-eq0.true in
    let pushed : c.push.new.self.items ≡ pairs ++ (a, c.args.before) ∷ [] =
    c.push.ensures.items ∙ (ap (λ r. if is_ok r then pairs ++ (a, to_z w64 (of_z w64 c.args.before)) ∷ [] else pairs) c.unwrap.ensures ∙ ap (λ z. pairs ++ (a, z) ∷ []) (to_z-of_z w64 c.args.before c.ranges.before)) in
    let len_is : c.len.result ≡ length pairs + 1 = omega (arith, c.push.new.self.ok.0, ap length pushed, length_push pairs (a, c.args.before)) in
    let tied = more pairs places.items a c.args.before c.self.invariant.tied inside zero_is in
    record {
      tied = subst (λ (x : List Pair × ℕ). Tied x.0 (set places.items a x.1)) (λ i. (sym pushed i, sym len_is i)) tied;
      room = omega (arith, length-set places.items a c.len.result, c.push.ensures.capacity, c.self.invariant.room);
    }

pub returns-then-index-eq0 : goal.returns-then-index-eq0
returns-then-index-eq0 c =
    let a = c.args.address in
    let places = c.self.inside.places in
    let pairs = c.self.inside.pairs.items in
    let inside : a < length places.items = omega (arith, ap (λ t. t.size) c.self.view_is) in
    let zero_is : get_or places.items a 0 ≡ 0 = read places.items a places.len c.index.result.now c.index.ensures (omega (arith, places.ok.0)) places.ok.0 ∙ c.if-index-eq0.true in
    let pushed : c.push.new.self.items ≡ pairs ++ (a, c.args.before) ∷ [] =
    c.push.ensures.items ∙ (ap (λ r. if is_ok r then pairs ++ (a, to_z w64 (of_z w64 c.args.before)) ∷ [] else pairs) c.unwrap.ensures ∙ ap (λ z. pairs ++ (a, z) ∷ []) (to_z-of_z w64 c.args.before c.ranges.before)) in
    let first = noted-first a c.args.before pairs (knows_none a pairs places.items c.self.invariant.tied zero_is) in
    let view = c.self.view_is in
    let pairs_is : c.push.new.self.items ≡ noted a c.args.before c.args.self.now.pairs = pushed ∙ (sym first ∙ ap (λ t. noted a c.args.before t.pairs) view) in
    let size_is : length (set places.items a c.len.result) ≡ c.args.self.now.size = length-set places.items a c.len.result ∙ ap (λ t. t.size) view in
    λ i. record { pairs = pairs_is i; size = size_is i }

pub returns-else-index-eq0 : goal.returns-else-index-eq0
returns-else-index-eq0 c =
    let a = c.args.address in
    let places = c.self.inside.places in
    let pairs = c.self.inside.pairs.items in
    let inside : a < length places.items = omega (arith, ap (λ t. t.size) c.self.view_is) in
    let k = c.index.result.now - 1 in
    let place_is : get_or places.items a 0 ≡ k + 1 = read places.items a places.len c.index.result.now c.index.ensures (omega (arith, places.ok.0)) places.ok.0 ∙ omega arith in
    let again = noted-again a c.args.before _ pairs (knows a k pairs places.items c.self.invariant.tied place_is) in
    let view = c.self.view_is in
    let pairs_is : c.args.self.now.pairs ≡ noted a c.args.before c.args.self.now.pairs = ap (λ t. t.pairs) (sym view) ∙ (sym again ∙ ap (λ t. noted a c.args.before t.pairs) view) in
    λ i. record { pairs = pairs_is i; size = c.args.self.now.size }
