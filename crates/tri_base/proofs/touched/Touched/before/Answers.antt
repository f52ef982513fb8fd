use Rattle.std.proofs.Common.{◌≡◌, arith, sym, ap, ◌∙◌, ℤ, ◌-◌, ◌+◌, get_or, Some, SFits, w64, rules}
use Rattle.std.proofs.lemmas.List.{get_or_read_under}
use Rattle.std.proofs.lemmas.Int.{to_z-of_z}
use Rattle.tri_base.specs.Noted.{number_before}
use Rattle.tri_base.proofs.Places.{Pair, none_yet, past, read, knows_none, knows}
use Rattle.tri_base.proofs.touched.Touched.before.Goals as goal

pub returns-then-address-len : goal.returns-then-address-len
returns-then-address-len c =
    let places = c.self.inside.places in
    let e = past c.args.address c.self.inside.pairs.items places.items c.self.invariant.tied (omega (arith, places.ok)) in
    sym e ∙ ap (λ t. number_before c.args.address t.pairs) c.self.view_is

pub returns-then-place-eq0 : goal.returns-then-place-eq0
returns-then-place-eq0 c =
    let places = c.self.inside.places in
    let zero_is : get_or places.items c.args.address 0 ≡ 0 = read places.items c.args.address places.len c.index-place.result.now c.index-place.ensures (omega arith) places.ok.0 ∙ c.if-place-eq0.true in
    let e = knows_none c.args.address c.self.inside.pairs.items places.items c.self.invariant.tied zero_is in
    sym e ∙ ap (λ t. number_before c.args.address t.pairs) c.self.view_is

pub index-requires : goal.index-requires
index-requires c =
    let places = c.self.inside.places in
    let k = c.index-place.result.now - 1 in
    let place_is : get_or places.items c.args.address 0 ≡ k + 1 = read places.items c.args.address places.len c.index-place.result.now c.index-place.ensures (omega arith) places.ok.0 ∙ omega arith in
    let own = c.self.invariant.tied.owns c.args.address k place_is in
    omega (arith, own.0, c.self.inside.pairs.ok.0)

pub returns : goal.returns
returns c =
    let places = c.self.inside.places in
    let pairs = c.self.inside.pairs in
    let k = c.index-place.result.now - 1 in
    let place_is : get_or places.items c.args.address 0 ≡ k + 1 = read places.items c.args.address places.len c.index-place.result.now c.index-place.ensures (omega arith) places.ok.0 ∙ omega arith in
    let own = c.self.invariant.tied.owns c.args.address k place_is in
    let pair_is = get_or_read_under pairs.items k pairs.len c.index.result.now none_yet c.index.ensures (omega (arith, own.0, pairs.ok.0)) pairs.ok.0 in
    let e = knows c.args.address k pairs.items places.items c.self.invariant.tied place_is in
    let fits : SFits w64 c.index.result.now.1 = search rules in
    ap (λ (x : ℤ). Some x) (to_z-of_z w64 c.index.result.now.1 fits ∙ ap (λ (x : Pair). x.1) pair_is) ∙ (sym e ∙ ap (λ t. number_before c.args.address t.pairs) c.self.view_is)
