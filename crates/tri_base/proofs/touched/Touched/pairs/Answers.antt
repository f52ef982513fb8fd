use Rattle.std.proofs.Common.{◌≢◌, ◌<◌, subst}
use Rattle.std.specs.List.{All, AllPairs}
use Rattle.tri_base.proofs.Places.{distinct, all_within}
use Rattle.tri_base.proofs.touched.Touched.pairs.Goals as goal

pub returns-clause-within : goal.returns-clause-within
returns-clause-within c =
    let h = all_within c.self.inside.pairs.items c.self.inside.places.items c.self.invariant.tied in
    subst (λ t. All (λ pair. pair.0 < t.size) t.pairs) c.self.view_is h

pub returns-clause-once : goal.returns-clause-once
returns-clause-once c =
    let h = distinct c.self.inside.pairs.items c.self.inside.places.items c.self.invariant.tied in
    subst (λ t. AllPairs (λ pair other. pair.0 ≢ other.0) t.pairs) c.self.view_is h
