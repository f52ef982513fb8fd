-- The dearest path of a choice, and the tests of CASE.
use Rattle.std.proofs.Common.{◌≡◌, ℕ, ℤ, ◌+◌, ◌*◌, max, List, [], ◌∷◌, length, fold, arith, refl, ap, sym, ◌∙◌, add-mul, one-mul}
use Rattle.st_core.specs.Core.{Term, Act}
use Rattle.st_core.specs.Core as c
use Rattle.st_core.specs.Costs.{term_cost, cost_of}
use Rattle.st_meaning.specs.Statements.{Guarded, choice, Labelled, guarded, within, or_within}
use Rattle.st_meaning.specs.Paths.{path_costs, CostsDearestPath, LabelsCost}

dearest_from : (gs : List Guarded) (other : Act) (tests best : ℕ) → max best (tests + cost_of (choice gs other)) ≡ fold max best (path_costs tests gs other)
unfolding choice cost_of path_costs
dearest_from [] other tests best = refl
dearest_from (g ∷ gs) other tests best =
    let own = tests + term_cost g.condition + 1 in
    let e = dearest_from gs other own (max best (own + cost_of g.body + 1)) in
    omega arith ∙ e

pub dearest : CostsDearestPath
dearest gs other = let e = dearest_from gs other 0 0 in omega (arith, e)

within_cost : (selector : Term) (range : ℤ × ℤ) → term_cost (within selector range) ≡ term_cost selector + 1
unfolding term_cost
within_cost selector range = refl

or_cost : (selector test : Term) (range : ℤ × ℤ) → term_cost (or_within selector test range) ≡ term_cost test + (term_cost selector + 1) + 1
unfolding term_cost
or_cost selector test range = refl

labels_from : (selector test : Term) (more : List (ℤ × ℤ)) → term_cost (fold (or_within selector) test more) ≡ term_cost test + length more * (term_cost selector + 2)
labels_from selector test [] = omega arith
labels_from selector test (range ∷ more) =
    let e = labels_from selector (or_within selector test range) more in
    let o = or_cost selector test range in
    let n : 1 + length more ≡ length (range ∷ more) = omega arith in
    let m = sym (ap (λ k. k * (term_cost selector + 2)) n) ∙ (add-mul 1 (length more) (term_cost selector + 2) ∙ ap (λ k. k + length more * (term_cost selector + 2)) (one-mul (term_cost selector + 2))) in
    omega (arith, e, o, m)

pub labels : LabelsCost
labels selector l =
    let e = labels_from selector (within selector l.first) l.more in
    let w = within_cost selector l.first in
    let m = add-mul 1 (length l.more) (term_cost selector + 2) ∙ ap (λ k. k + length l.more * (term_cost selector + 2)) (one-mul (term_cost selector + 2)) in
    omega (arith, e, w, m)
