-- What IF and CASE cost, path by path (own rule): the dearest path through them.
use Rattle.std.specs.Prelude.{◌≡◌, ℕ, ◌+◌, ◌*◌, max, List, [], ◌∷◌, length, fold}
use Rattle.st_core.specs.Core.{Term, Act}
use Rattle.st_core.specs.Costs.{term_cost, cost_of}
use Rattle.st_meaning.specs.Statements.{Guarded, choice, Labelled, guarded}

-- The cost of each path, where the tests before cost so much. A test is its condition and 1. The path through a branch
-- is the tests up to and with its own, its body and 1; the path past all branches is all tests and the ELSE.
unfoldable pub path_costs : ℕ → List Guarded → Act → List ℕ
path_costs tests [] other = (tests + cost_of other) ∷ []
path_costs tests (g ∷ gs) other =
    let own = tests + term_cost g.condition + 1 in
    (own + cost_of g.body + 1) ∷ path_costs own gs other

-- A choice costs as much as its dearest path.
abbrev pub CostsDearestPath : Type 0
CostsDearestPath = (gs : List Guarded) → (other : Act) → cost_of (choice gs other) ≡ fold max 0 (path_costs 0 gs other)

-- A test of CASE costs, for each label, the selector and 2.
abbrev pub LabelsCost : Type 0
LabelsCost = (selector : Term) → (l : Labelled)
    → term_cost (guarded selector l).condition + 1 ≡ (1 + length l.more) * (term_cost selector + 2)
