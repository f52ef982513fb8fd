-- Nobody has to believe what stands here: it serves the compiler alone.
-- The paths through a choice, from the first branch on.
use Rattle.std.specs.Prelude.{◌≡◌, ℕ, ◌+◌, max, List, [], ◌∷◌}
use Rattle.st_core.specs.Costs.{term_cost, cost_of}
use Rattle.st_meaning.specs.Statements.{Guarded}
use Rattle.code_size.specs.declared.paths.Paths.{Paths}
use Rattle.code_size.specs.Limits.{limited}

-- what the tests before cost, and the dearest path through a branch before
abbrev pub IsPaths : Paths → ℕ → ℕ → Type 0
IsPaths p tests best = (p.tests ≡ limited tests) × (p.best ≡ limited best)

-- what the tests cost up to and with that of a branch
abbrev pub test_after : ℕ → Guarded → ℕ
test_after tests g = tests + term_cost g.condition + 1

-- the dearest path through a branch, with one branch more
abbrev pub path_after : ℕ → ℕ → Guarded → ℕ
path_after tests best g = max best (test_after tests g + cost_of g.body + 1)

-- the same with one branch more
abbrev pub IsWithPath : Paths → ℕ → ℕ → Guarded → Type 0
IsWithPath p tests best g = IsPaths p (test_after tests g) (path_after tests best g)

-- what all tests cost
unfoldable pub tests_after : ℕ → List Guarded → ℕ
tests_after tests [] = tests
tests_after tests (g ∷ gs) = tests_after (test_after tests g) gs

-- the dearest path through a branch
unfoldable pub best_after : ℕ → ℕ → List Guarded → ℕ
best_after tests best [] = best
best_after tests best (g ∷ gs) = best_after (test_after tests g) (path_after tests best g) gs
