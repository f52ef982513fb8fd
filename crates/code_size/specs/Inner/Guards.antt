-- Nobody has to believe what stands here: it serves the compiler alone.
-- How many instructions conditions have with their bodies.
use Rattle.std.specs.Prelude.{ℕ, ◌+◌, List, [], ◌∷◌}
use Rattle.st_core.specs.Costs.{term_cost}
use Rattle.st_core.specs.Codes.{size_of}
use Rattle.st_meaning.specs.Statements.{Guarded}

-- a condition, a jump past the body, the body, and a jump to the end
abbrev pub guard_size : Guarded → ℕ
guard_size g = term_cost g.condition + 1 + size_of g.body + 1

-- several of them in a row
unfoldable pub guards_size : List Guarded → ℕ
guards_size [] = 0
guards_size (g ∷ gs) = guard_size g + guards_size gs
