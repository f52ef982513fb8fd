-- What a program costs: a bound on the instructions of one scan, by the text alone (own rule).
use Rattle.std.specs.Prelude.{ℕ, ◌+◌, ◌*◌, max, ℤ, List, [], ◌∷◌, length}
use Rattle.st_core.specs.Core.{Term, Act}
use Rattle.st_core.specs.Core as c
use Rattle.st_core.specs.Effects.{written}

-- A number and a field are 1; an element is 1 more than its index, and each operator 1 more than its operands.
unfoldable pub term_cost : Term → ℕ
term_cost (c.Literal v) = 1
term_cost (c.Field n place kind) = 1
term_cost (c.Element n kind low high t) = term_cost t + 1
term_cost (c.Unary o t) = term_cost t + 1
term_cost (c.Binary o t u) = term_cost t + term_cost u + 1
term_cost (c.Ternary o t u w) = term_cost t + term_cost u + term_cost w + 1

-- A loop over these numbers: 2, and for each turn the body and 1. Without a turn it is 0.
abbrev pub loop_cost : List ℤ → ℕ → ℕ
loop_cost [] body = 0
loop_cost (v ∷ more) body = 2 + length (v ∷ more) * (body + 1)

-- An act: an assignment is 1 more than its terms; a call, EXIT and RETURN are 1; acts in a row are their sum; IF is its
-- condition and 1, and the dearer of THEN with 1 more and of ELSE.
unfoldable pub cost_of : Act → ℕ
cost_of c.Skip = 0
cost_of (c.Then a b) = cost_of a + cost_of b
cost_of (c.Assign n place kind t) = term_cost t + 1
cost_of (c.AssignElement n kind low high t u) = term_cost t + term_cost u + 1
cost_of (c.Invoke kind n) = 1
cost_of (c.If t a b) = term_cost t + 1 + max (cost_of a + 1) (cost_of b)
cost_of (c.For n kind first last step a) = loop_cost (written first last step) (cost_of a)
cost_of c.Exit = 1
cost_of c.Return = 1
