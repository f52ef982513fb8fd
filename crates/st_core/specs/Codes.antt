-- The instructions of terms and acts. What they do is said by IsCodeOf; nobody has to believe how they lie. Own rule.
use Rattle.std.specs.Prelude.{◌≡◌, ◌⊎◌, ℕ, ◌+◌, ℤ, List, [], ◌∷◌, ◌++◌}
use Rattle.scan_machine.specs.declared.instructions.Instr.{Instr}
use Rattle.scan_machine.specs.declared.instructions.Instr.TheVariants as i
use Rattle.st_core.specs.Core.{Name, UnaryOperator, BinaryOperator, TernaryOperator, Term, Act}
use Rattle.st_core.specs.Core as c
use Rattle.st_core.specs.Effects.{Ends, Onward, Exits, Returns, written}
use Rattle.st_core.specs.Costs.{term_cost}
use Rattle.st_core.specs.Memory.{Shape, address_of}

-- ---- terms

-- The instruction of an operator.
abbrev pub unary_instr : UnaryOperator → Instr
unary_instr (c.Negate kind) = i.Neg kind
unary_instr (c.Absolute kind) = i.Abs kind
unary_instr (c.Convert kind) = i.Convert kind
unary_instr c.Not = i.Not
unary_instr (c.Within first last) = i.Within first last

-- The instruction of an operator.
abbrev pub binary_instr : BinaryOperator → Instr
binary_instr (c.Add kind) = i.Add kind
binary_instr (c.Subtract kind) = i.Sub kind
binary_instr (c.Multiply kind) = i.Mul kind
binary_instr (c.Divide kind) = i.Div kind
binary_instr (c.Modulo kind) = i.Mod kind
binary_instr (c.Minimum kind) = i.Min kind
binary_instr (c.Maximum kind) = i.Max kind
binary_instr c.And = i.And
binary_instr c.Or = i.Or
binary_instr c.Xor = i.Xor
binary_instr c.Equals = i.Eq
binary_instr c.Differs = i.Ne
binary_instr c.IsBelow = i.Lt
binary_instr c.IsAbove = i.Gt
binary_instr c.IsAtMost = i.Le
binary_instr c.IsAtLeast = i.Ge

-- The instruction of an operator.
abbrev pub ternary_instr : TernaryOperator → Instr
ternary_instr c.Limit = i.Limit
ternary_instr c.Select = i.Select

-- The instructions of a term: its operands in their order, and then the operator.
unfoldable pub term_code : Shape → Term → List Instr
term_code shape (c.Literal v) = i.Push v ∷ []
term_code shape (c.Field n k kind) = i.Load (address_of n shape + k) kind ∷ []
term_code shape (c.Element n kind low high t) =
    term_code shape t ++ i.LoadAt (address_of n shape) kind low high ∷ []
term_code shape (c.Unary o t) = term_code shape t ++ unary_instr o ∷ []
term_code shape (c.Binary o t u) = term_code shape t ++ (term_code shape u ++ binary_instr o ∷ [])
term_code shape (c.Ternary o t u w) =
    term_code shape t ++ (term_code shape u ++ (term_code shape w ++ ternary_instr o ∷ []))

-- ---- acts

-- Where a piece of code begins, where EXIT leads, and where RETURN leads.
pub record Spot : Type 0 where
  pub at : ℕ
  pub exit : ℕ
  pub finish : ℕ

-- Another beginning, where EXIT and RETURN lead to the same places.
abbrev pub moved : Spot → ℕ → Spot
moved spot at = record { at = at; exit = spot.exit; finish = spot.finish }

-- How many instructions a loop has round its body.
abbrev pub loop_size : List ℤ → ℕ → ℕ
loop_size [] body = 0
loop_size (v ∷ vs) body = 2 + body + 1

-- How many instructions an act has.
unfoldable pub size_of : Act → ℕ
size_of c.Skip = 0
size_of (c.Then a b) = size_of a + size_of b
size_of (c.Assign n k kind t) = term_cost t + 1
size_of (c.AssignElement n kind low high t u) = term_cost t + term_cost u + 1
size_of (c.Invoke kind n) = 1
size_of (c.If t a b) = term_cost t + 1 + size_of a + 1 + size_of b
size_of (c.For n kind first last step a) = loop_size (written first last step) (size_of a)
size_of c.Exit = 1
size_of c.Return = 1

-- The first number is set, and the body stands before a Next that goes back to it.
abbrev pub loop_code : List ℤ → Instr → Instr → List Instr → Instr → List Instr
loop_code [] push store body next = []
loop_code (v ∷ vs) push store body next = push ∷ (store ∷ (body ++ next ∷ []))

-- The place of a loop's body of this size: EXIT leads behind the Next.
abbrev pub inner : Spot → ℕ → Spot
inner spot size = record { at = spot.at + 2; exit = spot.at + 2 + size + 1; finish = spot.finish }

-- The instructions of an act.
unfoldable pub act_code : Shape → Act → Spot → List Instr
act_code shape c.Skip spot = []
act_code shape (c.Then a b) spot = act_code shape a spot ++ act_code shape b (moved spot (spot.at + size_of a))
act_code shape (c.Assign n k kind t) spot = term_code shape t ++ i.Store (address_of n shape + k) kind ∷ []
act_code shape (c.AssignElement n kind low high t u) spot =
    term_code shape t ++ (term_code shape u ++ i.StoreAt (address_of n shape) kind low high ∷ [])
act_code shape (c.Invoke kind n) spot = i.Call kind (address_of n shape) ∷ []
act_code shape (c.If t a b) spot =
    let first = spot.at + term_cost t + 1 in let second = first + size_of a + 1 in
    term_code shape t
    ++ (i.JumpFalse second ∷ (act_code shape a (moved spot first)
    ++ (i.Jump (second + size_of b) ∷ act_code shape b (moved spot second))))
act_code shape (c.For n kind first last step a) spot =
    loop_code (written first last step) (i.Push first) (i.Store (address_of n shape) kind)
    (act_code shape a (inner spot (size_of a))) (i.Next (address_of n shape) kind step last (spot.at + 2))
act_code shape c.Exit spot = i.Jump spot.exit ∷ []
act_code shape c.Return spot = i.Jump spot.finish ∷ []

-- Where a piece of so many instructions leads.
abbrev pub lands : Spot → ℕ → Ends → ℕ
lands spot size Onward = spot.at + size
lands spot size Exits = spot.exit
lands spot size Returns = spot.finish

-- The code of a whole body, where RETURN leads to its end.
abbrev pub body_code : Shape → Act → List Instr
body_code shape a = act_code shape a (record { at = 0; exit = 0; finish = size_of a })

-- The name is one of these.
unfoldable pub IsOpen : Name → List Name → Type 0
IsOpen n [] = ⊥
IsOpen n (m ∷ ms) = (n ≡ m) ⊎ IsOpen n ms
