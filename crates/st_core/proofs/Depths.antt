-- How many operands wait along the code: none between acts, one more behind a term.
use Rattle.function_blocks.specs.declared.kinds.Kind.{Kind}
use Rattle.std.proofs.Common.{◌≡◌, ℕ, ℤ, ◌+◌, ◌-◌, List, [], ◌∷◌, ◌++◌, length, Some, fold, slice_get, arith, ap, ◌∙◌, refl}
use Rattle.std.proofs.lemmas.Grind.{fold-append}
use Rattle.std.proofs.lemmas.Option.{slice_get_within, get_or_from_slice_get}
use Rattle.scan_machine.specs.declared.instructions.Instr.{Instr}
use Rattle.scan_machine.specs.declared.instructions.Instr.TheVariants as i
use Rattle.scan_machine.specs.Rules.{depth_after, depth_at}
use Rattle.std.proofs.lemmas.List.Sums.{fold_more}
use Rattle.st_core.specs.Core.{Name, UnaryOperator, BinaryOperator, TernaryOperator, Term, Act}
use Rattle.st_core.specs.Core as c
use Rattle.st_core.specs.Effects.{written}
use Rattle.st_core.specs.Costs.{term_cost}
use Rattle.st_core.specs.Memory.{Shape, address_of}
use Rattle.st_core.specs.Codes.{Spot, moved, inner, unary_instr, binary_instr, ternary_instr, term_code, act_code, size_of, loop_code}
use Rattle.st_core.proofs.Places.{HasAt, first_at, rest_at}

-- an operator takes so many and gives one
pub one_depth : (o : UnaryOperator) (d : ℕ) → depth_after (d + 1) (unary_instr o) ≡ d + 1
one_depth (c.Negate kind) d = omega arith
one_depth (c.Absolute kind) d = omega arith
one_depth (c.Convert kind) d = omega arith
one_depth c.Not d = omega arith
one_depth (c.Within low high) d = omega arith

pub two_depth : (o : BinaryOperator) (d : ℕ) → depth_after (d + 1 + 1) (binary_instr o) ≡ d + 1
two_depth (c.Add kind) d = omega arith
two_depth (c.Subtract kind) d = omega arith
two_depth (c.Multiply kind) d = omega arith
two_depth (c.Divide kind) d = omega arith
two_depth (c.Modulo kind) d = omega arith
two_depth (c.Minimum kind) d = omega arith
two_depth (c.Maximum kind) d = omega arith
two_depth c.And d = omega arith
two_depth c.Or d = omega arith
two_depth c.Xor d = omega arith
two_depth c.Equals d = omega arith
two_depth c.Differs d = omega arith
two_depth c.IsBelow d = omega arith
two_depth c.IsAbove d = omega arith
two_depth c.IsAtMost d = omega arith
two_depth c.IsAtLeast d = omega arith

pub three_depth : (o : TernaryOperator) (d : ℕ) → depth_after (d + 1 + 1 + 1) (ternary_instr o) ≡ d + 1
three_depth c.Limit d = omega arith
three_depth c.Select d = omega arith

over : ℕ → List Instr → ℕ
over d xs = fold depth_after d xs

over_join : (d m : ℕ) (xs ys : List Instr) → fold depth_after d xs ≡ m → fold depth_after d (xs ++ ys) ≡ fold depth_after m ys
over_join d m xs ys h = fold-append depth_after d xs ys ∙ ap (λ k. fold depth_after k ys) h

pub term_depth : (shape : Shape) (t : Term) (d : ℕ) → fold depth_after d (term_code shape t) ≡ d + 1
unfolding term_code
term_depth shape (c.Literal v) d = omega arith
term_depth shape (c.Field n k kind) d = omega arith
term_depth shape (c.Element n kind low high t) d = over_join d (d + 1) (term_code shape t) _ (term_depth shape t d) ∙ omega arith
term_depth shape (c.Unary o t) d = over_join d (d + 1) (term_code shape t) _ (term_depth shape t d) ∙ one_depth o d
term_depth shape (c.Binary o t u) d =
    over_join d (d + 1) (term_code shape t) _ (term_depth shape t d) ∙ (over_join (d + 1) (d + 1 + 1) (term_code shape u) _ (term_depth shape u (d + 1)) ∙ two_depth o d)
term_depth shape (c.Ternary o t u w) d =
    over_join d (d + 1) (term_code shape t) _ (term_depth shape t d) ∙ (over_join (d + 1) (d + 1 + 1) (term_code shape u) _ (term_depth shape u (d + 1))
    ∙ (over_join (d + 1 + 1) (d + 1 + 1 + 1) (term_code shape w) _ (term_depth shape w (d + 1 + 1)) ∙ three_depth o d))

loop_depth : (vs : List ℤ) (push : ℤ) (a : ℕ) (kind : Kind) (body : List Instr) (next : Instr) → fold depth_after 0 body ≡ 0 → depth_after 0 next ≡ 0 → fold depth_after 0 (loop_code vs (i.Push push) (i.Store a kind) body next) ≡ 0
loop_depth [] push a kind body next h k = refl
loop_depth (v ∷ vs) push a kind body next h k = over_join 0 0 body (next ∷ []) h ∙ k

pub act_depth : (shape : Shape) (a : Act) (spot : Spot) → fold depth_after 0 (act_code shape a spot) ≡ 0
unfolding act_code
act_depth shape c.Skip spot = refl
act_depth shape (c.Then a b) spot =
    over_join 0 0 (act_code shape a spot) _ (act_depth shape a spot) ∙ act_depth shape b (moved spot (spot.at + size_of a))
act_depth shape (c.Assign n k kind t) spot = over_join 0 1 (term_code shape t) _ (term_depth shape t 0) ∙ refl
act_depth shape (c.AssignElement n kind low high t u) spot =
    over_join 0 1 (term_code shape t) _ (term_depth shape t 0) ∙ (over_join 1 2 (term_code shape u) _ (term_depth shape u 1) ∙ refl)
act_depth shape (c.Invoke kind n) spot = refl
act_depth shape (c.If t a b) spot =
    let first = spot.at + term_cost t + 1 in let second = first + size_of a + 1 in
    over_join 0 1 (term_code shape t) _ (term_depth shape t 0) ∙ (over_join 0 0 (act_code shape a (moved spot first)) _ (act_depth shape a (moved spot first)) ∙ act_depth shape b (moved spot second))
act_depth shape (c.For n kind first last step a) spot =
    loop_depth (written first last step) first (address_of n shape) kind (act_code shape a (inner spot (size_of a))) _ (act_depth shape a (inner spot (size_of a))) refl
act_depth shape c.Exit spot = refl
act_depth shape c.Return spot = refl

-- ---- along the whole code

pub depth_next : (code : List Instr) (at : ℕ) (x : Instr) → slice_get code at ≡ Some x → depth_at code (at + 1) ≡ depth_after (depth_at code at) x
depth_next code at x h = fold_more depth_after 0 code at x (slice_get_within code at x h) ∙ ap (depth_after (depth_at code at)) (get_or_from_slice_get code at x x h)

-- how many wait behind some of its instructions
pub depth_over : (code : List Instr) (at n : ℕ) (xs : List Instr) → length xs ≡ n → HasAt code at xs → depth_at code (at + n) ≡ fold depth_after (depth_at code at) xs
depth_over code at n [] is h = let e : at + n ≡ at = omega (arith, is) in ap (depth_at code) e
depth_over code at n (x ∷ xs) is h =
    let e : at + n ≡ at + 1 + (n - 1) = omega (arith, is) in
    ap (depth_at code) e ∙ (depth_over code (at + 1) (n - 1) xs (omega (arith, is)) (rest_at _ at x xs h)
    ∙ ap (λ d. fold depth_after d xs) (depth_next code at x (first_at _ at x xs h)))
