-- Operands in a row: what they cost.
use Rattle.std.proofs.Common.{◌≡◌, ℕ, ℤ, ◌+◌, ◌<◌, ◌≤◌, List, [], ◌∷◌, length, get_or, take, fold, arith, refl, ap, sym, ◌∙◌, take_all}
use Rattle.std.proofs.lemmas.List.Sums.{fold_more}
use Rattle.function_blocks.specs.declared.kinds.Kind.{Kind}
use Rattle.st_core.specs.Core.{Name, UnaryOperator, BinaryOperator, Term}
use Rattle.st_core.specs.Core as c
use Rattle.st_core.specs.Costs.{term_cost}
use Rattle.st_meaning.specs.Expressions.{Elaborated}
use Rattle.code_size.specs.Limits.{limited}
use Rattle.code_size.specs.Inner.Sums.{Adds}

pub taken_all : {X : Type 0} (xs : List X) (n : ℕ) → length xs ≤ n → take n xs ≡ xs
taken_all [] n le = search (arith, take_all)
taken_all (x ∷ xs) n le = search (arith, take_all)

-- two operands and an operator
pub record Pairs {X : Type 0} (step : Elaborated → X → Elaborated) (one : X → Elaborated) (a : Elaborated) (x : X) (kind : Kind) : Type 0 where
  pub left : Kind
  pub right : Kind
  pub operator : BinaryOperator
  pub is : (step a x).asked kind ≡ c.Binary operator (a.asked left) ((one x).asked right)

binary_cost : (o : BinaryOperator) (t u : Term) → term_cost (c.Binary o t u) ≡ term_cost t + term_cost u + 1
unfolding term_cost
binary_cost o t u = refl

pub unary_cost : (o : UnaryOperator) (t : Term) → term_cost (c.Unary o t) ≡ term_cost t + 1
unfolding term_cost
unary_cost o t = refl

pub element_cost : (n : Name) (kind : Kind) (low high : ℤ) (t : Term) → term_cost (c.Element n kind low high t) ≡ term_cost t + 1
unfolding term_cost
element_cost n kind low high t = refl

pub literal_cost : (v : ℤ) → term_cost (c.Literal v) ≡ 1
unfolding term_cost
literal_cost v = refl

pub field_cost : (n : Name) (place : ℕ) (kind : Kind) → term_cost (c.Field n place kind) ≡ 1
unfolding term_cost
field_cost n place kind = refl

-- one operand more
pub cost_more : {X : Type 0} (step : Elaborated → X → Elaborated) (one : X → Elaborated) → ((a : Elaborated) (x : X) (kind : Kind) → Pairs step one a x kind)
    → (a : Elaborated) (xs : List X) (i : ℕ) (x : X) (cost own both new : ℕ) → i < length xs → x ≡ get_or xs i x
    → ((kind : Kind) → cost ≡ limited (term_cost ((fold step a (take i xs)).asked kind))) → ((kind : Kind) → own ≡ limited (term_cost ((one x).asked kind))) → Adds cost own both → Adds both 1 new
    → (kind : Kind) → new ≡ limited (term_cost ((fold step a (take (i + 1) xs)).asked kind))
cost_more step one pairs a xs i x cost own both new less is so h e f kind =
    let acc = fold step a (take i xs) in
    let p = pairs acc x kind in
    let same : (fold step a (take (i + 1) xs)).asked kind ≡ c.Binary p.operator (acc.asked p.left) ((one x).asked p.right) =
    ap (λ (j : Elaborated). j.asked kind) (fold_more step a xs i x less ∙ ap (step acc) (sym is)) ∙ p.is in
    f (term_cost (acc.asked p.left) + term_cost ((one x).asked p.right)) 1 (e (term_cost (acc.asked p.left)) (term_cost ((one x).asked p.right)) (so p.left) (h p.right)) refl
    ∙ ap limited (sym (ap term_cost same ∙ binary_cost p.operator (acc.asked p.left) ((one x).asked p.right)))
