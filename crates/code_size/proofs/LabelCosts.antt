-- The test of CASE, one label at a time.
use Rattle.std.proofs.Common.{◌≡◌, ℕ, ℤ, ◌+◌, ◌<◌, ◌≤◌, List, [], ◌∷◌, length, get_or, take, map, fold, arith, refl, ap, sym, ◌∙◌}
use Rattle.std.proofs.lemmas.List.Sums.{fold_more}
use Rattle.std.proofs.lemmas.List.Folds.{fold-map}
use Rattle.st_tree.specs.declared.statement.Label.{Label}
use Rattle.st_core.specs.Core.{Term}
use Rattle.st_core.specs.Costs.{term_cost}
use Rattle.st_meaning.specs.Statements.{range_of, within, or_within}
use Rattle.code_size.specs.Limits.{limited}
use Rattle.code_size.specs.Inner.Sums.{Adds}
use Rattle.code_size.proofs.Rows.{taken_all}

-- the test that one of the labels holds the selector
abbrev pub rows : Term → ℤ × ℤ → List Label → Term
rows t first more = fold (or_within t) (within t first) (map range_of more)

rows_by : (t : Term) (first : ℤ × ℤ) (more : List Label) → rows t first more ≡ fold (λ b x. or_within t b (range_of x)) (within t first) more
rows_by t first more = fold-map (or_within t) range_of (within t first) more

pub rows_more : (t : Term) (first : ℤ × ℤ) (more : List Label) (k : ℕ) (x : Label) → k < length more → rows t first (take (k + 1) more) ≡ or_within t (rows t first (take k more)) (range_of (get_or more k x))
rows_more t first more k x less =
    rows_by t first (take (k + 1) more) ∙ (fold_more (λ (b : Term) (x : Label). or_within t b (range_of x)) (within t first) more k x less ∙ ap (λ b. or_within t b (range_of (get_or more k x))) (sym (rows_by t first (take k more))))

row_cost : (t b : Term) (range : ℤ × ℤ) → term_cost (or_within t b range) ≡ term_cost b + (term_cost t + 1) + 1
unfolding term_cost
row_cost t b range = refl

pub within_cost : (t : Term) (range : ℤ × ℤ) → term_cost (within t range) ≡ term_cost t + 1
unfolding term_cost
within_cost t range = refl

pub rows_cost : (t : Term) (first : ℤ × ℤ) (more : List Label) (k : ℕ) (cost one both new : ℕ) → k < length more → cost ≡ limited (term_cost (rows t first (take k more))) → one ≡ limited (term_cost t + 1) → Adds cost one both → Adds both 1 new
    → new ≡ limited (term_cost (rows t first (take (k + 1) more)))
rows_cost t first [] k cost one both new less h o e f = absurd (omega (arith, less))
rows_cost t first (y ∷ ys) k cost one both new less h o e f =
    let b = rows t first (take k (y ∷ ys)) in
    f (term_cost b + (term_cost t + 1)) 1 (e (term_cost b) (term_cost t + 1) h o) refl
    ∙ ap limited (sym (ap term_cost (rows_more t first (y ∷ ys) k y less) ∙ row_cost t b (range_of (get_or (y ∷ ys) k y))))

pub rows_all : (t : Term) (first : ℤ × ℤ) (more : List Label) (k : ℕ) → length more ≤ k → rows t first (take k more) ≡ rows t first more
rows_all t first more k le = ap (rows t first) (taken_all more k le)
