-- What a reader to so many levels is, where there is a level.
use Rattle.std.proofs.Common.{◌≡◌, ℕ, zero, suc, ◌-◌, ◌<◌, List, ap, arith}
use Rattle.st_tree.specs.declared.token.Token.{Token}
use Rattle.st_parser.specs.Inner.ReadExpressions.{whole_of, expr_at}
use Rattle.st_parser.specs.Inner.ReadStatements.{several, statements_at}

pub expr_level : (n : ℕ) → 0 < n → (ts : List Token) → expr_at n ts ≡ whole_of n (expr_at (n - 1)) ts
unfolding expr_at
expr_level zero some ts = absurd (omega arith)
expr_level (suc m) some ts = let e : m ≡ suc m - 1 = omega arith in ap (λ k. whole_of (suc m) (expr_at k) ts) e

pub statements_level : (n : ℕ) → 0 < n → (ts : List Token) → statements_at n ts ≡ several n (expr_at (n - 1)) (statements_at (n - 1)) ts
unfolding statements_at
statements_level zero some ts = absurd (omega arith)
statements_level (suc m) some ts = let e : m ≡ suc m - 1 = omega arith in ap (λ k. several (suc m) (expr_at k) (statements_at k) ts) e
