-- Nobody has to believe what stands here: it serves private functions alone.
-- A function value that reads whole expressions.
use Rattle.std.specs.Prelude.{ℕ, Result}
use Rattle.std.specs.declared.alloc.Global.{Global}
use denote.Ref.{MutBor}
use Rattle.st_tree.specs.declared.token.Token.{Token}
use Rattle.std.specs.Prelude.{List}
use Rattle.st_tree.specs.declared.expression.Expr.{Expr}
use Rattle.st_parser.specs.declared.bounds.Bounds.{Bounds}
use Rattle.st_parser.specs.declared.refusal.Refusal.{Refusal}
use Rattle.st_parser.specs.Inner.Parsers.{Reads}
use Rattle.st_parser.specs.Inner.ReadExpressions.{expr_at}

pub record InnerExpr (bounds : Bounds) (pre : Global → MutBor (List Token) → ℕ → Type 0)
    (post : Global → MutBor (List Token) → ℕ → Result Expr Refusal → MutBor (List Token) → Type 0) : Type 0 where
  pub callable : (alloc : Global) (old : MutBor (List Token)) → pre alloc old bounds.levels
  pub reads : (alloc : Global) (old new : MutBor (List Token)) (r : Result Expr Refusal)
      → post alloc old bounds.levels r new → Reads (expr_at bounds.levels old.now) r new.now
