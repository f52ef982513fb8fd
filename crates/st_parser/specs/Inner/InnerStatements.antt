-- Nobody has to believe what stands here: it serves private functions alone.
-- A function value that reads the statements inside another.
use Rattle.std.specs.Prelude.{ℕ, Result}
use Rattle.std.specs.declared.alloc.Global.{Global}
use denote.Ref.{MutBor}
use Rattle.st_tree.specs.declared.token.Token.{Token}
use Rattle.std.specs.Prelude.{List}
use Rattle.st_tree.specs.declared.statement.Statement.{Statement}
use Rattle.st_parser.specs.declared.bounds.Bounds.{Bounds}
use Rattle.st_parser.specs.declared.refusal.Refusal.{Refusal}
use Rattle.st_parser.specs.Inner.Parsers.{Reads}
use Rattle.st_parser.specs.Inner.ReadStatements.{statements_at}

pub record InnerStatements (bounds : Bounds) (pre : Global → MutBor (List Token) → ℕ → Type 0)
    (post : Global → MutBor (List Token) → ℕ → Result (List Statement) Refusal → MutBor (List Token) → Type 0)
    : Type 0 where
  pub callable : (alloc : Global) (old : MutBor (List Token)) → pre alloc old bounds.levels
  pub reads : (alloc : Global) (old new : MutBor (List Token)) (r : Result (List Statement) Refusal)
      → post alloc old bounds.levels r new → Reads (statements_at bounds.levels old.now) r new.now
