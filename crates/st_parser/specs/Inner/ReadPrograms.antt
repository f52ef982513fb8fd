-- Nobody has to believe what stands here: it serves private functions alone.
-- Reading programs. The number is more than the tokens that are left.
use Rattle.std.specs.Prelude.{◌≡◌, ◌≢◌, ℕ, Bool, List, [], ◌∷◌, ◌||◌, Result, Ok, Err}
use Rattle.st_tree.specs.declared.token.Fixed.TheVariants as w
use Rattle.st_tree.specs.declared.token.Token.{Token}
use Rattle.st_tree.specs.declared.declaration.Block.{Block}
use Rattle.st_tree.specs.declared.program.Tree.{Tree}
use Rattle.st_parser.specs.declared.refusal.Refusal.{Refusal}
use Rattle.st_parser.specs.declared.refusal.Refusal.TheVariants.{NoMemory}
use Rattle.st_parser.specs.Inner.Parsers.{Parser, Outcome, Look, refuse, ◌⨟◌, made, many, after, expect, name, sees, left_of}
use Rattle.st_parser.specs.Inner.ReadDeclarations.{block}
use Rattle.st_parser.specs.Inner.ReadStatements.{statements_at}

-- a block of declarations comes next
abbrev pub sees_block : Look → Bool
sees_block look = sees w.Var look || sees w.VarExternal look

abbrev pub blocks : ℕ → Parser (List Block)
blocks turns = many sees_block (block turns) turns

unfoldable pub program : ℕ → Parser Tree
program turns = made (λ x. record { name = x.0; blocks = x.1.0; statements = x.1.1.0 })
    (after w.Program (name ⨟ blocks turns ⨟ statements_at turns ⨟ expect w.EndProgram))

-- nothing is left
abbrev pub finish : Parser (Unit {0})
finish [] = Ok (tt, [])
finish (token ∷ tokens) = refuse (token ∷ tokens)

-- all of the tokens
unfoldable pub whole : ℕ → Parser Tree
whole turns = made (λ x. x.0) (program turns ⨟ finish)

-- the outcome, unless memory fails
abbrev pub Gives : Outcome Tree → Result Tree Refusal → Type 0
Gives outcome (Ok tree) = (ks : List Token) × (outcome ≡ Ok (tree, ks))
Gives outcome (Err e) = e ≢ NoMemory → outcome ≡ Err (left_of e)
