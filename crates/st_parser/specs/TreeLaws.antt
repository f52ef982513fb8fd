-- Laws of the grammar alone.
use Rattle.std.specs.Prelude.{◌≡◌, ◌↔◌, ◌≤◌, List, None}
use Rattle.st_tree.specs.declared.token.Token.{Token}
use Rattle.st_tree.specs.declared.program.Tree.{Tree}
use Rattle.st_tree.specs.Nesting.{nesting_limit, first_too_deep}
use Rattle.st_tree.specs.TreeNesting.{nesting_of}
use Rattle.st_tree.specs.Programs.{Spells}

-- no tokens have two trees
abbrev pub OneTree : Type 0
OneTree = (tokens : List Token) (a b : Tree) → Spells a tokens → Spells b tokens → a ≡ b

-- a tree nests at most 64 deep exactly where no token of those that it spells becomes nested deeper
abbrev pub NestsAsItsTokens : Type 0
NestsAsItsTokens =
    (tree : Tree) (tokens : List Token) → Spells tree tokens
    → (first_too_deep tokens ≡ None) ↔ (nesting_of tree ≤ nesting_limit)
