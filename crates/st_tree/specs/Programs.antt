-- Programs: the tokens that a tree spells, and the first token with which no program goes on.
use Rattle.std.specs.Prelude.{◌<◌, ◌≤◌, ◌+◌, ℕ, List, ◌++◌, length, take}
use Rattle.st_tree.specs.declared.token.Fixed.TheVariants as w
use Rattle.st_tree.specs.declared.token.Token.{Token}
use Rattle.st_tree.specs.declared.program.Tree.{Tree}
use Rattle.st_tree.specs.Pieces.{Piece, ArePieces, ◌·◌, word, name, each}
use Rattle.st_tree.specs.Declarations.{spell_block}
use Rattle.st_tree.specs.Statements.{spell_statement}

-- program = PROGRAM name { block } { statement } END_PROGRAM
abbrev pub spell_program : Tree → List Piece
spell_program t =
    word w.Program · name t.name · each spell_block t.blocks · each spell_statement t.statements · word w.EndProgram

-- the tree spells these tokens, all of them
unfoldable pub Spells : Tree → List Token → Type 0
Spells tree tokens = ArePieces (spell_program tree) tokens

-- some program's tokens begin with these
abbrev pub Begins : List Token → Type 0
Begins tokens = (tree : Tree) × (more : List Token) × Spells tree (tokens ++ more)

-- At this token no program goes on: some program's tokens begin with those before it, and none with those up to and
-- with it. It is the number of tokens where they are the first tokens of a program and no program.
pub record IsFirstImpossible (tokens : List Token) (at : ℕ) : Type 0 where
  pub within : at ≤ length tokens
  pub before : Begins (take at tokens)
  pub there : at < length tokens → Begins (take (at + 1) tokens) → ⊥
  pub no_program : (tree : Tree) → Spells tree tokens → ⊥
