-- A law of the tokens of a text.
use Rattle.std.specs.Prelude.{◌≡◌, ℕ, List}
use Rattle.tri_base.specs.declared.faults.LexCause.{LexCause}
use Rattle.st_tree.specs.declared.token.Token.{Token}
use Rattle.st_tree.specs.Lexes.{Lexes, IsLexicalFault}

-- A text spells one list of tokens at most; it has one fault at most; and where it has one, it spells none.
pub record OneLexing : Type 0 where
  pub tokens : (text : List ℕ) (a b : List Token) → Lexes text a → Lexes text b → a ≡ b
  pub fault : (text : List ℕ) (p q : ℕ) (c d : LexCause) → IsLexicalFault text p c → IsLexicalFault text q d → (p ≡ q) × (c ≡ d)
  pub either : (text : List ℕ) (tokens : List Token) (place : ℕ) (cause : LexCause)
      → Lexes text tokens → IsLexicalFault text place cause → ⊥
