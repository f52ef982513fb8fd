-- What `lex` and `read_program` answer.
use Rattle.std.specs.Prelude.{◌≡◌, ℕ, List, Some, None, Result, Ok, Err}
use Rattle.st_tree.specs.declared.token.Token.{Token}
use Rattle.st_tree.specs.declared.program.Tree.{Tree}
use Rattle.st_tree.specs.Nesting.{first_too_deep}
use Rattle.st_tree.specs.Programs.{Spells, IsFirstImpossible}
use Rattle.st_tree.specs.Lexes.{Lexes, IsLexicalFault}
use Rattle.st_reader.specs.declared.fault.ReadFault.{ReadFault}
use Rattle.st_reader.specs.declared.fault.ReadFault.TheVariants.{Lex, TooDeep, Syntax, NoMemory}

-- the tokens that the text spells; or its first faulty byte, with the cause; or want of memory
abbrev pub IsLexed : List ℕ → Result (List Token) ReadFault → Type 0
IsLexed text (Ok tokens) = Lexes text tokens
IsLexed text (Err (Lex place cause)) = IsLexicalFault text place cause
IsLexed text (Err (TooDeep token)) = ⊥
IsLexed text (Err (Syntax token)) = ⊥
IsLexed text (Err NoMemory) = Unit {0}

-- the tree that spells the tokens, which nest at most 64 deep; or the first token at which the nesting becomes 65; or
-- else the first token with which no program goes on; or want of memory
abbrev pub IsRead : List Token → Result Tree ReadFault → Type 0
IsRead tokens (Ok tree) = Spells tree tokens × (first_too_deep tokens ≡ None)
IsRead tokens (Err (TooDeep token)) = first_too_deep tokens ≡ Some token
IsRead tokens (Err (Syntax token)) = (first_too_deep tokens ≡ None) × IsFirstImpossible tokens token
IsRead tokens (Err (Lex place cause)) = ⊥
IsRead tokens (Err NoMemory) = Unit {0}

-- this tree, or want of memory
abbrev pub IsTree : Tree → Result Tree ReadFault → Type 0
IsTree tree (Ok found) = found ≡ tree
IsTree tree (Err (TooDeep token)) = ⊥
IsTree tree (Err (Syntax token)) = ⊥
IsTree tree (Err (Lex place cause)) = ⊥
IsTree tree (Err NoMemory) = Unit {0}

-- what `read_program` answers for tokens that spell a tree and nest at most 64 deep: that tree, or want of memory
abbrev pub GivesTheTree : List Token → Result Tree ReadFault → Type 0
GivesTheTree tokens result = (tree : Tree) → Spells tree tokens → first_too_deep tokens ≡ None → IsTree tree result
