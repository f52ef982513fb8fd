-- What a text is over given points, as a function: a program, told by its tree, or the first reason against it. It is
-- what the two relations of FrontEnd say, which a law shows; so they are what is to be believed, and not this walk.
use Rattle.std.specs.Prelude.{◌≡◌, ◌≢◌, ◌↔◌, ℕ, ◌+◌, ◌-◌, nat_lt, min, if◌then◌else◌, List, length, Option, Some, None, Result, Ok, Err}
use Rattle.tri_base.specs.Limits.{text_limit, word_limit}
use Rattle.tri_base.specs.declared.point.Point.{Point}
use Rattle.tri_base.specs.declared.faults.TypeFault.{TypeFault}
use Rattle.st_tree.specs.declared.token.Token.{Token}
use Rattle.st_tree.specs.declared.program.Tree.{Tree}
use Rattle.st_tree.specs.Nesting.{first_too_deep}
use Rattle.st_tree.specs.Tags.{tags_of}
use Rattle.st_tree.specs.Typing.Programs.{first_typing_fault}
use Rattle.st_parser.specs.Inner.Parsers.{Outcome}
use Rattle.st_parser.specs.Inner.ReadPrograms.{whole}
use Rattle.tag_layout.specs.Layout.{total_words, greatest_told}
use Rattle.engine_face.specs.declared.refusal.Refusal.{Refusal}
use Rattle.engine_face.specs.declared.refusal.Refusal.TheVariants.{TooLarge, Lex, TooDeep, Syntax, Typing, TooManyWords, NoMemory}
use Rattle.st_front.specs.FrontEnd.{IsProgram, IsRefused}
use Rattle.st_front.specs.Inner.Texts.{Lexed, Spelled, Faulty, every_text}

-- A well-typed tree, by how many words its tags have.
abbrev pub front_of_words : Tree → ℕ → Result Tree Refusal
front_of_words tree words = if nat_lt word_limit words then Err (TooManyWords (min words greatest_told)) else Ok tree

-- A tree, by its first typing fault.
abbrev pub front_of_tree : Tree → Option TypeFault → Result Tree Refusal
front_of_tree tree (Some fault) = Err (Typing fault)
front_of_tree tree None = front_of_words tree (total_words (tags_of tree))

-- What the parser makes of so many tokens.
abbrev pub front_of_outcome : List Point → ℕ → Outcome Tree → Result Tree Refusal
front_of_outcome points count (Err left) = Err (Syntax (count - left))
front_of_outcome points count (Ok (tree, tokens)) = front_of_tree tree (first_typing_fault points tree)

-- Tokens, by the first that nests too deep.
abbrev pub front_of_tokens : List Point → List Token → Option ℕ → Result Tree Refusal
front_of_tokens points tokens (Some token) = Err (TooDeep token)
front_of_tokens points tokens None = front_of_outcome points (length tokens) (whole (length tokens + 1) tokens)

-- A text, by its tokens or its first faulty byte.
abbrev pub front_of_lexed : {text : List ℕ} → List Point → Lexed text → Result Tree Refusal
front_of_lexed points (Faulty place cause is) = Err (Lex place cause)
front_of_lexed points (Spelled tokens are) = front_of_tokens points tokens (first_too_deep tokens)

-- A text.
unfoldable pub front_of : List Point → List ℕ → Result Tree Refusal
front_of points text =
    if nat_lt text_limit (length text) then Err TooLarge else front_of_lexed points (every_text text)

-- The function says what the relations say. So a text is a program with one tree, or refused for one reason, and never
-- both.
pub record FrontIs (points : List Point) (text : List ℕ) : Type 0 where
  pub program : (tree : Tree) → (front_of points text ≡ Ok tree) ↔ IsProgram points text tree
  pub refused : (refusal : Refusal) → refusal ≢ NoMemory
      → (front_of points text ≡ Err refusal) ↔ IsRefused points text refusal
  pub memory : front_of points text ≢ Err NoMemory
