-- The front end of the compiler: from the text of a program to its tree and the layout of its tags, or the first reason
-- why it is no program. Own rule.
use Rattle.std.specs.Prelude.{◌≡◌, ℕ, ◌<◌, ◌≤◌, min, List, length, Some, None, Result, Ok, Err}
use Rattle.tri_base.specs.Limits.{text_limit, word_limit}
use Rattle.tri_base.specs.declared.point.Point.{Point}
use Rattle.st_tree.specs.declared.token.Token.{Token}
use Rattle.st_tree.specs.declared.tag.Tag.{Tag}
use Rattle.st_tree.specs.declared.program.Tree.{Tree}
use Rattle.st_tree.specs.Lexes.{Lexes, IsLexicalFault}
use Rattle.st_tree.specs.Nesting.{first_too_deep}
use Rattle.st_tree.specs.Programs.{Spells, IsFirstImpossible}
use Rattle.st_tree.specs.Tags.{tags_of}
use Rattle.st_tree.specs.Typing.Programs.{WellTyped, first_typing_fault}
use Rattle.st_tree.specs.Typing.TypedPrograms.{TypedProgram}
use Rattle.tag_layout.specs.Layout.{total_words, greatest_told}
use Rattle.engine_face.specs.declared.refusal.Refusal.{Refusal}
use Rattle.engine_face.specs.declared.refusal.Refusal.TheVariants.{TooLarge, Lex, TooDeep, Syntax, Typing, TooManyWords, NoMemory}

-- A text within its limit, and the tokens that it spells.
pub record HasTokens (text : List ℕ) (tokens : List Token) : Type 0 where
  pub short : length text ≤ text_limit
  pub lexes : Lexes text tokens

-- A text within its limit whose tokens nest within theirs, and the tree that they spell.
pub record HasTree (text : List ℕ) (tree : Tree) : Type 0 where
  pub tokens : List Token
  pub has : HasTokens text tokens
  pub low : first_too_deep tokens ≡ None
  pub spells : Spells tree tokens

-- A text is a program over points, with this tree: it is well typed, and its tags have no more words than a memory.
pub record IsProgram (points : List Point) (text : List ℕ) (tree : Tree) : Type 0 where
  pub has : HasTree text tree
  pub typed : WellTyped points tree
  pub few : total_words (tags_of tree) ≤ word_limit

-- The text's tokens become nested too deep at this one.
pub record NestsTooDeep (text : List ℕ) (token : ℕ) : Type 0 where
  pub tokens : List Token
  pub has : HasTokens text tokens
  pub deep : first_too_deep tokens ≡ Some token

-- No program goes on with this one of the text's tokens; it is their number where they end too early.
pub record IsBroken (text : List ℕ) (token : ℕ) : Type 0 where
  pub tokens : List Token
  pub has : HasTokens text tokens
  pub low : first_too_deep tokens ≡ None
  pub impossible : IsFirstImpossible tokens token

-- The text's tree is well typed, and its tags have too many words: so many, or the greatest number that is told.
pub record HasTooManyWords (points : List Point) (text : List ℕ) (words : ℕ) : Type 0 where
  pub tree : Tree
  pub has : HasTree text tree
  pub typed : WellTyped points tree
  pub many : word_limit < total_words (tags_of tree)
  pub told : words ≡ min (total_words (tags_of tree)) greatest_told

-- The first reason, in this order, why a text is no program over points. That memory fails says nothing of the text.
abbrev pub IsRefused : List Point → List ℕ → Refusal → Type 0
IsRefused points text TooLarge = text_limit < length text
IsRefused points text (Lex place cause) = (length text ≤ text_limit) × IsLexicalFault text place cause
IsRefused points text (TooDeep token) = NestsTooDeep text token
IsRefused points text (Syntax token) = IsBroken text token
IsRefused points text (Typing fault) =
    (tree : Tree) × HasTree text tree × (first_typing_fault points tree ≡ Some fault)
IsRefused points text (TooManyWords words) = HasTooManyWords points text words
IsRefused points text NoMemory = Unit {0}
IsRefused points text refusal = ⊥

-- What the front end answers: the tree with the points and the tags that are laid out, or the first reason against it.
abbrev pub Fronts : List Point → List ℕ → Result (TypedProgram × List Tag) Refusal → Type 0
Fronts points text (Ok program) =
    IsProgram points text program.0.tree × (program.0.points ≡ points) × (program.1 ≡ tags_of program.0.tree)
Fronts points text (Err refusal) = IsRefused points text refusal
