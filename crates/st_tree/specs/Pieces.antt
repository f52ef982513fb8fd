-- What a part of a tree spells, piece by piece, and which tokens are such pieces.
use Rattle.std.specs.Prelude.{◌≡◌, ℕ, List, [], ◌∷◌, ◌++◌, Option, Some, None}
use Rattle.std.specs.List.{flat_map}
use Rattle.st_tree.specs.declared.token.Fixed.{Fixed}
use Rattle.st_tree.specs.declared.token.TokenKind.{TokenKind}
use Rattle.st_tree.specs.declared.token.TokenKind.TheVariants as kind
use Rattle.st_tree.specs.declared.token.Token.{Token}
use Rattle.st_tree.specs.declared.declaration.PlacedName.{PlacedName}

-- a token of this kind at this byte place
abbrev pub token_at : TokenKind → ℕ → Token
token_at kind place = record { kind = kind; place = place }

-- a token of this kind, wherever it stands, or at this byte place
pub data Piece : Type 0 where
  Anywhere : TokenKind → Piece
  Placed : TokenKind → ℕ → Piece

-- this token is such a piece
abbrev pub IsPiece : Piece → Token → Type 0
IsPiece (Anywhere kind) token = token.kind ≡ kind
IsPiece (Placed kind place) token = token ≡ token_at kind place

-- these tokens are these pieces, one by one
abbrev pub ArePieces : List Piece → List Token → Type 0
ArePieces [] [] = Unit {0}
ArePieces (piece ∷ pieces) (token ∷ tokens) = IsPiece piece token × ArePieces pieces tokens
ArePieces [] (token ∷ tokens) = ⊥
ArePieces (piece ∷ pieces) [] = ⊥

-- one after the other
infixr 9 ◌·◌
abbrev pub ◌·◌ : List Piece → List Piece → List Piece
a · b = a ++ b

-- a reserved word or a symbol
abbrev pub word : Fixed → List Piece
word w = Anywhere (kind.Fixed w) ∷ []

-- a reserved word or a symbol at this byte place
abbrev pub word_at : Fixed → ℕ → List Piece
word_at w place = Placed (kind.Fixed w) place ∷ []

-- a number at this byte place
abbrev pub number_at : ℕ → ℕ → List Piece
number_at n place = Placed (kind.Number n) place ∷ []

-- a name at its byte place
abbrev pub name : PlacedName → List Piece
name n = Placed (kind.Name n.name) n.place ∷ []

-- any number of such parts, in order
abbrev pub each : {A : Type 0} → (A → List Piece) → List A → List Piece
each part parts = flat_map part parts

-- such parts in order, with this word or symbol between
abbrev pub separated : {A : Type 0} → Fixed → (A → List Piece) → List A → List Piece
separated w part [] = []
separated w part (a ∷ more) = part a · each (λ b. word w · part b) more

-- such a part or nothing
abbrev pub maybe : {A : Type 0} → (A → List Piece) → Option A → List Piece
maybe part None = []
maybe part (Some a) = part a
