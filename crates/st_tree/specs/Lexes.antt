-- The tokens of a text, and the first byte at which none begins (IEC 61131-3:2013, 6.1).
-- Own rule: white space is these four bytes alone, comments don't nest, a name has at most 32 bytes, a number takes all
-- letters, digits, underscores and `#` behind it, and `..` is one symbol.
use Rattle.std.specs.Prelude.{◌≡◌, ◌≤◌, ℕ, ◌+◌, ◌==◌, nat_lt, Bool, ◌||◌, if◌then◌else◌}
use Rattle.std.specs.Prelude.{List, [], ◌∷◌, ◌++◌, length, map, take, drop, slice_index, codes, Option, Some, None, Result, Ok, Err}
use Rattle.std.specs.Option.{option_map}
use Rattle.std.specs.List.{prefix_len, flat_map}
use Rattle.std.specs.Char.{is_ascii_digit, to_ascii_uppercase}
use Rattle.tri_base.specs.Bytes.{space, tab, carriage_return, line_feed, number_sign}
use Rattle.tri_base.specs.Names.{is_word_byte, name_limit}
use Rattle.tri_base.specs.declared.faults.LexCause.{LexCause}
use Rattle.tri_base.specs.declared.faults.LexCause.TheVariants.{BadByte, OpenComment, NameTooLong}
use Rattle.st_tree.specs.declared.token.Fixed.{Fixed}
use Rattle.st_tree.specs.declared.token.TokenKind.{TokenKind}
use Rattle.st_tree.specs.declared.token.TokenKind.TheVariants as kind
use Rattle.st_tree.specs.declared.token.Token.{Token}
use Rattle.st_tree.specs.Pieces.{token_at}
use Rattle.st_tree.specs.Words.{reserved_word, begins_with, symbol_of}
use Rattle.st_tree.specs.Numerals.{numeral}

-- What begins a text: a token or, where it is None, white space or a comment; and how many bytes it has. Or why nothing
-- does.
abbrev pub Item : Type 0
Item = Result (Option TokenKind × ℕ) LexCause

-- space, tab, CR and LF
abbrev pub is_white : ℕ → Bool
is_white b = b == space || b == tab || b == carriage_return || b == line_feed

-- what a number goes on with: letters, digits, underscores and `#`
abbrev pub is_number_byte : ℕ → Bool
is_number_byte b = is_word_byte b || b == number_sign

-- the bytes at the front that are such
abbrev pub front : (ℕ → Bool) → List ℕ → List ℕ
front is_such text = take (prefix_len is_such text) text

-- how many bytes there are up to and with the first `*)`
abbrev pub comment_end : List ℕ → Option ℕ
comment_end [] = None
comment_end (b ∷ bs) =
    if begins_with (b ∷ bs) (codes "*)") then Some 2 else option_map (λ n. n + 1) (comment_end bs)

-- a comment goes from `(*` to the next `*)` behind these two bytes
abbrev pub comment_item : Option ℕ → Item
comment_item (Some n) = Ok (None, n + 2)
comment_item None = Err OpenComment

-- a reserved word, or else a name
abbrev pub word_kind : List ℕ → Option Fixed → TokenKind
word_kind capitals (Some w) = kind.Fixed w
word_kind capitals None = kind.Name capitals

-- letters, digits and underscores: at most 32, and letters' case doesn't matter
abbrev pub word_item : List ℕ → Item
word_item text =
    let capitals = map to_ascii_uppercase text in
    if nat_lt name_limit (length text) then Err NameTooLong
    else Ok (Some (word_kind capitals (reserved_word capitals)), length text)

-- a number of so many bytes, or what is wrong with it
abbrev pub number_of : ℕ → Result ℕ LexCause → Item
number_of len (Ok n) = Ok (Some (kind.Number n), len)
number_of len (Err cause) = Err cause

-- a number, of whose bytes this is all
abbrev pub number_item : List ℕ → Item
number_item text = number_of (length text) (numeral text)

-- a symbol
abbrev pub symbol_item : Option (Fixed × ℕ) → Item
symbol_item (Some found) = Ok (Some (kind.Fixed found.0), found.1)
symbol_item None = Err BadByte

-- The item at the front of a text that isn't empty: white space, a comment, a number, a word or a symbol. The first
-- byte decides, and `(*` goes before `(`.
unfoldable pub item : List ℕ → Item
item text =
    let first = slice_index text 0 in
    if is_white first then Ok (None, 1)
    else (if begins_with text (codes "(*") then comment_item (comment_end (drop 2 text))
    else (if is_ascii_digit first then number_item (front is_number_byte text)
    else (if is_word_byte first then word_item (front is_word_byte text)
    else symbol_item (symbol_of text))))

-- ---- a text is parts in a row

-- A part of a text: its bytes, and the token that they are; None where they are white space or a comment.
pub record Part : Type 0 where
  pub bytes : List ℕ
  pub token : Option TokenKind

-- the bytes of parts in a row
abbrev pub bytes_of : List Part → List ℕ
bytes_of parts = flat_map (λ part. part.bytes) parts

-- Each part is the item at its place, where the text ends with `rest` behind them all.
abbrev pub AreItems : List Part → List ℕ → Type 0
AreItems [] rest = Unit {0}
AreItems (part ∷ parts) rest =
    (1 ≤ length part.bytes)
    × (item (part.bytes ++ (bytes_of parts ++ rest)) ≡ Ok (part.token, length part.bytes))
    × AreItems parts rest

-- the token of a part that begins at this byte place, if it is one
abbrev pub token_of : ℕ → Option TokenKind → List Token
token_of place None = []
token_of place (Some kind) = token_at kind place ∷ []

-- the tokens among parts of which the first begins at this byte place
abbrev pub tokens_from : ℕ → List Part → List Token
tokens_from place [] = []
tokens_from place (part ∷ parts) = token_of place part.token ++ tokens_from (place + length part.bytes) parts

-- the text spells these tokens: it is items in a row
pub record Lexes (text : List ℕ) (tokens : List Token) : Type 0 where
  pub parts : List Part
  pub whole : text ≡ bytes_of parts
  pub items : AreItems parts []
  pub are_tokens : tokens ≡ tokens_from 0 parts

-- This is the first faulty byte of the text, with its cause: it is items in a row, and then a rest at which none begins.
pub record IsLexicalFault (text : List ℕ) (place : ℕ) (cause : LexCause) : Type 0 where
  pub parts : List Part
  pub rest : List ℕ
  pub whole : text ≡ bytes_of parts ++ rest
  pub items : AreItems parts rest
  pub some : 1 ≤ length rest
  pub no_item : item rest ≡ Err cause
  pub at : place ≡ length (bytes_of parts)
