-- The reserved words and the symbols (IEC 61131-3:2013, 6.1).
use Rattle.std.specs.Prelude.{ℕ, if◌then◌else◌, List, [], ◌∷◌, Option, Some, None, Bool, length, take, codes}
use Rattle.std.specs.Str.{bytes_eq}
use Rattle.st_tree.specs.declared.token.Fixed.{Fixed}
use Rattle.st_tree.specs.declared.token.Fixed.TheVariants as w

-- the reserved words in capitals, and their tokens
abbrev pub reserved_words : List (List ℕ × Fixed)
reserved_words =
    (codes "PROGRAM", w.Program) ∷
    (codes "END_PROGRAM", w.EndProgram) ∷
    (codes "VAR", w.Var) ∷
    (codes "VAR_EXTERNAL", w.VarExternal) ∷
    (codes "END_VAR", w.EndVar) ∷
    (codes "IF", w.If) ∷
    (codes "THEN", w.Then) ∷
    (codes "ELSIF", w.Elsif) ∷
    (codes "ELSE", w.Else) ∷
    (codes "END_IF", w.EndIf) ∷
    (codes "CASE", w.Case) ∷
    (codes "OF", w.Of) ∷
    (codes "END_CASE", w.EndCase) ∷
    (codes "FOR", w.For) ∷
    (codes "TO", w.To) ∷
    (codes "BY", w.By) ∷
    (codes "DO", w.Do) ∷
    (codes "END_FOR", w.EndFor) ∷
    (codes "EXIT", w.Exit) ∷
    (codes "RETURN", w.Return) ∷
    (codes "AND", w.And) ∷
    (codes "OR", w.Or) ∷
    (codes "XOR", w.Xor) ∷
    (codes "NOT", w.Not) ∷
    (codes "MOD", w.Mod) ∷
    (codes "TRUE", w.True) ∷
    (codes "FALSE", w.False) ∷
    (codes "ARRAY", w.Array) ∷
    (codes "BOOL", w.Bool) ∷
    (codes "INT", w.Int) ∷
    (codes "DINT", w.Dint) ∷
    (codes "R_TRIG", w.RTrig) ∷
    (codes "F_TRIG", w.FTrig) ∷
    (codes "SR", w.Sr) ∷
    (codes "RS", w.Rs) ∷
    (codes "CTU", w.Ctu) ∷
    (codes "CTD", w.Ctd) ∷
    (codes "TON", w.Ton) ∷
    (codes "TOF", w.Tof) ∷
    (codes "TP", w.Tp) ∷
    (codes "ABS", w.Abs) ∷
    (codes "MIN", w.Min) ∷
    (codes "MAX", w.Max) ∷
    (codes "LIMIT", w.Limit) ∷
    (codes "SEL", w.Sel) ∷
    (codes "INT_TO_DINT", w.IntToDint) ∷
    (codes "DINT_TO_INT", w.DintToInt) ∷ []

-- the token that a table has for a word
abbrev pub word_among : List (List ℕ × Fixed) → List ℕ → Option Fixed
word_among [] text = None
word_among (entry ∷ entries) text = if bytes_eq entry.0 text then Some entry.1 else word_among entries text

-- the reserved word that is written so, in capitals
unfoldable pub reserved_word : List ℕ → Option Fixed
reserved_word = word_among reserved_words

-- the symbols, and their tokens; the longer ones stand first
abbrev pub symbols : List (List ℕ × Fixed)
symbols =
    (codes ":=", w.Assign) ∷
    (codes "<>", w.Unequal) ∷
    (codes "<=", w.AtMost) ∷
    (codes ">=", w.AtLeast) ∷
    (codes "..", w.Range) ∷
    (codes "(", w.OpenParen) ∷
    (codes ")", w.CloseParen) ∷
    (codes "[", w.OpenBracket) ∷
    (codes "]", w.CloseBracket) ∷
    (codes ":", w.Colon) ∷
    (codes ";", w.Semicolon) ∷
    (codes ",", w.Comma) ∷
    (codes ".", w.Dot) ∷
    (codes "+", w.Plus) ∷
    (codes "-", w.Minus) ∷
    (codes "*", w.Times) ∷
    (codes "/", w.Divide) ∷
    (codes "=", w.Equals) ∷
    (codes "<", w.Less) ∷
    (codes ">", w.Greater) ∷
    (codes "&", w.And) ∷ []

-- the text begins with these bytes
abbrev pub begins_with : List ℕ → List ℕ → Bool
begins_with text front = bytes_eq front (take (length front) text)

-- the first symbol of a table with which the text begins, and how many bytes it has
abbrev pub symbol_among : List (List ℕ × Fixed) → List ℕ → Option (Fixed × ℕ)
symbol_among [] text = None
symbol_among (entry ∷ entries) text =
    if begins_with text entry.0 then Some (entry.1, length entry.0) else symbol_among entries text

-- the symbol with which the text begins, the longest that there is, and how many bytes it has
unfoldable pub symbol_of : List ℕ → Option (Fixed × ℕ)
symbol_of = symbol_among symbols
