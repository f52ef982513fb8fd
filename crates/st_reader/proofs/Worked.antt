-- Worked cases of the definitions of tokens, numbers and nesting.
use Rattle.std.proofs.Common.{◌≡◌, [], ◌∷◌, map, codes, Some, None, Ok, Err, refl, lit≤}
use Rattle.tri_base.specs.declared.faults.LexCause.TheVariants as cause
use Rattle.st_tree.specs.declared.token.Fixed.TheVariants as w
use Rattle.st_tree.specs.declared.token.TokenKind.TheVariants as kind
use Rattle.st_tree.specs.Words.{reserved_word, symbol_of}
use Rattle.st_tree.specs.Numerals.{numeral}
use Rattle.st_tree.specs.Pieces.{token_at}
use Rattle.st_tree.specs.Lexes.{item, Lexes, IsLexicalFault}

-- numbers
numbers : map numeral (codes "16#fF" ∷ codes "1_000" ∷ codes "2#101" ∷ codes "2147483648" ∷ []) ≡ Ok 255 ∷ Ok 1000 ∷ Ok 5 ∷ Ok 2147483648 ∷ []
unfolding numeral
numbers = refl

no_numbers : map numeral (codes "1__0" ∷ codes "5_" ∷ codes "2#12" ∷ codes "3#1" ∷ codes "16#" ∷ codes "9X" ∷ codes "16#_F" ∷ [])
    ≡ Err cause.BadNumber ∷ Err cause.BadNumber ∷ Err cause.BadNumber ∷ Err cause.BadNumber ∷ Err cause.BadNumber ∷ Err cause.BadNumber ∷ Err cause.BadNumber ∷ []
unfolding numeral
no_numbers = refl

too_large : numeral (codes "2147483649") ≡ Err cause.NumberTooLarge
unfolding numeral
too_large = refl

-- a comment and a symbol of two bytes
assigns : Lexes (codes "x(**):=1") (token_at (kind.Name (codes "X")) 0 ∷ token_at (kind.Fixed w.Assign) 5 ∷ token_at (kind.Number 1) 7 ∷ [])
unfolding item reserved_word symbol_of numeral
assigns = record {
  parts =
      record { bytes = codes "x"; token = Some (kind.Name (codes "X")) } ∷
      record { bytes = codes "(**)"; token = None } ∷
      record { bytes = codes ":="; token = Some (kind.Fixed w.Assign) } ∷
      record { bytes = codes "1"; token = Some (kind.Number 1) } ∷ [];
  whole = refl;
  items = (lit≤ tt, refl, (lit≤ tt, refl, (lit≤ tt, refl, (lit≤ tt, refl, tt))));
  are_tokens = refl;
}

-- an open comment, and a byte that begins nothing
open_comment : IsLexicalFault (codes "A (*)") 2 cause.OpenComment
unfolding item reserved_word symbol_of numeral
open_comment = record {
  parts = record { bytes = codes "A"; token = Some (kind.Name (codes "A")) } ∷ record { bytes = codes " "; token = None } ∷ [];
  rest = codes "(*)";
  whole = refl;
  items = (lit≤ tt, refl, (lit≤ tt, refl, tt));
  some = lit≤ tt;
  no_item = refl;
  at = refl;
}

bad_byte : IsLexicalFault (codes "X$;") 1 cause.BadByte
unfolding item reserved_word symbol_of numeral
bad_byte = record {
  parts = record { bytes = codes "X"; token = Some (kind.Name (codes "X")) } ∷ [];
  rest = codes "$;";
  whole = refl;
  items = (lit≤ tt, refl, tt);
  some = lit≤ tt;
  no_item = refl;
  at = refl;
}
