-- Sets of tokens that may come first or may follow, compared word by word.
use Rattle.std.proofs.Common.{◌≡◌, ℕ, zero, suc, ◌<◌, Bool, true, false, not, ◌||◌, ◌&&◌, List, [], ◌∷◌, length, get_or, Option, Some, None, refl, ap, sym, ◌∙◌, arith}
use Rattle.std.specs.List.{list_all}
use denote.Enum.Bare.{sameb, same_true}
use Rattle.st_tree.specs.declared.token.Fixed.{Fixed}
use Rattle.st_tree.specs.declared.token.Fixed.TheVariants as w
use Rattle.st_tree.specs.contracts.token.Fixed.{the_type}
use Rattle.st_tree.specs.declared.token.TokenKind.TheVariants as kind
use Rattle.st_parser.specs.Inner.Parsers.{Look}
use Rattle.st_parser.proofs.Lawful.{Fits}

-- every reserved word and symbol
abbrev pub all_words : List Fixed
all_words = w.Program ∷ w.EndProgram ∷ w.Var ∷ w.VarExternal ∷ w.EndVar ∷ w.If ∷ w.Then ∷ w.Elsif ∷ w.Else ∷ w.EndIf ∷ w.Case ∷ w.Of ∷ w.EndCase ∷ w.For ∷ w.To ∷ w.By ∷ w.Do ∷ w.EndFor ∷ w.Exit ∷ w.Return ∷ w.And ∷ w.Or ∷ w.Xor ∷ w.Not ∷ w.Mod ∷ w.True ∷ w.False ∷ w.Array ∷ w.Bool ∷ w.Int ∷ w.Dint ∷ w.RTrig ∷ w.FTrig ∷ w.Sr ∷ w.Rs ∷ w.Ctu ∷ w.Ctd ∷ w.Ton ∷ w.Tof ∷ w.Tp ∷ w.Abs ∷ w.Min ∷ w.Max ∷ w.Limit ∷ w.Sel ∷ w.IntToDint ∷ w.DintToInt ∷ w.Assign ∷ w.Unequal ∷ w.AtMost ∷ w.AtLeast ∷ w.Range ∷ w.OpenParen ∷ w.CloseParen ∷ w.OpenBracket ∷ w.CloseBracket ∷ w.Colon ∷ w.Semicolon ∷ w.Comma ∷ w.Dot ∷ w.Plus ∷ w.Minus ∷ w.Times ∷ w.Divide ∷ w.Equals ∷ w.Less ∷ w.Greater ∷ []

both : (a b : Bool) → (a && b) ≡ true → (a ≡ true) × (b ≡ true)
both true b h = (refl, h)
both false b h = absurd (cc)

nth : (P : Fixed → Bool) (ws : List Fixed) → list_all P ws ≡ true → (i : ℕ) → i < length ws → P (get_or ws i w.Program) ≡ true
nth P [] h i below = absurd (omega arith)
nth P (v ∷ vs) h zero below = (both (P v) (list_all P vs) h).0
nth P (v ∷ vs) h (suc i) below = nth P vs (both (P v) (list_all P vs) h).1 i (omega arith)

-- what holds of each word of the list holds of every word
pub every_word : (P : Fixed → Bool) → list_all P all_words ≡ true → (v : Fixed) → P v ≡ true
every_word P h w.Program = nth P all_words h 0 (omega arith)
every_word P h w.EndProgram = nth P all_words h 1 (omega arith)
every_word P h w.Var = nth P all_words h 2 (omega arith)
every_word P h w.VarExternal = nth P all_words h 3 (omega arith)
every_word P h w.EndVar = nth P all_words h 4 (omega arith)
every_word P h w.If = nth P all_words h 5 (omega arith)
every_word P h w.Then = nth P all_words h 6 (omega arith)
every_word P h w.Elsif = nth P all_words h 7 (omega arith)
every_word P h w.Else = nth P all_words h 8 (omega arith)
every_word P h w.EndIf = nth P all_words h 9 (omega arith)
every_word P h w.Case = nth P all_words h 10 (omega arith)
every_word P h w.Of = nth P all_words h 11 (omega arith)
every_word P h w.EndCase = nth P all_words h 12 (omega arith)
every_word P h w.For = nth P all_words h 13 (omega arith)
every_word P h w.To = nth P all_words h 14 (omega arith)
every_word P h w.By = nth P all_words h 15 (omega arith)
every_word P h w.Do = nth P all_words h 16 (omega arith)
every_word P h w.EndFor = nth P all_words h 17 (omega arith)
every_word P h w.Exit = nth P all_words h 18 (omega arith)
every_word P h w.Return = nth P all_words h 19 (omega arith)
every_word P h w.And = nth P all_words h 20 (omega arith)
every_word P h w.Or = nth P all_words h 21 (omega arith)
every_word P h w.Xor = nth P all_words h 22 (omega arith)
every_word P h w.Not = nth P all_words h 23 (omega arith)
every_word P h w.Mod = nth P all_words h 24 (omega arith)
every_word P h w.True = nth P all_words h 25 (omega arith)
every_word P h w.False = nth P all_words h 26 (omega arith)
every_word P h w.Array = nth P all_words h 27 (omega arith)
every_word P h w.Bool = nth P all_words h 28 (omega arith)
every_word P h w.Int = nth P all_words h 29 (omega arith)
every_word P h w.Dint = nth P all_words h 30 (omega arith)
every_word P h w.RTrig = nth P all_words h 31 (omega arith)
every_word P h w.FTrig = nth P all_words h 32 (omega arith)
every_word P h w.Sr = nth P all_words h 33 (omega arith)
every_word P h w.Rs = nth P all_words h 34 (omega arith)
every_word P h w.Ctu = nth P all_words h 35 (omega arith)
every_word P h w.Ctd = nth P all_words h 36 (omega arith)
every_word P h w.Ton = nth P all_words h 37 (omega arith)
every_word P h w.Tof = nth P all_words h 38 (omega arith)
every_word P h w.Tp = nth P all_words h 39 (omega arith)
every_word P h w.Abs = nth P all_words h 40 (omega arith)
every_word P h w.Min = nth P all_words h 41 (omega arith)
every_word P h w.Max = nth P all_words h 42 (omega arith)
every_word P h w.Limit = nth P all_words h 43 (omega arith)
every_word P h w.Sel = nth P all_words h 44 (omega arith)
every_word P h w.IntToDint = nth P all_words h 45 (omega arith)
every_word P h w.DintToInt = nth P all_words h 46 (omega arith)
every_word P h w.Assign = nth P all_words h 47 (omega arith)
every_word P h w.Unequal = nth P all_words h 48 (omega arith)
every_word P h w.AtMost = nth P all_words h 49 (omega arith)
every_word P h w.AtLeast = nth P all_words h 50 (omega arith)
every_word P h w.Range = nth P all_words h 51 (omega arith)
every_word P h w.OpenParen = nth P all_words h 52 (omega arith)
every_word P h w.CloseParen = nth P all_words h 53 (omega arith)
every_word P h w.OpenBracket = nth P all_words h 54 (omega arith)
every_word P h w.CloseBracket = nth P all_words h 55 (omega arith)
every_word P h w.Colon = nth P all_words h 56 (omega arith)
every_word P h w.Semicolon = nth P all_words h 57 (omega arith)
every_word P h w.Comma = nth P all_words h 58 (omega arith)
every_word P h w.Dot = nth P all_words h 59 (omega arith)
every_word P h w.Plus = nth P all_words h 60 (omega arith)
every_word P h w.Minus = nth P all_words h 61 (omega arith)
every_word P h w.Times = nth P all_words h 62 (omega arith)
every_word P h w.Divide = nth P all_words h 63 (omega arith)
every_word P h w.Equals = nth P all_words h 64 (omega arith)
every_word P h w.Less = nth P all_words h 65 (omega arith)
every_word P h w.Greater = nth P all_words h 66 (omega arith)

pub fit : (opens stop : Look → Bool) → (not (opens None) || stop None) ≡ true → ((n : List ℕ) → (not (opens (Some (kind.Name n))) || stop (Some (kind.Name n))) ≡ true)
    → ((n : ℕ) → (not (opens (Some (kind.Number n))) || stop (Some (kind.Number n))) ≡ true) → list_all (λ v. not (opens (Some (kind.Fixed v))) || stop (Some (kind.Fixed v))) all_words ≡ true → Fits opens stop
fit opens stop none names numbers words None = none
fit opens stop none names numbers words (Some (kind.Name n)) = names n
fit opens stop none names numbers words (Some (kind.Number n)) = numbers n
fit opens stop none names numbers words (Some (kind.Fixed v)) = every_word (λ v. not (opens (Some (kind.Fixed v))) || stop (Some (kind.Fixed v))) words v

-- ---- tables

abbrev agrees : {A : Type 0} → (A → Fixed) → Fixed → Option A → Bool
agrees written v None = true
agrees written v (Some a) = sameb the_type v (written a)

-- the table gives what is written so, and nothing of another word
pub record Table {A : Type 0} (table : Fixed → Option A) (written : A → Fixed) : Type 0 where
  pub back : (a : A) → table (written a) ≡ Some a
  pub only : list_all (λ v. agrees written v (table v)) all_words ≡ true

pub written_so : {A : Type 0} (table : Fixed → Option A) (written : A → Fixed) → Table table written → (v : Fixed) (a : A) → table v ≡ Some a → v ≡ written a
written_so table written t v a h =
    same_true the_type tt v (written a) (ap (agrees written v) (sym h) ∙ every_word (λ u. agrees written u (table u)) t.only v)
