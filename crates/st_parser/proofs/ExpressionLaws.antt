-- The rules of expressions keep the laws, where the reader of whole expressions inside keeps them one level lower.
use Rattle.std.proofs.Common.{◌≡◌, ℕ, zero, suc, ◌<◌, Bool, true, false, not, ◌||◌, ◌&&◌, inl, inr, List, [], ◌∷◌, ◌++◌, length, Some, None, refl, ap, sym, ◌∙◌, subst, append_assoc, append-nil, arith}
use Rattle.st_tree.specs.declared.token.Fixed.TheVariants as w
use Rattle.st_tree.specs.declared.token.TokenKind.TheVariants as kind
use Rattle.st_tree.specs.declared.token.Token.{Token}
use Rattle.st_tree.specs.declared.declaration.PlacedName.{PlacedName}
use Rattle.st_tree.specs.declared.expression.EqualOperator.{EqualOperator}
use Rattle.st_tree.specs.declared.expression.EqualOperator.TheVariants as equal
use Rattle.st_tree.specs.declared.expression.CompareOperator.{CompareOperator}
use Rattle.st_tree.specs.declared.expression.CompareOperator.TheVariants as compare
use Rattle.st_tree.specs.declared.expression.AddOperator.{AddOperator}
use Rattle.st_tree.specs.declared.expression.AddOperator.TheVariants as add
use Rattle.st_tree.specs.declared.expression.MultiplyOperator.{MultiplyOperator}
use Rattle.st_tree.specs.declared.expression.MultiplyOperator.TheVariants as multiply
use Rattle.st_tree.specs.declared.expression.Function.{Function}
use Rattle.st_tree.specs.declared.expression.Function.TheVariants as function
use Rattle.st_tree.specs.declared.expression.Expr.{Expr, roll-Expr, out-Expr, roll-out-Expr}
use Rattle.st_tree.specs.declared.expression.Exclusive.{Exclusive, roll-Exclusive, out-Exclusive, roll-out-Exclusive}
use Rattle.st_tree.specs.declared.expression.Conjunction.{Conjunction, roll-Conjunction, out-Conjunction, roll-out-Conjunction}
use Rattle.st_tree.specs.declared.expression.Equality.{Equality, roll-Equality, out-Equality, roll-out-Equality}
use Rattle.st_tree.specs.declared.expression.Comparison.{Comparison, roll-Comparison, out-Comparison, roll-out-Comparison}
use Rattle.st_tree.specs.declared.expression.Sum.{Sum, roll-Sum, out-Sum, roll-out-Sum}
use Rattle.st_tree.specs.declared.expression.Product.{Product, roll-Product, out-Product, roll-out-Product}
use Rattle.st_tree.specs.declared.expression.Unary.{Unary, out-Unary, roll-Unary, roll-out-Unary}
use Rattle.st_tree.specs.declared.expression.Unary.TheVariants as u
use Rattle.st_tree.specs.declared.expression.Unary.TheVariants.{rolls-Plain, rolls-Minus, rolls-Not}
use Rattle.st_tree.specs.declared.expression.Primary.{Primary, out-Primary, roll-Primary, roll-out-Primary}
use Rattle.st_tree.specs.declared.expression.Primary.TheVariants as p
use Rattle.st_tree.specs.declared.expression.Primary.TheVariants.{rolls-Number, rolls-Truth, rolls-Tag, rolls-Field, rolls-Element, rolls-Bracketed, rolls-Call}
use Rattle.st_tree.specs.declared.expression.Arguments.{Arguments, roll-Arguments, out-Arguments, roll-out-Arguments}
use Rattle.st_tree.specs.declared.expression.Primary.TheOpen.{Primary-F, Unary-F}
use Rattle.st_tree.specs.Pieces.{Piece, ArePieces, ◌·◌, word, word_at, number_at, each}
use Rattle.st_tree.specs.Pieces as pieces
use Rattle.st_tree.specs.Expressions.{equal_word, compare_word, add_word, multiply_word, function_word, truth_word, spell_expr}
use Rattle.st_parser.specs.Inner.Parsers.{Parser, Look, ahead, ◌⨟◌, expect, place_of, name, entry, entry_at, sees, sees_name, sees_number, sees_some}
use Rattle.st_parser.specs.Inner.Tables.{equal_of, compare_of, add_of, multiply_of, function_of, truth_of}
use Rattle.st_parser.specs.Inner.ReadExpressions as read
use Rattle.st_parser.specs.Inner.ReadExpressions.{Suffix, named, primary_of, unary_of, product_of, sum_of, comparison_of, equality_of, conjunction_of, exclusive_of, whole_of, expr_at}
use Rattle.st_parser.proofs.Lawful.{Is, Lawful, Sample, split}
use Rattle.st_parser.proofs.Parts.{pair, both, both_solid}
use Rattle.st_parser.proofs.Choices.{Always, Made, Either, Or, Not, recast, adjust, fewer, expect_word, after_word, made_part, rebuilt, either_part, nothing_part}
use Rattle.st_parser.proofs.Repeats.{many_part}
use Rattle.st_parser.proofs.Sets.{fit, Table}
use Rattle.st_parser.proofs.Tokens.{name_law, number_law, place_law, entry_law, entry_at_law}
use Rattle.st_parser.proofs.Spelling.{spell_exclusive, spell_conjunction, spell_equality, spell_comparison, spell_sum, spell_product, spell_unary, spell_primary, spell_arguments, spell_operation, product-is, sum-is, comparison-is, equality-is, conjunction-is, exclusive-is, expr-is, arguments-is, plain-is, minus-is, not-is, number-is, truth-is, tag-is, field-is, element-is, bracketed-is, call-is}

-- ---- tables

pub equal_table : Table equal_of equal_word
equal_table = record { back = back; only = refl }
  where
    back : (a : EqualOperator) → equal_of (equal_word a) ≡ Some a
    back equal.Equal = refl
    back equal.Unequal = refl

pub compare_table : Table compare_of compare_word
compare_table = record { back = back; only = refl }
  where
    back : (a : CompareOperator) → compare_of (compare_word a) ≡ Some a
    back compare.Less = refl
    back compare.Greater = refl
    back compare.AtMost = refl
    back compare.AtLeast = refl

pub add_table : Table add_of add_word
add_table = record { back = back; only = refl }
  where
    back : (a : AddOperator) → add_of (add_word a) ≡ Some a
    back add.Add = refl
    back add.Subtract = refl

pub multiply_table : Table multiply_of multiply_word
multiply_table = record { back = back; only = refl }
  where
    back : (a : MultiplyOperator) → multiply_of (multiply_word a) ≡ Some a
    back multiply.Multiply = refl
    back multiply.Divide = refl
    back multiply.Modulo = refl

pub function_table : Table function_of function_word
function_table = record { back = back; only = refl }
  where
    back : (a : Function) → function_of (function_word a) ≡ Some a
    back function.Abs = refl
    back function.Min = refl
    back function.Max = refl
    back function.Limit = refl
    back function.Sel = refl
    back function.IntToDint = refl
    back function.DintToInt = refl

pub truth_table : Table truth_of truth_word
truth_table = record { back = back; only = refl }
  where
    back : (a : Bool) → truth_of (truth_word a) ≡ Some a
    back true = refl
    back false = refl

-- ---- what may come first and what may follow

abbrev pub starts_primary : Look → Bool
starts_primary o = sees_number o || sees_some truth_of o || sees_name o || sees w.OpenParen o || sees_some function_of o

abbrev pub starts_unary : Look → Bool
starts_unary o = sees w.Minus o || sees w.Not o || starts_primary o

abbrev pub ends_primary : Look → Bool
ends_primary o = not (sees w.Dot o) && not (sees w.OpenBracket o)

abbrev pub ends_product : Look → Bool
ends_product o = ends_primary o && not (sees_some multiply_of o)

abbrev pub ends_sum : Look → Bool
ends_sum o = ends_product o && not (sees_some add_of o)

abbrev pub ends_comparison : Look → Bool
ends_comparison o = ends_sum o && not (sees_some compare_of o)

abbrev pub ends_equality : Look → Bool
ends_equality o = ends_comparison o && not (sees_some equal_of o)

abbrev pub ends_conjunction : Look → Bool
ends_conjunction o = ends_equality o && not (sees w.And o)

abbrev pub ends_exclusive : Look → Bool
ends_exclusive o = ends_conjunction o && not (sees w.Xor o)

abbrev pub ends_expr : Look → Bool
ends_expr o = ends_exclusive o && not (sees w.Or o)

abbrev pub is_some_piece : List Piece → Bool
is_some_piece [] = false
is_some_piece (piece ∷ ps) = true

-- a part that begins with a piece has a token
pub some_token : (ps : List Piece) → is_some_piece ps ≡ true → (ts : List Token) → ArePieces ps ts → 0 < length ts
some_token [] e ts h = absurd (cc)
some_token (piece ∷ ps) e [] h = absurd h
some_token (piece ∷ ps) e (t ∷ ts) h = omega arith

-- ---- moving between a value and what it is made of

pub put : {B : Type 0} (spell : B → List Piece) (b made_so : B) (ps : List Piece) (ts : List Token) → made_so ≡ b → spell made_so ≡ ps → ArePieces ps ts → ArePieces (spell b) ts
put spell b made_so ps ts e is h = subst (λ qs. ArePieces qs ts) (sym is ∙ ap spell e) h

pub get : {B : Type 0} (spell : B → List Piece) (b made_so : B) (ps : List Piece) (ts : List Token) → made_so ≡ b → spell made_so ≡ ps → ArePieces (spell b) ts → ArePieces ps ts
get spell b made_so ps ts e is h = subst (λ qs. ArePieces qs ts) (sym (ap spell e) ∙ is) h

abbrev pub spell_suffix : Suffix → List Piece
spell_suffix None = []
spell_suffix (Some (inl field)) = word w.Dot · pieces.name field
spell_suffix (Some (inr index)) = word w.OpenBracket · spell_expr index · word w.CloseBracket

module _ (n : ℕ) (inner inner' : Parser Expr) (l : Lawful n inner inner' (Is spell_expr) starts_unary ends_expr) where
  index_law : Lawful n (read.index (suc n) inner) (read.index (suc (suc n)) inner') (Is (λ e. spell_expr e · word w.CloseBracket)) starts_unary Always
  index_law = rebuilt n (λ x. x.0) (λ e. (e, tt)) (inner ⨟ expect w.CloseBracket) (inner' ⨟ expect w.CloseBracket) _ _ starts_unary Always (λ b. refl) (λ a. refl)
      (both n inner inner' (expect w.CloseBracket) (expect w.CloseBracket) spell_expr (λ _. word w.CloseBracket) starts_unary ends_expr (sees w.CloseBracket) Always l (expect_word n w.CloseBracket) (fit (sees w.CloseBracket) ends_expr refl (λ _. refl) (λ _. refl) refl))

  suffix_law : Lawful (suc n) (read.suffix (suc n) inner) (read.suffix (suc (suc n)) inner') (Is spell_suffix) (Or (sees w.Dot) (Or (sees w.OpenBracket) ends_primary)) ends_primary
  suffix_law = recast (suc n) _ _ _ (Is spell_suffix) _ _ to from
      (either_part (suc n) (sees w.Dot) _ _ _ _ _ _ (sees w.Dot) (Or (sees w.OpenBracket) ends_primary) ends_primary
      (adjust (suc n) _ _ _ (sees w.Dot) Always (sees w.Dot) ends_primary (fit (sees w.Dot) (sees w.Dot) refl (λ _. refl) (λ _. refl) refl) (fit ends_primary Always refl (λ _. refl) (λ _. refl) refl)
      (made_part (suc n) (λ f. Some (inl f)) _ _ _ (sees w.Dot) Always (after_word n w.Dot name name pieces.name sees_name Always (name_law n))))
      (either_part (suc n) (sees w.OpenBracket) _ _ _ _ _ _ (sees w.OpenBracket) ends_primary ends_primary
      (adjust (suc n) _ _ _ (sees w.OpenBracket) Always (sees w.OpenBracket) ends_primary (fit (sees w.OpenBracket) (sees w.OpenBracket) refl (λ _. refl) (λ _. refl) refl) (fit ends_primary Always refl (λ _. refl) (λ _. refl) refl)
      (made_part (suc n) (λ i. Some (inr i)) _ _ _ (sees w.OpenBracket) Always (after_word n w.OpenBracket _ _ (λ e. spell_expr e · word w.CloseBracket) starts_unary Always index_law)))
      (nothing_part (suc n) None ends_primary)
      (fit (sees w.OpenBracket) (sees w.OpenBracket) refl (λ _. refl) (λ _. refl) refl)
      (fit ends_primary (Not (sees w.OpenBracket)) refl (λ _. refl) (λ _. refl) refl))
      (fit (sees w.Dot) (sees w.Dot) refl (λ _. refl) (λ _. refl) refl)
      (fit (Or (sees w.OpenBracket) ends_primary) (Not (sees w.Dot)) refl (λ _. refl) (λ _. refl) refl))
    where
      to : (b : Suffix) (ts : List Token) → Either (Made (λ f. Some (inl f)) (Is (λ f. word w.Dot ++ pieces.name f)))
          (Either (Made (λ i. Some (inr i)) (Is (λ e. word w.OpenBracket ++ (spell_expr e · word w.CloseBracket)))) (λ b ts. (None ≡ b) × (ts ≡ []))) b ts → Is spell_suffix b ts
      to b ts (inl h) = subst (λ (x : Suffix). ArePieces (spell_suffix x) ts) h.1 h.2
      to b ts (inr (inl h)) = subst (λ (x : Suffix). ArePieces (spell_suffix x) ts) h.1 h.2
      to b ts (inr (inr h)) = subst (λ (x : Suffix). ArePieces (spell_suffix x) ts) h.0 (subst (λ us. ArePieces [] us) (sym h.1) tt)

      from : (b : Suffix) (ts : List Token) → Is spell_suffix b ts → Either (Made (λ f. Some (inl f)) (Is (λ f. word w.Dot ++ pieces.name f)))
          (Either (Made (λ i. Some (inr i)) (Is (λ e. word w.OpenBracket ++ (spell_expr e · word w.CloseBracket)))) (λ b ts. (None ≡ b) × (ts ≡ []))) b ts
      from None [] h = inr (inr (refl, refl))
      from None (t ∷ ts) h = absurd h
      from (Some (inl f)) ts h = inl (f, refl, h)
      from (Some (inr i)) ts h = inr (inl (i, refl, h))

  named_law : Lawful (suc n) (read.named_primary (suc n) inner) (read.named_primary (suc (suc n)) inner') (Made named (Is (pair pieces.name spell_suffix))) sees_name ends_primary
  named_law = made_part (suc n) named _ _ _ sees_name ends_primary
      (both (suc n) name name _ _ pieces.name spell_suffix sees_name Always (Or (sees w.Dot) (Or (sees w.OpenBracket) ends_primary)) ends_primary (name_law (suc n)) suffix_law (fit (Or (sees w.Dot) (Or (sees w.OpenBracket) ends_primary)) (Always) refl (λ _. refl) (λ _. refl) refl))

  inside_law : Lawful n (inner ⨟ expect w.CloseParen) (inner' ⨟ expect w.CloseParen) (Is (pair spell_expr (λ (_ : Unit {0}). word w.CloseParen))) starts_unary Always
  inside_law = both n inner inner' (expect w.CloseParen) (expect w.CloseParen) spell_expr (λ _. word w.CloseParen) starts_unary ends_expr (sees w.CloseParen) Always l (expect_word n w.CloseParen) (fit (sees w.CloseParen) (ends_expr) refl (λ _. refl) (λ _. refl) refl)

  bracketed_law : Lawful (suc n) (read.bracketed (suc n) inner) (read.bracketed (suc (suc n)) inner') (Made (λ (x : ℕ × (Expr × Unit {0})). p.Bracketed x.0 x.1.0) (Is (pair (λ place. word_at w.OpenParen place) (pair spell_expr (λ (_ : Unit {0}). word w.CloseParen))))) (sees w.OpenParen) ends_primary
  bracketed_law = adjust (suc n) _ _ _ (sees w.OpenParen) Always (sees w.OpenParen) ends_primary (fit (sees w.OpenParen) (sees w.OpenParen) refl (λ _. refl) (λ _. refl) refl) (fit (ends_primary) (Always) refl (λ _. refl) (λ _. refl) refl)
      (made_part (suc n) (λ x. p.Bracketed x.0 x.1.0) _ _ _ (sees w.OpenParen) Always
      (both_solid n (place_of w.OpenParen) (place_of w.OpenParen) _ _ (λ place. word_at w.OpenParen place) (pair spell_expr (λ (_ : Unit {0}). word w.CloseParen)) (sees w.OpenParen) Always starts_unary Always
      (place_law (suc n) w.OpenParen) inside_law (fit (starts_unary) (Always) refl (λ _. refl) (λ _. refl) refl) (λ a ts h. some_token (word_at w.OpenParen a) refl ts h)))

  more_arguments_law : Lawful (suc n) (read.more_arguments (suc n) inner) (read.more_arguments (suc (suc n)) inner') (Is (each (λ x. word w.Comma · spell_expr x))) (Or (sees w.Comma) (sees w.CloseParen)) (sees w.CloseParen)
  more_arguments_law = many_part (suc n) (sees w.Comma) _ _ (λ x. word w.Comma · spell_expr x) (sees w.Comma) ends_expr (sees w.CloseParen)
      (after_word n w.Comma inner inner' spell_expr starts_unary ends_expr l) (fit (sees w.Comma) (sees w.Comma) refl (λ _. refl) (λ _. refl) refl) (fit (sees w.CloseParen) (Not (sees w.Comma)) refl (λ _. refl) (λ _. refl) refl) (fit (Or (sees w.Comma) (sees w.CloseParen)) (ends_expr) refl (λ _. refl) (λ _. refl) refl) (λ a ts h. some_token (word w.Comma · spell_expr a) refl ts h)

  arguments_law : Lawful n (read.arguments (suc n) inner) (read.arguments (suc (suc n)) inner') (Is spell_arguments) starts_unary (sees w.CloseParen)
  arguments_law = rebuilt n (λ x. roll-Arguments (record { first = x.0; more = x.1 })) (λ a. ((out-Arguments a).first, (out-Arguments a).more)) _ _ _ spell_arguments starts_unary (sees w.CloseParen)
      (λ a. roll-out-Arguments a) (λ x. arguments-is x.0 x.1)
      (both n inner inner' _ _ spell_expr (each (λ x. word w.Comma · spell_expr x)) starts_unary ends_expr (Or (sees w.Comma) (sees w.CloseParen)) (sees w.CloseParen) l
      (fewer n _ _ _ (Or (sees w.Comma) (sees w.CloseParen)) (sees w.CloseParen) more_arguments_law) (fit (Or (sees w.Comma) (sees w.CloseParen)) (ends_expr) refl (λ _. refl) (λ _. refl) refl))

  call_law : Lawful (suc n) (read.call (suc n) inner) (read.call (suc (suc n)) inner') (Made (λ (x : (Function × ℕ) × (Arguments × Unit {0})). p.Call x.0.0 x.0.1 x.1.0) (Is (pair (λ (x : Function × ℕ). word_at (function_word x.0) x.1) (λ (x : Arguments × Unit {0}). word w.OpenParen ++ (spell_arguments x.0 ++ word w.CloseParen))))) (sees_some function_of) ends_primary
  call_law = adjust (suc n) _ _ _ (sees_some function_of) Always (sees_some function_of) ends_primary (fit (sees_some function_of) (sees_some function_of) refl (λ _. refl) (λ _. refl) refl) (fit (ends_primary) (Always) refl (λ _. refl) (λ _. refl) refl)
      (made_part (suc n) (λ x. p.Call x.0.0 x.0.1 x.1.0) _ _ _ (sees_some function_of) Always
      (both (suc n) (entry_at function_of) (entry_at function_of) _ _ (λ (x : Function × ℕ). word_at (function_word x.0) x.1) (λ (x : Arguments × Unit {0}). word w.OpenParen ++ (spell_arguments x.0 ++ word w.CloseParen)) (sees_some function_of) Always (sees w.OpenParen) Always
      (entry_at_law function_of function_word function_table function.Abs (suc n))
      (after_word n w.OpenParen _ _ (pair spell_arguments (λ (_ : Unit {0}). word w.CloseParen)) starts_unary Always
      (both n _ _ (expect w.CloseParen) (expect w.CloseParen) spell_arguments (λ _. word w.CloseParen) starts_unary (sees w.CloseParen) (sees w.CloseParen) Always arguments_law (expect_word n w.CloseParen) (fit (sees w.CloseParen) (sees w.CloseParen) refl (λ _. refl) (λ _. refl) refl)))
      (fit (sees w.OpenParen) (Always) refl (λ _. refl) (λ _. refl) refl)))

  abbrev Numbers : Primary → List Token → Type 0
  Numbers = Made (λ (x : ℕ × ℕ). p.Number x.0 x.1) (Is (λ x. number_at x.0 x.1))

  abbrev Truths : Primary → List Token → Type 0
  Truths = Made (λ (x : Bool × ℕ). p.Truth x.0 x.1) (Is (λ x. word_at (truth_word x.0) x.1))

  abbrev Nameds : Primary → List Token → Type 0
  Nameds = Made named (Is (pair pieces.name spell_suffix))

  abbrev Brackets : Primary → List Token → Type 0
  Brackets = Made (λ (x : ℕ × (Expr × Unit {0})). p.Bracketed x.0 x.1.0) (Is (pair (λ place. word_at w.OpenParen place) (pair spell_expr (λ (_ : Unit {0}). word w.CloseParen))))

  abbrev Calls : Primary → List Token → Type 0
  Calls = Made (λ (x : (Function × ℕ) × (Arguments × Unit {0})). p.Call x.0.0 x.0.1 x.1.0) (Is (pair (λ (x : Function × ℕ). word_at (function_word x.0) x.1) (λ (x : Arguments × Unit {0}). word w.OpenParen ++ (spell_arguments x.0 ++ word w.CloseParen))))

  abbrev Primaries : Primary → List Token → Type 0
  Primaries = Either Numbers (Either Truths (Either Nameds (Either Brackets Calls)))

  named-is : (x : PlacedName × Suffix) → spell_primary (named x) ≡ pair pieces.name spell_suffix x
  named-is x = by x.0 x.1
    where
      by : (n : PlacedName) (s : Suffix) → spell_primary (named (n, s)) ≡ pair pieces.name spell_suffix (n, s)
      by n None = tag-is n
      by n (Some (inl f)) = field-is n f
      by n (Some (inr e)) = element-is n e

  to_primary : (b : Primary) (ts : List Token) → Primaries b ts → Is spell_primary b ts
  to_primary b ts (inl h) = put spell_primary b _ _ ts h.1 (number-is h.0.0 h.0.1) h.2
  to_primary b ts (inr (inl h)) = put spell_primary b _ _ ts h.1 (truth-is h.0.0 h.0.1) h.2
  to_primary b ts (inr (inr (inl h))) = put spell_primary b _ _ ts h.1 (named-is h.0) h.2
  to_primary b ts (inr (inr (inr (inl h)))) = put spell_primary b _ _ ts h.1 (bracketed-is h.0.0 h.0.1.0) h.2
  to_primary b ts (inr (inr (inr (inr h)))) = put spell_primary b _ _ ts h.1 (call-is h.0.0.0 h.0.0.1 h.0.1.0) h.2

  from_primary : (b : Primary) (ts : List Token) → Is spell_primary b ts → Primaries b ts
  from_primary b ts h = by (out-Primary b) (roll-out-Primary b)
    where
      by : (o : Primary-F Primary Unary Arguments Comparison Conjunction Equality Exclusive Expr Product Sum) → roll-Primary o ≡ b → Primaries b ts
      by (Primary-F.Number m place) e = let is = sym (rolls-Number m place) ∙ e in inl ((m, place), is, get spell_primary b _ _ ts is (number-is m place) h)
      by (Primary-F.Truth v place) e = let is = sym (rolls-Truth v place) ∙ e in inr (inl ((v, place), is, get spell_primary b _ _ ts is (truth-is v place) h))
      by (Primary-F.Tag t) e = let is = sym (rolls-Tag t) ∙ e in inr (inr (inl ((t, None), is, get spell_primary b _ _ ts is (tag-is t) h)))
      by (Primary-F.Field t f) e = let is = sym (rolls-Field t f) ∙ e in inr (inr (inl ((t, Some (inl f)), is, get spell_primary b _ _ ts is (field-is t f) h)))
      by (Primary-F.Element t i) e = let is = sym (rolls-Element t i) ∙ e in inr (inr (inl ((t, Some (inr i)), is, get spell_primary b _ _ ts is (element-is t i) h)))
      by (Primary-F.Bracketed place i) e = let is = sym (rolls-Bracketed place i) ∙ e in inr (inr (inr (inl ((place, (i, tt)), is, get spell_primary b _ _ ts is (bracketed-is place i) h))))
      by (Primary-F.Call f place a) e = let is = sym (rolls-Call f place a) ∙ e in inr (inr (inr (inr (((f, place), (a, tt)), is, get spell_primary b _ _ ts is (call-is f place a) h))))

  primary_law : Lawful (suc n) (primary_of (suc n) inner) (primary_of (suc (suc n)) inner') (Is spell_primary) starts_primary ends_primary
  unfolding primary_of
  primary_law = adjust (suc n) _ _ _ (Or sees_number (Or (sees_some truth_of) (Or sees_name (Or (sees w.OpenParen) (sees_some function_of))))) ends_primary starts_primary ends_primary
      (fit (Or sees_number (Or (sees_some truth_of) (Or sees_name (Or (sees w.OpenParen) (sees_some function_of))))) (starts_primary) refl (λ _. refl) (λ _. refl) refl) (fit (ends_primary) (ends_primary) refl (λ _. refl) (λ _. refl) refl)
      (recast (suc n) _ _ Primaries (Is spell_primary) _ ends_primary to_primary from_primary
      (either_part (suc n) sees_number _ _ _ _ _ _ sees_number (Or (sees_some truth_of) (Or sees_name (Or (sees w.OpenParen) (sees_some function_of)))) ends_primary
      (adjust (suc n) _ _ _ sees_number Always sees_number ends_primary (fit (sees_number) (sees_number) refl (λ _. refl) (λ _. refl) refl) (fit (ends_primary) (Always) refl (λ _. refl) (λ _. refl) refl) (made_part (suc n) (λ x. p.Number x.0 x.1) _ _ _ sees_number Always (number_law (suc n))))
      (either_part (suc n) (sees_some truth_of) _ _ _ _ _ _ (sees_some truth_of) (Or sees_name (Or (sees w.OpenParen) (sees_some function_of))) ends_primary
      (adjust (suc n) _ _ _ (sees_some truth_of) Always (sees_some truth_of) ends_primary (fit (sees_some truth_of) (sees_some truth_of) refl (λ _. refl) (λ _. refl) refl) (fit (ends_primary) (Always) refl (λ _. refl) (λ _. refl) refl)
      (made_part (suc n) (λ x. p.Truth x.0 x.1) _ _ _ (sees_some truth_of) Always (entry_at_law truth_of truth_word truth_table true (suc n))))
      (either_part (suc n) sees_name _ _ _ _ _ _ sees_name (Or (sees w.OpenParen) (sees_some function_of)) ends_primary named_law
      (either_part (suc n) (sees w.OpenParen) _ _ _ _ _ _ (sees w.OpenParen) (sees_some function_of) ends_primary bracketed_law call_law
      (fit (sees w.OpenParen) (sees w.OpenParen) refl (λ _. refl) (λ _. refl) refl) (fit (sees_some function_of) (Not (sees w.OpenParen)) refl (λ _. refl) (λ _. refl) refl))
      (fit (sees_name) (sees_name) refl (λ _. refl) (λ _. refl) refl) (fit (Or (sees w.OpenParen) (sees_some function_of)) (Not sees_name) refl (λ _. refl) (λ _. refl) refl))
      (fit (sees_some truth_of) (sees_some truth_of) refl (λ _. refl) (λ _. refl) refl) (fit (Or sees_name (Or (sees w.OpenParen) (sees_some function_of))) (Not (sees_some truth_of)) refl (λ _. refl) (λ _. refl) refl))
      (fit (sees_number) (sees_number) refl (λ _. refl) (λ _. refl) refl) (fit (Or (sees_some truth_of) (Or sees_name (Or (sees w.OpenParen) (sees_some function_of)))) (Not sees_number) refl (λ _. refl) (λ _. refl) refl)))

  abbrev Unaries : Unary → List Token → Type 0
  Unaries = Either (Made (λ (x : ℕ × Primary). u.Minus x.0 x.1) (Is (pair (λ place. word_at w.Minus place) spell_primary)))
      (Either (Made (λ (x : ℕ × Primary). u.Not x.0 x.1) (Is (pair (λ place. word_at w.Not place) spell_primary))) (Made u.Plain (Is spell_primary)))

  to_unary : (b : Unary) (ts : List Token) → Unaries b ts → Is spell_unary b ts
  to_unary b ts (inl h) = put spell_unary b _ _ ts h.1 (minus-is h.0.0 h.0.1) h.2
  to_unary b ts (inr (inl h)) = put spell_unary b _ _ ts h.1 (not-is h.0.0 h.0.1) h.2
  to_unary b ts (inr (inr h)) = put spell_unary b _ _ ts h.1 (plain-is h.0) h.2

  from_unary : (b : Unary) (ts : List Token) → Is spell_unary b ts → Unaries b ts
  from_unary b ts h = by (out-Unary b) (roll-out-Unary b)
    where
      by : (o : Unary-F Primary Unary Arguments Comparison Conjunction Equality Exclusive Expr Product Sum) → roll-Unary o ≡ b → Unaries b ts
      by (Unary-F.Minus place a) e = let is = sym (rolls-Minus place a) ∙ e in inl ((place, a), is, get spell_unary b _ _ ts is (minus-is place a) h)
      by (Unary-F.Not place a) e = let is = sym (rolls-Not place a) ∙ e in inr (inl ((place, a), is, get spell_unary b _ _ ts is (not-is place a) h))
      by (Unary-F.Plain a) e = let is = sym (rolls-Plain a) ∙ e in inr (inr (a, is, get spell_unary b _ _ ts is (plain-is a) h))

  unary_law : Lawful (suc n) (unary_of (suc n) inner) (unary_of (suc (suc n)) inner') (Is spell_unary) starts_unary ends_primary
  unfolding unary_of
  unary_law = adjust (suc n) _ _ _ (Or (sees w.Minus) (Or (sees w.Not) starts_primary)) ends_primary starts_unary ends_primary (fit (Or (sees w.Minus) (Or (sees w.Not) starts_primary)) (starts_unary) refl (λ _. refl) (λ _. refl) refl) (fit (ends_primary) (ends_primary) refl (λ _. refl) (λ _. refl) refl)
      (recast (suc n) _ _ Unaries (Is spell_unary) _ ends_primary to_unary from_unary
      (either_part (suc n) (sees w.Minus) _ _ _ _ _ _ (sees w.Minus) (Or (sees w.Not) starts_primary) ends_primary
      (made_part (suc n) (λ x. u.Minus x.0 x.1) _ _ _ (sees w.Minus) ends_primary
      (both (suc n) (place_of w.Minus) (place_of w.Minus) _ _ (λ place. word_at w.Minus place) spell_primary (sees w.Minus) Always starts_primary ends_primary (place_law (suc n) w.Minus) primary_law (fit (starts_primary) (Always) refl (λ _. refl) (λ _. refl) refl)))
      (either_part (suc n) (sees w.Not) _ _ _ _ _ _ (sees w.Not) starts_primary ends_primary
      (made_part (suc n) (λ x. u.Not x.0 x.1) _ _ _ (sees w.Not) ends_primary
      (both (suc n) (place_of w.Not) (place_of w.Not) _ _ (λ place. word_at w.Not place) spell_primary (sees w.Not) Always starts_primary ends_primary (place_law (suc n) w.Not) primary_law (fit (starts_primary) (Always) refl (λ _. refl) (λ _. refl) refl)))
      (made_part (suc n) u.Plain _ _ _ starts_primary ends_primary primary_law)
      (fit (sees w.Not) (sees w.Not) refl (λ _. refl) (λ _. refl) refl) (fit (starts_primary) (Not (sees w.Not)) refl (λ _. refl) (λ _. refl) refl))
      (fit (sees w.Minus) (sees w.Minus) refl (λ _. refl) (λ _. refl) refl) (fit (Or (sees w.Not) starts_primary) (Not (sees w.Minus)) refl (λ _. refl) (λ _. refl) refl)))

  factor_law : Lawful (suc n) (read.factor (suc n) inner) (read.factor (suc (suc n)) inner') (Is (spell_operation multiply_word spell_unary)) (sees_some multiply_of) ends_primary
  factor_law = rebuilt (suc n) (λ x. record { operator = x.0; operand = x.1 }) (λ a. (a.operator, a.operand)) _ _ _ (spell_operation multiply_word spell_unary) (sees_some multiply_of) ends_primary (λ a. refl) (λ x. refl)
      (both (suc n) (entry multiply_of) (entry multiply_of) _ _ (λ a. word (multiply_word a)) spell_unary (sees_some multiply_of) Always starts_unary ends_primary (entry_law multiply_of multiply_word multiply_table multiply.Multiply (suc n)) unary_law (fit (starts_unary) (Always) refl (λ _. refl) (λ _. refl) refl))

  product_law : Lawful (suc n) (product_of (suc n) inner) (product_of (suc (suc n)) inner') (Is spell_product) starts_unary ends_product
  unfolding product_of
  product_law = rebuilt (suc n) (λ x. roll-Product (record { first = x.0; more = x.1 })) (λ a. ((out-Product a).first, (out-Product a).more)) _ _ _ spell_product starts_unary ends_product
      (λ a. roll-out-Product a) (λ x. product-is x.0 x.1)
      (both (suc n) _ _ _ _ spell_unary (each (spell_operation multiply_word spell_unary)) starts_unary ends_primary (Or (sees_some multiply_of) ends_product) ends_product unary_law
      (many_part (suc n) (sees_some multiply_of) _ _ (spell_operation multiply_word spell_unary) (sees_some multiply_of) ends_primary ends_product factor_law (fit (sees_some multiply_of) (sees_some multiply_of) refl (λ _. refl) (λ _. refl) refl) (fit (ends_product) (Not (sees_some multiply_of)) refl (λ _. refl) (λ _. refl) refl) (fit (Or (sees_some multiply_of) ends_product) (ends_primary) refl (λ _. refl) (λ _. refl) refl) (λ a ts h. some_token ((spell_operation multiply_word spell_unary) a) refl ts h))
      (fit (Or (sees_some multiply_of) ends_product) (ends_primary) refl (λ _. refl) (λ _. refl) refl))

  term_law : Lawful (suc n) (read.term (suc n) inner) (read.term (suc (suc n)) inner') (Is (spell_operation add_word spell_product)) (sees_some add_of) ends_product
  term_law = rebuilt (suc n) (λ x. record { operator = x.0; operand = x.1 }) (λ a. (a.operator, a.operand)) _ _ _ (spell_operation add_word spell_product) (sees_some add_of) ends_product (λ a. refl) (λ x. refl)
      (both (suc n) (entry add_of) (entry add_of) _ _ (λ a. word (add_word a)) spell_product (sees_some add_of) Always starts_unary ends_product (entry_law add_of add_word add_table add.Add (suc n)) product_law (fit (starts_unary) (Always) refl (λ _. refl) (λ _. refl) refl))

  sum_law : Lawful (suc n) (sum_of (suc n) inner) (sum_of (suc (suc n)) inner') (Is spell_sum) starts_unary ends_sum
  unfolding sum_of
  sum_law = rebuilt (suc n) (λ x. roll-Sum (record { first = x.0; more = x.1 })) (λ a. ((out-Sum a).first, (out-Sum a).more)) _ _ _ spell_sum starts_unary ends_sum
      (λ a. roll-out-Sum a) (λ x. sum-is x.0 x.1)
      (both (suc n) _ _ _ _ spell_product (each (spell_operation add_word spell_product)) starts_unary ends_product (Or (sees_some add_of) ends_sum) ends_sum product_law
      (many_part (suc n) (sees_some add_of) _ _ (spell_operation add_word spell_product) (sees_some add_of) ends_product ends_sum term_law (fit (sees_some add_of) (sees_some add_of) refl (λ _. refl) (λ _. refl) refl) (fit (ends_sum) (Not (sees_some add_of)) refl (λ _. refl) (λ _. refl) refl) (fit (Or (sees_some add_of) ends_sum) (ends_product) refl (λ _. refl) (λ _. refl) refl) (λ a ts h. some_token ((spell_operation add_word spell_product) a) refl ts h))
      (fit (Or (sees_some add_of) ends_sum) (ends_product) refl (λ _. refl) (λ _. refl) refl))

  compared_part_law : Lawful (suc n) (read.compared_part (suc n) inner) (read.compared_part (suc (suc n)) inner') (Is (spell_operation compare_word spell_sum)) (sees_some compare_of) ends_sum
  compared_part_law = rebuilt (suc n) (λ x. record { operator = x.0; operand = x.1 }) (λ a. (a.operator, a.operand)) _ _ _ (spell_operation compare_word spell_sum) (sees_some compare_of) ends_sum (λ a. refl) (λ x. refl)
      (both (suc n) (entry compare_of) (entry compare_of) _ _ (λ a. word (compare_word a)) spell_sum (sees_some compare_of) Always starts_unary ends_sum (entry_law compare_of compare_word compare_table compare.Less (suc n)) sum_law (fit (starts_unary) (Always) refl (λ _. refl) (λ _. refl) refl))

  comparison_law : Lawful (suc n) (comparison_of (suc n) inner) (comparison_of (suc (suc n)) inner') (Is spell_comparison) starts_unary ends_comparison
  unfolding comparison_of
  comparison_law = rebuilt (suc n) (λ x. roll-Comparison (record { first = x.0; more = x.1 })) (λ a. ((out-Comparison a).first, (out-Comparison a).more)) _ _ _ spell_comparison starts_unary ends_comparison
      (λ a. roll-out-Comparison a) (λ x. comparison-is x.0 x.1)
      (both (suc n) _ _ _ _ spell_sum (each (spell_operation compare_word spell_sum)) starts_unary ends_sum (Or (sees_some compare_of) ends_comparison) ends_comparison sum_law
      (many_part (suc n) (sees_some compare_of) _ _ (spell_operation compare_word spell_sum) (sees_some compare_of) ends_sum ends_comparison compared_part_law (fit (sees_some compare_of) (sees_some compare_of) refl (λ _. refl) (λ _. refl) refl) (fit (ends_comparison) (Not (sees_some compare_of)) refl (λ _. refl) (λ _. refl) refl) (fit (Or (sees_some compare_of) ends_comparison) (ends_sum) refl (λ _. refl) (λ _. refl) refl) (λ a ts h. some_token ((spell_operation compare_word spell_sum) a) refl ts h))
      (fit (Or (sees_some compare_of) ends_comparison) (ends_sum) refl (λ _. refl) (λ _. refl) refl))

  equated_part_law : Lawful (suc n) (read.equated_part (suc n) inner) (read.equated_part (suc (suc n)) inner') (Is (spell_operation equal_word spell_comparison)) (sees_some equal_of) ends_comparison
  equated_part_law = rebuilt (suc n) (λ x. record { operator = x.0; operand = x.1 }) (λ a. (a.operator, a.operand)) _ _ _ (spell_operation equal_word spell_comparison) (sees_some equal_of) ends_comparison (λ a. refl) (λ x. refl)
      (both (suc n) (entry equal_of) (entry equal_of) _ _ (λ a. word (equal_word a)) spell_comparison (sees_some equal_of) Always starts_unary ends_comparison (entry_law equal_of equal_word equal_table equal.Equal (suc n)) comparison_law (fit (starts_unary) (Always) refl (λ _. refl) (λ _. refl) refl))

  equality_law : Lawful (suc n) (equality_of (suc n) inner) (equality_of (suc (suc n)) inner') (Is spell_equality) starts_unary ends_equality
  unfolding equality_of
  equality_law = rebuilt (suc n) (λ x. roll-Equality (record { first = x.0; more = x.1 })) (λ a. ((out-Equality a).first, (out-Equality a).more)) _ _ _ spell_equality starts_unary ends_equality
      (λ a. roll-out-Equality a) (λ x. equality-is x.0 x.1)
      (both (suc n) _ _ _ _ spell_comparison (each (spell_operation equal_word spell_comparison)) starts_unary ends_comparison (Or (sees_some equal_of) ends_equality) ends_equality comparison_law
      (many_part (suc n) (sees_some equal_of) _ _ (spell_operation equal_word spell_comparison) (sees_some equal_of) ends_comparison ends_equality equated_part_law (fit (sees_some equal_of) (sees_some equal_of) refl (λ _. refl) (λ _. refl) refl) (fit (ends_equality) (Not (sees_some equal_of)) refl (λ _. refl) (λ _. refl) refl) (fit (Or (sees_some equal_of) ends_equality) (ends_comparison) refl (λ _. refl) (λ _. refl) refl) (λ a ts h. some_token ((spell_operation equal_word spell_comparison) a) refl ts h))
      (fit (Or (sees_some equal_of) ends_equality) (ends_comparison) refl (λ _. refl) (λ _. refl) refl))

  conjunct_law : Lawful (suc n) (read.conjunct (suc n) inner) (read.conjunct (suc (suc n)) inner') (Is (λ x. word w.And · spell_equality x)) (sees w.And) ends_equality
  conjunct_law = fewer (suc n) _ _ _ (sees w.And) ends_equality (after_word (suc n) w.And _ _ spell_equality starts_unary ends_equality equality_law)

  conjunction_law : Lawful (suc n) (conjunction_of (suc n) inner) (conjunction_of (suc (suc n)) inner') (Is spell_conjunction) starts_unary ends_conjunction
  unfolding conjunction_of
  conjunction_law = rebuilt (suc n) (λ x. roll-Conjunction (record { first = x.0; more = x.1 })) (λ a. ((out-Conjunction a).first, (out-Conjunction a).more)) _ _ _ spell_conjunction starts_unary ends_conjunction
      (λ a. roll-out-Conjunction a) (λ x. conjunction-is x.0 x.1)
      (both (suc n) _ _ _ _ spell_equality (each (λ x. word w.And · spell_equality x)) starts_unary ends_equality (Or (sees w.And) ends_conjunction) ends_conjunction equality_law
      (many_part (suc n) (sees w.And) _ _ (λ x. word w.And · spell_equality x) (sees w.And) ends_equality ends_conjunction conjunct_law (fit (sees w.And) (sees w.And) refl (λ _. refl) (λ _. refl) refl) (fit (ends_conjunction) (Not (sees w.And)) refl (λ _. refl) (λ _. refl) refl) (fit (Or (sees w.And) ends_conjunction) (ends_equality) refl (λ _. refl) (λ _. refl) refl) (λ a ts h. some_token (word w.And · spell_equality a) refl ts h))
      (fit (Or (sees w.And) ends_conjunction) (ends_equality) refl (λ _. refl) (λ _. refl) refl))

  exclusive_part_law : Lawful (suc n) (read.exclusive_part (suc n) inner) (read.exclusive_part (suc (suc n)) inner') (Is (λ x. word w.Xor · spell_conjunction x)) (sees w.Xor) ends_conjunction
  exclusive_part_law = fewer (suc n) _ _ _ (sees w.Xor) ends_conjunction (after_word (suc n) w.Xor _ _ spell_conjunction starts_unary ends_conjunction conjunction_law)

  exclusive_law : Lawful (suc n) (exclusive_of (suc n) inner) (exclusive_of (suc (suc n)) inner') (Is spell_exclusive) starts_unary ends_exclusive
  unfolding exclusive_of
  exclusive_law = rebuilt (suc n) (λ x. roll-Exclusive (record { first = x.0; more = x.1 })) (λ a. ((out-Exclusive a).first, (out-Exclusive a).more)) _ _ _ spell_exclusive starts_unary ends_exclusive
      (λ a. roll-out-Exclusive a) (λ x. exclusive-is x.0 x.1)
      (both (suc n) _ _ _ _ spell_conjunction (each (λ x. word w.Xor · spell_conjunction x)) starts_unary ends_conjunction (Or (sees w.Xor) ends_exclusive) ends_exclusive conjunction_law
      (many_part (suc n) (sees w.Xor) _ _ (λ x. word w.Xor · spell_conjunction x) (sees w.Xor) ends_conjunction ends_exclusive exclusive_part_law (fit (sees w.Xor) (sees w.Xor) refl (λ _. refl) (λ _. refl) refl) (fit (ends_exclusive) (Not (sees w.Xor)) refl (λ _. refl) (λ _. refl) refl) (fit (Or (sees w.Xor) ends_exclusive) (ends_conjunction) refl (λ _. refl) (λ _. refl) refl) (λ a ts h. some_token (word w.Xor · spell_conjunction a) refl ts h))
      (fit (Or (sees w.Xor) ends_exclusive) (ends_conjunction) refl (λ _. refl) (λ _. refl) refl))

  alternative_law : Lawful (suc n) (read.alternative (suc n) inner) (read.alternative (suc (suc n)) inner') (Is (λ x. word w.Or · spell_exclusive x)) (sees w.Or) ends_exclusive
  alternative_law = fewer (suc n) _ _ _ (sees w.Or) ends_exclusive (after_word (suc n) w.Or _ _ spell_exclusive starts_unary ends_exclusive exclusive_law)

  pub whole_law : Lawful (suc n) (whole_of (suc n) inner) (whole_of (suc (suc n)) inner') (Is spell_expr) starts_unary ends_expr
  unfolding whole_of
  whole_law = rebuilt (suc n) (λ x. roll-Expr (record { first = x.0; more = x.1 })) (λ a. ((out-Expr a).first, (out-Expr a).more)) _ _ _ spell_expr starts_unary ends_expr
      (λ a. roll-out-Expr a) (λ x. expr-is x.0 x.1)
      (both (suc n) _ _ _ _ spell_exclusive (each (λ x. word w.Or · spell_exclusive x)) starts_unary ends_exclusive (Or (sees w.Or) ends_expr) ends_expr exclusive_law
      (many_part (suc n) (sees w.Or) _ _ (λ x. word w.Or · spell_exclusive x) (sees w.Or) ends_exclusive ends_expr alternative_law (fit (sees w.Or) (sees w.Or) refl (λ _. refl) (λ _. refl) refl) (fit (ends_expr) (Not (sees w.Or)) refl (λ _. refl) (λ _. refl) refl) (fit (Or (sees w.Or) ends_expr) (ends_exclusive) refl (λ _. refl) (λ _. refl) refl) (λ a ts h. some_token (word w.Or · spell_exclusive a) refl ts h))
      (fit (Or (sees w.Or) ends_expr) (ends_exclusive) refl (λ _. refl) (λ _. refl) refl))

-- ---- what comes first in an expression, whatever is inside

abbrev Begins : {A : Type 0} → (A → List Piece) → Type 0
Begins {A} spell = (a : A) (ts ks : List Token) → ArePieces (spell a) ts → starts_unary (ahead (ts ++ ks)) ≡ true

first_begins : {A : Type 0} (s : A → List Piece) (ps : List Piece) → Begins s → (a : A) (ts ks : List Token) → ArePieces (s a ++ ps) ts → starts_unary (ahead (ts ++ ks)) ≡ true
first_begins s ps begins a ts ks h =
    let d = split (s a) ps ts h in
    ap (λ us. starts_unary (ahead (us ++ ks))) d.whole ∙ (ap (λ us. starts_unary (ahead us)) (append_assoc d.front d.back ks) ∙ begins a d.front (d.back ++ ks) d.left)

abbrev starts_so : List Piece → Bool
starts_so [] = false
starts_so (pieces.Anywhere k ∷ ps) = starts_unary (Some k)
starts_so (pieces.Placed k place ∷ ps) = starts_unary (Some k)

begins_so : (ps : List Piece) → starts_so ps ≡ true → (ts ks : List Token) → ArePieces ps ts → starts_unary (ahead (ts ++ ks)) ≡ true
begins_so [] e ts ks h = absurd (cc)
begins_so (pieces.Anywhere k ∷ ps) e [] ks h = absurd h
begins_so (pieces.Anywhere k ∷ ps) e (t ∷ ts) ks h = ap (λ x. starts_unary (Some x)) h.0 ∙ e
begins_so (pieces.Placed k place ∷ ps) e [] ks h = absurd h
begins_so (pieces.Placed k place ∷ ps) e (t ∷ ts) ks h = ap (λ (x : Token). starts_unary (Some x.kind)) h.0 ∙ e

primary_begins : Begins spell_primary
primary_begins b ts ks h = by (out-Primary b) (roll-out-Primary b)
  where
    truth_starts : (v : Bool) → starts_unary (Some (kind.Fixed (truth_word v))) ≡ true
    truth_starts true = refl
    truth_starts false = refl

    function_starts : (f : Function) → starts_unary (Some (kind.Fixed (function_word f))) ≡ true
    function_starts function.Abs = refl
    function_starts function.Min = refl
    function_starts function.Max = refl
    function_starts function.Limit = refl
    function_starts function.Sel = refl
    function_starts function.IntToDint = refl
    function_starts function.DintToInt = refl

    by : (o : Primary-F Primary Unary Arguments Comparison Conjunction Equality Exclusive Expr Product Sum) → roll-Primary o ≡ b → starts_unary (ahead (ts ++ ks)) ≡ true
    by (Primary-F.Number m place) e = begins_so (number_at m place) refl ts ks (get spell_primary b _ _ ts (sym (rolls-Number m place) ∙ e) (number-is m place) h)
    by (Primary-F.Truth v place) e = begins_so (word_at (truth_word v) place) (truth_starts v) ts ks (get spell_primary b _ _ ts (sym (rolls-Truth v place) ∙ e) (truth-is v place) h)
    by (Primary-F.Tag t) e = begins_so (pieces.name t) refl ts ks (get spell_primary b _ _ ts (sym (rolls-Tag t) ∙ e) (tag-is t) h)
    by (Primary-F.Field t f) e = begins_so (pieces.name t · word w.Dot · pieces.name f) refl ts ks (get spell_primary b _ _ ts (sym (rolls-Field t f) ∙ e) (field-is t f) h)
    by (Primary-F.Element t i) e = begins_so (pieces.name t · word w.OpenBracket · spell_expr i · word w.CloseBracket) refl ts ks (get spell_primary b _ _ ts (sym (rolls-Element t i) ∙ e) (element-is t i) h)
    by (Primary-F.Bracketed place i) e = begins_so (word_at w.OpenParen place · spell_expr i · word w.CloseParen) refl ts ks (get spell_primary b _ _ ts (sym (rolls-Bracketed place i) ∙ e) (bracketed-is place i) h)
    by (Primary-F.Call f place a) e = begins_so (word_at (function_word f) place · word w.OpenParen · spell_arguments a · word w.CloseParen) (function_starts f) ts ks (get spell_primary b _ _ ts (sym (rolls-Call f place a) ∙ e) (call-is f place a) h)

unary_begins : Begins spell_unary
unary_begins b ts ks h = by (out-Unary b) (roll-out-Unary b)
  where
    by : (o : Unary-F Primary Unary Arguments Comparison Conjunction Equality Exclusive Expr Product Sum) → roll-Unary o ≡ b → starts_unary (ahead (ts ++ ks)) ≡ true
    by (Unary-F.Minus place a) e = begins_so (word_at w.Minus place · spell_primary a) refl ts ks (get spell_unary b _ _ ts (sym (rolls-Minus place a) ∙ e) (minus-is place a) h)
    by (Unary-F.Not place a) e = begins_so (word_at w.Not place · spell_primary a) refl ts ks (get spell_unary b _ _ ts (sym (rolls-Not place a) ∙ e) (not-is place a) h)
    by (Unary-F.Plain a) e = primary_begins a ts ks (get spell_unary b _ _ ts (sym (rolls-Plain a) ∙ e) (plain-is a) h)

product_begins : Begins spell_product
product_begins e ts ks h =
    let o = out-Product e in
    first_begins spell_unary (each (spell_operation multiply_word spell_unary) o.more) unary_begins o.first ts ks (get spell_product e _ _ ts (roll-out-Product e) (product-is o.first o.more) h)

sum_begins : Begins spell_sum
sum_begins e ts ks h =
    let o = out-Sum e in
    first_begins spell_product (each (spell_operation add_word spell_product) o.more) product_begins o.first ts ks (get spell_sum e _ _ ts (roll-out-Sum e) (sum-is o.first o.more) h)

comparison_begins : Begins spell_comparison
comparison_begins e ts ks h =
    let o = out-Comparison e in
    first_begins spell_sum (each (spell_operation compare_word spell_sum) o.more) sum_begins o.first ts ks (get spell_comparison e _ _ ts (roll-out-Comparison e) (comparison-is o.first o.more) h)

equality_begins : Begins spell_equality
equality_begins e ts ks h =
    let o = out-Equality e in
    first_begins spell_comparison (each (spell_operation equal_word spell_comparison) o.more) comparison_begins o.first ts ks (get spell_equality e _ _ ts (roll-out-Equality e) (equality-is o.first o.more) h)

conjunction_begins : Begins spell_conjunction
conjunction_begins e ts ks h =
    let o = out-Conjunction e in
    first_begins spell_equality (each (λ x. word w.And · spell_equality x) o.more) equality_begins o.first ts ks (get spell_conjunction e _ _ ts (roll-out-Conjunction e) (conjunction-is o.first o.more) h)

exclusive_begins : Begins spell_exclusive
exclusive_begins e ts ks h =
    let o = out-Exclusive e in
    first_begins spell_conjunction (each (λ x. word w.Xor · spell_conjunction x) o.more) conjunction_begins o.first ts ks (get spell_exclusive e _ _ ts (roll-out-Exclusive e) (exclusive-is o.first o.more) h)

expr_begins : Begins spell_expr
expr_begins e ts ks h =
    let o = out-Expr e in
    first_begins spell_exclusive (each (λ x. word w.Or · spell_exclusive x) o.more) exclusive_begins o.first ts ks (get spell_expr e _ _ ts (roll-out-Expr e) (expr-is o.first o.more) h)

-- ---- a sample

abbrev zero_token : Token
zero_token = record { kind = kind.Number 0; place = 0 }

with_none : (ps : List Piece) (ts : List Token) → ArePieces ps ts → ArePieces (ps ++ []) ts
with_none ps ts h = subst (λ qs. ArePieces qs ts) (sym (append-nil ps)) h

unary_sample : Sample (Is spell_unary)
unary_sample = record { value = u.Plain (p.Number 0 0); tokens = zero_token ∷ []; spelled = put spell_unary _ _ _ _ refl (plain-is (p.Number 0 0)) (put spell_primary _ _ _ _ refl (number-is 0 0) (refl, tt)) }

product_sample : Sample (Is spell_product)
product_sample =
    let s = unary_sample in
    record { value = roll-Product (record { first = s.value; more = [] }); tokens = s.tokens; spelled = put spell_product _ _ _ _ refl (product-is s.value []) (with_none (spell_unary s.value) s.tokens s.spelled) }

sum_sample : Sample (Is spell_sum)
sum_sample =
    let s = product_sample in
    record { value = roll-Sum (record { first = s.value; more = [] }); tokens = s.tokens; spelled = put spell_sum _ _ _ _ refl (sum-is s.value []) (with_none (spell_product s.value) s.tokens s.spelled) }

comparison_sample : Sample (Is spell_comparison)
comparison_sample =
    let s = sum_sample in
    record { value = roll-Comparison (record { first = s.value; more = [] }); tokens = s.tokens; spelled = put spell_comparison _ _ _ _ refl (comparison-is s.value []) (with_none (spell_sum s.value) s.tokens s.spelled) }

equality_sample : Sample (Is spell_equality)
equality_sample =
    let s = comparison_sample in
    record { value = roll-Equality (record { first = s.value; more = [] }); tokens = s.tokens; spelled = put spell_equality _ _ _ _ refl (equality-is s.value []) (with_none (spell_comparison s.value) s.tokens s.spelled) }

conjunction_sample : Sample (Is spell_conjunction)
conjunction_sample =
    let s = equality_sample in
    record { value = roll-Conjunction (record { first = s.value; more = [] }); tokens = s.tokens; spelled = put spell_conjunction _ _ _ _ refl (conjunction-is s.value []) (with_none (spell_equality s.value) s.tokens s.spelled) }

exclusive_sample : Sample (Is spell_exclusive)
exclusive_sample =
    let s = conjunction_sample in
    record { value = roll-Exclusive (record { first = s.value; more = [] }); tokens = s.tokens; spelled = put spell_exclusive _ _ _ _ refl (exclusive-is s.value []) (with_none (spell_conjunction s.value) s.tokens s.spelled) }

expr_sample : Sample (Is spell_expr)
expr_sample =
    let s = exclusive_sample in
    record { value = roll-Expr (record { first = s.value; more = [] }); tokens = s.tokens; spelled = put spell_expr _ _ _ _ refl (expr-is s.value []) (with_none (spell_exclusive s.value) s.tokens s.spelled) }

-- ---- the recursion

zero_law : Lawful 0 (expr_at 0) (expr_at 1) (Is spell_expr) starts_unary ends_expr
unfolding expr_at
zero_law = record {
  takes = λ ts a ks h. absurd (cc);
  fails = λ ts left h. record { front = []; ks = ts; whole = refl; remains = cc; local = λ js e. refl; end = expr_sample.tokens; value = expr_sample.value; completed = expr_sample.spelled };
  again = λ a front ks h short. absurd (omega arith);
  heads = λ a front ks h e. expr_begins a front ks h;
  same = λ ts short. absurd (omega arith);
  sample = expr_sample;
}

pub expr_laws : (n : ℕ) → Lawful n (expr_at n) (expr_at (suc n)) (Is spell_expr) starts_unary ends_expr
unfolding expr_at
expr_laws zero = zero_law
expr_laws (suc n) = whole_law n (expr_at n) (expr_at (suc n)) (expr_laws n)
