-- What each whole expression spells, by its parts.
use Rattle.std.proofs.Common.{◌≡◌, ℕ, Bool, List, [], ◌∷◌, ◌++◌, map, refl, ap, ◌∙◌}
use Rattle.st_tree.specs.declared.token.Fixed.{Fixed}
use Rattle.st_tree.specs.declared.token.Fixed.TheVariants as w
use Rattle.st_tree.specs.declared.declaration.PlacedName.{PlacedName}
use Rattle.st_tree.specs.declared.expression.Operation.{Operation}
use Rattle.st_tree.specs.declared.expression.EqualOperator.{EqualOperator}
use Rattle.st_tree.specs.declared.expression.CompareOperator.{CompareOperator}
use Rattle.st_tree.specs.declared.expression.AddOperator.{AddOperator}
use Rattle.st_tree.specs.declared.expression.MultiplyOperator.{MultiplyOperator}
use Rattle.st_tree.specs.declared.expression.Function.{Function}
use Rattle.st_tree.specs.declared.expression.Expr.{Expr, roll-Expr}
use Rattle.st_tree.specs.declared.expression.Exclusive.{Exclusive, roll-Exclusive}
use Rattle.st_tree.specs.declared.expression.Conjunction.{Conjunction, roll-Conjunction}
use Rattle.st_tree.specs.declared.expression.Equality.{Equality, roll-Equality}
use Rattle.st_tree.specs.declared.expression.Comparison.{Comparison, roll-Comparison}
use Rattle.st_tree.specs.declared.expression.Sum.{Sum, roll-Sum}
use Rattle.st_tree.specs.declared.expression.Product.{Product, roll-Product}
use Rattle.st_tree.specs.declared.expression.Unary.{Unary}
use Rattle.st_tree.specs.declared.expression.Unary.TheVariants as u
use Rattle.st_tree.specs.declared.expression.Primary.{Primary}
use Rattle.st_tree.specs.declared.expression.Primary.TheVariants as p
use Rattle.st_tree.specs.declared.expression.Arguments.{Arguments, roll-Arguments}
use Rattle.st_tree.specs.Pieces.{Piece, ◌·◌, word, word_at, number_at, name, each}
use Rattle.st_tree.specs.ExpressionFolds.{fold_exclusive, fold_conjunction, fold_equality, fold_comparison, fold_sum, fold_product, fold_unary, fold_primary, fold_arguments}
use Rattle.st_tree.specs.Expressions.{operation, equal_word, compare_word, add_word, multiply_word, function_word, truth_word, spelled, spell_expr}
use Rattle.st_tree.proofs.ExpressionEquations.{with_operand, at-number, at-truth, at-tag, at-field, at-element, at-bracketed, at-call, at-plain, at-minus, at-not, at-product, at-sum, at-comparison, at-equality, at-conjunction, at-exclusive, at-expr, at-arguments}

-- operands joined by XOR
unfoldable pub spell_exclusive : Exclusive → List Piece
spell_exclusive = fold_exclusive spelled

-- operands joined by AND
unfoldable pub spell_conjunction : Conjunction → List Piece
spell_conjunction = fold_conjunction spelled

-- operands joined by = and <>
unfoldable pub spell_equality : Equality → List Piece
spell_equality = fold_equality spelled

-- operands joined by <, >, <= and >=
unfoldable pub spell_comparison : Comparison → List Piece
spell_comparison = fold_comparison spelled

-- operands joined by + and -
unfoldable pub spell_sum : Sum → List Piece
spell_sum = fold_sum spelled

-- operands joined by *, / and MOD
unfoldable pub spell_product : Product → List Piece
spell_product = fold_product spelled

-- a primary with a sign or NOT, or without
unfoldable pub spell_unary : Unary → List Piece
spell_unary = fold_unary spelled

-- a primary
unfoldable pub spell_primary : Primary → List Piece
spell_primary = fold_primary spelled

-- the arguments of a function
unfoldable pub spell_arguments : Arguments → List Piece
spell_arguments = fold_arguments spelled

-- parts that have been replaced, each with its pieces
pub each_map : {A B : Type 0} (part : B → List Piece) (f : A → B) (xs : List A) → each part (map f xs) ≡ each (λ x. part (f x)) xs
each_map part f [] = refl
each_map part f (x ∷ xs) = ap (λ ps. part (f x) ++ ps) (each_map part f xs)

-- an operator with its operand
abbrev pub spell_operation : {O A : Type 0} → (O → Fixed) → (A → List Piece) → Operation O A → List Piece
spell_operation written spell x = word (written x.operator) · spell x.operand

pub product-is : (first : Unary) (more : List (Operation MultiplyOperator Unary)) → spell_product (roll-Product (record { first = first; more = more })) ≡ spell_unary first · each (spell_operation multiply_word spell_unary) more
unfolding spell_expr spell_exclusive spell_conjunction spell_equality spell_comparison spell_sum spell_product spell_unary spell_primary spell_arguments
product-is first more = at-product spelled first more ∙ ap (λ ps. spell_unary first ++ ps) (each_map (operation multiply_word) (with_operand spell_unary) more)

pub sum-is : (first : Product) (more : List (Operation AddOperator Product)) → spell_sum (roll-Sum (record { first = first; more = more })) ≡ spell_product first · each (spell_operation add_word spell_product) more
unfolding spell_expr spell_exclusive spell_conjunction spell_equality spell_comparison spell_sum spell_product spell_unary spell_primary spell_arguments
sum-is first more = at-sum spelled first more ∙ ap (λ ps. spell_product first ++ ps) (each_map (operation add_word) (with_operand spell_product) more)

pub comparison-is : (first : Sum) (more : List (Operation CompareOperator Sum)) → spell_comparison (roll-Comparison (record { first = first; more = more })) ≡ spell_sum first · each (spell_operation compare_word spell_sum) more
unfolding spell_expr spell_exclusive spell_conjunction spell_equality spell_comparison spell_sum spell_product spell_unary spell_primary spell_arguments
comparison-is first more = at-comparison spelled first more ∙ ap (λ ps. spell_sum first ++ ps) (each_map (operation compare_word) (with_operand spell_sum) more)

pub equality-is : (first : Comparison) (more : List (Operation EqualOperator Comparison)) → spell_equality (roll-Equality (record { first = first; more = more })) ≡ spell_comparison first · each (spell_operation equal_word spell_comparison) more
unfolding spell_expr spell_exclusive spell_conjunction spell_equality spell_comparison spell_sum spell_product spell_unary spell_primary spell_arguments
equality-is first more = at-equality spelled first more ∙ ap (λ ps. spell_comparison first ++ ps) (each_map (operation equal_word) (with_operand spell_comparison) more)

pub conjunction-is : (first : Equality) (more : List Equality) → spell_conjunction (roll-Conjunction (record { first = first; more = more })) ≡ spell_equality first · each (λ x. word w.And · spell_equality x) more
unfolding spell_expr spell_exclusive spell_conjunction spell_equality spell_comparison spell_sum spell_product spell_unary spell_primary spell_arguments
conjunction-is first more = at-conjunction spelled first more ∙ ap (λ ps. spell_equality first ++ ps) (each_map (λ x. word w.And · x) spell_equality more)

pub exclusive-is : (first : Conjunction) (more : List Conjunction) → spell_exclusive (roll-Exclusive (record { first = first; more = more })) ≡ spell_conjunction first · each (λ x. word w.Xor · spell_conjunction x) more
unfolding spell_expr spell_exclusive spell_conjunction spell_equality spell_comparison spell_sum spell_product spell_unary spell_primary spell_arguments
exclusive-is first more = at-exclusive spelled first more ∙ ap (λ ps. spell_conjunction first ++ ps) (each_map (λ x. word w.Xor · x) spell_conjunction more)

pub expr-is : (first : Exclusive) (more : List Exclusive) → spell_expr (roll-Expr (record { first = first; more = more })) ≡ spell_exclusive first · each (λ x. word w.Or · spell_exclusive x) more
unfolding spell_expr spell_exclusive spell_conjunction spell_equality spell_comparison spell_sum spell_product spell_unary spell_primary spell_arguments
expr-is first more = at-expr spelled first more ∙ ap (λ ps. spell_exclusive first ++ ps) (each_map (λ x. word w.Or · x) spell_exclusive more)

pub arguments-is : (first : Expr) (more : List Expr) → spell_arguments (roll-Arguments (record { first = first; more = more })) ≡ spell_expr first · each (λ x. word w.Comma · spell_expr x) more
unfolding spell_expr spell_exclusive spell_conjunction spell_equality spell_comparison spell_sum spell_product spell_unary spell_primary spell_arguments
arguments-is first more = at-arguments spelled first more ∙ ap (λ ps. spell_expr first ++ ps) (each_map (λ x. word w.Comma · x) spell_expr more)

pub plain-is : (a : Primary) → spell_unary (u.Plain a) ≡ spell_primary a
unfolding spell_expr spell_exclusive spell_conjunction spell_equality spell_comparison spell_sum spell_product spell_unary spell_primary spell_arguments
plain-is a = at-plain spelled a

pub minus-is : (place : ℕ) (a : Primary) → spell_unary (u.Minus place a) ≡ word_at w.Minus place · spell_primary a
unfolding spell_expr spell_exclusive spell_conjunction spell_equality spell_comparison spell_sum spell_product spell_unary spell_primary spell_arguments
minus-is place a = at-minus spelled place a

pub not-is : (place : ℕ) (a : Primary) → spell_unary (u.Not place a) ≡ word_at w.Not place · spell_primary a
unfolding spell_expr spell_exclusive spell_conjunction spell_equality spell_comparison spell_sum spell_product spell_unary spell_primary spell_arguments
not-is place a = at-not spelled place a

pub number-is : (n : ℕ) (place : ℕ) → spell_primary (p.Number n place) ≡ number_at n place
unfolding spell_expr spell_exclusive spell_conjunction spell_equality spell_comparison spell_sum spell_product spell_unary spell_primary spell_arguments
number-is n place = at-number spelled n place

pub truth-is : (value : Bool) (place : ℕ) → spell_primary (p.Truth value place) ≡ word_at (truth_word value) place
unfolding spell_expr spell_exclusive spell_conjunction spell_equality spell_comparison spell_sum spell_product spell_unary spell_primary spell_arguments
truth-is value place = at-truth spelled value place

pub tag-is : (tag : PlacedName) → spell_primary (p.Tag tag) ≡ name tag
unfolding spell_expr spell_exclusive spell_conjunction spell_equality spell_comparison spell_sum spell_product spell_unary spell_primary spell_arguments
tag-is tag = at-tag spelled tag

pub field-is : (block : PlacedName) (field : PlacedName) → spell_primary (p.Field block field) ≡ name block · word w.Dot · name field
unfolding spell_expr spell_exclusive spell_conjunction spell_equality spell_comparison spell_sum spell_product spell_unary spell_primary spell_arguments
field-is block field = at-field spelled block field

pub element-is : (array : PlacedName) (index : Expr) → spell_primary (p.Element array index) ≡ name array · word w.OpenBracket · spell_expr index · word w.CloseBracket
unfolding spell_expr spell_exclusive spell_conjunction spell_equality spell_comparison spell_sum spell_product spell_unary spell_primary spell_arguments
element-is array index = at-element spelled array index

pub bracketed-is : (place : ℕ) (inside : Expr) → spell_primary (p.Bracketed place inside) ≡ word_at w.OpenParen place · spell_expr inside · word w.CloseParen
unfolding spell_expr spell_exclusive spell_conjunction spell_equality spell_comparison spell_sum spell_product spell_unary spell_primary spell_arguments
bracketed-is place inside = at-bracketed spelled place inside

pub call-is : (function : Function) (place : ℕ) (args : Arguments) → spell_primary (p.Call function place args) ≡ word_at (function_word function) place · word w.OpenParen · spell_arguments args · word w.CloseParen
unfolding spell_expr spell_exclusive spell_conjunction spell_equality spell_comparison spell_sum spell_product spell_unary spell_primary spell_arguments
call-is function place args = at-call spelled function place args
