-- Programs worked by hand: what the parts of a program are in the core, what these do, and what they cost.
use Rattle.std.specs.Prelude.{◌≡◌, ℕ, ℤ, pos, negsuc, Bool, true, false, List, [], ◌∷◌, map, codes, Option, Some, None}
use Rattle.tri_base.specs.declared.point.Point.{Point}
use Rattle.tri_base.specs.declared.point.PointKind.{PointKind}
use Rattle.tri_base.specs.declared.point.PointKind.TheVariants.{Ai, Ao}
use Rattle.function_blocks.specs.declared.kinds.Kind.{Kind}
use Rattle.function_blocks.specs.declared.kinds.Kind.TheVariants as kind
use Rattle.function_blocks.specs.declared.blocks.BlockKind.TheVariants as block
use Rattle.function_blocks.specs.Values.{is_on}
use Rattle.st_tree.specs.declared.declaration.Integer.{Integer}
use Rattle.st_tree.specs.declared.declaration.PlacedName.{PlacedName}
use Rattle.st_tree.specs.declared.declaration.DeclaredType.{DeclaredType}
use Rattle.st_tree.specs.declared.declaration.DeclaredType.TheVariants as declared
use Rattle.st_tree.specs.declared.declaration.Block.TheVariants as declarations
use Rattle.st_tree.specs.declared.expression.Operation.{Operation}
use Rattle.st_tree.specs.declared.expression.EqualOperator.{EqualOperator}
use Rattle.st_tree.specs.declared.expression.EqualOperator.TheVariants as equal
use Rattle.st_tree.specs.declared.expression.CompareOperator.{CompareOperator}
use Rattle.st_tree.specs.declared.expression.CompareOperator.TheVariants as compare
use Rattle.st_tree.specs.declared.expression.AddOperator.{AddOperator}
use Rattle.st_tree.specs.declared.expression.AddOperator.TheVariants as add
use Rattle.st_tree.specs.declared.expression.MultiplyOperator.{MultiplyOperator}
use Rattle.st_tree.specs.declared.expression.MultiplyOperator.TheVariants as multiply
use Rattle.st_tree.specs.declared.expression.Function.{Function}
use Rattle.st_tree.specs.declared.expression.Function.TheVariants as function
use Rattle.st_tree.specs.declared.expression.Primary.{Primary}
use Rattle.st_tree.specs.declared.expression.Primary.TheVariants as tree_primary
use Rattle.st_tree.specs.declared.expression.Primary.TheOpen.{Primary-F, Unary-F}
use Rattle.st_tree.specs.declared.expression.Unary.TheVariants as tree_unary
use Rattle.st_tree.specs.declared.expression.Product.{roll-Product}
use Rattle.st_tree.specs.declared.expression.Sum.{roll-Sum}
use Rattle.st_tree.specs.declared.expression.Comparison.{roll-Comparison}
use Rattle.st_tree.specs.declared.expression.Equality.{roll-Equality}
use Rattle.st_tree.specs.declared.expression.Conjunction.{roll-Conjunction}
use Rattle.st_tree.specs.declared.expression.Exclusive.{roll-Exclusive}
use Rattle.st_tree.specs.declared.expression.Expr.{Expr, roll-Expr}
use Rattle.st_tree.specs.declared.statement.Label.{Label}
use Rattle.st_tree.specs.declared.statement.Statement.TheVariants as tree_statement
use Rattle.st_tree.specs.declared.statement.Statement.TheOpen.{Statement-F}
use Rattle.st_tree.specs.declared.program.Tree.{Tree}
use Rattle.st_tree.specs.declared.tag.Tag.{Tag}
use Rattle.st_core.specs.Core.{Act}
use Rattle.st_core.specs.Core as c
use Rattle.st_core.specs.Environments.{Env, number_of}
use Rattle.st_core.specs.Terms.{value_of}
use Rattle.st_core.specs.Effects.{Ends, Onward, Returns, effect_of}
use Rattle.st_core.specs.Costs.{cost_of}
use Rattle.st_core.specs.Memory.{words_of}
use Rattle.st_meaning.specs.Types.{type_of}
use Rattle.st_meaning.specs.Expressions.{Elaborated, settled_term, primary, unary, more_multiply, more_add, expression_parts}
use Rattle.st_meaning.specs.Statements.{in_order, Guarded, choice, set_to, call_with, guarded, statement_parts}
use Rattle.st_meaning.specs.Programs.{with_inputs, output_of, scan_of, program_cost}

-- ---- the tags

-- an integer without a sign
abbrev pub integer : ℕ → Integer
integer n = record { sign = None; number = n; place = 0 }

-- a tag of VAR without a first value
abbrev pub variable : List ℕ → DeclaredType → Tag
variable name type = record { name = name; place = 0; declared = type; constant = None; external = false }

-- a tag of VAR_EXTERNAL
abbrev pub point_tag : List ℕ → Kind → Tag
point_tag name k =
    record { name = name; place = 0; declared = declared.Simple k; constant = None; external = true }

-- VAR X, Y : INT; D : DINT; I, N : INT; A : ARRAY [1..3] OF INT; T : TON; END_VAR
abbrev pub tags : List Tag
tags =
    variable (codes "X") (declared.Simple kind.Int)
    ∷ variable (codes "Y") (declared.Simple kind.Int)
    ∷ variable (codes "D") (declared.Simple kind.Dint)
    ∷ variable (codes "I") (declared.Simple kind.Int)
    ∷ variable (codes "N") (declared.Simple kind.Int)
    ∷ variable (codes "A") (declared.Array (integer 1) (integer 3) kind.Int)
    ∷ variable (codes "T") (declared.Block block.Ton)
    ∷ []

-- their values before the scan: 0, but 2 for each element of A
abbrev pub before : Env
before =
    (codes "X", pos 0 ∷ [])
    ∷ (codes "Y", pos 0 ∷ [])
    ∷ (codes "D", pos 0 ∷ [])
    ∷ (codes "I", pos 0 ∷ [])
    ∷ (codes "N", pos 0 ∷ [])
    ∷ (codes "A", pos 2 ∷ pos 2 ∷ pos 2 ∷ [])
    ∷ (codes "T", pos 0 ∷ pos 0 ∷ pos 0 ∷ pos 0 ∷ pos 0 ∷ [])
    ∷ []

-- ---- how it is written

-- a name, wherever it stands
abbrev pub written_name : List ℕ → PlacedName
written_name n = record { name = n; place = 0 }

-- a number
abbrev pub literal : ℕ → Elaborated
literal n = unary (Unary-F.Plain (primary tags (Primary-F.Number n 0)))

-- a number behind a minus sign
abbrev pub minus : ℕ → Elaborated
minus n = unary (Unary-F.Minus 0 (primary tags (Primary-F.Number n 0)))

-- TRUE or FALSE
abbrev pub truth_literal : Bool → Elaborated
truth_literal b = unary (Unary-F.Plain (primary tags (Primary-F.Truth b 0)))

-- TRUE
abbrev pub yes_literal : Elaborated
yes_literal = truth_literal true

-- a tag
abbrev pub tag_value : List ℕ → Elaborated
tag_value n = unary (Unary-F.Plain (primary tags (Primary-F.Tag (written_name n))))

-- an element of an array
abbrev pub element_value : List ℕ → Elaborated → Elaborated
element_value n index = unary (Unary-F.Plain (primary tags (Primary-F.Element (written_name n) index)))

-- an expression in brackets
abbrev pub in_brackets : Elaborated → Elaborated
in_brackets e = unary (Unary-F.Plain (primary tags (Primary-F.Bracketed 0 e)))

-- a function with its arguments
abbrev pub function_of : Function → List Elaborated → Elaborated
function_of f arguments = unary (Unary-F.Plain (primary tags (Primary-F.Call f 0 arguments)))

-- + with what stands behind it
abbrev pub plus : Elaborated → Operation AddOperator Elaborated
plus e = record { operator = add.Add; operand = e }

-- - with what stands behind it
abbrev pub less : Elaborated → Operation AddOperator Elaborated
less e = record { operator = add.Subtract; operand = e }

-- *, / or MOD with what stands behind it
abbrev pub times : MultiplyOperator → Elaborated → Operation MultiplyOperator Elaborated
times operator e = record { operator = operator; operand = e }

-- name := value
abbrev pub sets : List ℕ → Elaborated → Act
sets n value = set_to n (type_of tags n) None value

-- N := N + 1
abbrev pub counts : Act
counts = sets (codes "N") (more_add (tag_value (codes "N")) (plus (literal 1)))

-- FOR I := first TO last BY step DO body END_FOR
abbrev pub for_i : (first last step : ℤ) → Act → Act
for_i first last step body = c.For (codes "I") kind.Int first last step body

-- T(IN := input, PT := 250)
abbrev pub calls_timer : Elaborated → Act
calls_timer input =
    call_with (codes "T") (type_of tags (codes "T"))
    (record { name = codes "IN"; value = input } ∷ record { name = codes "PT"; value = literal 250 } ∷ [])

-- ---- what it does

-- What a body leaves of the tags and their words: X, Y, D, I, N, the elements of A, the fields of T.
pub record Left : Type 0 where
  pub words : List ℤ
  pub flag : Bool
  pub ends : Ends

-- in a scan of 100 milliseconds
abbrev pub left_by : List Act → Left
left_by acts =
    let e = effect_of (pos 100) (in_order acts) before in
    record { words = words_of e.env; flag = e.flag; ends = e.ends }

-- these values of X, Y, D, I and N, where A and T are as before
abbrev pub leaves : (x y d i n : ℤ) → Bool → Ends → Left
leaves x y d i n flag ends = record {
  words = x ∷ y ∷ d ∷ i ∷ n ∷ pos 2 ∷ pos 2 ∷ pos 2 ∷ pos 0 ∷ pos 0 ∷ pos 0 ∷ pos 0 ∷ pos 0 ∷ [];
  flag = flag;
  ends = ends;
}

-- What expressions are worth. `negsuc n` is -n - 1.
pub record WorkedValues : Type 0 where
  -- Y := 1; X := 32767 + Y;
  pub sum_is_clamped :
      left_by (sets (codes "Y") (literal 1)
      ∷ sets (codes "X") (more_add (literal 32767) (plus (tag_value (codes "Y")))) ∷ [])
      ≡ leaves (pos 32767) (pos 1) (pos 0) (pos 0) (pos 0) true Onward
  -- X := -32768; Y := X / (-1);
  pub quotient_is_clamped :
      left_by (sets (codes "X") (minus 32768)
      ∷ sets (codes "Y") (more_multiply (tag_value (codes "X")) (times multiply.Divide (in_brackets (minus 1)))) ∷ [])
      ≡ leaves (negsuc 32767) (pos 32767) (pos 0) (pos 0) (pos 0) true Onward
  -- X := 7 / 0;
  pub by_zero :
      left_by (sets (codes "X") (more_multiply (literal 7) (times multiply.Divide (literal 0))) ∷ [])
      ≡ leaves (pos 0) (pos 0) (pos 0) (pos 0) (pos 0) true Onward
  -- X := (-7) / 3; Y := (-7) MOD 3;
  pub toward_zero :
      left_by (sets (codes "X") (more_multiply (in_brackets (minus 7)) (times multiply.Divide (literal 3)))
      ∷ sets (codes "Y") (more_multiply (in_brackets (minus 7)) (times multiply.Modulo (literal 3))) ∷ [])
      ≡ leaves (negsuc 1) (negsuc 0) (pos 0) (pos 0) (pos 0) false Onward
  -- D := -2147483648; X := DINT_TO_INT(D);
  pub conversion_is_clamped :
      left_by (sets (codes "D") (minus 2147483648)
      ∷ sets (codes "X") (function_of function.DintToInt (tag_value (codes "D") ∷ [])) ∷ [])
      ≡ leaves (negsuc 32767) (pos 0) (negsuc 2147483647) (pos 0) (pos 0) true Onward
  -- X := 2 + 3 * 4 - 16#F;
  pub from_the_left :
      left_by (sets (codes "X") (more_add (more_add (literal 2)
      (plus (more_multiply (literal 3) (times multiply.Multiply (literal 4))))) (less (literal 15))) ∷ [])
      ≡ leaves (negsuc 0) (pos 0) (pos 0) (pos 0) (pos 0) false Onward
  -- X := LIMIT(0, 9, 5); Y := SEL(TRUE, 1, 2);
  pub functions :
      left_by (sets (codes "X") (function_of function.Limit (literal 0 ∷ literal 9 ∷ literal 5 ∷ []))
      ∷ sets (codes "Y") (function_of function.Sel (yes_literal ∷ literal 1 ∷ literal 2 ∷ [])) ∷ [])
      ≡ leaves (pos 5) (pos 2) (pos 0) (pos 0) (pos 0) false Onward
  -- A[4] := 9; X := A[0] + A[3];
  pub index_is_clamped :
      left_by (set_to (codes "A") (type_of tags (codes "A")) (Some (literal 4)) (literal 9)
      ∷ sets (codes "X")
      (more_add (element_value (codes "A") (literal 0)) (plus (element_value (codes "A") (literal 3)))) ∷ [])
      ≡ record {
        words =
            pos 11 ∷ pos 0 ∷ pos 0 ∷ pos 0 ∷ pos 0 ∷ pos 2 ∷ pos 2 ∷ pos 9
            ∷ pos 0 ∷ pos 0 ∷ pos 0 ∷ pos 0 ∷ pos 0 ∷ [];
        flag = true;
        ends = Onward;
      }

-- ---- tables of operators and functions

-- what an expression is worth where no type is asked for
abbrev pub worth : Elaborated → ℤ
worth e = (value_of (settled_term e) before).value

-- whether it is TRUE
abbrev pub holds : Elaborated → Bool
holds e = is_on (worth e)

-- x = y or x <> y
abbrev pub equality : EqualOperator → (x y : ℕ) → Elaborated
equality operator x y =
    (expression_parts tags).equality (literal x) (record { operator = operator; operand = literal y } ∷ [])

-- x < y, x > y, x <= y or x >= y
abbrev pub comparison : CompareOperator → (x y : ℕ) → Elaborated
comparison operator x y =
    (expression_parts tags).comparison (literal x) (record { operator = operator; operand = literal y } ∷ [])

-- x = y, x <> y, x < y, x > y, x <= y and x >= y
abbrev pub comparisons : (x y : ℕ) → List Bool
comparisons x y = map holds (
    equality equal.Equal x y ∷ equality equal.Unequal x y
    ∷ comparison compare.Less x y ∷ comparison compare.Greater x y
    ∷ comparison compare.AtMost x y ∷ comparison compare.AtLeast x y ∷ [])

-- x AND y, x OR y, x XOR y and NOT x
abbrev pub connections : (x y : Bool) → List Bool
connections x y = map holds (
    (expression_parts tags).conjunction (truth_literal x) (truth_literal y ∷ [])
    ∷ (expression_parts tags).disjunction (truth_literal x) (truth_literal y ∷ [])
    ∷ (expression_parts tags).exclusive (truth_literal x) (truth_literal y ∷ [])
    ∷ unary (Unary-F.Not 0 (primary tags (Primary-F.Truth x 0)))
    ∷ [])

-- VAR T : TON; C : CTU; END_VAR
abbrev pub block_tags : List Tag
block_tags =
    variable (codes "T") (declared.Block block.Ton) ∷ variable (codes "C") (declared.Block block.Ctu) ∷ []

-- 100 of T's 250 milliseconds have gone by, and C has counted to 7
abbrev pub block_values : Env
block_values =
    (codes "T", pos 1 ∷ pos 250 ∷ pos 0 ∷ pos 100 ∷ pos 1 ∷ [])
    ∷ (codes "C", pos 0 ∷ pos 0 ∷ pos 0 ∷ pos 1 ∷ pos 7 ∷ pos 0 ∷ [])
    ∷ []

-- a field of a block
abbrev pub field_value : (block field : List ℕ) → ℤ
field_value block field =
    (value_of (settled_term (primary block_tags (Primary-F.Field (written_name block) (written_name field))))
    block_values).value

-- What operators and functions are worth.
pub record WorkedOperators : Type 0 where
  pub one_with_two : comparisons 1 2 ≡ false ∷ true ∷ true ∷ false ∷ true ∷ false ∷ []
  pub two_with_two : comparisons 2 2 ≡ true ∷ false ∷ false ∷ false ∷ true ∷ true ∷ []
  pub three_with_two : comparisons 3 2 ≡ false ∷ true ∷ false ∷ true ∷ false ∷ true ∷ []
  pub true_with_true : connections true true ≡ true ∷ true ∷ false ∷ false ∷ []
  pub true_with_false : connections true false ≡ false ∷ true ∷ true ∷ false ∷ []
  pub false_with_true : connections false true ≡ false ∷ true ∷ true ∷ true ∷ []
  pub false_with_false : connections false false ≡ false ∷ false ∷ false ∷ true ∷ []
  -- 10 - 4 - 3, 8 / 4 / 2
  pub rows_group_to_the_left :
      map worth (
      (expression_parts tags).sum (literal 10) (less (literal 4) ∷ less (literal 3) ∷ [])
      ∷ (expression_parts tags).product (literal 8)
      (times multiply.Divide (literal 4) ∷ times multiply.Divide (literal 2) ∷ [])
      ∷ [])
      ≡ pos 3 ∷ pos 1 ∷ []
  -- MIN(1, 2), MAX(1, 2), ABS(-3), LIMIT(10, 5, 3), SEL(FALSE, 1, 2)
  pub functions_choose :
      map worth (
      function_of function.Min (literal 1 ∷ literal 2 ∷ [])
      ∷ function_of function.Max (literal 1 ∷ literal 2 ∷ [])
      ∷ function_of function.Abs (minus 3 ∷ [])
      ∷ function_of function.Limit (literal 10 ∷ literal 5 ∷ literal 3 ∷ [])
      ∷ function_of function.Sel (truth_literal false ∷ literal 1 ∷ literal 2 ∷ [])
      ∷ [])
      ≡ pos 1 ∷ pos 2 ∷ pos 3 ∷ pos 3 ∷ pos 1 ∷ []
  -- INT_TO_DINT(-3), DINT_TO_INT(-3), DINT_TO_INT(40000)
  pub conversions_keep :
      map worth (
      function_of function.IntToDint (minus 3 ∷ [])
      ∷ function_of function.DintToInt (minus 3 ∷ [])
      ∷ function_of function.DintToInt (literal 40000 ∷ [])
      ∷ [])
      ≡ negsuc 2 ∷ negsuc 2 ∷ pos 32767 ∷ []
  -- T.ET, T.Q, C.Q, C.CV
  pub fields_of_blocks :
      field_value (codes "T") (codes "ET") ∷ field_value (codes "T") (codes "Q")
      ∷ field_value (codes "C") (codes "Q") ∷ field_value (codes "C") (codes "CV") ∷ []
      ≡ pos 100 ∷ pos 0 ∷ pos 1 ∷ pos 7 ∷ []

-- ---- statements as the tree has them

-- a whole expression that is a primary alone
abbrev pub alone : Primary → Expr
alone x =
    let product = roll-Product (record { first = tree_unary.Plain x; more = [] }) in
    let sum = roll-Sum (record { first = product; more = [] }) in
    let comparison = roll-Comparison (record { first = sum; more = [] }) in
    let equality = roll-Equality (record { first = comparison; more = [] }) in
    let conjunction = roll-Conjunction (record { first = equality; more = [] }) in
    let exclusive = roll-Exclusive (record { first = conjunction; more = [] }) in
    roll-Expr (record { first = exclusive; more = [] })

-- FOR I := first TO last BY step DO body END_FOR
abbrev pub written_for : (first last : ℕ) → Option Integer → List Act → Act
written_for first last step body =
    (statement_parts tags).statement
    (Statement-F.For (written_name (codes "I")) (integer first) (integer last) step body)

-- X := n
abbrev pub sets_x : ℕ → List Act
sets_x n = sets (codes "X") (literal n) ∷ []

-- the label first..last
abbrev pub label : (first last : ℕ) → Label
label first last = record { low = integer first; high = Some (integer last) }

-- CASE n OF 1..4: X := 1; ELSE X := 2; END_CASE
abbrev pub written_case : ℕ → Act
written_case n =
    (statement_parts tags).statement
    (Statement-F.Case (alone (tree_primary.Number n 0))
    ((statement_parts tags).element (label 1 4) [] (sets_x 1)) [] (Some (sets_x 2)))

-- b THEN X := n
abbrev pub branch : Bool → ℕ → Guarded
branch b n = (statement_parts tags).branch (alone (tree_primary.Truth b 0)) (sets_x n)

-- IF a THEN X := 1; ELSIF b THEN X := 2; ELSE X := 3; END_IF
abbrev pub written_if : (a b : Bool) → Act
written_if a b =
    (statement_parts tags).statement (Statement-F.If (branch a 1) (branch b 2 ∷ []) (Some (sets_x 3)))

-- X behind a statement
abbrev pub x_behind : Act → ℤ
x_behind a = number_of (effect_of (pos 100) a before).env (codes "X") 0

-- What statements are in the core, seen by what they do.
pub record WorkedForms : Type 0 where
  -- FOR I := 1 TO 3 DO N := N + 1; END_FOR;
  pub step_of_one :
      left_by (written_for 1 3 None (counts ∷ []) ∷ [])
      ≡ leaves (pos 0) (pos 0) (pos 0) (pos 3) (pos 3) false Onward
  -- FOR I := 1 TO 4 BY 2 DO N := N + 1; END_FOR;
  pub step_of_two :
      left_by (written_for 1 4 (Some (integer 2)) (counts ∷ []) ∷ [])
      ≡ leaves (pos 0) (pos 0) (pos 0) (pos 3) (pos 2) false Onward
  -- of the selectors 0, 1, 4 and 5, two lie in 1..4
  pub range_with_both_ends :
      map (λ n. x_behind (written_case n)) (0 ∷ 1 ∷ 4 ∷ 5 ∷ []) ≡ pos 2 ∷ pos 1 ∷ pos 1 ∷ pos 2 ∷ []
  -- the first condition that holds decides
  pub first_branch_that_holds :
      x_behind (written_if true true) ∷ x_behind (written_if true false)
      ∷ x_behind (written_if false true) ∷ x_behind (written_if false false) ∷ []
      ≡ pos 1 ∷ pos 1 ∷ pos 2 ∷ pos 3 ∷ []

-- What statements do.
pub record WorkedStatements : Type 0 where
  -- FOR I := 5 TO 1 DO N := N + 1; END_FOR;
  pub no_turn :
      left_by (for_i (pos 5) (pos 1) (pos 1) counts ∷ []) ≡ leaves (pos 0) (pos 0) (pos 0) (pos 0) (pos 0) false Onward
  -- FOR I := 32766 TO 32767 DO N := N + 1; END_FOR;
  pub up_to_the_greatest :
      left_by (for_i (pos 32766) (pos 32767) (pos 1) counts ∷ [])
      ≡ leaves (pos 0) (pos 0) (pos 0) (pos 32767) (pos 2) false Onward
  -- FOR I := 3 TO 1 BY -2 DO N := N + I; END_FOR;
  pub downward :
      left_by (for_i (pos 3) (pos 1) (negsuc 1)
      (sets (codes "N") (more_add (tag_value (codes "N")) (plus (tag_value (codes "I"))))) ∷ [])
      ≡ leaves (pos 0) (pos 0) (pos 0) (pos 1) (pos 4) false Onward
  -- FOR I := 1 TO 9 DO N := N + 1; EXIT; END_FOR; X := 1;
  pub exit_leaves_the_loop :
      left_by (for_i (pos 1) (pos 9) (pos 1) (in_order (counts ∷ c.Exit ∷ [])) ∷ sets (codes "X") (literal 1) ∷ [])
      ≡ leaves (pos 1) (pos 0) (pos 0) (pos 1) (pos 1) false Onward
  -- FOR I := 1 TO 9 DO N := N + 1; RETURN; END_FOR; X := 1;
  pub return_leaves_the_body :
      left_by (for_i (pos 1) (pos 9) (pos 1) (in_order (counts ∷ c.Return ∷ [])) ∷ sets (codes "X") (literal 1) ∷ [])
      ≡ leaves (pos 0) (pos 0) (pos 0) (pos 1) (pos 1) false Returns
  -- CASE 4 OF 6..3: X := 1; 1, 3..5: X := 2; ELSE X := 3; END_CASE;
  pub first_label_that_holds :
      left_by (choice (
      guarded (c.Literal (pos 4)) (record { first = (pos 6, pos 3); more = []; body = sets (codes "X") (literal 1) })
      ∷ guarded (c.Literal (pos 4))
      (record { first = (pos 1, pos 1); more = (pos 3, pos 5) ∷ []; body = sets (codes "X") (literal 2) })
      ∷ []) (sets (codes "X") (literal 3)) ∷ [])
      ≡ leaves (pos 2) (pos 0) (pos 0) (pos 0) (pos 0) false Onward
  -- four times T(IN := TRUE, PT := 250); in scans of 100 milliseconds
  pub on_delay :
      left_by (calls_timer yes_literal ∷ calls_timer yes_literal
      ∷ calls_timer yes_literal ∷ calls_timer yes_literal ∷ [])
      ≡ record {
        words =
            pos 0 ∷ pos 0 ∷ pos 0 ∷ pos 0 ∷ pos 0 ∷ pos 2 ∷ pos 2 ∷ pos 2
            ∷ pos 1 ∷ pos 250 ∷ pos 1 ∷ pos 250 ∷ pos 1 ∷ [];
        flag = false;
        ends = Onward;
      }

-- What statements cost.
pub record WorkedCosts : Type 0 where
  -- X := 2 + 3 * 4 - 16#F;
  pub assignment :
      cost_of (sets (codes "X") (more_add (more_add (literal 2)
      (plus (more_multiply (literal 3) (times multiply.Multiply (literal 4))))) (less (literal 15)))) ≡ 8
  -- T(IN := TRUE, PT := 250);
  pub call : cost_of (calls_timer yes_literal) ≡ 5
  -- FOR I := 1 TO 30000 DO FOR J := 1 TO 30000 DO N := N + 1; END_FOR; END_FOR;
  pub nested_loops :
      cost_of (for_i (pos 1) (pos 30000) (pos 1) (c.For (codes "J") kind.Int (pos 1) (pos 30000) (pos 1) counts))
      ≡ 4500090002

-- ---- points

-- an analogue point of 0 to 4,095 counts
abbrev pub analogue : List ℕ → PointKind → Point
analogue name k = record { name = name; kind = k; low = pos 0; high = pos 4095; tolerance = pos 0 }

-- VAR_EXTERNAL PRESS, VALVE : INT; END_VAR VAR TANK : INT; END_VAR
abbrev pub point_tags : List Tag
point_tags =
    point_tag (codes "PRESS") kind.Int
    ∷ point_tag (codes "VALVE") kind.Int
    ∷ variable (codes "TANK") (declared.Simple kind.Int)
    ∷ []

-- inputs PRESS, LEVEL and TANK, of which one is declared
abbrev pub inputs : List Point
inputs = analogue (codes "PRESS") Ai ∷ analogue (codes "LEVEL") Ai ∷ analogue (codes "TANK") Ai ∷ []

-- How points and tags meet.
pub record WorkedPoints : Type 0 where
  -- a tag of VAR isn't set, though an input has its name
  pub inputs_are_set :
      with_inputs inputs point_tags (pos 7 ∷ pos 8 ∷ pos 9 ∷ [])
      ((codes "PRESS", pos 0 ∷ []) ∷ (codes "VALVE", pos 0 ∷ []) ∷ (codes "TANK", pos 5 ∷ []) ∷ [])
      ≡ (codes "PRESS", pos 7 ∷ []) ∷ (codes "VALVE", pos 0 ∷ []) ∷ (codes "TANK", pos 5 ∷ []) ∷ []
  -- outputs of 5000, 7 and -7 are clamped to the range of their point
  pub output_is_clamped :
      map (λ v. output_of point_tags ((codes "VALVE", v ∷ []) ∷ []) (analogue (codes "VALVE") Ao))
      (pos 5000 ∷ pos 7 ∷ negsuc 6 ∷ []) ≡ pos 4095 ∷ pos 7 ∷ pos 0 ∷ []
  -- that of a tag of VAR isn't declared
  pub output_is_not_declared :
      output_of point_tags ((codes "TANK", pos 5 ∷ []) ∷ []) (analogue (codes "TANK") Ao) ≡ pos 0

-- ---- a whole scan

-- PROGRAM P VAR_EXTERNAL PRESS, VALVE : INT; END_VAR VALVE := PRESS; END_PROGRAM
abbrev pub valve_follows : Tree
valve_follows = record {
  name = written_name (codes "P");
  blocks =
      declarations.External (record {
        names = record { first = written_name (codes "PRESS"); more = written_name (codes "VALVE") ∷ [] };
        declared = kind.Int;
      } ∷ [])
      ∷ [];
  statements =
      tree_statement.Assignment (record {
        target = written_name (codes "VALVE");
        index = None;
        value = alone (tree_primary.Tag (written_name (codes "PRESS")));
      })
      ∷ [];
}

-- What a program does in a scan, and what that costs.
pub record WorkedScan : Type 0 where
  -- the input goes from 3 to 7
  pub scan :
      scan_of (analogue (codes "PRESS") Ai ∷ analogue (codes "VALVE") Ao ∷ []) valve_follows
      ((codes "PRESS", pos 3 ∷ []) ∷ (codes "VALVE", pos 3 ∷ []) ∷ []) (pos 7 ∷ []) (pos 100)
      ≡ record {
        env = (codes "PRESS", pos 7 ∷ []) ∷ (codes "VALVE", pos 7 ∷ []) ∷ [];
        flag = false;
        outputs = pos 7 ∷ [];
      }
  pub cost : program_cost valve_follows ≡ 2

-- All of them.
pub record Worked : Type 0 where
  pub values : WorkedValues
  pub operators : WorkedOperators
  pub forms : WorkedForms
  pub statements : WorkedStatements
  pub costs : WorkedCosts
  pub points : WorkedPoints
  pub scan : WorkedScan
