-- What a written expression is in the core: its operands joined in pairs, from the left (IEC 61131-3:2013, 7.3.2), each
-- in its type. Brackets say no more than that. Literals take the type of what they stand with (own rule).
use Rattle.std.specs.Prelude.{ℤ, pos, List, [], ◌∷◌, fold, map, Option, None, Some, unwrap_or}
use Rattle.function_blocks.specs.declared.kinds.Kind.{Kind}
use Rattle.function_blocks.specs.declared.kinds.Kind.TheVariants as kind
use Rattle.function_blocks.specs.Values.{number}
use Rattle.st_tree.specs.declared.expression.Operation.{Operation}
use Rattle.st_tree.specs.declared.expression.EqualOperator.{EqualOperator}
use Rattle.st_tree.specs.declared.expression.EqualOperator.TheVariants as equal
use Rattle.st_tree.specs.declared.expression.CompareOperator.{CompareOperator}
use Rattle.st_tree.specs.declared.expression.CompareOperator.TheVariants as compare
use Rattle.st_tree.specs.declared.expression.AddOperator.{AddOperator}
use Rattle.st_tree.specs.declared.expression.AddOperator.TheVariants as add
use Rattle.st_tree.specs.declared.expression.MultiplyOperator.{MultiplyOperator}
use Rattle.st_tree.specs.declared.expression.MultiplyOperator.TheVariants as multiply
use Rattle.st_tree.specs.declared.expression.Function.{Function}
use Rattle.st_tree.specs.declared.expression.Expr.{Expr}
use Rattle.st_tree.specs.declared.expression.Primary.TheOpen.{Primary-F, Unary-F}
use Rattle.st_tree.specs.declared.declaration.DeclaredType.{DeclaredType}
use Rattle.st_tree.specs.declared.tag.Tag.{Tag}
use Rattle.st_tree.specs.ExpressionFolds.{ExpressionSteps, PrimaryPart, UnaryPart, fold_expr}
use Rattle.st_core.specs.Core.{Name, BinaryOperator, Term}
use Rattle.st_core.specs.Core as c
use Rattle.st_meaning.specs.Types.{type_of, word_type, element_type, low_bound, high_bound, block_of, field_place, field_type}
use Rattle.st_meaning.specs.Functions.{operator_of, combined, first_asked, first_own}

-- An expression whose place in the program isn't known yet: its own type, None where it is of literals alone; and the
-- term that it is where a type is asked for.
pub record Elaborated : Type 0 where
  pub own : Option Kind
  pub asked : Kind → Term

-- ---- types

-- Literals that stand where no type is asked for are DINT.
abbrev pub settled : Option Kind → Kind
settled own = unwrap_or own kind.Dint

-- Two operands have the type of that which has one.
abbrev pub common : Option Kind → Option Kind → Option Kind
common None b = b
common (Some k) b = Some k

-- The term that an expression is where no type is asked for.
abbrev pub settled_term : Elaborated → Term
settled_term e = e.asked (settled e.own)

-- ---- what operators join

-- A constant. A literal has no type, and is its number in each.
abbrev pub constant : Option Kind → ℤ → Elaborated
constant own v = record { own = own; asked = λ _. c.Literal v }

-- A tag of one word.
abbrev pub tag : Name → Option DeclaredType → Elaborated
tag n type = record { own = Some (word_type type); asked = λ _. c.Field n 0 (word_type type) }

-- An output of a function block.
abbrev pub block_field : Name → Option DeclaredType → Name → Elaborated
block_field n type field =
    let b = block_of type in
    record { own = Some (field_type b field); asked = λ _. c.Field n (field_place b field) (field_type b field) }

-- An element of an array. The index is an integer of either type, and DINT where it is of literals alone.
abbrev pub array_element : Name → Option DeclaredType → Elaborated → Elaborated
array_element n type index = record {
  own = Some (element_type type);
  asked = λ _. c.Element n (element_type type) (low_bound type) (high_bound type) (settled_term index);
}

-- ---- standard functions (6.6.2.5)

-- An argument has the type that its function is asked for.
abbrev pub argument_asked : Kind → Elaborated → Term
argument_asked asked a = a.asked asked

-- A function has the type that its arguments have in common, as far as they are values of it.
abbrev pub function_own : Function → List Elaborated → Option Kind
function_own f [] = None
function_own f (a ∷ more) = fold (λ own b. common own b.own) (first_own f a.own) more

-- A function with its arguments.
abbrev pub function_term : Function → List Elaborated → Kind → Term
function_term f [] asked = c.Literal (pos 0)
function_term f (a ∷ more) asked =
    combined (operator_of f asked) (a.asked (first_asked f asked)) (map (argument_asked asked) more)

-- The call of a function.
abbrev pub function_call : Function → List Elaborated → Elaborated
function_call f arguments = record { own = function_own f arguments; asked = function_term f arguments }

-- ---- two operands (7.3.2)

-- Operands of an arithmetic operator are computed in the type that is asked for.
abbrev pub arithmetic : (Kind → BinaryOperator) → Elaborated → Elaborated → Elaborated
arithmetic operator a b =
    record { own = common a.own b.own; asked = λ asked. c.Binary (operator asked) (a.asked asked) (b.asked asked) }

-- Operands of AND, OR and XOR are BOOL.
abbrev pub logic : BinaryOperator → Elaborated → Elaborated → Elaborated
logic operator a b =
    record { own = Some kind.Bool; asked = λ _. c.Binary operator (a.asked kind.Bool) (b.asked kind.Bool) }

-- Operands of a comparison have a type in common, DINT for literals alone; it is a BOOL.
abbrev pub compared : BinaryOperator → Elaborated → Elaborated → Elaborated
compared operator a b =
    let k = settled (common a.own b.own) in
    record { own = Some kind.Bool; asked = λ _. c.Binary operator (a.asked k) (b.asked k) }

-- = and <>
abbrev pub equal_operator : EqualOperator → BinaryOperator
equal_operator equal.Equal = c.Equals
equal_operator equal.Unequal = c.Differs

-- <, >, <= and >=
abbrev pub compare_operator : CompareOperator → BinaryOperator
compare_operator compare.Less = c.IsBelow
compare_operator compare.Greater = c.IsAbove
compare_operator compare.AtMost = c.IsAtMost
compare_operator compare.AtLeast = c.IsAtLeast

-- + and -
abbrev pub add_operator : AddOperator → Kind → BinaryOperator
add_operator add.Add k = c.Add k
add_operator add.Subtract k = c.Subtract k

-- *, / and MOD
abbrev pub multiply_operator : MultiplyOperator → Kind → BinaryOperator
multiply_operator multiply.Multiply k = c.Multiply k
multiply_operator multiply.Divide k = c.Divide k
multiply_operator multiply.Modulo k = c.Modulo k

-- ---- one operand more in a row

-- behind = or <>
abbrev pub more_equal : Elaborated → Operation EqualOperator Elaborated → Elaborated
more_equal a x = compared (equal_operator x.operator) a x.operand

-- behind <, >, <= or >=
abbrev pub more_compare : Elaborated → Operation CompareOperator Elaborated → Elaborated
more_compare a x = compared (compare_operator x.operator) a x.operand

-- behind + or -
abbrev pub more_add : Elaborated → Operation AddOperator Elaborated → Elaborated
more_add a x = arithmetic (add_operator x.operator) a x.operand

-- behind *, / or MOD
abbrev pub more_multiply : Elaborated → Operation MultiplyOperator Elaborated → Elaborated
more_multiply a x = arithmetic (multiply_operator x.operator) a x.operand

-- ---- all parts of the grammar

-- What a primary is; brackets are what stands inside.
abbrev pub primary : List Tag → PrimaryPart Elaborated Elaborated (List Elaborated) → Elaborated
primary tags (Primary-F.Number n place) = constant None (pos n)
primary tags (Primary-F.Truth value place) = constant (Some kind.Bool) (number value)
primary tags (Primary-F.Tag n) = tag n.name (type_of tags n.name)
primary tags (Primary-F.Field n field) = block_field n.name (type_of tags n.name) field.name
primary tags (Primary-F.Element n index) = array_element n.name (type_of tags n.name) index
primary tags (Primary-F.Bracketed place inside) = inside
primary tags (Primary-F.Call f place arguments) = function_call f arguments

-- What a primary behind a sign or NOT is. A minus sign is computed in the type that is asked for.
abbrev pub unary : UnaryPart Elaborated Elaborated (List Elaborated) → Elaborated
unary (Unary-F.Plain x) = x
unary (Unary-F.Minus place x) =
    record { own = x.own; asked = λ asked. c.Unary (c.Negate asked) (x.asked asked) }
unary (Unary-F.Not place x) = record { own = Some kind.Bool; asked = λ _. c.Unary c.Not (x.asked kind.Bool) }

-- What each part of an expression is, under these tags: operands in a row group to the left.
abbrev pub expression_parts : List Tag → ExpressionSteps Elaborated Elaborated (List Elaborated)
expression_parts tags = record {
  primary = primary tags;
  unary = unary;
  product = fold more_multiply;
  sum = fold more_add;
  comparison = fold more_compare;
  equality = fold more_equal;
  conjunction = fold (logic c.And);
  exclusive = fold (logic c.Xor);
  disjunction = fold (logic c.Or);
  arguments = λ first more. first ∷ more;
}

-- What a whole expression is, under these tags.
unfoldable pub elaborated : List Tag → Expr → Elaborated
elaborated tags = fold_expr (expression_parts tags)

-- The term of an expression at a place that asks for a type.
abbrev pub term_of : List Tag → Kind → Expr → Term
term_of tags asked e = (elaborated tags e).asked asked

-- The term of an expression at a place that asks for an integer of either type.
abbrev pub integer_of : List Tag → Expr → Term
integer_of tags e = settled_term (elaborated tags e)
