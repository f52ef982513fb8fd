-- How many instructions acts have, by their parts.
use Rattle.std.proofs.Common.{◌≡◌, ℕ, ℤ, ◌-ℤ◌, unsigned_abs, true, false, suc, ◌+◌, List, [], ◌∷◌, Option, None, Some, map, arith, refl, ap}
use Rattle.function_blocks.specs.declared.kinds.Kind.{Kind}
use Rattle.function_blocks.specs.declared.blocks.BlockKind.{BlockKind}
use Rattle.st_tree.specs.declared.declaration.DeclaredType.{DeclaredType}
use Rattle.st_tree.specs.declared.statement.BlockCall.{BlockCall}
use Rattle.st_tree.specs.declared.tag.Tag.{Tag}
use Rattle.st_tree.specs.Typing.Statements.{inputs_in}
use Rattle.st_core.specs.Core.{Name, Term, Act}
use Rattle.st_core.specs.Core as c
use Rattle.st_core.specs.Effects.{is_past}
use Rattle.st_core.specs.Costs.{term_cost, cost_of}
use Rattle.st_core.specs.Codes.{size_of, loop_size}
use Rattle.st_core.proofs.Loops.{written_past, written_more}
use Rattle.st_meaning.specs.Types.{type_of}
use Rattle.st_meaning.specs.Expressions.{Elaborated}
use Rattle.st_meaning.specs.Statements.{Guarded, in_order, choice, set_to, Given, set_input, given, block_call}
use Rattle.code_size.specs.Inner.Guards.{guard_size, guards_size}

-- ---- acts in a row

pub order_size : (a : Act) (acts : List Act) → size_of (in_order (a ∷ acts)) ≡ size_of a + size_of (in_order acts)
unfolding in_order size_of
order_size a acts = refl

pub none_size : size_of (in_order []) ≡ 0
unfolding in_order size_of
none_size = refl

-- ---- choices

pub choice_size : (gs : List Guarded) (other : Act) → size_of (choice gs other) ≡ guards_size gs + size_of other
unfolding choice size_of guards_size
choice_size [] other = omega arith
choice_size (g ∷ gs) other = omega (arith, choice_size gs other)

pub guards_more : (g : Guarded) (gs : List Guarded) → guards_size (g ∷ gs) ≡ guard_size g + guards_size gs
unfolding guards_size
guards_more g gs = refl

pub no_guards : guards_size [] ≡ 0
unfolding guards_size
no_guards = refl

pub choice_sizes : (g : Guarded) (gs : List Guarded) (other : Act) → guard_size g + guards_size gs + size_of other ≡ size_of (choice (g ∷ gs) other)
choice_sizes g gs other = omega (arith, choice_size (g ∷ gs) other, guards_more g gs)

-- ---- the other statements

pub skip_size : 0 ≡ size_of c.Skip
unfolding size_of
skip_size = refl

pub exit_size : 1 ≡ size_of c.Exit
unfolding size_of
exit_size = refl

pub return_size : 1 ≡ size_of c.Return
unfolding size_of
return_size = refl

pub loop_none_size : (n : Name) (kind : Kind) (first last step : ℤ) (a : Act) → is_past step last first ≡ true → size_of (c.For n kind first last step a) ≡ 0
unfolding size_of
loop_none_size n kind first last step a past = ap (λ vs. loop_size vs (size_of a)) (written_past (suc (unsigned_abs (last -ℤ first))) step last first past)

pub loop_some_size : (n : Name) (kind : Kind) (first last step : ℤ) (a : Act) → is_past step last first ≡ false → size_of (c.For n kind first last step a) ≡ 2 + size_of a + 1
unfolding size_of
loop_some_size n kind first last step a past = ap (λ vs. loop_size vs (size_of a)) (written_more (unsigned_abs (last -ℤ first)) step last first past)

pub assign_size : (n : Name) (place : ℕ) (kind : Kind) (t : Term) → term_cost t + 1 ≡ size_of (c.Assign n place kind t)
unfolding size_of
assign_size n place kind t = refl

pub assign_element_size : (n : Name) (kind : Kind) (low high : ℤ) (t u : Term) → term_cost t + term_cost u + 1 ≡ size_of (c.AssignElement n kind low high t u)
unfolding size_of
assign_element_size n kind low high t u = refl

pub invoke_size : (a : Act) (b : BlockKind) (n : Name) → size_of a + 1 ≡ size_of (c.Then a (c.Invoke b n))
unfolding size_of
invoke_size a b n = refl

-- ---- what has its size for its cost

pub assignment_same : (n : Name) (type : Option DeclaredType) (index : Option Elaborated) (value : Elaborated) → size_of (set_to n type index value) ≡ cost_of (set_to n type index value)
unfolding cost_of size_of
assignment_same n type None value = refl
assignment_same n type (Some index) value = refl

inputs_same : (n : Name) (type : Option DeclaredType) (inputs : List Given) → size_of (in_order (map (set_input n type) inputs)) ≡ cost_of (in_order (map (set_input n type) inputs))
unfolding in_order cost_of size_of
inputs_same n type [] = refl
inputs_same n type (i ∷ inputs) = omega (arith, inputs_same n type inputs)

pub call_same : (tags : List Tag) (call : BlockCall) → size_of (block_call tags call) ≡ cost_of (block_call tags call)
unfolding cost_of size_of
call_same tags call = omega (arith, inputs_same call.block.name (type_of tags call.block.name) (map (given tags) (inputs_in call.inputs)))
