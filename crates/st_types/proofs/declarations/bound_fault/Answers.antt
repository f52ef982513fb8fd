use Rattle.std.proofs.Common.{◌++◌, ap, sym, ◌∙◌}
use Rattle.std.specs.Prelude.{int_lt}
use Rattle.tri_base.specs.declared.faults.TypeCause.TheVariants as cause
use Rattle.function_blocks.specs.declared.kinds.Kind.TheVariants as kind
use Rattle.st_types.proofs.Lists.{two_parts}
use Rattle.st_types.proofs.declarations.bound_fault.Goals as goal
use Rattle.st_tree.specs.Typing.Faults.{fault_if, first_of}
use Rattle.st_tree.specs.Integers.{integer_value}
use Rattle.st_tree.specs.Typing.Literals.{range_faults}
use Rattle.st_tree.specs.Typing.Declarations.{bound_faults}

pub returns : goal.returns
returns c =
    let low = c.in-Array.low in
    let high = c.in-Array.high in
    c.soonest.ensures
    ∙ (two_parts (range_faults kind.Dint low ++ range_faults kind.Dint high) (fault_if (int_lt (integer_value high) (integer_value low)) high.place cause.LiteralRange) _ _
    (c.soonest-ends.ensures ∙ two_parts (range_faults kind.Dint low) (range_faults kind.Dint high) _ _ c.range_fault.ensures c.range_fault-2.ensures)
    (c.fault_if.ensures ∙ ap (λ b. first_of (fault_if b high.place cause.LiteralRange)) c.is_below.ensures)
    ∙ ap (λ d. first_of (bound_faults d)) (sym c.in-Array.is))
