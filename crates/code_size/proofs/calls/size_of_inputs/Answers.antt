use Rattle.std.proofs.Common.{Option, map, ap, sym, ◌∙◌}
use Rattle.st_tree.specs.declared.statement.Inputs.{Inputs}
use Rattle.st_tree.specs.declared.statement.Input.{Input}
use Rattle.st_tree.specs.Typing.Statements.{inputs_in}
use Rattle.st_core.specs.Codes.{size_of}
use Rattle.st_meaning.specs.Statements.{in_order, set_input, given}
use Rattle.code_size.specs.Limits.{limited}
use Rattle.code_size.proofs.ActSizes.{order_size, none_size}
use Rattle.code_size.proofs.calls.size_of_inputs.Goals as goal

pub returns-in-None : goal.returns-in-None
returns-in-None c = λ ts n type. ap limited (sym (ap (λ (o : Option Inputs). size_of (in_order (map (set_input n type) (map (given ts) (inputs_in o))))) c.in-None.is ∙ none_size))

pub returns-in-Some : goal.returns-in-Some
returns-in-Some c = λ ts n type.
    let f = λ (i : Input). set_input n type (given ts i) in
    let first = c.in-Some.inputs.first in
    let more = λ (l : _). map (set_input n type) (map (given ts) l) in
    c.plus.ensures (size_of (f first)) (size_of (in_order (more c.in-Some.inputs.more))) (c.size_of_input.ensures ts n type) (c.size_of_more.ensures ts n type ∙ ap (λ l. limited (size_of (in_order (more l)))) c.as_slice.ensures)
    ∙ ap limited (sym (ap (λ (o : Option Inputs). size_of (in_order (map (set_input n type) (map (given ts) (inputs_in o))))) c.in-Some.is ∙ order_size (f first) (more c.in-Some.inputs.more)))
