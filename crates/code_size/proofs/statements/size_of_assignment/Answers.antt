use Rattle.std.proofs.Common.{◌+◌, Option, refl, ap, sym, ◌∙◌}
use Rattle.std.specs.Option.{option_map}
use Rattle.st_tree.specs.declared.expression.Expr.{Expr}
use Rattle.st_core.specs.Costs.{term_cost}
use Rattle.st_core.specs.Codes.{size_of}
use Rattle.st_meaning.specs.Types.{type_of, word_type, element_type}
use Rattle.st_meaning.specs.Expressions.{settled, settled_term, elaborated}
use Rattle.st_meaning.specs.Statements.{set_to}
use Rattle.code_size.specs.Limits.{limited}
use Rattle.code_size.proofs.ActSizes.{assign_size, assign_element_size}
use Rattle.code_size.proofs.statements.size_of_assignment.Goals as goal

pub returns-in-None : goal.returns-in-None
returns-in-None c = λ ts.
    let a = c.args.a.now in let type = type_of ts a.target.name in
    c.plus.ensures (term_cost ((elaborated ts a.value).asked (word_type type))) 1 (c.cost_of_expr-value.ensures ts (word_type type)) refl
    ∙ ap limited (assign_size _ _ _ _ ∙ sym (ap (λ (o : Option Expr). size_of (set_to a.target.name type (option_map (elaborated ts) o) (elaborated ts a.value))) c.in-None.is))

pub returns-in-Some : goal.returns-in-Some
returns-in-Some c = λ ts.
    let a = c.args.a.now in let type = type_of ts a.target.name in
    let index = settled_term (elaborated ts c.in-Some.index) in let value = (elaborated ts a.value).asked (element_type type) in
    c.plus-in-Some-2.ensures (term_cost index + term_cost value) 1 (c.plus-in-Some.ensures (term_cost index) (term_cost value) (c.cost_of_expr.ensures ts (settled (elaborated ts c.in-Some.index).own)) (c.cost_of_expr-value.ensures ts (element_type type))) refl
    ∙ ap limited (assign_element_size _ _ _ _ _ _ ∙ sym (ap (λ (o : Option Expr). size_of (set_to a.target.name type (option_map (elaborated ts) o) (elaborated ts a.value))) c.in-Some.is))
