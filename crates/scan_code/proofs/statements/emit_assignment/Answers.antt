use Rattle.std.proofs.Common.{◌≡◌, ◌++◌, OnOk, Option, ap, sym, ◌∙◌, subst}
use Rattle.std.specs.Option.{option_map}
use Rattle.st_tree.specs.declared.expression.Expr.{Expr}
use Rattle.st_core.specs.Codes.{act_code}
use Rattle.st_meaning.specs.Types.{type_of}
use Rattle.st_meaning.specs.Expressions.{settled, elaborated}
use Rattle.st_meaning.specs.Statements.{set_to}
use Rattle.st_sound.specs.Shapes.{shape_in}
use Rattle.scan_code.specs.Inner.Emits.{behind}
use Rattle.scan_code.proofs.Primaries.{on_ok}
use Rattle.scan_code.proofs.StatementCodes.{assign_put, assign_element_put}
use Rattle.scan_code.proofs.statements.emit_assignment.Goals as goal

pub returns-in_ok-emit_expr-in-None : goal.returns-in_ok-emit_expr-in-None
returns-in_ok-emit_expr-in-None c =
    let a = c.args.a.now in
    subst (λ (o : Option Expr). OnOk c.put.result (c.put.new.code.items ≡ c.args.code.now.items ++ act_code (shape_in c.args.layout.now) (set_to a.target.name (type_of c.args.layout.now a.target.name) (option_map (elaborated c.args.layout.now) o) (elaborated c.args.layout.now a.value)) (behind c.args.code.now.items c.args.exit c.args.finish))) (sym c.in-None.is)
    (on_ok c.put.result c.put.ensures (λ e. assign_put c.args.layout.now a.target.name c.find-tag.result (elaborated c.args.layout.now a.value).asked c.word_type.result c.store.result c.args.code.now.items c.emit_expr.new.code.items c.put.new.code.items c.args.exit c.args.finish c.find-tag.ensures.found c.word_type.ensures c.store.ensures c.in_ok-emit_expr-in-None.ensures e))

pub returns-in_ok-emit_expr-in-Some-2 : goal.returns-in_ok-emit_expr-in-Some-2
returns-in_ok-emit_expr-in-Some-2 c =
    let a = c.args.a.now in
    subst (λ (o : Option Expr). OnOk c.put-in-Some.result (c.put-in-Some.new.code.items ≡ c.args.code.now.items ++ act_code (shape_in c.args.layout.now) (set_to a.target.name (type_of c.args.layout.now a.target.name) (option_map (elaborated c.args.layout.now) o) (elaborated c.args.layout.now a.value)) (behind c.args.code.now.items c.args.exit c.args.finish))) (sym c.in-Some.is)
    (on_ok c.put-in-Some.result c.put-in-Some.ensures (λ e. assign_element_put c.args.layout.now a.target.name c.find-tag.result (elaborated c.args.layout.now c.in-Some.index).asked (elaborated c.args.layout.now a.value).asked c.settled-at.result (settled (elaborated c.args.layout.now c.in-Some.index).own) c.element_type.result c.store_at.result c.args.code.now.items c.emit_expr-in-Some.new.code.items c.emit_expr-in-Some-2.new.code.items c.put-in-Some.new.code.items c.args.exit c.args.finish
    c.find-tag.ensures.found (c.settled-at.ensures ∙ ap settled c.type_of_expr.ensures) c.element_type.ensures c.store_at.ensures c.in_ok-emit_expr-in-Some.ensures c.in_ok-emit_expr-in-Some-2.ensures e))
