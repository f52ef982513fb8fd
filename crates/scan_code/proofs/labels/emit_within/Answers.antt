use Rattle.std.proofs.Common.{ap, ◌∙◌, ◌++◌, [], ◌∷◌}
use Rattle.st_core.specs.Core as core
use Rattle.st_core.specs.Codes.{term_code}
use Rattle.st_meaning.specs.Expressions.{settled, elaborated, integer_of}
use Rattle.st_meaning.specs.Statements.{range_of}
use Rattle.st_sound.specs.Shapes.{shape_in}
use Rattle.scan_code.proofs.RowCodes.{unary_code}
use Rattle.scan_code.proofs.Primaries.{on_ok}
use Rattle.scan_code.proofs.labels.emit_within.Goals as goal

pub returns : goal.returns
returns c =
    let range = range_of c.args.label in
    on_ok c.put.result c.put.ensures (λ e. unary_code (shape_in c.args.layout.now) (core.Within range.0 range.1) (integer_of c.args.layout.now c.args.selector.now) c.args.code.now.items c.emit_expr.new.code.items c.put.new.code.items
    (c.in_ok-emit_expr.ensures ∙ ap (λ k. c.args.code.now.items ++ term_code (shape_in c.args.layout.now) ((elaborated c.args.layout.now c.args.selector.now).asked k)) (c.settled-at.ensures ∙ ap settled c.type_of_expr.ensures))
    (e ∙ ap (λ x. c.emit_expr.new.code.items ++ x ∷ []) c.within_instr.ensures))
