use Rattle.std.proofs.Common.{◌<◌, arith}
use Rattle.script_text.proofs.Tapes.{row_before, row_found}
use Rattle.script_text.proofs.row.find_row.Goals as goal

pub returns-then-count-eq0 : goal.returns-then-count-eq0
returns-then-count-eq0 c = row_before c.args.start.now c.args.scan c.args.rows.now c.rows_up_to-count.result c.rows_up_to-count.ensures.bound c.rows_up_to-count.ensures.parts c.if-count-eq0.true

pub returns-else-count-eq0 : goal.returns-else-count-eq0
returns-else-count-eq0 c =
    let some : 0 < c.rows_up_to-count.result = grind (arith, c.if-count-eq0.false) in
    row_found c.args.start.now c.args.scan c.args.rows.now c.rows_up_to-count.result c.index-rows-count.result c.rows_up_to-count.ensures.bound c.rows_up_to-count.ensures.parts some c.index-rows-count.is
