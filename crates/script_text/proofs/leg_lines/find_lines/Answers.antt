use Rattle.std.proofs.Common.{◌∙◌, ◌<◌, sym, arith}
use Rattle.script_text.proofs.Tapes.{lines_before, lines_found, lines_other}
use Rattle.script_text.proofs.leg_lines.find_lines.Goals as goal

pub returns-then-count-eq0 : goal.returns-then-count-eq0
returns-then-count-eq0 c = lines_before c.args.scan c.args.lines.now c.lines_up_to-count.result c.lines_up_to-count.ensures.bound c.lines_up_to-count.ensures.parts c.if-count-eq0.true

pub returns-then-scan : goal.returns-then-scan
returns-then-scan c =
    let some : 0 < c.lines_up_to-count.result = grind (arith, c.if-count-eq0.false) in
    lines_found c.args.scan c.args.lines.now c.lines_up_to-count.result c.index-lines-count.result c.lines_up_to-count.ensures.bound c.lines_up_to-count.ensures.parts some c.index-lines-count.is (sym c.scan.ensures ∙ c.if-scan.true)

pub returns-else-scan : goal.returns-else-scan
returns-else-scan c =
    let some : 0 < c.lines_up_to-count.result = grind (arith, c.if-count-eq0.false) in
    lines_other c.args.scan c.args.lines.now c.lines_up_to-count.result c.index-lines-count.result c.lines_up_to-count.ensures.bound c.lines_up_to-count.ensures.parts some c.index-lines-count.is (λ e. c.if-scan.false (c.scan.ensures ∙ e))
