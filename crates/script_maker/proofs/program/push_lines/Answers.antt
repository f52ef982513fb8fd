use Rattle.std.proofs.Common.{◌≡◌, arith}
use Rattle.script_lines.specs.Lines.{ended}
use Rattle.script_maker.specs.Programs.{body_line}
use Rattle.script_maker.proofs.Rows.{text_more}
use Rattle.script_maker.proofs.Programs.{lines_whole}
use Rattle.script_maker.proofs.program.push_lines.Goals as goal

pub loop-number-preserved : goal.loop-number-preserved
loop-number-preserved c = text_more (λ i. ended (body_line c.args.before.now c.args.between.now c.args.behind.now i)) 0 c.loop-number.number c.loop-number.number c.args.text.now.list c.loop-number.text.list _ (omega arith) c.loop-number.invariant c.in_ok-push_line.ensures

pub returns : goal.returns
returns c =
    let e : c.loop-number.number ≡ 128 = omega (arith, c.loop-number.auto.number-end, c.loop-number-test.false) in
    lines_whole c.args.before.now c.args.between.now c.args.behind.now c.loop-number.number c.args.text.now.list c.loop-number.text.list e c.loop-number.invariant
