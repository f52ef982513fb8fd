use Rattle.std.proofs.Common.{◌≡◌, ◌+◌, ◌++◌, arith, codes}
use Rattle.script_maker.specs.Plants.{numbered}
use Rattle.script_maker.proofs.Rows.{text_more}
use Rattle.script_maker.proofs.Programs.{names_whole}
use Rattle.script_maker.proofs.program.push_names.Goals as goal

pub loop-number-preserved : goal.loop-number-preserved
loop-number-preserved c = text_more (λ i. codes ", " ++ numbered c.args.letter.now i) 1 c.loop-number.number (c.loop-number.number + 1) (c.args.text.now.list ++ numbered c.args.letter.now 0) c.loop-number.text.list _ (omega arith) c.loop-number.invariant c.in_ok-push_next.ensures

pub returns : goal.returns
returns c =
    let e : c.loop-number.number ≡ c.args.last = omega (arith, c.loop-number.auto.number-end, c.loop-number-test.false) in
    names_whole c.args.letter.now c.args.last c.loop-number.number c.args.text.now.list c.loop-number.text.list e c.loop-number.invariant
