use Rattle.std.proofs.Common.{◌≡◌, arith, ap, ◌∙◌, ◌++◌}
use Rattle.script_maker.specs.Inner.Pieces.{repeated}
use Rattle.script_maker.proofs.Programs.{no_letters, letters_more}
use Rattle.script_maker.proofs.program.push_letters.Goals as goal

pub loop-done-init : goal.loop-done-init
loop-done-init c = no_letters c.args.letter c.args.text.now.list

pub loop-done-preserved : goal.loop-done-preserved
loop-done-preserved c = letters_more c.args.letter c.loop-done.done c.args.text.now.list c.loop-done.text.list _ c.loop-done.invariant c.in_ok-push_bytes.ensures.list

pub returns : goal.returns
returns c =
    let e : c.loop-done.done ≡ c.args.count = omega (arith, c.loop-done.auto.done-end, c.loop-done-test.false) in
    c.loop-done.invariant ∙ ap (λ n. c.args.text.now.list ++ repeated c.args.letter n) e
