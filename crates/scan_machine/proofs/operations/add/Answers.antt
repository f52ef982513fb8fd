use Rattle.std.proofs.Common.{◌+ℤ◌, arith}
use Rattle.std.proofs.lemmas.Int.{ints}
use Rattle.scan_machine.specs.declared.instructions.Instr.TheVariants as i
use Rattle.scan_machine.specs.Inner.Waiting.{waiting}
use Rattle.scan_machine.proofs.Doing.{exact_on_top, two_computed}
use Rattle.scan_machine.proofs.operations.add.Goals as goal

pub returns-clause-value : goal.returns-clause-value
returns-clause-value c =
    let p = c.pop_two-x in let put = c.push_computed in
    let x = p.result.0 in let y = p.result.1 in let rest = waiting c.args.places.now p.new.depth in
    let first = p.ensures.first in let second = p.ensures.second in
    two_computed (i.Add c.args.kind) _ rest _ x y c.exact.result put.result p.ensures.top
    (exact_on_top c.args.kind (x +ℤ y) _ c.exact.result rest c.exact.ensures.value (omega (arith, ints)))
    put.ensures.stack put.ensures.flag
