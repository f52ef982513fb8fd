use Rattle.std.proofs.Common.{◌≡◌, ◌+◌, sym, arith, ap, subst, length, Err}
use Rattle.cause_effect.specs.Spells.{IsReading}
use Rattle.cause_effect.proofs.Firsts.{accepted, stopped, finishes}
use Rattle.cause_effect.proofs.read.read_bytes.Goals as goal

pub returns-in-Err : goal.returns-in-Err
returns-in-Err c =
    let stop = stopped c.loop-rest.reader c.take.new.self c.args.bytes.now c.loop-rest.rest.now c.cut_line.result.0.now c.cut_line.result.1.now c.content.result.now c.loop-rest.lines c.in-Err.fault c.loop-rest.invariant.read c.cut_line.ensures.lines c.content.ensures c.in-Err.ensures in
    subst (λ f. IsReading c.args.bytes.now (Err f)) (sym c.fault_of.ensures) stop

pub loop-rest-preserved : goal.loop-rest-preserved
loop-rest-preserved c = record {
  read = accepted c.loop-rest.reader c.take.new.self c.args.bytes.now c.loop-rest.rest.now c.cut_line.result.0.now c.cut_line.result.1.now c.content.result.now c.loop-rest.lines (c.loop-rest.lines + 1) c.loop-rest.invariant.read c.cut_line.ensures.lines c.content.ensures c.in_default.ensures (omega arith);
  counted = omega (arith, c.loop-rest.invariant.counted, ap length c.cut_line.ensures.lines);
}

pub returns : goal.returns
returns c =
    let none : length c.loop-rest.rest.now ≡ 0 = grind arith in
    subst (λ r. IsReading c.args.bytes.now r) (sym c.finish.ensures) (finishes c.loop-rest.reader c.args.bytes.now c.loop-rest.rest.now c.loop-rest.lines c.loop-rest.invariant.read none)
