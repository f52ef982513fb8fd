use Rattle.std.proofs.Common.{◌≡◌, ◌∙◌, ◌+◌, sym, arith, ap, subst, length, Err}
use Rattle.script_text.specs.Spells.{IsReading}
use Rattle.script_text.specs.Inner.Steps.{fault_at}
use Rattle.script_text.proofs.Kept.{reached}
use Rattle.script_text.proofs.LineFacts.{bytes_each}
use Rattle.script_text.proofs.Firsts.{all_read, accepted, stopped, finishes}
use Rattle.script_text.proofs.read.read_bytes.Goals as goal

pub returns-in-Err : goal.returns-in-Err
returns-in-Err c =
    let stop = stopped c.loop-rest.reader c.take.new.self c.args.bytes.now c.loop-rest.rest.now c.cut_line.result.0.now c.cut_line.result.1.now c.content.result.now c.in-Err.fault c.loop-rest.invariant.read c.cut_line.ensures.lines c.content.ensures c.in-Err.ensures.step in
    let line : c.line.result ≡ c.loop-rest.reader.line + 1 = c.line.ensures ∙ c.take.ensures.line in
    subst (λ f. IsReading c.args.bytes.now (Err f)) (sym (c.fault_of.ensures ∙ ap (λ n. fault_at n c.in-Err.fault) line)) stop

pub loop-rest-preserved : goal.loop-rest-preserved
loop-rest-preserved c = record {
  read = accepted c.loop-rest.reader c.take.new.self c.args.bytes.now c.loop-rest.rest.now c.cut_line.result.0.now c.cut_line.result.1.now c.content.result.now c.loop-rest.invariant.read c.cut_line.ensures.lines c.content.ensures c.in_default.ensures.step c.take.ensures.line;
  counted = omega (arith, c.take.ensures.line, c.loop-rest.invariant.counted, ap length c.cut_line.ensures.lines);
}

pub returns : goal.returns
returns c =
    let none : length c.loop-rest.rest.now ≡ 0 = grind arith in
    subst (λ r. IsReading c.args.bytes.now r) (sym c.finish.ensures) (finishes c.loop-rest.reader c.args.bytes.now c.loop-rest.rest.now c.loop-rest.invariant.read none)

pub finish-requires-clause-script : goal.finish-requires-clause-script
finish-requires-clause-script c = λ end.
    let none : length c.loop-rest.rest.now ≡ 0 = grind arith in
    reached c.args.bytes.now c.loop-rest.reader (bytes_each c.args.bytes.now (λ i. omega (arith, c.type_inv.bytes i))) (all_read c.loop-rest.reader c.args.bytes.now c.loop-rest.rest.now c.loop-rest.invariant.read none) end
