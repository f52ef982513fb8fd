use Rattle.std.proofs.Common.{◌≡◌, pos, length, arith, ap, sym, subst, ◌∙◌, replicate}
use Rattle.std.specs.List.{All}
use Rattle.std.proofs.lemmas.Int.{ints}
use Rattle.std.proofs.lemmas.List.{length-replicate}
use Rattle.std.proofs.lemmas.List.Elements.{All-replicate}
use Rattle.function_blocks.specs.Values.{IsOperand}
use Rattle.scan_machine.proofs.stack.Places.new.Goals as goal

pub invariant_of-result : goal.invariant_of-result
invariant_of-result c =
    let e : c.from.result.items ≡ replicate 1024 (pos 0) = c.from.ensures.0 in
    record {
      count = ap length e ∙ length-replicate 1024 (pos 0);
      operands = subst (λ l. All IsOperand l) (sym e) (All-replicate IsOperand 1024 (pos 0) (omega (arith, ints), omega (arith, ints)));
    }
