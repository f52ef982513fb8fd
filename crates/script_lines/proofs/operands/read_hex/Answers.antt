use Rattle.std.proofs.Common.{◌∙◌, sym}
use Rattle.script_lines.proofs.Digits.{pair_step}
use Rattle.script_lines.proofs.operands.read_hex.Goals as goal

pub pairs-preserved : goal.pairs-preserved
pairs-preserved c = pair_step _ _ c.pairs.rest.now _ c.in-len2-up.len_at_least (sym c.read_pair.ensures ∙ c.in-Some.is) (c.in_ok-add_byte.ensures.added) ∙ c.pairs.invariant
