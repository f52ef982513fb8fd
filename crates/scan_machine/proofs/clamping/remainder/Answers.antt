use Rattle.function_blocks.proofs.Dividing.{remainder_is}
use Rattle.scan_machine.proofs.clamping.remainder.Goals as goal

pub returns-else-divisor-eq0-clause-value : goal.returns-else-divisor-eq0-clause-value
returns-else-divisor-eq0-clause-value c =
    remainder_is c.args.kind c.args.dividend c.args.divisor c.requires.dividend c.requires.divisor c.if-divisor-eq0.false c.exact.result c.exact.ensures.value
