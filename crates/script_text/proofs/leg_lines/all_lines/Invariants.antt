use Rattle.std.proofs.Common.{◌≡◌, ◌++◌, length}
use Rattle.script_text.specs.Inner.LegParts.{all_said}
use Rattle.script_text.proofs.leg_lines.all_lines.Given as goal

-- what is said so far, and what the moments that are left say
abbrev pub invariant-moments : goal.invariant-moments
invariant-moments l = l.all.items ++ all_said l.leg l.rest ≡ all_said l.leg l.moments

abbrev pub decreases-moments : goal.decreases-moments
decreases-moments l = length l.rest
