use Rattle.std.proofs.Common.{◌≡◌, fold, take}
use Rattle.script_text.specs.Inner.LegParts.{with_said, nothing_said}
use Rattle.script_text.proofs.leg_lines.lines_for.Given as goal

abbrev pub invariant-loop-line : goal.invariant-loop-line
invariant-loop-line l = l.lines ≡ fold (with_said l.leg) (nothing_said l.moment.scan l.moment.renames) (take l.line-index l.moment.lines)
