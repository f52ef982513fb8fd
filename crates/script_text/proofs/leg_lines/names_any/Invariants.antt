use Rattle.std.proofs.Common.{◌≡◌, length}
use Rattle.script_text.specs.Inner.LegParts.{some_line}
use Rattle.script_text.proofs.leg_lines.names_any.Given as goal

-- no line so far says anything
abbrev pub invariant-lines : goal.invariant-lines
invariant-lines l = some_line l.leg l.rest ≡ some_line l.leg l.lines

abbrev pub decreases-lines : goal.decreases-lines
decreases-lines l = length l.rest
