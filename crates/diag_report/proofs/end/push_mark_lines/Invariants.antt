use Rattle.std.proofs.Common.{◌≡◌, ◌++◌, take}
use Rattle.std.specs.List.{flat_map}
use Rattle.diag_report.specs.EndPart.{mark_line}
use Rattle.diag_report.proofs.end.push_mark_lines.Given as goal

-- the marks so far
abbrev pub invariant-loop-mark : goal.invariant-loop-mark
invariant-loop-mark l = l.text.list ≡ l.fn.text.list ++ flat_map (mark_line l.points) (take l.mark-index l.marks)
