use Rattle.std.proofs.Common.{◌≡◌}
use Rattle.play_report.specs.Marks.{marks_of}
use Rattle.play_report.specs.Tables.{tables_in}
use Rattle.play_report.proofs.marks.mark_list.Given as goal

-- the marks of the inputs so far
abbrev pub invariant-loop-input : goal.invariant-loop-input
invariant-loop-input g l = l.marks.items ≡ marks_of l.input (tables_in l.legs)
