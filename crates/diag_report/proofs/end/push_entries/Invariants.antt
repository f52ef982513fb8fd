use Rattle.std.proofs.Common.{◌≡◌, ◌++◌, take}
use Rattle.std.specs.List.{flat_map}
use Rattle.diag_report.specs.EndPart.{entry_line}
use Rattle.diag_report.proofs.end.push_entries.Given as goal

-- the entries so far
abbrev pub invariant-loop-place : goal.invariant-loop-place
invariant-loop-place l = l.text.list ≡ l.fn.text.list ++ flat_map entry_line (take l.place l.history)
