use Rattle.std.proofs.Common.{◌≡◌, ◌++◌, map, flat_map, take}
use Rattle.script_lines.specs.Lines.{ended}
use Rattle.script_writer.specs.Canonical.{rename_line}
use Rattle.script_writer.proofs.line.push_renames.Given as goal

abbrev pub invariant-loop-names : goal.invariant-loop-names
invariant-loop-names l = l.text.list ≡ l.fn.text.list ++ flat_map ended (map rename_line (take l.names-index l.renames))
