use Rattle.std.proofs.Common.{◌≡◌, ◌++◌, Bool, flat_map, length}
use Rattle.script_lines.specs.Lines.{ended}
use Rattle.script_text.specs.IsScript.{AreLines}
use Rattle.script_writer.specs.Canonical.{line_lines}
use Rattle.script_writer.proofs.script.push_lines.Given as goal

-- the lines so far, and those that are left
abbrev pub invariant-lines : goal.invariant-lines
invariant-lines l = record {
  text : l.text.list ++ flat_map ended (flat_map (line_lines l.points l.renames) l.rest) ≡ l.fn.text.list ++ flat_map ended (flat_map (line_lines l.points l.renames) l.lines);
  are : (downloaded : Bool) × AreLines l.points downloaded l.rest;
}

abbrev pub decreases-lines : goal.decreases-lines
decreases-lines l = length l.rest
