use Rattle.std.proofs.Common.{◌≡◌, fold, length}
use Rattle.script_text.specs.Inner.LegParts.{with_reading, AllFit}
use Rattle.script_text.proofs.row.Row.take_lines.Given as goal

-- the lines that are left, behind those taken, come to what all come to
abbrev pub invariant-lines : goal.invariant-lines
invariant-lines l = record {
  lines : fold (with_reading l.places l.leg) l.self l.rest ≡ fold (with_reading l.places l.leg) l.fn.self l.lines;
  fits : AllFit l.places (length l.self.readings) l.rest;
  inputs : length l.self.readings ≡ length l.fn.self.readings;
}

abbrev pub decreases-lines : goal.decreases-lines
decreases-lines l = length l.rest
