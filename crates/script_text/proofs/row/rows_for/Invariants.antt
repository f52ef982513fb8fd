use Rattle.std.proofs.Common.{◌≡◌, ◌++◌, length}
use Rattle.script_text.specs.Inner.LegParts.{rows_from, MomentsFit}
use Rattle.script_text.proofs.row.rows_for.Given as goal

-- the rows so far, and those of the moments that are left
abbrev pub invariant-moments : goal.invariant-moments
invariant-moments l = record {
  rows : l.rows.items ++ rows_from l.places l.leg l.row l.rest ≡ rows_from l.places l.leg l.start l.moments;
  fits : MomentsFit l.places (length l.row.readings) l.rest;
}

abbrev pub decreases-moments : goal.decreases-moments
decreases-moments l = length l.rest
