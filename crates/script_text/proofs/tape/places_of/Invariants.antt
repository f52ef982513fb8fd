use Rattle.std.proofs.Common.{◌≡◌, ◌++◌, ◌+◌, ◌≤◌, length}
use Rattle.script_text.specs.Inner.LegParts.{places_from}
use Rattle.script_text.proofs.tape.places_of.Given as goal

-- the places so far, and those of the points that are left
abbrev pub invariant-points : goal.invariant-points
invariant-points l = record {
  places : l.places.items ++ places_from l.count l.rest ≡ places_from 0 l.points;
  count : l.count + length l.rest ≤ length l.points;
}

abbrev pub decreases-points : goal.decreases-points
decreases-points l = length l.rest
