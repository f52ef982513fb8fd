use Rattle.std.proofs.Common.{◌≡◌, ◌++◌, flat_map, length}
use Rattle.script_writer.specs.Inner.Adding.{MomentsAre, moment_text}
use Rattle.script_writer.proofs.script.push_moments.Given as goal

-- the moments so far, and those that are left
abbrev pub invariant-moments : goal.invariant-moments
invariant-moments l = record {
  text : l.text.list ++ flat_map (moment_text l.points) l.rest ≡ l.fn.text.list ++ flat_map (moment_text l.points) l.moments;
  are : MomentsAre l.points l.rest;
}

abbrev pub decreases-moments : goal.decreases-moments
decreases-moments l = length l.rest
