use Rattle.std.proofs.Common.{◌≡◌, ◌*◌, map}
use Rattle.std.specs.List.{range_with_len}
use Rattle.script_maker.specs.Generated.{draw, generated_moment}
use Rattle.script_maker.proofs.moments.make_moments.Given as goal

abbrev pub invariant-loop-done : goal.invariant-loop-done
invariant-loop-done l = record {
  drawn : l.drawn ≡ draw l.number (2 * l.done);
  made : l.moments.items ≡ map (generated_moment l.number) (range_with_len 0 l.done);
}
