use Rattle.std.proofs.Common.{◌≡◌, length}
use Rattle.plant_script.specs.FirstRefused.{first_refused_in, swap_texts, with_lines}
use Rattle.plant_script.specs.Inner.Blocks.{first_behind}
use Rattle.plant_script.proofs.refused.refused_swap.Given as goal

-- the blocks so far build
abbrev pub invariant-moments : goal.invariant-moments
invariant-moments g l =
    let m = g.E.Engine.meaning (g.E.Engine.points l.engine) in
    first_refused_in m (with_lines l.numbers (swap_texts l.moments)) ≡ first_behind m l.numbers l.seen (swap_texts l.rest)

abbrev pub decreases-moments : goal.decreases-moments
decreases-moments g l = length l.rest
