use Rattle.std.proofs.Common.{◌≡◌, ◌++◌, List, ℕ, length}
use Rattle.std.specs.List.{flat_map}
use Rattle.plant_script.specs.FirstRefused.{swap_text}
use Rattle.plant_script.specs.Inner.Blocks.{first_behind}
use Rattle.plant_script.proofs.refused.refused_in.Given as goal

-- the blocks so far build
abbrev pub invariant-lines : goal.invariant-lines
invariant-lines g l =
    let m = g.E.Engine.meaning (g.E.Engine.points l.engine) in
    (more : List (List ℕ)) → first_behind m l.numbers l.seen (flat_map swap_text l.lines ++ more)
    ≡ first_behind m l.numbers l.at (flat_map swap_text l.rest ++ more)

abbrev pub decreases-lines : goal.decreases-lines
decreases-lines g l = length l.rest
