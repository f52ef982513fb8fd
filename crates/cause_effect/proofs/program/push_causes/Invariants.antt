use Rattle.std.proofs.Common.{◌≡◌, ◌++◌, take}
use Rattle.std.specs.List.{flat_map}
use Rattle.cause_effect.specs.Inner.Terms.{link_term}
use Rattle.cause_effect.proofs.program.push_causes.Given as goal

-- the causes of the links so far
abbrev pub invariant-loop-link : goal.invariant-loop-link
invariant-loop-link l =
    l.text.list ≡ l.fn.text.list ++ flat_map (link_term l.matrix l.effect) (take l.link-index l.links)
