use Rattle.std.proofs.Common.{◌≡◌, ◌++◌, length}
use Rattle.std.specs.List.{flat_map}
use Rattle.cause_effect.specs.Programs.{effect_text}
use Rattle.cause_effect.proofs.program.push_effects.Given as goal

-- what is written, and what is left, is all
abbrev pub invariant-effects : goal.invariant-effects
invariant-effects l =
    l.text.list ++ flat_map (effect_text l.matrix) l.rest ≡ l.fn.text.list ++ flat_map (effect_text l.matrix) l.matrix.effects

abbrev pub decreases-effects : goal.decreases-effects
decreases-effects l = length l.rest
