use Rattle.std.proofs.Common.{◌≡◌, ◌++◌, length}
use Rattle.std.specs.List.{flat_map}
use Rattle.cause_effect.specs.Programs.{declaration_line}
use Rattle.cause_effect.proofs.program.push_cause_names.Given as goal

-- what is written, and what is left, is all
abbrev pub invariant-causes : goal.invariant-causes
invariant-causes l =
    l.text.list ++ flat_map (λ c. declaration_line c.0) l.rest ≡ l.fn.text.list ++ flat_map (λ c. declaration_line c.0) l.matrix.causes

abbrev pub decreases-causes : goal.decreases-causes
decreases-causes l = length l.rest
