-- Nobody has to believe what stands here: it serves private functions alone.
use Rattle.std.specs.Prelude.{ℕ, List, filter, map, take}
use Rattle.std.specs.List.{enumerate_from}
use Rattle.tri_base.specs.declared.point.Point.{Point}
use Rattle.soe_log.specs.declared.discrete.DiscretePoint.{DiscretePoint}
use Rattle.soe_log.specs.Changes.{discrete_point, is_discrete_kind}

-- The discrete ones of the first points of a chassis.
abbrev pub points_found : List Point → ℕ → List DiscretePoint
points_found points count =
    map (discrete_point points) (filter (λ s. is_discrete_kind s.1.kind) (take count (enumerate_from 0 points)))
