-- There is one field output for each output point.
use Rattle.std.proofs.Common.{◌≡◌, ℕ, ℤ, ◌+◌, List, [], ◌∷◌, length, suc, refl, ap}
use Rattle.std.specs.Prelude.{Option}
use Rattle.tri_base.specs.declared.leg.Triple.{Triple}
use Rattle.tri_base.specs.declared.point.Point.{Point}
use Rattle.output_voter.specs.CommonDrives.{common_from}

pub length_common_from : (points : List Point) (place : ℕ) (drives : Triple (Option (List ℤ)))
    → length (common_from points place drives) ≡ length points
length_common_from [] place drives = refl
length_common_from (point ∷ points) place drives = ap (λ n. suc n) (length_common_from points (place + 1) drives)
