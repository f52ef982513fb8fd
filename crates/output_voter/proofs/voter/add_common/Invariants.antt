use Rattle.std.proofs.Common.{◌≡◌, ◌≤◌, ◌+◌, ◌++◌, length, drop, ℤ, List}
use Rattle.std.specs.Prelude.{Option}
use Rattle.tri_base.specs.declared.leg.Triple.{Triple}
use Rattle.chassis.specs.Points.{outputs_of}
use Rattle.output_voter.specs.CommonDrives.{common_from}
use Rattle.output_voter.specs.Inner.Slices.{slice_in}
use Rattle.output_voter.proofs.voter.add_common.Given as goal

-- the field outputs so far and those of the points that are left
abbrev pub invariant-loop-point : goal.invariant-loop-point
invariant-loop-point l =
    let drives : Triple (Option (List ℤ)) = record { a = slice_in l.a; b = slice_in l.b; c = slice_in l.c } in
    record {
      list : l.out.list ++ common_from (outputs_of (drop l.point-index l.points)) l.place drives
          ≡ l.fn.out.list ++ common_from (outputs_of l.points) 0 drives;
      room : l.out.spare + length (outputs_of l.points) ≡ l.fn.out.spare + length (outputs_of (drop l.point-index l.points));
      place : l.place ≤ l.point-index;
    }
