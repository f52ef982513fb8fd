use Rattle.std.proofs.Common.{◌∙◌, List, sym, subst}
use Rattle.tri_base.specs.declared.point.Point.{Point}
use Rattle.script_writer.specs.Inner.Adding.{MomentsAre}
use Rattle.script_writer.proofs.Pieces.{moments_are}
use Rattle.script_writer.proofs.script.push_tail.Goals as goal

pub push_moments-requires : goal.push_moments-requires
push_moments-requires c =
    let v = c.args.script.now.value in
    subst (MomentsAre c.points.result.now) (sym c.moments.ensures.value)
    (subst (λ (ps : List Point). MomentsAre ps v.moments) (sym (c.points.ensures.value ∙ c.chassis.ensures)) (moments_are v.points 0 v.scans v.moments c.moments.ensures.script.moments))
