use Rattle.output_voter.proofs.Within.{added_in}
use Rattle.output_voter.proofs.voter.vote_drives.Goals as goal

pub returns-clause-within : goal.returns-clause-within
returns-clause-within c =
    added_in c.args.chassis.now _ _ _ _ c.points-points.ensures.chassis.fit c.points-points.ensures.holds_zero
    c.points-points.ensures.value c.clear.ensures.list c.add_common.ensures.list
