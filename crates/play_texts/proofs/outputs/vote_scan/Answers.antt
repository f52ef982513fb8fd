use Rattle.play_texts.proofs.Counts.{outputs_are_counts}
use Rattle.play_texts.proofs.outputs.vote_scan.Goals as goal

pub returns-clause-counts : goal.returns-clause-counts
returns-clause-counts g c =
    outputs_are_counts c.args.chassis.now c.vote_outputs.new.out.list c.points-points.ensures.chassis.fit
    c.vote_outputs.ensures.within
