use Rattle.std.proofs.Common.{◌∙◌, sym}
use Rattle.worker_play.proofs.Ended.{ended}
use Rattle.worker_play.proofs.play.play_script.Goals as goal

pub returns : goal.returns
returns g c =
    let v = c.args.script.now.value in
    ended (g.E.Engine.meaning) v c.in_ok-legs.legs c.in_ok-legs-2.legs c.in_ok-legs-2._settled c.in_ok-legs.ensures
    c.in_ok-legs-2.ensures (sym c.some_leg_starves.ensures ∙ c.if-some_leg_starves.false)
