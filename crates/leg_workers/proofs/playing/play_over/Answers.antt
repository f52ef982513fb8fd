use Rattle.leg_workers.proofs.Ended.{at_places, plays_over}
use Rattle.leg_workers.proofs.playing.play_over.Goals as goal

pub settle-settled-requires : goal.settle-settled-requires
settle-settled-requires g c =
    at_places g.E.Engine.meaning (record { a = c.args.a; b = c.args.b; c = c.args.c }) _ _ c.work_on_threads-worked.result c.requires
    c.work_on_threads-worked.ensures.a c.work_on_threads-worked.ensures.b c.work_on_threads-worked.ensures.c

pub returns : goal.returns
returns g c =
    plays_over g.E.Engine.meaning (record { a = c.args.a; b = c.args.b; c = c.args.c }) _ _ c.work_on_threads-worked.result c.settle-settled.result
    c.requires c.work_on_threads-worked.ensures.a c.work_on_threads-worked.ensures.b
    c.work_on_threads-worked.ensures.c c.settle-settled.ensures.lists c.settle-settled.ensures.whole
