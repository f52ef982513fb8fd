use Rattle.std.proofs.Common.{refl}
use Rattle.script_maker.specs.Generated.{draw}
use Rattle.script_maker.proofs.Scripts.{scan_more}
use Rattle.script_maker.proofs.moments.make_moments.Goals as goal

pub loop-done-init : goal.loop-done-init
unfolding draw
loop-done-init c = record { drawn = refl; made = c.new-moments.ensures.items }

pub loop-done-preserved : goal.loop-done-preserved
loop-done-preserved c =
    let now = scan_more c.args.number c.loop-done.done c.loop-done.drawn c.next_draw-first.result c.next_draw-second.result c.in_ok-moment.moment c.loop-done.moments.items _ c.loop-done.invariant.drawn c.next_draw-first.ensures c.next_draw-second.ensures c.in_ok-moment.ensures c.loop-done.invariant.made c.in-Ok.ensures.items in
    record { drawn = now.0; made = now.1 }
