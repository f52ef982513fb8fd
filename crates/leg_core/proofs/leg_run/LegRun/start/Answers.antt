use Rattle.std.proofs.Common.{◌<◌, ◌^◌, ◌∙◌, List, length, refl, ap, arith, rules}
use Rattle.std.proofs.lemmas.Grind.{common_steps}
use Rattle.tri_base.specs.declared.point.Point.{Point}
use Rattle.leg_laws.specs.States.{first_state}
use Rattle.leg_parts.specs.Logs.{LogValue}
use Rattle.leg_core.proofs.Starts.{sound, starts, stocked}
use Rattle.leg_core.proofs.leg_run.LegRun.start.Goals as goal

pub returns : goal.returns
returns g c play e f h =
    let a = c.args in
    let text = g.E.Engine.text_of a.program in
    let state = c.in_ok-state.ensures.state ∙ ap (λ (ps : List Point). first_state (g.E.Engine.meaning ps) text) c.requires.points in
    starts (g.E.Engine.meaning a.chassis) play a.leg a.chassis text a.tape c.in_ok-log.log _ c.in_ok-marks.marks c.in_ok-state.state.state
    e f h c.in_ok-log.ensures refl refl c.in_ok-marks.ensures state

pub invariant_of-result : goal.invariant_of-result
invariant_of-result g c =
    let a = c.args in
    let few : length a.tape.scans < 2 ^ 32 = first_of (search rules, grind (arith, common_steps)) in
    let points = c.points-points in (
      sound a.chassis points.result.now c.in_ok-state.state.points a.tape c.in_ok-marks.marks c.input_count-inputs.result c.in_ok-room.room
          points.ensures.chassis (c.in_ok-state.ensures.points ∙ c.requires.points) c.requires.reads few c.in_ok-marks.ensures points.ensures.value c.input_count-inputs.ensures c.in_ok-room.ensures,
      stocked a.chassis points.result.now a.tape c.input_count-inputs.result c.output_count-outputs.result c.in_ok-room.room c.in_ok-log.log c.in_ok-packets.packets.to_left c.in_ok-packets.packets.to_right
          points.ensures.value c.input_count-inputs.ensures c.output_count-outputs.ensures c.in_ok-room.ensures (ap (λ (l : LogValue). l.rooms) c.in_ok-log.ensures),
    )
