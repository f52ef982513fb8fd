use Rattle.std.proofs.Common.{◌≡◌, ◌≤◌, ◌<◌, ℤ, get_or, set, length, to_z, of_z, w64, rules, arith, ap, refl, ◌∙◌}
use Rattle.std.proofs.lemmas.Grind.{common_steps}
use Rattle.soe_log.specs.declared.event.Event.{Event}
use Rattle.soe_log.specs.Changes.{discrete_points, value_of}
use Rattle.soe_log.specs.Recording.{RecorderData}
use Rattle.soe_log.specs.Inner.Logged.{LogData, noted}
use Rattle.soe_log.proofs.Walking.{starts, steps, ends_last, ends_log}
use Rattle.soe_log.proofs.recorder.Recorder.note_points.Goals as goal

pub loop-place-init : goal.loop-place-init
loop-place-init c =
    let now = c.args.self.now in
    let view = c.self.view_is in
    let points = ap (λ (r : RecorderData). r.points) view in
    let found = c.self.invariant.points ∙ ap discrete_points points in
    record {
      chassis = points;
      points = found;
      few_points = omega (arith, c.self.invariant.few_points, ap length found);
      time = ap (λ (r : RecorderData). r.time) view;
      walked =
          starts (discrete_points now.points) (value_of c.args.inputs.now.list c.args.outputs.now.list) now.last c.args.scan
          now.time (record { events = now.events; lost = now.lost }) c.self.inside.last.items c.self.inside.log
          (ap (λ (r : RecorderData). r.last) view)
          (λ i. record { events = (view i).events; lost = (view i).lost })
          c.self.invariant.few (c.self.invariant.values ∙ ap length found);
    }

pub loop-place-preserved : goal.loop-place-preserved
loop-place-preserved c =
    let now = c.args.self.now in
    let so_far = c.loop-place.invariant in
    let place = c.loop-place.place in
    let point = c.index-point.result.now in
    let older = c.index-older.result.now in
    let value = c.value_of-value.result in
    let points = discrete_points now.points in
    let within : place < length c.loop-place.self-inside.points.items = grind (arith, common_steps) in
    let time : to_z w64 (of_z w64 c.loop-place.self-inside.time) ≡ now.time =
    first_of (search rules, grind (arith, common_steps)) in
    let event_then : ℤ → Event =
    λ z. record { scan = c.args.scan; time = z; point = point.place; value = value } in
    record {
      chassis = so_far.chassis;
      points = so_far.points;
      few_points = so_far.few_points;
      time = so_far.time;
      walked =
          steps points (value_of c.args.inputs.now.list c.args.outputs.now.list) now.last c.args.scan now.time
          (record { events = now.events; lost = now.lost }) place c.loop-place.self-inside.last.items
          (set c.loop-place.self-inside.last.items place value) c.loop-place.self-inside.log c.note.new.self
          point older value so_far.walked (omega (arith, within, ap length so_far.points))
          (c.index-point.ensures ∙ ap (λ l. get_or l place point) so_far.points) c.index-older.ensures
          c.value_of-value.ensures refl
          (c.note.ensures.log ∙ ap (λ z. noted c.loop-place.self-inside.log older (event_then z)) time)
          c.note.ensures.lost c.note.ensures.few;
    }

pub returns : goal.returns
returns c =
    let now = c.args.self.now in
    let so_far = c.loop-place.invariant in
    let points = discrete_points now.points in
    let value = value_of c.args.inputs.now.list c.args.outputs.now.list in
    let start : LogData = record { events = now.events; lost = now.lost } in
    let same = c.self.invariant.points ∙ ap discrete_points (ap (λ (r : RecorderData). r.points) c.self.view_is) in
    let end : length points ≤ c.loop-place.place =
    omega (arith, c.loop-place-test.false, c.len-place-end.ensures, c.self.inside.points.ok, ap length same) in
    let last =
    ends_last points value now.last c.args.scan now.time start c.loop-place.place c.loop-place.self-inside.last.items
    c.loop-place.self-inside.log so_far.walked end in
    let log =
    ends_log points value now.last c.args.scan now.time start c.loop-place.place c.loop-place.self-inside.last.items
    c.loop-place.self-inside.log so_far.walked end in
    λ i. record {
      points = so_far.chassis i;
      time = so_far.time i;
      last = last i;
      events = (log i).events;
      lost = (log i).lost;
    }
