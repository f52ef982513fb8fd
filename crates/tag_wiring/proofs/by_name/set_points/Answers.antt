use Rattle.std.proofs.Common.{length, ◌∙◌, drop}
use Rattle.tag_wiring.proofs.ByName.{left_more, further, none_left}
use Rattle.tag_wiring.proofs.by_name.set_points.Goals as goal

pub loop-point-preserved : goal.loop-point-preserved
loop-point-preserved c =
    let points = c.args.points.now in
    let inputs = c.args.inputs.now in
    let i = c.loop-point.point-index in
    let p = c.point-item.result in
    let h = c.loop-point.invariant in
    record {
      list = further c.args.layout.now points i p inputs c.loop-point.words.list _ c.set_point-place.new.words.list c.loop-point.place c.set_point-place.result
          c.loop-point-test.true c.point-item.is h.left h.list c.set_point-place.ensures.place c.set_point-place.ensures.list;
      left = left_more points i p c.loop-point.place c.set_point-place.result (length inputs) c.loop-point-test.true c.point-item.is h.left c.set_point-place.ensures.place;
      count = c.set_point-place.ensures.count ∙ h.count;
      spare = c.set_point-place.ensures.spare ∙ h.spare;
    }

pub returns-clause-list : goal.returns-clause-list
returns-clause-list c =
    none_left c.args.layout.now c.args.points.now c.loop-point.point-index (drop c.loop-point.place c.args.inputs.now) c.loop-point.words.list _ c.loop-point-test.false c.loop-point.invariant.list
