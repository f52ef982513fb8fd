use Rattle.std.proofs.Common.{◌∙◌, ap}
use Rattle.engine_face.specs.Laws.{IsMeaning}
use Rattle.single_controller.specs.Controller.{first_controller}
use Rattle.single_controller.proofs.Scans.{first_stands}
use Rattle.single_controller.proofs.single.start.Goals as goal

pub returns : goal.returns
returns g c =
    let points = g.E.Engine.points c.args.engine.now in
    let m = g.E.Engine.meaning points in
    let v = c.args.script.now.value in
    let lawful : IsMeaning points m = g.met.E.Engine.lawful points c.requires.zeros in
    first_stands m v _ (c.in_ok-processor.ensures ∙ ap (first_controller m) c.requires.program) c.in_ok-new.ensures c.in_ok-new-2.ensures c.in_ok-new-3.ensures c.requires.builds (lawful.first_count v.text c.requires.builds)
