use Rattle.std.proofs.Common.{◌≡◌, ◌≤◌, ◌∙◌, length, rules, ap, arith}
use Rattle.std.proofs.lemmas.Grind.{common_steps}
use Rattle.soe_log.specs.Recording.{RecorderData, ScanShown, event_limit, note_scan_of, scan_event_limit}
use Rattle.soe_log.specs.Changes.{discrete_points}
use Rattle.soe_log.proofs.Whole.{lost_grows}
use Rattle.soe_log.proofs.Growing.{goes_on}
use Rattle.soe_log.proofs.recorder.Recorder.note_scan.Goals as goal

pub returns-clause-play : goal.returns-clause-play
returns-clause-play c =
    let shown : ScanShown =
    record { time = c.args.dt; inputs = c.args.inputs.now.list; outputs = c.args.outputs.now.list } in
    let is : c.note_points.new.self ≡ note_scan_of c.args.self.now c.args.scan shown =
    first_of (search rules, grind (arith, common_steps)) in
    goes_on c.args.chassis.now c.args.self.now c.note_points.new.self c.args.scan shown is

pub returns-clause-few : goal.returns-clause-few
returns-clause-few c =
    let now = c.args.self.now in
    let shown : ScanShown =
    record { time = c.args.dt; inputs = c.args.inputs.now.list; outputs = c.args.outputs.now.list } in
    let is : c.note_points.new.self ≡ note_scan_of now c.args.scan shown =
    first_of (search rules, grind (arith, common_steps)) in
    let found =
    c.self.invariant.points ∙ ap discrete_points (ap (λ (r : RecorderData). r.points) c.self.view_is) in
    let few : length now.events ≤ event_limit =
    omega (arith, c.self.invariant.few, ap (λ (r : RecorderData). length r.events) c.self.view_is) in
    let few_points : length (discrete_points now.points) ≤ scan_event_limit =
    omega (arith, c.self.invariant.few_points, ap length found) in
    omega (arith, ap (λ (r : RecorderData). r.lost) is, lost_grows now c.args.scan shown few few_points)
