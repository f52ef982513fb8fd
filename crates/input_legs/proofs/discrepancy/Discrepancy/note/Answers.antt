use Rattle.std.proofs.Common.{◌≡◌, ◌∙◌, List, ℕ, Option, sym, ap, rules, map, arith}
use Rattle.std.proofs.lemmas.Grind.{common_steps}
use Rattle.tri_base.specs.declared.leg.Triple.{Triple}
use Rattle.chassis.specs.Points.{inputs_of}
use Rattle.leg_packet.specs.Readings.{Readings}
use Rattle.input_legs.specs.Marks.{counted_from, note_of}
use Rattle.input_legs.specs.Inner.Alike.{agreed_row}
use Rattle.input_legs.proofs.Common.{counted_all}
use Rattle.input_legs.proofs.discrepancy.Discrepancy.note.Goals as goal

pub returns-in-Some-clause-counted : goal.returns-in-Some-clause-counted
returns-in-Some-clause-counted c =
    let points = c.args.chassis.now in
    let all = counted_all points (record { time = c.in-Some.field-0.dt; values = c.in-Some.field-0.values.now }) c.args.self.now
    c.points-points.ensures.chassis.fit c.in-Some.ensures.within c.requires in
    let olds : c.as_mut_slice.result.now ≡ c.args.self.now = search rules in
    let rows : c.agree_on.new.rows ≡ note_of points (record { a = c.args.a.now; b = c.args.b.now; c = c.args.c.now }) c.args.self.now =
    c.agree_on.ensures.rows ∙ (ap (λ (r : List (Triple ℕ)). map agreed_row r) olds ∙ (sym all
    ∙ ap (λ (rs : Triple (Option Readings)). counted_from (inputs_of points) 0 rs c.args.self.now) (sym c.in-Some.ensures.all))) in
    first_of (search (rules, rows), grind (arith, common_steps, rows))
