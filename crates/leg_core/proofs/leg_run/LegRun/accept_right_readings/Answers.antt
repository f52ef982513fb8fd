use Rattle.std.proofs.Common.{◌≡◌, ◌∙◌, List, sym, ap, subst}
use Rattle.tri_base.specs.declared.point.Point.{Point}
use Rattle.leg_laws.specs.declared.place.Place.TheVariants as p
use Rattle.leg_laws.specs.HalfScans.{half_of}
use Rattle.leg_laws.specs.Configs.{LegValue, place_of}
use Rattle.leg_laws.specs.ExchangeSteps.{Takes}
use Rattle.leg_parts.specs.Results.{half_with, voted_of}
use Rattle.leg_core.specs.Inner.Fit.{config_kept}
use Rattle.leg_core.proofs.Stands.{place_kept}
use Rattle.leg_core.proofs.Votes.{voted_and_run}
use Rattle.leg_core.proofs.leg_run.LegRun.accept_right_readings.Goals as goal

pub returns-clause-take : goal.returns-clause-take
returns-clause-take g c =
    let s = c.self.inside in
    let i = c.self.invariant.0 in
    let at : s.place ≡ p.TakeRightReadings = sym (place_kept s.starved s.place _ _ _ _ _) ∙ ap (λ (v : LegValue). place_of v.config) c.self.view_is ∙ c.requires.place in
    let half = subst (λ (ps : List Point). half_with c.run.new.self.state s.verdict (voted_of c.vote_readings.new.voted) c.run.new.own ≡ half_of (g.E.Engine.meaning ps) (voted_of c.vote_readings.new.voted) s.verdict s.state.state) i.program (c.run.ensures.half s.verdict) in
    let new : LegValue = record {
      leg = s.leg;
      points = s.chassis;
      tape = s.tape;
      finished = s.finished;
      given = s.log.given;
      notes = s.log.notes;
      marks = c.vote_readings.new.marks;
      config = config_kept s.starved p.PutLeftResult c.run.new.self.state s.verdict (voted_of c.vote_readings.new.voted) c.run.new.own s.from_left;
    } in
    subst (λ (v : LegValue). Takes (g.E.Engine.meaning v.points) v new c.args.packet) c.self.view_is
    (voted_and_run (g.E.Engine.meaning s.chassis) s.leg s.chassis s.tape s.finished s.log.given s.log.notes s.marks c.vote_readings.new.marks s.starved s.place s.state.state c.run.new.self.state s.verdict (voted_of s.voted) (voted_of c.vote_readings.new.voted) s.result c.run.new.own c.own_face.new.packet s.from_left c.args.packet
    c.if-self.false at (c.own_face.ensures.packet s.chassis i.chassis.few_inputs) c.vote_readings.ensures.voted c.vote_readings.ensures.marks half)
