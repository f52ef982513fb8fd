use Rattle.std.proofs.Common.{◌∙◌, List, Option, ℕ, sym, subst, ap}
use Rattle.tri_base.specs.declared.leg.Leg.{Leg}
use Rattle.tri_base.specs.declared.leg.Triple.{Triple}
use Rattle.leg_laws.specs.Configs.{LegValue}
use Rattle.leg_laws.specs.Exchanges.{Exchange}
use Rattle.leg_laws.specs.ExchangeSteps.{exchange_at_start}
use Rattle.leg_laws.specs.Plays.{play_of}
use Rattle.leg_laws.proofs.Reached.{equal_tapes}
use Rattle.lockstep.specs.Starting.{AreAtStart, no_packets}
use Rattle.step_play.specs.Inner.Played.{StepsAll}
use Rattle.step_play.proofs.run.step_legs.Goals as goal

pub start-lockstep-requires : goal.start-lockstep-requires
start-lockstep-requires g c =
    let v = c.args.script.now.value in
    record { meaning = g.E.Engine.meaning v.points; play = play_of v; scans = equal_tapes v; are = c.requires.are }

pub returns : goal.returns
returns g c =
    let m = g.E.Engine.meaning in
    let v = c.args.script.now.value in
    let start = c.start-lockstep.ensures ∙ ap (λ (legs : Triple LegValue). record { legs = legs; boxes = no_packets }) c.requires.are in
    let end = c.step_all-stuck.new.lockstep in
    record {
      end = end;
      legs_are = c.finish.ensures;
      steps = subst (λ (w : Exchange). StepsAll m w end v.schedule c.step_all-stuck.result) start
          (subst (λ (letters : List Leg). StepsAll m c.start-lockstep.result end letters c.step_all-stuck.result) c.schedule.ensures c.step_all-stuck.ensures);
    }
