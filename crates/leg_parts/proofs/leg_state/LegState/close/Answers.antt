use Rattle.std.proofs.Common.{◌∙◌, Ok, Option, sym, ap, subst, arith}
use Rattle.re_education.specs.declared.progress.Progress.{Progress}
use Rattle.re_education.specs.Learning.{Lesson, learn_of}
use Rattle.re_education.specs.Learned.{Learns}
use Rattle.leg_laws.specs.States.{Run, Running, Learning}
use Rattle.leg_parts.specs.Results.{StateValue}
use Rattle.leg_parts.specs.Inner.Kept.{state_kept}
use Rattle.leg_parts.specs.Inner.Programs.{TellsProgram}
use Rattle.leg_parts.specs.declared.leg_state.Mode.{Mode}
use Rattle.leg_parts.proofs.Closings.{agrees_closes, closes_before, closes_over, learned_closes, minority_closes, no_vote_closes, ready_closes, ready_whole, rejected_closes, waiting_closes}
use Rattle.leg_parts.proofs.leg_state.LegState.close.Goals as goal

pub returns-in_default-clause-closed : goal.returns-in_default-clause-closed
returns-in_default-clause-closed g c =
    let s = c.self.inside in
    let a = c.args in
    let m = ap (λ (v : StateValue). g.E.Engine.meaning v.points) (sym c.self.view_is) in
    let before = ap (λ (v : StateValue). v.state) (sym c.self.view_is) ∙ ap (λ (mode : Mode). state_kept mode s.run s.learner.lesson) c.in-Learning.is in
    let after = ap (λ (mode : Mode). state_kept mode s.run c.learn.new.self.lesson) c.in-Learning.is in
    let learns = subst (λ (p : Progress). Learns (learn_of s.learner.lesson a.left.now a.right.now) (Ok p) c.learn.new.self.lesson) c.in-Ready.is c.in_ok-learn-in-Learning.ensures.learned in
    let told = subst (λ (o : Option Run). TellsProgram (g.E.Engine.meaning (g.E.Engine.points s.engine)) c.in-Ready.image o) c.in_default.is c.in_ok-run-in-Ready.ensures.program in
    closes_over _ _ a.leg a.own.now a.left.now a.right.now _ _ _ _ _ _ m before after c.resting-in_default.ensures
    (rejected_closes (g.E.Engine.meaning (g.E.Engine.points s.engine)) a.leg a.own.now a.left.now a.right.now s.learner.lesson c.learn.new.self.lesson c.in-Ready.image learns told)

pub returns-in-Minority-clause-closed : goal.returns-in-Minority-clause-closed
returns-in-Minority-clause-closed g c =
    let s = c.self.inside in
    let a = c.args in
    let m = ap (λ (v : StateValue). g.E.Engine.meaning v.points) (sym c.self.view_is) in
    let before = ap (λ (v : StateValue). v.state) (sym c.self.view_is) ∙ ap (λ (mode : Mode). state_kept mode s.run s.learner.lesson) c.in-Running.is in
    let after = ap (λ (o : Option Lesson). Learning o) c.forget.ensures.lesson in
    closes_over _ _ a.leg a.own.now a.left.now a.right.now _ _ _ _ _ _ m before after c.resting.ensures
    (minority_closes (g.E.Engine.meaning (g.E.Engine.points s.engine)) a.leg a.own.now a.left.now a.right.now s.run (sym c.judge.ensures ∙ c.in-Minority.is))

pub returns-in-Agrees-clause-closed : goal.returns-in-Agrees-clause-closed
returns-in-Agrees-clause-closed g c =
    let s = c.self.inside in
    let a = c.args in
    let m = ap (λ (v : StateValue). g.E.Engine.meaning v.points) (sym c.self.view_is) in
    let before = ap (λ (v : StateValue). v.state) (sym c.self.view_is) ∙ ap (λ (mode : Mode). state_kept mode s.run s.learner.lesson) c.in-Running.is in
    let after = ap (λ (mode : Mode). state_kept mode c.turn_on.new.self s.learner.lesson) c.in-Running.is ∙ ap (λ (run : Run). Running run) c.turn_on.ensures.run in
    let closing = c.driving.ensures ∙ ap (λ judged. record { judged = judged; drives = _ }) c.agreed.ensures in
    closes_over _ _ a.leg a.own.now a.left.now a.right.now _ _ _ _ _ _ m before after closing
    (agrees_closes (g.E.Engine.meaning (g.E.Engine.points s.engine)) a.leg a.own.now a.left.now a.right.now s.run c.in-Agrees.accused (sym c.judge.ensures ∙ c.in-Agrees.is))

pub returns-in-NoVote-clause-closed : goal.returns-in-NoVote-clause-closed
returns-in-NoVote-clause-closed g c =
    let s = c.self.inside in
    let a = c.args in
    let m = ap (λ (v : StateValue). g.E.Engine.meaning v.points) (sym c.self.view_is) in
    let before = ap (λ (v : StateValue). v.state) (sym c.self.view_is) ∙ ap (λ (mode : Mode). state_kept mode s.run s.learner.lesson) c.in-Running.is in
    let after = ap (λ (mode : Mode). state_kept mode c.turn_on-in-NoVote.new.self s.learner.lesson) c.in-Running.is ∙ ap (λ (run : Run). Running run) c.turn_on-in-NoVote.ensures.run in
    closes_over _ _ a.leg a.own.now a.left.now a.right.now _ _ _ _ _ _ m before after c.driving-in-NoVote.ensures
    (no_vote_closes (g.E.Engine.meaning (g.E.Engine.points s.engine)) a.leg a.own.now a.left.now a.right.now s.run (sym c.judge.ensures ∙ c.in-NoVote.is))

pub returns-in-Waiting-clause-closed : goal.returns-in-Waiting-clause-closed
returns-in-Waiting-clause-closed g c =
    let s = c.self.inside in
    let a = c.args in
    let m = ap (λ (v : StateValue). g.E.Engine.meaning v.points) (sym c.self.view_is) in
    let before = ap (λ (v : StateValue). v.state) (sym c.self.view_is) ∙ ap (λ (mode : Mode). state_kept mode s.run s.learner.lesson) c.in-Learning.is in
    let after = ap (λ (mode : Mode). state_kept mode s.run c.learn.new.self.lesson) c.in-Learning.is in
    let learns = subst (λ (p : Progress). Learns (learn_of s.learner.lesson a.left.now a.right.now) (Ok p) c.learn.new.self.lesson) c.in-Waiting.is c.in_ok-learn-in-Learning.ensures.learned in
    closes_over _ _ a.leg a.own.now a.left.now a.right.now _ _ _ _ _ _ m before after c.resting-in-Waiting.ensures
    (waiting_closes (g.E.Engine.meaning (g.E.Engine.points s.engine)) a.leg a.own.now a.left.now a.right.now s.learner.lesson c.learn.new.self.lesson learns)

pub returns-in-Learned-clause-closed : goal.returns-in-Learned-clause-closed
returns-in-Learned-clause-closed g c =
    let s = c.self.inside in
    let a = c.args in
    let m = ap (λ (v : StateValue). g.E.Engine.meaning v.points) (sym c.self.view_is) in
    let before = ap (λ (v : StateValue). v.state) (sym c.self.view_is) ∙ ap (λ (mode : Mode). state_kept mode s.run s.learner.lesson) c.in-Learning.is in
    let after = ap (λ (mode : Mode). state_kept mode s.run c.learn.new.self.lesson) c.in-Learning.is in
    let learns = subst (λ (p : Progress). Learns (learn_of s.learner.lesson a.left.now a.right.now) (Ok p) c.learn.new.self.lesson) c.in-Learned.is c.in_ok-learn-in-Learning.ensures.learned in
    closes_over _ _ a.leg a.own.now a.left.now a.right.now _ _ _ _ _ _ m before after c.resting-in-Learned.ensures
    (learned_closes (g.E.Engine.meaning (g.E.Engine.points s.engine)) a.leg a.own.now a.left.now a.right.now s.learner.lesson c.learn.new.self.lesson c.in-Learned.windows learns)

pub returns-in-Some-clause-closed : goal.returns-in-Some-clause-closed
returns-in-Some-clause-closed g c =
    let s = c.self.inside in
    let a = c.args in
    let m = ap (λ (v : StateValue). g.E.Engine.meaning v.points) (sym c.self.view_is) in
    let before = ap (λ (v : StateValue). v.state) (sym c.self.view_is) ∙ ap (λ (mode : Mode). state_kept mode s.run s.learner.lesson) c.in-Learning.is in
    let learns = subst (λ (p : Progress). Learns (learn_of s.learner.lesson a.left.now a.right.now) (Ok p) c.learn.new.self.lesson) c.in-Ready.is c.in_ok-learn-in-Learning.ensures.learned in
    let told = subst (λ (o : Option Run). TellsProgram (g.E.Engine.meaning (g.E.Engine.points s.engine)) c.in-Ready.image o) c.in-Some.is c.in_ok-run-in-Ready.ensures.program in
    closes_before _ _ a.leg a.own.now a.left.now a.right.now _ _ _ _ _ m before c.resting-in-Ready.ensures
    (ready_closes (g.E.Engine.meaning (g.E.Engine.points s.engine)) a.leg a.own.now a.left.now a.right.now s.learner.lesson c.learn.new.self.lesson c.in-Ready.image c.in-Some.run' learns told)

pub invariant_of-self-in-Ready : goal.invariant_of-self-in-Ready
invariant_of-self-in-Ready g c =
    let s = c.self.inside in
    let i = c.self.invariant in
    let a = c.args in
    let learns = subst (λ (p : Progress). Learns (learn_of s.learner.lesson a.left.now a.right.now) (Ok p) c.learn.new.self.lesson) c.in-Ready.is c.in_ok-learn-in-Learning.ensures.learned in
    let told = subst (λ (o : Option Run). TellsProgram (g.E.Engine.meaning (g.E.Engine.points s.engine)) c.in-Ready.image o) c.in-Some.is c.in_ok-run-in-Ready.ensures.program in
    let whole = ready_whole (learn_of s.learner.lesson a.left.now a.right.now) c.in-Ready.image c.learn.new.self.lesson learns in
    record {
      zeros = i.zeros;
      few = i.few;
      program = (told whole.0 whole.1).2;
      room = omega (arith, i.room, c.in_ok-learn-in-Learning.ensures.room);
      size = i.size;
    }
