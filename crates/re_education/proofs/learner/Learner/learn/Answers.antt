use Rattle.std.proofs.Common.{sym, ap, subst, ◌∙◌, ◌≤◌}
use Rattle.std.specs.Prelude.{Ok}
use Rattle.re_education.specs.declared.progress.Progress.{Progress}
use Rattle.re_education.specs.declared.progress.Progress.TheVariants.{Waiting}
use Rattle.re_education.specs.Learned.{Learns}
use Rattle.re_education.specs.Learning.{shown_by_both, with_result, does_end}
use Rattle.re_education.proofs.Both.{told_sound, told, nothing_told, size_told}
use Rattle.re_education.proofs.learner.Learner.learn.Goals as goal

pub learn_shown-requires : goal.learn_shown-requires
learn_shown-requires c = told_sound (shown_by_both c.args.left.now c.args.right.now) c.in-Some.shown c.in-Some.ensures

pub returns-in-Some-clause-learned : goal.returns-in-Some-clause-learned
returns-in-Some-clause-learned c =
    subst (λ o. Learns o c.learn_shown.result c.learn_shown.new.self.lesson) (told c.args.self.now.lesson (shown_by_both c.args.left.now c.args.right.now) c.in-Some.shown c.in-Some.ensures) c.learn_shown.ensures.learned

pub returns-in-Some-clause-serves : goal.returns-in-Some-clause-serves
returns-in-Some-clause-serves c = λ room goes_on.
    c.learn_shown.ensures.serves
    (subst (λ n. n ≤ c.args.self.now.room) (sym (size_told (shown_by_both c.args.left.now c.args.right.now) c.in-Some.shown c.in-Some.ensures)) room)
    (ap does_end (told c.args.self.now.lesson (shown_by_both c.args.left.now c.args.right.now) c.in-Some.shown c.in-Some.ensures) ∙ goes_on)

pub returns-in-None-clause-learned : goal.returns-in-None-clause-learned
returns-in-None-clause-learned c =
    let waits = sym (nothing_told c.args.self.now.lesson (shown_by_both c.args.left.now c.args.right.now) c.in-None.ensures) in
    subst (λ (p : Progress). Learns (with_result c.args.self.now.lesson (shown_by_both c.args.left.now c.args.right.now)) (Ok p) c.wait.new.self.lesson) (sym c.wait.ensures.answer)
    (subst (λ o. Learns o (Ok Waiting) c.wait.new.self.lesson) waits c.wait.ensures.lesson)
