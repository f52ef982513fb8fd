use Rattle.std.proofs.Common.{◌∙◌, sym, subst, Option, ℕ, ap}
use Rattle.chassis.specs.Points.{place_of}
use Rattle.script_text.specs.Standing.{Standing, set_point}
use Rattle.script_text.specs.Inner.Steps.{Steps}
use Rattle.script_text.proofs.reader.Reader.take_setting.Goals as goal

pub returns-in-Some-clause-step : goal.returns-in-Some-clause-step
returns-in-Some-clause-step c =
    let here = sym c.in-Some.is ∙ (c.find.ensures.place ∙ ap (λ (s : Standing). place_of s.points c.args.name.now) c.self.view_is) in
    subst (λ (o : Option ℕ). Steps (set_point c.args.self.now c.args.reads o) c.take_reads.result c.take_reads.new.self) here c.take_reads.ensures.step
