use Rattle.std.proofs.Common.{◌∙◌, ap, unwrap_or}
use Rattle.cause_effect.specs.declared.matrix.Level.TheVariants.{High}
use Rattle.cause_effect.specs.Matrices.{MatrixValue, level_of}
use Rattle.cause_effect.proofs.Tables.{looked_up}
use Rattle.cause_effect.proofs.matrix.Matrix.level.Goals as goal

pub returns : goal.returns
returns c =
    c.unwrap_or.ensures
    ∙ (ap (λ o. unwrap_or o High) (c.copied.ensures ∙ (c.get.ensures.value ∙ looked_up c.args.cause.now c.self.inside.causes.entries))
    ∙ ap (λ (m : MatrixValue). level_of m c.args.cause.now) c.self.view_is)
