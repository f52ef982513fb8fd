use Rattle.std.proofs.Common.{◌∙◌, ap}
use Rattle.cause_effect.specs.Matrices.{MatrixValue, effect_names}
use Rattle.cause_effect.specs.Standing.{is_among}
use Rattle.cause_effect.proofs.Tables.{found}
use Rattle.cause_effect.proofs.matrix.Matrix.is_effect.Goals as goal

pub returns : goal.returns
returns c = c.contains_key.ensures ∙ (found c.args.name.now c.self.inside.effects.entries ∙ ap (λ (m : MatrixValue). is_among (effect_names m) c.args.name.now) c.self.view_is)
