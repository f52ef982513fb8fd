use Rattle.std.proofs.Common.{◌∙◌, ap}
use Rattle.cause_effect.specs.Matrices.{MatrixValue}
use Rattle.cause_effect.specs.Standing.{is_link_among}
use Rattle.cause_effect.proofs.Tables.{link_found}
use Rattle.cause_effect.proofs.matrix.Matrix.has_link.Goals as goal

pub returns : goal.returns
returns c = c.contains.ensures ∙ (link_found c.args.link.now c.self.inside.links.keys ∙ ap (λ (m : MatrixValue). is_link_among m.links c.args.link.now) c.self.view_is)
