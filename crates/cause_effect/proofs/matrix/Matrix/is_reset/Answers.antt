use Rattle.std.proofs.Common.{◌∙◌, ap, sym, option_to_list, Option, List, ℕ}
use Rattle.cause_effect.specs.Matrices.{MatrixValue}
use Rattle.cause_effect.specs.Standing.{is_among}
use Rattle.cause_effect.proofs.Tables.{alone}
use Rattle.cause_effect.proofs.matrix.Matrix.is_reset.Goals as goal

pub returns-in-Some : goal.returns-in-Some
returns-in-Some c =
    let name = c.args.name.now in
    c.eq.ensures
    ∙ (alone name c.in-Some.reset
    ∙ (sym (ap (λ (o : Option (List ℕ)). is_among (option_to_list o) name) c.in-Some.is)
    ∙ ap (λ (m : MatrixValue). is_among (option_to_list m.reset) name) c.self.view_is))
