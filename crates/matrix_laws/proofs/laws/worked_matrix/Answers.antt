use Rattle.std.proofs.Common.{refl}
use Rattle.matrix_laws.proofs.laws.worked_matrix.Goals as goal

pub returns : goal.returns
returns c = record { program = refl; at_rest = refl; called = refl; latched = refl; reset = refl }
