use Rattle.std.proofs.Common.{Result, Ok, Err, IfOk}
use Rattle.cause_effect.specs.declared.fault.MatrixFault.{MatrixFault}
use Rattle.cause_effect.specs.Matrices.{MatrixValue, IsMatrix}
use Rattle.cause_effect.specs.Spells.{IsReading, contents_of}
use Rattle.cause_effect.proofs.Kept.{spelled}
use Rattle.cause_effect.proofs.read.read_matrix.Goals as goal

pub returns-clause-matrix : goal.returns-clause-matrix
returns-clause-matrix c = by c.read_bytes.result c.read_bytes.ensures
  where
    by : (r : Result MatrixValue MatrixFault) → IsReading c.bytes.result.now r → IfOk r (λ m. IsMatrix m)
    by (Ok m) h = spelled (contents_of c.bytes.result.now) m h
    by (Err fault) h = tt
