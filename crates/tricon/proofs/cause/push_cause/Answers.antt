use Rattle.std.specs.Fmt.{signed_decimal}
use Rattle.std.proofs.Common.{◌++◌, List, ℕ, pos, codes, refl}
use Rattle.tricon.specs.declared.status.RefusedCause.TheVariants.{MatrixTooLarge}
use Rattle.tricon.proofs.Joined.{caused}
use Rattle.tricon.proofs.cause.push_cause.Goals as goal

pub returns-in_ok-push_bytes-in-MatrixTooLarge-clause-line :
    goal.returns-in_ok-push_bytes-in-MatrixTooLarge-clause-line
returns-in_ok-push_bytes-in-MatrixTooLarge-clause-line c =
    caused c.push_size.result c.args.cause.now (MatrixTooLarge c.in-MatrixTooLarge.bytes) c.args.text.now.list
    c.push_bytes-in-MatrixTooLarge.new.text.list c.push_size.new.text.list (codes "MATRIX LARGE ")
    (signed_decimal (pos c.in-MatrixTooLarge.bytes)) c.in-MatrixTooLarge.is
    c.in_ok-push_bytes-in-MatrixTooLarge.ensures.list c.push_size.ensures.line refl
