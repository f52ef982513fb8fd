use Rattle.std.specs.Prelude.{pos, Some}
use Rattle.std.proofs.Common.{arith, subst, sym}
use Rattle.std.proofs.lemmas.Int.{ints}
use Rattle.tri_base.specs.Limits.{scan_time_limit}
use Rattle.vote_analog.specs.Middle.{LiesIn}
use Rattle.vote_analog.proofs.Ranges.{middle_in}
use Rattle.input_legs.proofs.sheet.voted_time.Goals as goal

pub returns-clause-from : goal.returns-clause-from
returns-clause-from c =
    let h : LiesIn (pos 0) (scan_time_limit) (Some c.mid.result) =
    subst (λ time. LiesIn (pos 0) (scan_time_limit) (Some time)) (sym c.mid.ensures.middle)
    (middle_in (pos 0) (scan_time_limit) c.times_of.result (omega (arith, ints), omega (arith, ints)) c.times_of.ensures.range) in
    omega (arith, ints, h.0, h.1)

pub returns-clause-to : goal.returns-clause-to
returns-clause-to c =
    let h : LiesIn (pos 0) (scan_time_limit) (Some c.mid.result) =
    subst (λ time. LiesIn (pos 0) (scan_time_limit) (Some time)) (sym c.mid.ensures.middle)
    (middle_in (pos 0) (scan_time_limit) c.times_of.result (omega (arith, ints), omega (arith, ints)) c.times_of.ensures.range) in
    omega (arith, ints, h.0, h.1)
