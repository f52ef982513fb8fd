use Rattle.std.proofs.Common.{◌≡◌, ◌++◌, OnOk, List, ℕ, subst, w64, to_z, of_z}
use Rattle.std.proofs.lemmas.Int.{to_z-of_z}
use Rattle.report_lines.proofs.Digits.{one_digit}
use Rattle.report_lines.proofs.line.push_spaced.Goals as goal

pub returns-then-number-lt10-clause-text : goal.returns-then-number-lt10-clause-text
returns-then-number-lt10-clause-text c =
    let number = to_z w64 (of_z w64 c.args.number) in
    let written = one_digit c.args.number number (to_z-of_z w64 c.args.number c.ranges.number) c.if-number-ge0.true c.if-number-lt10.true in
    subst (λ (l : List ℕ). OnOk c.push_bytes.result (c.push_bytes.new.text.list ≡ c.args.text.now.list ++ l)) written c.push_bytes.ensures.list
