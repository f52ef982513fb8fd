use Rattle.std.proofs.Common.{◌≡◌, ◌++◌, ◌∙◌, OnOk, List, ℕ, subst, ap, pos, arith, w64, to_z}
use Rattle.std.specs.Fmt.{signed_decimal}
use Rattle.std.proofs.lemmas.Int.{to_z_pos}
use Rattle.tricon.proofs.Joined.{five_pieces}
use Rattle.tricon.proofs.status.push_refused.Goals as goal

pub returns-clause-line : goal.returns-clause-line
returns-clause-line c =
    let line : to_z w64 c.args.line ≡ pos c.args.line = to_z_pos w64 c.args.line (omega (arith, c.ranges.line.fits)) in
    let number = ap (λ z. c.push_bytes.new.text.list ++ signed_decimal z) line in
    let whole = five_pieces _ _ _ _ _ _ _ _ _ _ _ _ c.new-whole.ensures c.in_ok-push_bytes.ensures.list (c.in_ok-push_number.ensures.list ∙ number) c.in_ok-push_bytes-2.ensures.list c.in_ok-push_cause.ensures.line c.in_ok-push_bytes-3.ensures.list c.bytes.ensures in
    subst (λ (l : List ℕ). OnOk c.push_bytes-4.result (c.push_bytes-4.new.text.list ≡ c.args.text.now.list ++ l)) whole c.push_bytes-4.ensures.list
