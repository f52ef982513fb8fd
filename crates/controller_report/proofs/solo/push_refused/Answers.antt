use Rattle.std.proofs.Common.{◌≡◌, OnOk, List, ℕ, subst, codes}
use Rattle.report_lines.specs.Refusals.{refusal_text}
use Rattle.controller_report.proofs.Written.{three_more}
use Rattle.controller_report.proofs.solo.push_refused.Goals as goal

pub returns : goal.returns
returns c =
    let whole = three_more c.args.into.now.list _ _ (codes "VERDICT REFUSED ") (refusal_text c.args.refusal.now) (codes "\n") c.in_ok-push_bytes.ensures.list c.in_ok-push_refusal.ensures.text in
    subst (λ (l : List ℕ). OnOk c.push_bytes-2.result (c.push_bytes-2.new.text.list ≡ l)) whole c.push_bytes-2.ensures.list
