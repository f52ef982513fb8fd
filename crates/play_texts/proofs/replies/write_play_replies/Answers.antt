use Rattle.std.proofs.Common.{◌≡◌, OnOk, List, ℕ, [], codes, subst}
use Rattle.report_lines.specs.Lines.{line}
use Rattle.play_texts.proofs.Written.{four_more}
use Rattle.play_texts.proofs.replies.write_play_replies.Goals as goal

pub returns : goal.returns
returns g c =
    subst (λ (l : List ℕ). OnOk c.push_line.result (c.push_line.new.text.list ≡ l))
    (four_more c.args.text.now.list _ _ _ _ _ _ (line (codes "END") []) c.in_ok-push_led_line.ensures.text
    c.in_ok-push_replies.ensures c.in_ok-push_calm.ensures.text)
    c.push_line.ensures.text
