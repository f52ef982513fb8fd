use Rattle.std.proofs.Common.{◌++◌, ◌∙◌, ◌*◌, ◌-◌, length, take, drop, ap, map, pos, append_assoc}
use Rattle.memory_compare.proofs.Shown.{window_shown}
use Rattle.memory_compare.proofs.windows.window.Goals as goal

pub returns-clause-list : goal.returns-clause-list
returns-clause-list c =
    let into = c.args.into.now.list in
    let text = c.args.text.now.list in
    let bytes = c.part-bytes.result.now in
    let behind = c.part-behind.result.now in
    let shown = window_shown text c.args.words.now.list c.args.turn c.saturating_sub.result bytes behind
    (c.part-bytes.ensures.items ∙ ap (λ bs. take 64 (drop (64 * c.args.turn) bs)) c.bytes.ensures)
    (c.saturating_sub.ensures ∙ ap (λ n. 64 * c.args.turn - n) c.len.ensures)
    (c.part-behind.ensures.items ∙ ap (λ ws. take (64 - length bytes) (drop c.saturating_sub.result ws)) c.items.ensures) in
    c.extend.ensures.list ∙ ap (λ ws. ws ++ behind) c.add_bytes.ensures.list ∙ append_assoc into (map pos bytes) behind ∙ ap (λ ws. into ++ ws) shown
