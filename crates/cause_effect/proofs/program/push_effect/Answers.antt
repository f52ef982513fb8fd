use Rattle.std.proofs.Common.{◌≡◌, ◌∙◌, ◌++◌, ap, List, ℕ, OnOk, subst, codes}
use Rattle.std.specs.List.{flat_map}
use Rattle.cause_effect.specs.Inner.Terms.{link_term}
use Rattle.cause_effect.specs.Programs.{hold_term}
use Rattle.cause_effect.proofs.Joins.{joined5}
use Rattle.cause_effect.proofs.Tables.{terms_to}
use Rattle.cause_effect.proofs.program.push_effect.Goals as goal

pub returns : goal.returns
returns c =
    let m = c.args.matrix.now in
    let effect : List ℕ = c.args.name.now in
    let old : List ℕ = c.args.text.now.list in
    let whole = joined5 old effect (codes " := FALSE") (flat_map (link_term m effect) m.links) (hold_term c.args.mode m.reset effect) (codes ";\n") c.push_bytes.new.text.list c.push_bytes-2.new.text.list c.push_causes.new.text.list c.push_hold.new.text.list
    (c.in_ok-push_bytes.ensures.list ∙ ap (λ n. old ++ n) c.bytes.ensures.value) c.in_ok-push_bytes-2.ensures.list c.in_ok-push_causes.ensures c.in_ok-push_hold.ensures in
    let terms = ap (λ ts. old ++ (effect ++ (codes " := FALSE" ++ (ts ++ (hold_term c.args.mode m.reset effect ++ codes ";\n"))))) (terms_to m effect m.links) in
    subst (λ (w : List ℕ). OnOk c.push_bytes-3.result (c.push_bytes-3.new.text.list ≡ w)) (whole ∙ terms) c.push_bytes-3.ensures.list
