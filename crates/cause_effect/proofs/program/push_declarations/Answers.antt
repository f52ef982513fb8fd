use Rattle.std.proofs.Common.{◌≡◌, ◌∙◌, ◌++◌, ap, sym, List, ℕ, OnOk, subst, option_to_list, append_assoc}
use Rattle.std.specs.List.{flat_map}
use Rattle.cause_effect.specs.Programs.{declaration_line}
use Rattle.cause_effect.proofs.Joins.{joined3}
use Rattle.cause_effect.proofs.Tables.{declarations}
use Rattle.cause_effect.proofs.program.push_declarations.Goals as goal

pub returns : goal.returns
returns c =
    let m = c.args.matrix.now in
    let old : List ℕ = c.args.text.now.list in
    let causes : List ℕ = flat_map (λ x. declaration_line x.0) m.causes in
    let effects : List ℕ = flat_map (λ x. declaration_line x.0) m.effects in
    let reset : List ℕ = flat_map declaration_line (option_to_list m.reset) in
    let whole = joined3 old causes effects reset c.push_cause_names.new.text.list c.push_effect_names.new.text.list c.in_ok-push_cause_names.ensures c.in_ok-push_effect_names.ensures in
    let names = ap (λ ts. old ++ ts) (sym (append_assoc causes effects reset) ∙ declarations m) in
    subst (λ (w : List ℕ). OnOk c.push_reset_name.result (c.push_reset_name.new.text.list ≡ w)) (whole ∙ names) c.push_reset_name.ensures
