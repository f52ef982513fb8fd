use Rattle.std.proofs.Common.{◌≡◌, arith, sym, ap, ◌∙◌, subst, get_or, length, map, ◌-◌, slice_set, ◌∷◌, [], suc, vec_len, ℕ}
use Rattle.std.proofs.lemmas.List.{map-append}
use Rattle.tri_base.specs.declared.text.Text.{Text}
use Rattle.script_text.specs.MomentValue.{MomentValue}
use Rattle.script_text.specs.Standing.{with_last, with_ask}
use Rattle.script_text.proofs.Moments.{written}
use Rattle.script_text.proofs.reader.add_ask.Goals as goal

pub returns-in-Ok : goal.returns-in-Ok
returns-in-Ok c =
    let moments = c.args.moments.now.items in
    let k : ℕ = vec_len c.args.moments.now - 1 in
    let m : MomentValue = record { scan = c.moment.inside.scan; lines = c.moment.inside.lines.items; renames = c.moment.inside.renames.items; asks = map (λ t. t.list) c.moment.inside.asks.items } in
    let last : m ≡ get_or moments k m = subst (λ (x : MomentValue). x ≡ get_or moments k x) (sym c.moment.view_is) c.in-Some.ensures.value in
    let long : length moments ≡ suc k = grind (arith, c.in-Some.ensures.variant) in
    subst (λ ls. slice_set moments k (record m { asks = map (λ t. t.list) ls }) ≡ with_last (with_ask c.args.bytes.list) moments) (sym c.in-Ok.ensures.items) (ap (λ asks. slice_set moments k (record m { asks = asks })) (map-append (λ (t : Text). t.list) c.moment.inside.asks.items (c.args.bytes ∷ [])) ∙ written moments (with_ask c.args.bytes.list) m k long last)
