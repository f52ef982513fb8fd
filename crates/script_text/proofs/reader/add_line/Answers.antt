use Rattle.std.proofs.Common.{◌≡◌, arith, sym, subst, get_or, length, map, ◌-◌, slice_set, suc, vec_len, ℕ}
use Rattle.script_text.specs.MomentValue.{MomentValue}
use Rattle.script_text.specs.Standing.{with_last, with_line}
use Rattle.script_text.proofs.Moments.{written}
use Rattle.script_text.proofs.reader.add_line.Goals as goal

pub returns-in-Ok : goal.returns-in-Ok
returns-in-Ok c =
    let moments = c.args.moments.now.items in
    let k : ℕ = vec_len c.args.moments.now - 1 in
    let m : MomentValue = record { scan = c.moment.inside.scan; lines = c.moment.inside.lines.items; renames = c.moment.inside.renames.items; asks = map (λ t. t.list) c.moment.inside.asks.items } in
    let last : m ≡ get_or moments k m = subst (λ (x : MomentValue). x ≡ get_or moments k x) (sym c.moment.view_is) c.in-Some.ensures.value in
    let long : length moments ≡ suc k = grind (arith, c.in-Some.ensures.variant) in
    subst (λ ls. slice_set moments k (record m { lines = ls }) ≡ with_last (with_line c.args.line) moments) (sym c.in-Ok.ensures.items) (written moments (with_line c.args.line) m k long last)
