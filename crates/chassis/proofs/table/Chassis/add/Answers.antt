use Rattle.std.proofs.Common.{◌≡◌, ◌∙◌, ◌+◌, ◌++◌, ◌∷◌, [], List, ap, sym, cond, not, is_ok, arith, if◌then◌else◌}
use Rattle.std.proofs.lemmas.Grind.{common_steps}
use Rattle.tri_base.specs.declared.point.Point.{Point}
use Rattle.chassis.specs.Points.{is_input_kind, refusal_of}
use Rattle.chassis.proofs.More.{kept_more, ok_holds}
use Rattle.chassis.proofs.table.Chassis.add.Goals as goal

pub invariant_of-self-2 : goal.invariant_of-self-2
invariant_of-self-2 c =
    let point = c.args.point in
    let before = c.self.inside.points.items in
    let allowed = ap (λ (ps : List Point). refusal_of ps point) c.self.view_is ∙ sym c.in_default.ensures in
    let kept : List Point = c.reserve.new.self.items in
    let pushed : c.push.new.self.items ≡ before ++ point ∷ [] =
    c.push.ensures.items ∙ (ap (λ t. if t then kept ++ point ∷ [] else kept) (ap is_ok c.unwrap.ensures) ∙ ap (λ ps. ps ++ point ∷ []) c.reserve.ensures.items) in
    let keys = ok_holds c.insert.result c.insert.ensures.keys (sym c.map_err-2.ensures.variant ∙ ap is_ok c.in_ok-map_err-2.was) in
    let input : c.from.result ≡ cond (is_input_kind point.kind) 1 0 = grind (arith, common_steps) in
    let output : c.from-2.result ≡ cond (not (is_input_kind point.kind)) 1 0 = grind (arith, common_steps) in
    kept_more c.self.inside _ point c.self.invariant allowed pushed keys (ap (λ n. c.self.inside.inputs + n) input) (ap (λ n. c.self.inside.outputs + n) output)
