use Rattle.std.proofs.Common.{sym, ◌∙◌}
use Rattle.tag_wiring.proofs.Spelled.{texts_tell}
use Rattle.tag_wiring.proofs.point_mark.PointMark.is_same.Goals as goal

pub returns : goal.returns
returns c =
    let own = c.as_str.ensures.value ∙ c.self.invariant.text in
    let others = c.as_str-2.ensures.value ∙ c.other.invariant.text in
    let plain = c.self.invariant.plain in
    let told = texts_tell _ _ _ _ c.eq.result own others plain c.other.invariant.plain c.eq.ensures in
    ((λ t. sym c.self.view_is ∙ (told.0 t ∙ c.other.view_is)), (λ e. told.1 (c.self.view_is ∙ (e ∙ sym c.other.view_is))))
