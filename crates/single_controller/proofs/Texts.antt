-- The one controller's text.
use Rattle.std.proofs.Common.{◌≡◌, ℕ, zero, suc, List, Option, Some, None, refl, ap, ◌∙◌}
use Rattle.tri_base.specs.Downloads.{Download}
use Rattle.engine_face.specs.declared.refusal.Refusal.{Refusal}
use Rattle.engine_face.specs.Meaning.{Meaning, changes}
use Rattle.plant_script.specs.SingleTexts.{download_at, text_by, text_changed, text_after}
use Rattle.single_controller.specs.Controller.{Controller, changed_by, changed, controller_after}
use Rattle.single_controller.specs.Laws.{HasTheText}

text_judged : (m : Meaning) (d : Download) (c : Controller) (r : Option Refusal) → (changed_by m d c r).text ≡ text_by d c.text r
text_judged m d c None = refl
text_judged m d c (Some refusal) = refl

changed_text : (m : Meaning) (o : Option Download) (c : Controller) → (changed m o c).text ≡ text_changed m o c.text
changed_text m None c = refl
changed_text m (Some d) c = text_judged m d c (changes m c.text d)

pub has_text : HasTheText
unfolding controller_after text_after
has_text m v zero = refl
has_text m v (suc scans) =
    changed_text m (download_at v (suc scans)) (controller_after m v scans)
    ∙ ap (λ (t : List ℕ). text_changed m (download_at v (suc scans)) t) (has_text m v scans)
