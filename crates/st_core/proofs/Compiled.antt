-- The code of a body is verified and does what the body does.
use Rattle.std.proofs.Common.{◌≡◌, ◌≢◌, ℕ, ◌+◌, ℤ, false, Some, List, [], length, arith, sym, ap, ◌∙◌, refl}
use Rattle.scan_machine.specs.Machine.{Ran}
use Rattle.scan_machine.specs.Rules.{depth_at}
use Rattle.st_core.specs.Core.{Act}
use Rattle.st_core.specs.Environments.{Env}
use Rattle.st_core.specs.Effects.{Ends, Onward, Exits, Returns, effect_of}
use Rattle.st_core.specs.Memory.{Shape, total_of, shape_of, words_of}
use Rattle.st_core.specs.Fits.{ActFits}
use Rattle.st_core.specs.Compiled.{DoesBody, IsCodeOf, HasCode}
use Rattle.st_core.specs.Codes.{Spot, lands, size_of, body_code}
use Rattle.st_core.proofs.Places.{has_all}
use Rattle.st_core.proofs.Goes.{here}
use Rattle.st_core.proofs.Runs.{act_length, act_goes}
use Rattle.st_core.proofs.Depths.{act_depth, depth_over}
use Rattle.st_core.proofs.Keeps.{act_fine, verified}
use Rattle.st_core.proofs.Leaves.{never_exits}

module _ (shape : Shape) (a : Act) (fits : ActFits shape [] a) where
  whole : Spot
  whole = record { at = 0; exit = 0; finish = size_of a }

  ends_flat : depth_at (body_code shape a) (length (body_code shape a)) ≡ 0
  unfolding whole
  ends_flat =
      let e : 0 + length (body_code shape a) ≡ length (body_code shape a) = omega arith in
      ap (depth_at (body_code shape a)) (sym e) ∙ (depth_over (body_code shape a) 0 (length (body_code shape a)) (body_code shape a) refl (has_all (body_code shape a)) ∙ act_depth shape a whole)

  lands_last : (x : Ends) → x ≢ Exits → lands whole (size_of a) x ≡ length (body_code shape a)
  unfolding whole
  lands_last Onward h = omega (arith, act_length shape a whole)
  lands_last Exits h = absurd (h refl)
  lands_last Returns h = sym (act_length shape a whole)

  does_body : (dt : ℤ) (env : Env) (stores : List (ℕ × ℤ)) → shape_of env ≡ shape → DoesBody a (body_code shape a) dt env stores
  unfolding whole
  does_body dt env stores is =
      let e = effect_of dt a env in
      let g = (act_goes (body_code shape a) dt shape a [] whole env false fits is (has_all (body_code shape a))).by stores in
      let end = lands_last e.ends (never_exits dt shape a env fits) in
      let ran : Ran = record { memory = record { words = words_of e.env; stores = g.2 }; flag = e.flag; count = g.0 } in
      record { ran = ran; run = g.3 ∙ ap (λ k. Some (here k [] (words_of e.env) e.flag g.2)) end; words = refl; flag = refl; cheap = g.1 }

  code_of : IsCodeOf shape a (body_code shape a)
  unfolding whole
  code_of = record {
    verified = verified (body_code shape a) (total_of shape)
        (act_fine (body_code shape a) shape ends_flat a [] whole fits (has_all (body_code shape a)) (omega arith) refl (sym (act_length shape a whole)) (λ h. absurd (h refl))) ends_flat;
    does = does_body;
  }

-- the code of a body is such code
pub body_code_is : (shape : Shape) (a : Act) → ActFits shape [] a → IsCodeOf shape a (body_code shape a)
body_code_is shape a fits = code_of shape a fits

pub has_code : HasCode
has_code shape a fits = (body_code shape a, body_code_is shape a fits)
