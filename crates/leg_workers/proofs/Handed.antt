-- What was handed out comes back.
use Rattle.std.proofs.Common.{◌≡◌, Option, None, Some, sym, ◌∙◌}
use Rattle.leg_workers.specs.Inner.Here.{IsHere}
use Rattle.leg_workers.specs.Inner.Promises.{IsHandedOut}

module _ {T : Type 0} (R : T → T → Type 0) where
  -- the worker promised this one
  pub handed : (was p : T) (worker kept : Option T) → worker ≡ Some p → IsHandedOut R was worker kept → p ≡ was
  handed was p (Some q) kept e h = let q_is : q ≡ p = cc e in sym q_is ∙ h
  handed was p None kept e h = absurd (cc e)

  -- one that was kept was worked by the caller
  pub handed_on : (W : T → T → Type 0) → ((x y z : T) → R x y → W y z → R x z) → (was : T)
      (worker kept kept' : Option T) → IsHandedOut R was worker kept → IsHere W kept kept'
      → IsHandedOut R was worker kept'
  handed_on W f was (Some p) kept kept' h w = h
  handed_on W f was None (Some p) (Some q) h w = f was p q h w
  handed_on W f was None (Some p) None h w = absurd w
  handed_on W f was None None kept' h w = absurd h
