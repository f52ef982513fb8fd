-- Legs that take turns by letters, as far as each can step. Own rule.
use Rattle.std.specs.Prelude.{◌≡◌, ℕ, ◌<◌, false, List, length, take, get_or, Option, Some, None}
use Rattle.tri_base.specs.declared.leg.Leg.{Leg}
use Rattle.tri_base.specs.declared.leg.Leg.TheVariants.{A}
use Rattle.tri_base.specs.declared.point.Point.{Point}
use Rattle.engine_face.specs.Meaning.{Meaning}
use Rattle.leg_laws.specs.Exchanges.{Exchange, can_step}
use Rattle.leg_laws.specs.ExchangeSteps.{Reaches}

-- The letters before one were stepped, and that one's leg can't step there.
pub record StopsAt (m : List Point → Meaning) (w w' : Exchange) (letters : List Leg) (place : ℕ) : Type 0 where
  pub there : place < length letters
  pub reached : Reaches m w (take place letters) w'
  pub stuck : can_step w' (get_or letters place A) ≡ false

-- All letters were stepped; or the legs stand before the first that can't be.
abbrev pub Follows : (List Point → Meaning) → (w w' : Exchange) → List Leg → Option ℕ → Type 0
Follows m w w' letters None = Reaches m w letters w'
Follows m w w' letters (Some place) = StopsAt m w w' letters place

-- Some steps lead from an exchange to another.
abbrev pub LeadsTo : (List Point → Meaning) → (w w' : Exchange) → Type 0
LeadsTo m w w' = (steps : List Leg) × Reaches m w steps w'
