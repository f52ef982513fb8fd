-- Steps in the order of a schedule's letters, of legs that have memory. Own rule.
use Rattle.std.specs.Prelude.{◌≡◌, ℕ, ◌+◌, false, true, List, [], ◌∷◌, Option, Some, None, unwrap_or, if◌then◌else◌}
use Rattle.tri_base.specs.declared.leg.Leg.{Leg}
use Rattle.tri_base.specs.declared.point.Point.{Point}
use Rattle.tri_base.specs.Legs.{leg_part, neighbour, opposite}
use Rattle.engine_face.specs.Meaning.{Meaning}
use Rattle.leg_laws.specs.declared.need.Need.{Need}
use Rattle.leg_laws.specs.declared.need.Need.TheVariants.{Put, Take, Done}
use Rattle.leg_laws.specs.Configs.{is_starved, need_of}
use Rattle.leg_laws.specs.Needs.{after_put, after_take, put_packet}
use Rattle.leg_laws.specs.Exchanges.{Exchange, box_towards, can_step, with_box_of, with_part}
use Rattle.leg_laws.specs.ExchangeSteps.{ExchangeStep}

-- An exchange in which a leg has served a need.
abbrev pub served_by : (List Point → Meaning) → Exchange → Leg → Need → Exchange
served_by m w leg (Put side) =
    let v = leg_part w.legs leg in
    record {
      legs = with_part leg (after_put (m v.points) v) w.legs;
      boxes = with_box_of w leg side (Some (put_packet v));
    }
served_by m w leg (Take side) =
    let v = leg_part w.legs leg in
    record {
      legs = with_part leg (after_take (m v.points) v (unwrap_or (box_towards w leg side) [])) w.legs;
      boxes = with_box_of w (neighbour leg side) (opposite side) None;
    }
served_by m w leg Done = w

-- The exchange behind a leg's step.
abbrev pub fed_step : (List Point → Meaning) → Exchange → Leg → Exchange
fed_step m w leg = served_by m w leg (need_of (leg_part w.legs leg))

-- The number of the first letter whose step isn't enabled, where the first letter of the list has a number.
abbrev pub stuck_from : (List Point → Meaning) → (letter : ℕ) → List Leg → Exchange → Option ℕ
stuck_from m letter [] w = None
stuck_from m letter (leg ∷ legs) w =
    if can_step w leg then stuck_from m (letter + 1) legs (fed_step m w leg) else Some letter

-- A step that is enabled leads there, where the leg is not starved.
abbrev pub FedStepsAreSteps : Type 0
FedStepsAreSteps =
    (m : List Point → Meaning) (w : Exchange) (leg : Leg) → can_step w leg ≡ true
    → is_starved (leg_part w.legs leg) ≡ false → ExchangeStep m w leg (fed_step m w leg)
