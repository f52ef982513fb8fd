-- Legs whose notes, endings and disagreements are those of the three in step. Own rule.
use Rattle.std.specs.Prelude.{◌≡◌, ℕ, ◌-◌, ◌≤◌, false, take, drop, Some}
use Rattle.tri_base.specs.declared.leg.Leg.{Leg}
use Rattle.engine_face.specs.Meaning.{Meaning}
use Rattle.leg_laws.specs.declared.need.Need.TheVariants.{Done}
use Rattle.leg_laws.specs.Plays.{Play, scans_of}
use Rattle.leg_laws.specs.Rounds.{after_scans, state_after}
use Rattle.leg_laws.specs.Configs.{LegValue, need_of, is_starved, noted}
use Rattle.leg_laws.specs.Endings.{ending_of, state_ending}

-- Each leg has made a note of so many scans.
abbrev pub NotedByAll : (Leg → LegValue) → ℕ → Type 0
NotedByAll vs n = (leg : Leg) → n ≤ noted (vs leg)

-- No leg is starved.
abbrev pub NoneStarved : (Leg → LegValue) → Type 0
NoneStarved vs = (leg : Leg) → is_starved (vs leg) ≡ false

-- Of the first scans, a leg's notes that were not taken away are those of the three in step.
abbrev pub HasFirstNotes : Meaning → Play → Leg → LegValue → ℕ → Type 0
HasFirstNotes m play leg v n = take (n - v.given) v.notes ≡ drop v.given (after_scans m play leg n).notes

-- A leg has made a note of each scan that is over, and those that were not taken away are those of the three in step.
pub record HasNotes (m : Meaning) (play : Play) (leg : Leg) (v : LegValue) : Type 0 where
  pub number : noted v ≡ v.finished
  pub notes : v.notes ≡ drop v.given (after_scans m play leg v.finished).notes

-- A leg whose last scan is over stands as in step, and has the disagreements that it has in step.
pub record HasEnded (m : Meaning) (play : Play) (leg : Leg) (v : LegValue) : Type 0 where
  pub finished : v.finished ≡ scans_of play leg
  pub ending : ending_of v.config ≡ Some (state_ending (state_after m play (scans_of play leg) leg))
  pub marks : v.marks ≡ (after_scans m play leg (scans_of play leg)).marks

-- Three legs of a play, each at its own place.
pub record IsInStep (m : Meaning) (play : Play) (vs : Leg → LegValue) : Type 0 where
  pub letters : (leg : Leg) → (vs leg).leg ≡ leg
  -- of the scans of which each leg has made a note, starved or not
  pub early : (n : ℕ) → NotedByAll vs n → (leg : Leg) → HasFirstNotes m play leg (vs leg) n
  -- while none is starved, of all scans
  pub fed : NoneStarved vs → (leg : Leg) → HasNotes m play leg (vs leg)
  pub ends : NoneStarved vs → (leg : Leg) → need_of (vs leg) ≡ Done → HasEnded m play leg (vs leg)
