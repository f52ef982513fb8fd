-- Where a leg stands.
use Rattle.std.proofs.Common.{◌≡◌, ◌<◌, ℤ, Bool, true, false, List, length, Option, nat_lt, if◌then◌else◌, refl, sym, ◌∙◌}
use Rattle.std.proofs.lemmas.Bool.{ltb-true}
use Rattle.tri_base.specs.declared.leg.Side.{Side}
use Rattle.engine_face.specs.declared.verdict.Verdict.{Verdict}
use Rattle.input_legs.specs.VotedSheets.{VotedSheet}
use Rattle.leg_laws.specs.declared.need.Need.TheVariants.{Put, Take, Done}
use Rattle.leg_laws.specs.declared.place.Place.{Place}
use Rattle.leg_laws.specs.declared.place.Place.TheVariants as p
use Rattle.leg_laws.specs.States.{State}
use Rattle.leg_laws.specs.Places.{need_at}
use Rattle.leg_laws.specs.Configs.{LegValue, need_of, place_of, starves}
use Rattle.leg_parts.specs.Results.{ResultValue}
use Rattle.leg_core.specs.Inner.Fit.{config_at, config_kept}

done_is_no_put : (side : Side) → Done ≡ Put side → ⊥
done_is_no_put side e = cc

done_is_no_take : (side : Side) → Done ≡ Take side → ⊥
done_is_no_take side e = cc

-- a leg that puts has a scan to play
pub has_put : (v : LegValue) (side : Side) → need_of v ≡ Put side → v.finished < length v.tape.scans
has_put v side h = by (nat_lt v.finished (length v.tape.scans)) refl h
  where
    by : (t : Bool) → nat_lt v.finished (length v.tape.scans) ≡ t → (if t then need_at (place_of v.config) else Done) ≡ Put side
        → v.finished < length v.tape.scans
    by true e k = ltb-true v.finished (length v.tape.scans) e
    by false e k = absurd (done_is_no_put side k)

-- so has one that takes
pub has_take : (v : LegValue) (side : Side) → need_of v ≡ Take side → v.finished < length v.tape.scans
has_take v side h = by (nat_lt v.finished (length v.tape.scans)) refl h
  where
    by : (t : Bool) → nat_lt v.finished (length v.tape.scans) ≡ t → (if t then need_at (place_of v.config) else Done) ≡ Take side
        → v.finished < length v.tape.scans
    by true e k = ltb-true v.finished (length v.tape.scans) e
    by false e k = absurd (done_is_no_take side k)

placed_at : (place : Place) (state : State) (verdict : Option Verdict) (voted : VotedSheet) (r : ResultValue) (left : List ℤ)
    → place_of (config_at place state verdict voted r left) ≡ place
placed_at p.PutLeftReadings state verdict voted r left = refl
placed_at p.PutRightReadings state verdict voted r left = refl
placed_at p.TakeLeftReadings state verdict voted r left = refl
placed_at p.TakeRightReadings state verdict voted r left = refl
placed_at p.PutLeftResult state verdict voted r left = refl
placed_at p.PutRightResult state verdict voted r left = refl
placed_at p.TakeLeftResult state verdict voted r left = refl
placed_at p.TakeRightResult state verdict voted r left = refl

-- what is kept is kept at its place
pub place_kept : (starved : Bool) (place : Place) (state : State) (verdict : Option Verdict) (voted : VotedSheet)
    (r : ResultValue) (left : List ℤ) → place_of (config_kept starved place state verdict voted r left) ≡ place
place_kept true place state verdict voted r left = refl
place_kept false place state verdict voted r left = placed_at place state verdict voted r left

fed_at : (place : Place) (state : State) (verdict : Option Verdict) (voted : VotedSheet) (r : ResultValue) (left : List ℤ)
    → starves (config_at place state verdict voted r left) ≡ false
fed_at p.PutLeftReadings state verdict voted r left = refl
fed_at p.PutRightReadings state verdict voted r left = refl
fed_at p.TakeLeftReadings state verdict voted r left = refl
fed_at p.TakeRightReadings state verdict voted r left = refl
fed_at p.PutLeftResult state verdict voted r left = refl
fed_at p.PutRightResult state verdict voted r left = refl
fed_at p.TakeLeftResult state verdict voted r left = refl
fed_at p.TakeRightResult state verdict voted r left = refl

-- a leg is starved where it is kept so
pub starved_kept : (starved : Bool) (place : Place) (state : State) (verdict : Option Verdict) (voted : VotedSheet)
    (r : ResultValue) (left : List ℤ) → starves (config_kept starved place state verdict voted r left) ≡ starved
starved_kept true place state verdict voted r left = refl
starved_kept false place state verdict voted r left = fed_at place state verdict voted r left

pub never_both : (b : Bool) → b ≡ true → b ≡ false → ⊥
never_both b e f = let g : true ≡ false = sym e ∙ f in cc

pub true_is_not_false : true ≡ false → ⊥
true_is_not_false e = never_both true refl e
