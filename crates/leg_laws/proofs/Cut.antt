-- A leg between two rounds, cut into needs.
use Rattle.std.proofs.Common.{◌≡◌, ℤ, false, List, refl, ap}
use Rattle.tri_base.specs.declared.leg.Side.{Side}
use Rattle.tri_base.specs.declared.leg.Side.TheVariants.{Left, Right}
use Rattle.engine_face.specs.Meaning.{Meaning}
use Rattle.leg_laws.specs.declared.need.Need.TheVariants.{Put}
use Rattle.leg_laws.specs.declared.place.Place.{Place}
use Rattle.leg_laws.specs.declared.place.Place.TheVariants as p
use Rattle.script_text.specs.LegScans.{LegScan}
use Rattle.leg_laws.specs.Configs.{starves}
use Rattle.leg_laws.specs.Places.{need_at, next_place}
use Rattle.leg_laws.specs.Needs.{config_after_put, packet_at}
use Rattle.leg_laws.specs.Rounds.{Stand, Before, Within, put_at}
use Rattle.leg_laws.specs.SentTaken.{config_of}
use Rattle.leg_laws.proofs.Moves.{take_is_put, true_is_false}

-- a put leads from the stand at one place to the stand at the next
pub put_goes_on : (m : Meaning) (l : LegScan) (left : List ℤ) (place : Place) (stand : Stand) (side : Side)
    → need_at place ≡ Put side → starves (config_of m l left place stand) ≡ false
    → config_after_put m l (config_of m l left place stand) ≡ config_of m l left (next_place place) stand
put_goes_on m l left p.PutLeftReadings (Before state) side n f = refl
put_goes_on m l left p.PutLeftReadings (Within half) side n f = absurd (true_is_false f)
put_goes_on m l left p.PutRightReadings (Before state) side n f = refl
put_goes_on m l left p.PutRightReadings (Within half) side n f = absurd (true_is_false f)
put_goes_on m l left p.PutLeftResult (Before state) side n f = absurd (true_is_false f)
put_goes_on m l left p.PutLeftResult (Within half) side n f = refl
put_goes_on m l left p.PutRightResult (Before state) side n f = absurd (true_is_false f)
put_goes_on m l left p.PutRightResult (Within half) side n f = refl
put_goes_on m l left p.TakeLeftReadings stand side n f = absurd (take_is_put Left side n)
put_goes_on m l left p.TakeRightReadings stand side n f = absurd (take_is_put Right side n)
put_goes_on m l left p.TakeLeftResult stand side n f = absurd (take_is_put Left side n)
put_goes_on m l left p.TakeRightResult stand side n f = absurd (take_is_put Right side n)

put_side : (s t : Side) → Put s ≡ Put t → s ≡ t
put_side s t e = cc

-- it puts what the stand puts in this round
pub put_is : (m : Meaning) (l : LegScan) (left : List ℤ) (place : Place) (stand : Stand) (side : Side)
    → need_at place ≡ Put side → starves (config_of m l left place stand) ≡ false
    → packet_at l (config_of m l left place stand) ≡ put_at l side stand
put_is m l left p.PutLeftReadings (Before state) side n f = ap (λ s. put_at l s (Before state)) (put_side Left side n)
put_is m l left p.PutLeftReadings (Within half) side n f = absurd (true_is_false f)
put_is m l left p.PutRightReadings (Before state) side n f = ap (λ s. put_at l s (Before state)) (put_side Right side n)
put_is m l left p.PutRightReadings (Within half) side n f = absurd (true_is_false f)
put_is m l left p.PutLeftResult (Before state) side n f = absurd (true_is_false f)
put_is m l left p.PutLeftResult (Within half) side n f = ap (λ s. put_at l s (Within half)) (put_side Left side n)
put_is m l left p.PutRightResult (Before state) side n f = absurd (true_is_false f)
put_is m l left p.PutRightResult (Within half) side n f = ap (λ s. put_at l s (Within half)) (put_side Right side n)
put_is m l left p.TakeLeftReadings stand side n f = absurd (take_is_put Left side n)
put_is m l left p.TakeRightReadings stand side n f = absurd (take_is_put Right side n)
put_is m l left p.TakeLeftResult stand side n f = absurd (take_is_put Left side n)
put_is m l left p.TakeRightResult stand side n f = absurd (take_is_put Right side n)
