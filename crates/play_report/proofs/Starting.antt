-- What each leg sees of a script.
use Rattle.std.proofs.Common.{◌≡◌, refl, OnOk, Result, Ok, Err}
use Rattle.tri_base.specs.declared.leg.Leg.{Leg}
use Rattle.tri_base.specs.declared.leg.Leg.TheVariants.{A, B, C}
use Rattle.tri_base.specs.Legs.{leg_part}
use Rattle.script_text.specs.LegScans.{tape_of}
use Rattle.script_text.specs.ScriptValue.{ScriptValue}
use Rattle.leg_laws.specs.Plays.{play_of}

pub tape_is : (v : ScriptValue) (leg : Leg) → leg_part (play_of v).tapes leg ≡ tape_of v leg
tape_is v A = refl
tape_is v B = refl
tape_is v C = refl

-- what holds, holds after any result that is Ok
pub on_ok : {T E P : Type 0} (r : Result T E) → P → OnOk r P
on_ok (Ok x) p = p
on_ok (Err e) p = tt
