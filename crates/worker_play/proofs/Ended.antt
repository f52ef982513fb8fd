-- Legs that played over the bus have played the script.
use Rattle.std.proofs.Common.{◌≡◌, ◌∙◌, ℕ, List, false, refl}
use Rattle.tri_base.specs.declared.leg.Leg.{Leg}
use Rattle.tri_base.specs.declared.leg.Leg.TheVariants.{A, B, C}
use Rattle.tri_base.specs.declared.leg.Triple.{Triple}
use Rattle.tri_base.specs.declared.point.Point.{Point}
use Rattle.tri_base.specs.Legs.{leg_part}
use Rattle.engine_face.specs.Meaning.{Meaning}
use Rattle.script_text.specs.ScriptValue.{ScriptValue}
use Rattle.leg_laws.specs.Configs.{LegValue}
use Rattle.leg_laws.specs.ExchangeSteps.{exchange_at_start}
use Rattle.leg_laws.specs.Plays.{play_of}
use Rattle.leg_laws.proofs.Reached.{equal_tapes}
use Rattle.tribus.specs.Settling.{SettledPost}
use Rattle.leg_workers.specs.Playing.{PlaysOver}
use Rattle.play_report.specs.Played.{HavePlayed}
use Rattle.play_report.specs.Starved.{some_starve}
use Rattle.play_report.proofs.Ended.{have_played, none_starves}

given_at_start : (m : Meaning) (v : ScriptValue) (was : Triple LegValue) → was ≡ (exchange_at_start m (play_of v)).legs
    → (x : Leg) → (leg_part was x).given ≡ 0
given_at_start m v was e A = λ i. (e i).a.given
given_at_start m v was e B = λ i. (e i).b.given
given_at_start m v was e C = λ i. (e i).c.given

pub ended : (m : List Point → Meaning) (v : ScriptValue) (was now : Triple LegValue) (bus : Triple SettledPost)
    → was ≡ (exchange_at_start (m v.points) (play_of v)).legs → PlaysOver m was now bus → some_starve now ≡ false
    → HavePlayed (m v.points) v now
ended m v was now bus start over fed =
    let h = over.played (play_of v) (equal_tapes v) start in
    have_played (m v.points) v now h.in_step (none_starves now fed) h.done
    (λ (x : Leg). (h.follows x).points)
    (λ (x : Leg). over.notes x ∙ given_at_start (m v.points) v was start x)
