-- Legs that stepped to the end have played.
use Rattle.std.proofs.Common.{◌≡◌, ◌∙◌, ℕ, ◌+◌, ◌-◌, ◌*◌, ◌<◌, ◌≤◌, ◌||◌, Bool, true, false, List, ◌++◌, length, take, drop, get_or, Option, Some, None, refl, sym, ap, subst, arith, true≢false}
use Rattle.std.proofs.lemmas.List.{get_or-drop, get_or-take}
use Rattle.std.proofs.lemmas.Option.{same_Some}
use Rattle.tri_base.specs.declared.leg.Leg.{Leg}
use Rattle.tri_base.specs.declared.leg.Leg.TheVariants.{A, B, C}
use Rattle.tri_base.specs.declared.leg.Triple.{Triple}
use Rattle.tri_base.specs.declared.point.Point.{Point}
use Rattle.tri_base.specs.Legs.{leg_part}
use Rattle.chassis.specs.Points.{inputs_of}
use Rattle.engine_face.specs.Meaning.{Meaning}
use Rattle.fault_history.specs.Notes.{NoteData, no_note}
use Rattle.script_text.specs.ScriptValue.{ScriptValue}
use Rattle.plant_script.proofs.Plays.{tape_length}
use Rattle.leg_laws.specs.declared.need.Need.TheVariants.{Done}
use Rattle.leg_laws.specs.Configs.{LegValue, is_starved, need_of, noted}
use Rattle.leg_laws.specs.Endings.{ending_of, state_ending}
use Rattle.leg_laws.specs.Exchanges.{AllDone, Exchange}
use Rattle.leg_laws.specs.ExchangeSteps.{Reaches, exchange_at_start}
use Rattle.leg_laws.specs.InStep.{IsInStep, NoneStarved}
use Rattle.leg_laws.specs.Plays.{play_of, scans_of}
use Rattle.leg_laws.specs.Rounds.{after_scans, state_after}
use Rattle.leg_laws.proofs.Reached.{scripts_stay_in_step}
use Rattle.majority_laws.specs.Majority.{note_at}
use Rattle.lockstep.specs.Following.{LeadsTo, StopsAt}
use Rattle.play_report.specs.LegsReport.{endings_of, tables_of}
use Rattle.play_report.specs.Tables.{EndSo, HaveInputs, tables_in}
use Rattle.play_report.specs.Told.{note_of_scan}
use Rattle.step_play.specs.Stepping.{stuck_letter}
use Rattle.play_report.specs.Played.{HavePlayed}
use Rattle.play_report.specs.Starved.{some_starve}
use Rattle.play_report.proofs.Ended.{have_played, none_starves}
use Rattle.step_play.specs.Inner.Played.{HaveStepped}
use Rattle.step_play.proofs.Fed.{fed_before, goes, stuck}
use Rattle.step_play.proofs.Kept.{reach_given, reach_more, reach_points, start_given, start_points}

-- ---- by steps

each_done : (w : Exchange) → AllDone w → (leg : Leg) → need_of (leg_part w.legs leg) ≡ Done
each_done w h A = h.0
each_done w h B = h.1
each_done w h C = h.2

-- all letters were stepped, and the legs went on to the end
pub ended : (m : List Point → Meaning) (v : ScriptValue) (u w : Exchange)
    → Reaches m (exchange_at_start (m v.points) (play_of v)) v.schedule u → LeadsTo m u w → AllDone w
    → some_starve w.legs ≡ false
    → (stuck_letter m v ≡ None) × HavePlayed (m v.points) v w.legs
unfolding stuck_letter
ended m v u w r more done fed =
    let start = exchange_at_start (m v.points) (play_of v) in
    let all = reach_more m v.schedule more.0 start u w r more.1 in
    let steps = v.schedule ++ more.0 in
    let none_u : NoneStarved (leg_part u.legs) = λ (x : Leg). before x in (
      goes m 1 v.schedule start u r none_u,
      have_played (m v.points) v w.legs (scripts_stay_in_step m v steps w all) (none_starves w.legs fed) (each_done w done)
          (λ (x : Leg). reach_points m steps start w x all ∙ start_points (m v.points) (play_of v) x)
          (λ (x : Leg). reach_given m steps start w x all ∙ start_given (m v.points) (play_of v) x),
    )
  where
    before : (x : Leg) → is_starved (leg_part u.legs x) ≡ false
    before x = fed_before m more.0 u w x more.1 (none_starves w.legs fed x)

-- the letters are stuck
pub stuck_at : (m : List Point → Meaning) (v : ScriptValue) (w : Exchange) (place : ℕ)
    → StopsAt m (exchange_at_start (m v.points) (play_of v)) w v.schedule place
    → some_starve w.legs ≡ false
    → stuck_letter m v ≡ Some (place + 1)
unfolding stuck_letter
stuck_at m v w place h fed =
    let number : 1 + place ≡ place + 1 = omega arith in
    stuck m 1 v.schedule (exchange_at_start (m v.points) (play_of v)) w place h (none_starves w.legs fed)
    ∙ ap (λ (k : ℕ). Some k) number

-- ---- as the code has it
pub run_ended : (m : List Point → Meaning) (v : ScriptValue) (r : Option ℕ) (legs : Triple LegValue)
    → HaveStepped m v legs r → r ≡ None
    → some_starve legs ≡ false
    → (stuck_letter m v ≡ None) × HavePlayed (m v.points) v legs
run_ended m v None legs h e fed =
    let out = ended m v h.steps.0 h.end h.steps.1 h.steps.2 h.steps.3 (ap some_starve (sym h.legs_are) ∙ fed) in
    (out.0, subst (λ (l : Triple LegValue). HavePlayed (m v.points) v l) (sym h.legs_are) out.1)
run_ended m v (Some place) legs h e fed = absurd (cc)

pub run_stuck : (m : List Point → Meaning) (v : ScriptValue) (r : Option ℕ) (place : ℕ) (legs : Triple LegValue)
    → HaveStepped m v legs r → r ≡ Some place
    → some_starve legs ≡ false → stuck_letter m v ≡ Some (place + 1)
run_stuck m v None place legs h e fed = absurd (cc)
run_stuck m v (Some other) place legs h e fed =
    let is : other ≡ place = same_Some other place e in
    stuck_at m v h.end other h.steps (ap some_starve (sym h.legs_are) ∙ fed) ∙ ap (λ (k : ℕ). Some (k + 1)) is

-- a letter at which they are stuck is one of the schedule
pub place_below : (m : List Point → Meaning) (v : ScriptValue) (r : Option ℕ) (place : ℕ) (legs : Triple LegValue)
    → HaveStepped m v legs r → r ≡ Some place → place < length v.schedule
place_below m v None place legs h e = absurd (cc)
place_below m v (Some other) place legs h e =
    let is : other ≡ place = same_Some other place e in
    subst (λ (k : ℕ). k < length v.schedule) is h.steps.there
