-- A play that was worked by hand, to hold the definitions against: an engine that counts its scans, with the discrete
-- input START and the output PUMP, which it drives 0. Leg B is replaced in scan 2 and drives 1 in scan 4, and in scan 5
-- there is a download. Own rule.
use Rattle.std.specs.Prelude.{◌≡◌, pos, [], ◌∷◌, Some}
use Rattle.tri_base.specs.declared.judged.Judged.TheVariants as j
use Rattle.tri_base.specs.declared.leg.Leg.TheVariants.{A, B, C}
use Rattle.engine_face.specs.declared.verdict.Verdict.TheVariants.{Accepted}
use Rattle.engine_face.specs.Counting.{counting}
use Rattle.engine_face.specs.Meaning.{Meaning}
use Rattle.script_text.specs.declared.moment.ScanLine.TheVariants.{Download, Drive, Replace}
use Rattle.script_text.specs.ScriptValue.{ScriptValue, script_value}
use Rattle.plant_script.specs.Calm.{IsCalm}
use Rattle.plant_script.specs.Countdown.{recovery_countdown}
use Rattle.leg_laws.specs.Plays.{play_of}
use Rattle.leg_laws.specs.Rounds.{state_after}
use Rattle.leg_laws.specs.States.{Running}
use Rattle.leg_laws.specs.WorkedPlays.{at, two_points}
use Rattle.majority_laws.specs.Carried.{field_outputs}
use Rattle.majority_laws.specs.Majority.{CanBePlayed, note_at}

-- The engine over the two points.
abbrev pub counter : Meaning
counter = counting two_points

-- The script. Its texts are a letter and a line feed, so a program of one word has one window.
abbrev pub faulty_leg : ScriptValue
faulty_leg =
    script_value two_points (65 ∷ 10 ∷ []) [] 11
    (at 2 (Replace B ∷ []) ∷ at 4 (Drive B (pos 1 ∷ []) ∷ []) ∷ at 5 (Download (66 ∷ 10 ∷ []) ∷ []) ∷ [])

-- It can be played, and all its scans are calm: B alone has faults.
pub record FaultyLeg : Type 0 where
  pub played : CanBePlayed counter faulty_leg
  pub calm : IsCalm counter faulty_leg 11
  -- six scans from each fault on, and again from the download on
  pub replaced : recovery_countdown counter faulty_leg B 2 ≡ 6
  pub before : recovery_countdown counter faulty_leg B 3 ≡ 5
  pub drives : recovery_countdown counter faulty_leg B 4 ≡ 6
  pub changed : recovery_countdown counter faulty_leg B 5 ≡ 6
  pub over : recovery_countdown counter faulty_leg B 11 ≡ 0
  -- its neighbours accuse it while it learns, and no longer
  pub learns : (note_at counter faulty_leg 2 B).judged ≡ j.Ready
  pub accused : (note_at counter faulty_leg 2 A).judged ≡ j.Accuses B
  pub agreed : (note_at counter faulty_leg 3 A).judged ≡ j.Agrees
  -- what it drives isn't seen in the outputs
  pub driven : (note_at counter faulty_leg 4 B).drive ≡ Some (pos 1 ∷ [])
  pub outputs : field_outputs two_points (note_at counter faulty_leg 4) ≡ pos 0 ∷ []
  -- it takes the download as the others do, and ends as they do
  pub verdict : (note_at counter faulty_leg 5 C).verdict ≡ Some Accepted
  pub ends : state_after counter (play_of faulty_leg) 11 B
      ≡ Running (record { text = 66 ∷ 10 ∷ []; words = pos 11 ∷ []; epoch = 1; turn = 0 })
