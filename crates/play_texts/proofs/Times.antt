-- The scan time that a leg votes is one that a recorder takes, in every scan and whatever its neighbours show.
use Rattle.std.proofs.Common.{◌≡◌, ℕ, ◌-◌, ◌≤◌, ℤ, pos, negsuc, ◌≤ℤ◌, Option, List, refl, sym, subst, arith, w64, to_z, of_z}
use Rattle.std.proofs.lemmas.Int.{ints, to_z_pos}
use Rattle.tri_base.specs.declared.leg.Leg.{Leg}
use Rattle.tri_base.specs.declared.leg.Side.TheVariants.{Left, Right}
use Rattle.tri_base.specs.declared.point.Point.{Point}
use Rattle.tri_base.specs.Legs.{left_of, right_of}
use Rattle.tri_base.specs.Limits.{scan_time_limit}
use Rattle.engine_face.specs.Meaning.{Meaning}
use Rattle.engine_face.specs.declared.verdict.Verdict.{Verdict}
use Rattle.input_legs.specs.VotedSheets.{VotedSheet, vote_sheet_of}
use Rattle.fault_history.specs.Notes.{NoteData, no_note}
use Rattle.script_text.specs.LegScans.{LegScan}
use Rattle.script_text.specs.ScriptValue.{ScriptValue}
use Rattle.plant_script.specs.Faces.{face}
use Rattle.leg_laws.specs.States.{Learning, Running, State}
use Rattle.leg_laws.specs.ChangePoint.{Prepared, prepared}
use Rattle.leg_laws.specs.HalfScans.{half_of, half_scan, voted_packets}
use Rattle.leg_laws.specs.Plays.{play_of}
use Rattle.leg_laws.specs.Rounds.{state_after}
use Rattle.leg_laws.specs.ThreeScans.{half_at, scans_behind}
use Rattle.leg_laws.proofs.KeptStates.{IsInput, voted_fits}
use Rattle.majority_laws.specs.Majority.{note_at}
use Rattle.majority_laws.proofs.Accounts.{note_made, note_stays}

-- a scan time from 0 on
abbrev pub IsTime : ℤ → Type 0
IsTime time = (pos 0 ≤ℤ time) × (time ≤ℤ scan_time_limit)

-- such a time is what it is in 64 bits
pub time_back : (time : ℤ) → IsTime time → to_z w64 (of_z w64 time) ≡ time
time_back (pos n) h = to_z_pos w64 n (omega (arith, ints, h.1))
time_back (negsuc n) h = absurd (omega (arith, ints, h.0))

-- a leg has its vote, whether it runs or learns
voted_of : (m : Meaning) (w : VotedSheet) (u : Option Verdict) (state : State) → (half_of m w u state).voted ≡ w
voted_of m w u (Running r) = refl
voted_of m w u (Learning o) = refl

half_time : (m : Meaning) (points : List Point) (ls : Leg → LegScan) (states : Leg → State) (x : Leg)
    → IsTime (half_at m points ls states x).voted.time
unfolding half_scan
half_time m points ls states x =
    let w : VotedSheet =
    vote_sheet_of points (voted_packets x (ls x) (face Right (ls (left_of x))) (face Left (ls (right_of x)))) in
    let ready : Prepared = prepared m (ls x) (states x) in
    let fits : IsInput points w =
    voted_fits points (voted_packets x (ls x) (face Right (ls (left_of x))) (face Left (ls (right_of x)))) in
    subst (λ (sheet : VotedSheet). IsTime sheet.time) (sym (voted_of m w ready.verdict ready.state))
    (fits.low, fits.high)

pub time_fits : (m : Meaning) (v : ScriptValue) (scan : ℕ) (x : Leg) → 1 ≤ scan → IsTime (note_at m v scan x).time
time_fits m v scan x first =
    let play = play_of v in
    let made : note_at m v scan x ≡ note_made m play (scan - 1) x =
    note_stays m play (scan - 1) scan x (omega (arith, first)) no_note in
    subst (λ (note : NoteData). IsTime note.time) (sym made)
    (half_time m v.points (scans_behind play (scan - 1)) (state_after m play (scan - 1)) x)
