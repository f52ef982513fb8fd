-- What is voted lies between the readings of two sound legs.
use Rattle.std.proofs.Common.{◌≡◌, ℕ, zero, suc, ◌-◌, ℤ, ◌≤◌, Option, Some, None, unwrap_or, List, [], ◌∷◌, sym, ap, subst, ◌∙◌, arith}
use Rattle.std.specs.Prelude.{slice_get}
use Rattle.std.proofs.lemmas.Int.{ints, clamps}
use Rattle.tri_base.specs.declared.leg.Leg.{Leg}
use Rattle.tri_base.specs.declared.leg.Leg.TheVariants.{A, B, C}
use Rattle.tri_base.specs.declared.leg.Side.TheVariants.{Right}
use Rattle.tri_base.specs.declared.leg.Triple.{Triple}
use Rattle.tri_base.specs.Legs.{right_of}
use Rattle.engine_face.specs.Meaning.{Meaning}
use Rattle.vote_analog.specs.Middle.{LiesBetween}
use Rattle.leg_packet.specs.Readings.{Readings, readings_of, spelled_readings}
use Rattle.leg_packet.proofs.Said.{readings_read}
use Rattle.input_legs.specs.VotedSheets.{LieBetween, LiesBetweenTwo, SheetLiesBetween}
use Rattle.input_legs.proofs.Between.{votes_between}
use Rattle.script_text.specs.ScriptValue.{ScriptValue}
use Rattle.script_text.specs.LegScans.{scan_of}
use Rattle.plant_script.specs.Countdown.{IsSound, is_quiet, recovery_countdown}
use Rattle.plant_script.specs.Faces.{decided_or, face}
use Rattle.single_controller.specs.Controller.{voted_at}
use Rattle.majority_laws.specs.Between.{CanBeRead, LiesBetweenSound, given}
use Rattle.majority_laws.proofs.Countdown.{IsQuiet, accepted_in, count_next, quiet, to_zero, windows_after}

-- ---- an input on which two legs agree

value_is : (a b : ℤ) → ◌≡◌ {A = Option ℤ} (Some a) (Some b) → a ≡ b
value_is a b e = ap (λ (o : Option ℤ). unwrap_or o a) e

no_value : (value : ℤ) → ◌≡◌ {A = Option ℤ} None (Some value) → ⊥
no_value value e = cc

only_one : (x y v value : ℤ) → x ≡ value → y ≡ value → LiesBetween (Some x) (Some y) v → v ≡ value
only_one x y v value ex ey h = omega (arith, ints, clamps, ex, ey, h.0, h.1)

agreed_value : (xs ys values : List ℤ) (input : ℕ) (value : ℤ) → LieBetween xs ys values
    → slice_get xs input ≡ Some value → slice_get ys input ≡ Some value → slice_get values input ≡ Some value
agreed_value [] [] [] zero value h ex ey = ex
agreed_value [] [] [] (suc input) value h ex ey = ex
agreed_value [] [] (v ∷ values) input value h ex ey = absurd h
agreed_value [] (y ∷ ys) values input value h ex ey = absurd h
agreed_value (x ∷ xs) [] values input value h ex ey = absurd h
agreed_value (x ∷ xs) (y ∷ ys) [] input value h ex ey = absurd h
agreed_value (x ∷ xs) (y ∷ ys) (v ∷ values) zero value h ex ey =
    ap (λ (n : ℤ). Some n) (only_one x y v value (value_is x value ex) (value_is y value ey) h.0)
agreed_value (x ∷ xs) (y ∷ ys) (v ∷ values) (suc input) value h ex ey = agreed_value xs ys values input value h.1 ex ey

-- ---- what a sound leg shows

sound_quiet : (m : Meaning) (v : ScriptValue) (scan : ℕ) → 1 ≤ scan → (leg : Leg) → IsSound m v leg scan
    → IsQuiet (scan_of v leg scan)
sound_quiet m v scan first leg sound =
    let f =
    to_zero (is_quiet (scan_of v leg scan)) (accepted_in m v scan) (windows_after m v scan)
    (recovery_countdown m v leg (scan - 1)) (sym (count_next m v leg scan first) ∙ sound) in
    quiet (scan_of v leg scan) f.quiet_is

shows_given : (v : ScriptValue) (scan : ℕ) → CanBeRead v scan → (leg : Leg) → IsQuiet (scan_of v leg scan)
    → readings_of v.points (face Right (scan_of v leg scan)) ≡ Some (given v leg scan)
shows_given v scan can leg q =
    let h = can.readable leg in
    (λ i. readings_of v.points (decided_or (q.shown_right i) (spelled_readings (given v leg scan))))
    ∙ readings_read v.points (given v leg scan) (record { from = h.time.0; to = h.time.1; values = h.readings })

abbrev right_faces : ScriptValue → ℕ → Triple (List ℤ)
right_faces v scan = record {
  a = face Right (scan_of v A scan);
  b = face Right (scan_of v B scan);
  c = face Right (scan_of v C scan);
}

pub between_sound : (m : Meaning) (v : ScriptValue) (scan : ℕ) → CanBeRead v scan → 1 ≤ scan
    → (leg : Leg) → IsSound m v leg scan → IsSound m v (right_of leg) scan → LiesBetweenSound v scan leg
between_sound m v scan can first leg sound beside =
    let here = shows_given v scan can leg (sound_quiet m v scan first leg sound) in
    let there = shows_given v scan can (right_of leg) (sound_quiet m v scan first (right_of leg) beside) in
    let both : SheetLiesBetween (given v leg scan) (given v (right_of leg) scan) (voted_at v scan) =
    subst (λ (p : Option Readings × Option Readings). LiesBetweenTwo p.0 p.1 (voted_at v scan))
    (λ i. (here i, there i)) (pick leg) in
    record {
      between = both;
      agreed = λ input value ex ey.
          agreed_value (given v leg scan).values (given v (right_of leg) scan).values (voted_at v scan).values input
          value
          both.values ex ey;
    }
  where
    pick : (x : Leg) → LiesBetweenTwo (readings_of v.points (face Right (scan_of v x scan)))
        (readings_of v.points (face Right (scan_of v (right_of x) scan))) (voted_at v scan)
    pick A = (votes_between v.points (right_faces v scan) can.ranges).0
    pick B = (votes_between v.points (right_faces v scan) can.ranges).1
    pick C = (votes_between v.points (right_faces v scan) can.ranges).2
