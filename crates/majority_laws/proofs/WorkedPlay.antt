-- The worked play, by computing.
use Rattle.std.proofs.Common.{◌≡◌, ◌≢◌, ℕ, zero, suc, pos, ◌-◌, ◌==◌, true, [], ◌∷◌, get_or, refl, sym, ap, ◌∙◌, arith}
use Rattle.std.specs.List.{All}
use Rattle.std.proofs.lemmas.Bool.{cond_both}
use Rattle.std.proofs.lemmas.Int.{ints}
use Rattle.std.proofs.lemmas.List.Elements.{All-cons, All-nil}
use Rattle.tri_base.specs.declared.leg.Leg.{Leg}
use Rattle.tri_base.specs.declared.leg.Leg.TheVariants.{A, B, C}
use Rattle.tri_base.specs.declared.leg.Side.TheVariants.{Left, Right}
use Rattle.tri_base.specs.declared.point.Point.{Point}
use Rattle.tri_base.specs.declared.point.PointKind.TheVariants.{Di}
use Rattle.tri_base.specs.Legs.{leg_part}
use Rattle.chassis.specs.Ranges.{HoldsZero}
use Rattle.engine_face.specs.Inner.CountingLaws.{counting_lawful}
use Rattle.fault_history.specs.Notes.{NoteData, no_note}
use Rattle.leg_packet.specs.Sheets.{pairs_of}
use Rattle.script_text.specs.IsScript.{IsBlock, IsScript}
use Rattle.script_text.specs.MomentValue.{MomentValue}
use Rattle.script_text.specs.Moments.{moment_at}
use Rattle.script_text.specs.LegScans.{next_scan, scan_of}
use Rattle.script_text.specs.declared.moment.ScanLine.TheVariants.{Download, Drive, Replace}
use Rattle.plant_script.specs.Countdown.{is_quiet, recovery_countdown}
use Rattle.plant_script.specs.Faces.{face}
use Rattle.plant_script.specs.FirstRefused.{with_lines}
use Rattle.plant_script.specs.SingleTexts.{text_after}
use Rattle.leg_laws.specs.FaultLines.{acted_all}
use Rattle.leg_laws.specs.ChangePoint.{change_point, prepared}
use Rattle.leg_laws.specs.HalfScans.{half_scan}
use Rattle.leg_laws.specs.Closing.{closed, judged_of, learned_of}
use Rattle.leg_laws.specs.Plays.{play_of}
use Rattle.leg_laws.specs.WorkedPlays.{at, two_points}
use Rattle.leg_laws.proofs.Traces.{Traced, traced, traced_is}
use Rattle.majority_laws.specs.Carried.{field_outputs}
use Rattle.majority_laws.specs.Majority.{CanBePlayed, note_at}
use Rattle.majority_laws.specs.CalmPlays.{HasNoFaults}
use Rattle.majority_laws.specs.WorkedPlay.{FaultyLeg, counter, faulty_leg}
use Rattle.majority_laws.proofs.Scripts.{can_be_played}
use Rattle.majority_laws.proofs.Sound.{one_faulty_calm}

-- ---- it is a script

first_block : IsBlock (65 ∷ 10 ∷ [])
first_block = ((65 ∷ []) ∷ [], refl, (refl, refl, refl, tt), refl)

second_block : IsBlock (66 ∷ 10 ∷ [])
second_block = ((66 ∷ []) ∷ [], refl, (refl, refl, refl, tt), refl)

is_script : IsScript faulty_leg
is_script = record {
  plant = (refl, refl, (refl, refl, refl), (refl, refl, (refl, refl, refl), tt));
  text = first_block;
  least = omega arith;
  most = omega arith;
  moments = (
    omega arith,
    omega arith,
    record { lines = (tt, tt); renames = tt; prepared = tt; asks = tt },
    (
      omega arith,
      omega arith,
      record { lines = ((omega arith, tt), tt); renames = tt; prepared = tt; asks = tt },
      (
        omega arith,
        omega arith,
        record { lines = ((refl, second_block), tt); renames = tt; prepared = tt; asks = tt },
        tt,
      ),
    ),
  );
}

held : (p : Point) → p.low ≡ pos 0 → p.high ≡ pos 1 → HoldsZero p
held p low high = (omega (arith, ints, low), omega (arith, ints, high))

zeros_held : All HoldsZero two_points
zeros_held =
    All-cons HoldsZero (get_or two_points 0 a_point) (get_or two_points 1 a_point ∷ [])
    (held (get_or two_points 0 a_point) refl refl)
    (All-cons HoldsZero (get_or two_points 1 a_point) [] (held (get_or two_points 1 a_point) refl refl)
    (All-nil HoldsZero))
  where
    a_point : Point
    a_point = record { name = []; kind = Di; low = pos 0; high = pos 1; tolerance = pos 0 }

played : CanBePlayed counter faulty_leg
unfolding with_lines
played =
    can_be_played counter (record { value = faulty_leg; text_line = 1; swap_lines = [] })
    (counting_lawful two_points zeros_held) is_script refl

-- ---- its faults are those of B

-- what holds of each scan of the script
each_moment : (P : MomentValue → Type 0) (k : ℕ)
    → P (at 2 (Replace B ∷ [])) → P (at 4 (Drive B (pos 1 ∷ []) ∷ [])) → P (at 5 (Download (66 ∷ 10 ∷ []) ∷ []))
    → P (at k []) → P (moment_at k faulty_leg.moments)
each_moment P k two four five none =
    cond_both (2 == k) _ _ P (λ e. two)
    (λ e. cond_both (4 == k) _ _ P (λ e. four) (λ e. cond_both (5 == k) _ _ P (λ e. five) (λ e. none)))

quiet_a : (k : ℕ) → is_quiet (scan_of faulty_leg A k) ≡ true
unfolding scan_of
quiet_a zero = refl
quiet_a (suc k) =
    each_moment (λ m. is_quiet (next_scan two_points A (scan_of faulty_leg A k) m) ≡ true) (suc k) refl refl refl refl

quiet_c : (k : ℕ) → is_quiet (scan_of faulty_leg C k) ≡ true
unfolding scan_of
quiet_c zero = refl
quiet_c (suc k) =
    each_moment (λ m. is_quiet (next_scan two_points C (scan_of faulty_leg C k) m) ≡ true) (suc k) refl refl refl refl

others_quiet : (leg : Leg) → leg ≢ B → HasNoFaults faulty_leg 11 leg
others_quiet A n k first last = quiet_a k
others_quiet B n k first last = absurd (n refl)
others_quiet C n k first last = quiet_c k

same_faces : (k : ℕ) → face Left (scan_of faulty_leg B k) ≡ face Right (scan_of faulty_leg B k)
unfolding scan_of
same_faces zero = refl
same_faces (suc k) =
    each_moment (λ m. face Left (next_scan two_points B (scan_of faulty_leg B k) m)
    ≡ face Right (next_scan two_points B (scan_of faulty_leg B k) m)) (suc k) refl refl refl refl

-- ---- what is computed

abbrev trace : ℕ → Leg → NoteData
trace scan leg = get_or (leg_part (traced counter (play_of faulty_leg) scan) leg).notes (scan - 1) no_note

noted : (scan : ℕ) (leg : Leg) → note_at counter faulty_leg scan leg ≡ trace scan leg
noted scan leg = λ i. get_or (sym (traced_is counter (play_of faulty_leg) scan leg) i).notes (scan - 1) no_note

abbrev Counts : ℕ → ℕ → Type 0
Counts scan count = recovery_countdown counter faulty_leg B scan ≡ count

counts : Counts 2 6 × Counts 3 5 × Counts 4 6 × Counts 5 6 × Counts 11 0
unfolding recovery_countdown text_after scan_of
counts = (refl, refl, refl, refl, refl)

pub faulty_leg_worked : FaultyLeg
unfolding traced scan_of acted_all change_point prepared half_scan closed judged_of learned_of pairs_of
faulty_leg_worked = record {
  played = played;
  calm = one_faulty_calm counter faulty_leg 11 B others_quiet (λ k first last. same_faces k);
  replaced = counts.0;
  before = counts.1;
  drives = counts.2;
  changed = counts.3;
  over = counts.4;
  learns = ap (λ (n : NoteData). n.judged) (noted 2 B) ∙ refl;
  accused = ap (λ (n : NoteData). n.judged) (noted 2 A) ∙ refl;
  agreed = ap (λ (n : NoteData). n.judged) (noted 3 A) ∙ refl;
  driven = ap (λ (n : NoteData). n.drive) (noted 4 B) ∙ refl;
  outputs = (λ i. field_outputs two_points (λ leg. noted 4 leg i)) ∙ refl;
  verdict = ap (λ (n : NoteData). n.verdict) (noted 5 C) ∙ refl;
  ends = sym (ap (λ (t : Traced). t.state) (traced_is counter (play_of faulty_leg) 11 B)) ∙ refl;
}
