-- What the legs note while all scans are calm.
use Rattle.std.proofs.Common.{◌≡◌, ◌≢◌, ℕ, zero, suc, ℤ, ◌-◌, ◌<◌, ◌≤◌, ◌⊎◌, inl, inr, ⊎_elim, Bool, true, false, Option, Some, List, length, get_or, refl, sym, ap, subst, ◌∙◌, arith}
use Rattle.std.proofs.lemmas.List.{length-append, get_or_append_left, get_or_push}
use Rattle.std.proofs.lemmas.Bool.{cases_lt, false_from_ne_true}
use Rattle.std.specs.Option.{option_or}
use Rattle.tri_base.specs.declared.leg.Leg.{Leg}
use Rattle.tri_base.specs.declared.leg.Side.{Side}
use Rattle.tri_base.specs.declared.leg.Side.TheVariants.{Left, Right}
use Rattle.tri_base.specs.declared.judged.Judged.TheVariants as j
use Rattle.tri_base.specs.Legs.{left_of, neighbour, right_of}
use Rattle.engine_face.specs.Meaning.{Meaning}
use Rattle.engine_face.specs.declared.verdict.Verdict.{Verdict}
use Rattle.leg_packet.specs.Sheets.{spelled}
use Rattle.memory_compare.specs.Judging.{same_words}
use Rattle.input_legs.specs.Marks.{has_mark}
use Rattle.input_legs.specs.VotedSheets.{VotedSheet, vote_sheet_of}
use Rattle.fault_history.specs.Notes.{NoteData, no_note}
use Rattle.script_text.specs.ScriptValue.{ScriptValue}
use Rattle.plant_script.specs.Calm.{IsCalm, IsQuietScan}
use Rattle.plant_script.specs.Countdown.{IsSound, IsSuspect, recovery_countdown}
use Rattle.single_controller.specs.Controller.{scanned_at, verdict_at, voted_at}
use Rattle.leg_laws.specs.States.{Run, Running}
use Rattle.leg_laws.specs.HalfScans.{HalfScan, half_of, run_on, run_sheet}
use Rattle.leg_laws.specs.Closing.{Closed, agreed, scan_note}
use Rattle.leg_laws.specs.Plays.{Play, play_of}
use Rattle.leg_laws.specs.Rounds.{after_scans, in_step, state_after}
use Rattle.leg_laws.specs.ThreeScans.{closed_at, half_at, scans_behind}
use Rattle.leg_laws.proofs.Scans.{next_scan}
use Rattle.majority_laws.specs.Carried.{told}
use Rattle.majority_laws.specs.Majority.{CanBePlayed, note_at}
use Rattle.majority_laws.specs.Judged.{AccusesSuspect, JudgesFairly}
use Rattle.majority_laws.specs.Recovering.{shown_in}
use Rattle.majority_laws.specs.Standing.{StandsGood, good_result, result_from, run_in}
use Rattle.majority_laws.proofs.Countdown.{IsQuiet, one_of, others_sound, two_sound}
use Rattle.majority_laws.proofs.Ring3.{sides_apart}
use Rattle.majority_laws.proofs.Track.{ShownAt, faces_here, good_before, good_shown, quiet_here, seen_at, states_at, tracked_before, voted_here}
use Rattle.majority_laws.proofs.Votes.{accusing, beside_left, beside_right, mid_is, same_from, same_is, stays}

-- ---- notes stay, one a scan

module _ (m : Meaning) (play : Play) where
  -- what a leg notes of a scan with so many behind it
  abbrev pub note_made : ℕ → Leg → NoteData
  note_made k x =
      scan_note (half_at m play.points (scans_behind play k) (state_after m play k) x)
      (closed_at m play.points (scans_behind play k) (state_after m play k) x)
      (has_mark (after_scans m play x (suc k)).marks)

  pub notes_count : (k : ℕ) (x : Leg) → length (after_scans m play x k).notes ≡ k
  unfolding in_step
  notes_count zero x = refl
  notes_count (suc k) x =
      ap length (next_scan m play k x).notes ∙ length-append (after_scans m play x k).notes _
      ∙ omega (arith, notes_count k x)

  -- the note of a scan is the one that was made in it
  note_one : (k : ℕ) (x : Leg) (d : NoteData) → get_or (after_scans m play x (suc k)).notes k d ≡ note_made k x
  note_one k x d =
      ap (λ (ns : List NoteData). get_or ns k d) (next_scan m play k x).notes
      ∙ get_or_push (after_scans m play x k).notes (note_made k x) d k (notes_count k x)

  -- later scans leave it
  pub note_stays : (k n : ℕ) (x : Leg) → k < n → (d : NoteData) → get_or (after_scans m play x n).notes k d
      ≡ note_made k x
  note_stays k zero x l d = absurd (omega (arith, l))
  note_stays k (suc n) x l d = ⊎_elim
      (λ (t : k < n).
      ap (λ (ns : List NoteData). get_or ns k d) (next_scan m play n x).notes
      ∙ get_or_append_left (after_scans m play x n).notes _ d k (omega (arith, t, notes_count n x))
      ∙ note_stays k n x t d)
      (λ (t : n ≤ k).
      let is : k ≡ n = omega (arith, l, t) in
      subst (λ i. get_or (after_scans m play x (suc i)).notes k d ≡ note_made k x) is (note_one k x d))
      (cases_lt k n)

module _ (m : Meaning) (v : ScriptValue) (can : CanBePlayed m v) (scan : ℕ) (first : 1 ≤ scan) (last : scan ≤ v.scans)
    (calm : IsCalm m v scan) where
  abbrev behind : ℕ
  behind = scan - 1

  here : IsQuietScan m v scan
  here = quiet_here m v can scan first last calm

  abbrev Out : Leg → Type 0
  Out x = ShownAt m v can scan first last here x

  abbrev half_here : Leg → HalfScan
  half_here x = half_at m v.points (seen_at m v can behind) (states_at m v can behind) x

  abbrev closed_here : Leg → Closed
  closed_here x = closed_at m v.points (seen_at m v can behind) (states_at m v can behind) x

  abbrev run : Run
  run = run_in m v scan

  abbrev verdict : Option Verdict
  verdict = told (verdict_at m v scan)

  abbrev vote_is : vote_sheet_of v.points (shown_in (seen_at m v can behind)) ≡ voted_at v scan
  vote_is = voted_here m v can scan first last

  shown : (x : Leg) → IsSound m v x scan → Out x × IsQuiet (seen_at m v can behind x)
  shown x sound =
      let g = good_before m v can scan first last x (tracked_before m v can scan first last calm x) sound in
      (good_shown m v can scan first last here x g.0 g.1, g.1)

  pub note_is : (x : Leg) → note_at m v scan x ≡ note_made m (play_of v) behind x
  note_is x = note_stays m (play_of v) behind scan x (omega (arith, first)) no_note

  -- ---- how a sound leg ends the scan: it goes on, and accuses by what it takes from one side

  pub record Closes (x : Leg) (side : Side) : Type 0 where
    pub closed : closed_here x
        ≡ stays x (seen_at m v can behind x) (scanned_at m v scan).outputs
        (record run { words = (scanned_at m v scan).words })
        (accusing side (same_words (good_result m v scan) (result_from m v scan x side)))

  left_out : (x : Leg) → Out x → Out (left_of x) → Closes x Right
  left_out x h l = record {
    closed =
        beside_left m v.points (seen_at m v can behind) (states_at m v can behind)
        (faces_here m v can scan first last here)
        run verdict x h l
        ∙ ap (λ (w : VotedSheet). stays x (seen_at m v can behind x) (run_on m run w).outputs
        (record run { words = (run_on m run w).words })
        (accusing Right (same_words (spelled (run_sheet run (run_on m run w))) (result_from m v scan x Right))))
        vote_is;
  }

  right_out : (x : Leg) → Out x → Out (right_of x) → Closes x Left
  right_out x h l = record {
    closed =
        beside_right m v.points (seen_at m v can behind) (states_at m v can behind)
        (faces_here m v can scan first last here)
        run verdict x h l
        ∙ ap (λ (w : VotedSheet). stays x (seen_at m v can behind x) (run_on m run w).outputs
        (record run { words = (run_on m run w).words })
        (accusing Left (same_words (spelled (run_sheet run (run_on m run w))) (result_from m v scan x Left)))) vote_is;
  }

  -- what a sound leg notes
  pub record Notes (x : Leg) : Type 0 where
    pub verdict_is : (note_at m v scan x).verdict ≡ told (verdict_at m v scan)
    pub drive_is : (note_at m v scan x).drive ≡ Some (scanned_at m v scan).outputs
    pub flag_is : (note_at m v scan x).arith ≡ (scanned_at m v scan).flag

  half_is : (x : Leg) → Out x → half_here x ≡ half_of m (voted_at v scan) verdict (Running run)
  half_is x h =
      (mid_is m v.points (seen_at m v can behind) (states_at m v can behind) (faces_here m v can scan first last here)
      run verdict x h).mid
      ∙ ap (λ (w : VotedSheet). half_of m w verdict (Running run)) vote_is

  carried_by : (x : Leg) (side : Side) → Out x → IsQuiet (seen_at m v can behind x) → Closes x side → Notes x
  carried_by x side h q c =
      let half : half_here x ≡ half_of m (voted_at v scan) verdict (Running run) = half_is x h in
      record {
        verdict_is = ap (λ (t : NoteData). t.verdict) (note_is x) ∙ ap (λ (t : HalfScan). t.verdict) half;
        drive_is = ap (λ (t : NoteData). t.drive) (note_is x) ∙ ap (λ (t : Closed). t.drive) c.closed
            ∙ ap (λ (d : Option (List ℤ)). option_or d (Some (scanned_at m v scan).outputs)) q.drive;
        flag_is = ap (λ (t : NoteData). t.arith) (note_is x) ∙ ap (λ (t : HalfScan). t.flag) half;
      }

  judged_by : (x : Leg) (side : Side) → Closes x side
      → (note_at m v scan x).judged
      ≡ agreed x (accusing side (same_words (good_result m v scan) (result_from m v scan x side)))
  judged_by x side c = ap (λ (t : NoteData). t.judged) (note_is x) ∙ ap (λ (t : Closed). t.judged) c.closed

  same_judged : (x : Leg) (side : Side) → Closes x side → result_from m v scan x side ≡ good_result m v scan
      → (note_at m v scan x).judged ≡ j.Agrees
  same_judged x side c e =
      judged_by x side c
      ∙ ap (λ b. agreed x (accusing side b)) (same_from (good_result m v scan) (result_from m v scan x side) (sym e))

  other_judged : (x : Leg) (side : Side) → Closes x side → result_from m v scan x side ≢ good_result m v scan
      → (note_at m v scan x).judged ≡ j.Accuses (neighbour x side)
  other_judged x side c e =
      judged_by x side c
      ∙ ap (λ b. agreed x (accusing side b)) (false_from_ne_true
      (same_words (good_result m v scan) (result_from m v scan x side))
      (λ t. e (sym (same_is (good_result m v scan) (result_from m v scan x side) t))))

  -- what a leg that is ready with the run puts is the good result
  puts_right : (x : Leg) → Out (right_of x) → result_from m v scan x Right ≡ good_result m v scan
  puts_right x h =
      (mid_is m v.points (seen_at m v can behind) (states_at m v can behind) (faces_here m v can scan first last here)
      run verdict (right_of x) h).left
      ∙ ap (λ (w : VotedSheet). spelled (run_sheet run (run_on m run w))) vote_is

  -- a sound leg within the scan
  pub stands_good : (x : Leg) → IsSound m v x scan → StandsGood m v scan x
  stands_good x sound =
      let h = (shown x sound).0 in
      record {
        ready = h.ready;
        result = ap (λ (t : HalfScan). t.own) (half_is x h);
      }

  -- a sound leg has a sound neighbour
  beside_sound : (x : Leg) → (IsSound m v (left_of x) scan) ⊎ (IsSound m v (right_of x) scan)
  beside_sound x = ⊎_elim
      (λ (l : IsSound m v (left_of x) scan). inl l)
      (λ (l : IsSuspect m v (left_of x) scan). inr (others_sound m v scan (left_of x) (right_of x) here l
      (sides_apart x)))
      (one_of (recovery_countdown m v (left_of x) scan))

  pub sound_notes : (x : Leg) → IsSound m v x scan → Notes x
  sound_notes x sound =
      let h = shown x sound in ⊎_elim
      (λ (l : IsSound m v (left_of x) scan). carried_by x Right h.0 h.1 (left_out x h.0 (shown (left_of x) l).0))
      (λ (r : IsSound m v (right_of x) scan). carried_by x Left h.0 h.1 (right_out x h.0 (shown (right_of x) r).0))
      (beside_sound x)

  closes_to : (x : Leg) (side : Side) → IsSound m v x scan → IsSuspect m v (neighbour x side) scan → Closes x side
  closes_to x Left sound s =
      right_out x (shown x sound).0
      (shown (right_of x) (others_sound m v scan (left_of x) (right_of x) here s (sides_apart x))).0
  closes_to x Right sound s =
      left_out x (shown x sound).0
      (shown (left_of x) (others_sound m v scan (right_of x) (left_of x) here s (λ e. sides_apart x (sym e)))).0

  -- it agrees, or accuses a suspect leg
  agrees_or_accuses : (x : Leg) (side : Side) → IsSound m v x scan → IsSuspect m v (neighbour x side) scan
      → (b : Bool) → same_words (good_result m v scan) (result_from m v scan x side) ≡ b
      → ((note_at m v scan x).judged ≡ j.Agrees) ⊎ AccusesSuspect m v scan (note_at m v scan x)
  agrees_or_accuses x side sound s true e =
      inl (judged_by x side (closes_to x side sound s) ∙ ap (λ b. agreed x (accusing side b)) e)
  agrees_or_accuses x side sound s false e = inr (record {
    accused = neighbour x side;
    suspect = s;
    judged = judged_by x side (closes_to x side sound s) ∙ ap (λ b. agreed x (accusing side b)) e;
  })

  all_agree : (x : Leg) → IsSound m v x scan → IsSound m v (left_of x) scan → IsSound m v (right_of x) scan
      → (note_at m v scan x).judged ≡ j.Agrees
  all_agree x sound left right =
      same_judged x Right (left_out x (shown x sound).0 (shown (left_of x) left).0)
      (puts_right x (shown (right_of x) right).0)

  judged_fairly : (x : Leg) → IsSound m v x scan
      → ((note_at m v scan x).judged ≡ j.Agrees) ⊎ AccusesSuspect m v scan (note_at m v scan x)
  judged_fairly x sound = ⊎_elim
      (λ (l : IsSound m v (left_of x) scan). ⊎_elim
      (λ (r : IsSound m v (right_of x) scan). inl (all_agree x sound l r))
      (λ (r : IsSuspect m v (right_of x) scan). agrees_or_accuses x Right sound r _ refl)
      (one_of (recovery_countdown m v (right_of x) scan)))
      (λ (l : IsSuspect m v (left_of x) scan). agrees_or_accuses x Left sound l _ refl)
      (one_of (recovery_countdown m v (left_of x) scan))

  pub sound_judged : (x : Leg) → IsSound m v x scan → JudgesFairly m v scan x (note_at m v scan x)
  sound_judged x sound = record {
    fair = judged_fairly x sound;
    none = λ all. all_agree x sound (all (left_of x)) (all (right_of x));
    same = λ side s e. same_judged x side (closes_to x side sound s) e;
    other = λ side s e. other_judged x side (closes_to x side sound s) e;
  }

  -- two legs at least note what the one controller does
  pub record TwoNote : Type 0 where
    pub one : Leg
    pub two : Leg
    pub apart : one ≢ two
    pub notes_one : Notes one
    pub notes_two : Notes two

  pub two_note : TwoNote
  two_note =
      let t = two_sound m v scan here in
      record {
        one = left_of t.other;
        two = right_of t.other;
        apart = sides_apart t.other;
        notes_one = sound_notes (left_of t.other) t.left;
        notes_two = sound_notes (right_of t.other) t.right;
      }
