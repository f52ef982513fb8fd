-- While all scans are calm, a sound leg is good, and a suspect one as many scans from it as it counts.
use Rattle.std.proofs.Common.{◌≡◌, ℕ, zero, suc, ◌+◌, ◌-◌, ◌*◌, ◌<◌, ◌≤◌, ⊎_elim, false, Option, refl, sym, ap, subst, ◌∙◌, arith}
use Rattle.tri_base.specs.declared.leg.Leg.{Leg}
use Rattle.tri_base.specs.declared.leg.Leg.TheVariants.{A}
use Rattle.tri_base.specs.declared.leg.Side.TheVariants.{Left, Right}
use Rattle.tri_base.specs.Legs.{left_of, right_of}
use Rattle.tri_base.specs.Downloads.{Download}
use Rattle.engine_face.specs.Meaning.{Meaning}
use Rattle.input_legs.specs.VotedSheets.{VotedSheet, vote_sheet_of}
use Rattle.leg_packet.specs.Sheets.{epoch_limit}
use Rattle.script_text.specs.ScriptValue.{ScriptValue}
use Rattle.script_text.specs.LegScans.{LegScan, scan_of}
use Rattle.plant_script.specs.Calm.{IsCalm, IsQuietScan}
use Rattle.plant_script.specs.Countdown.{IsSound, is_quiet, recovery_countdown}
use Rattle.plant_script.specs.Faces.{face}
use Rattle.plant_script.specs.SingleTexts.{accepts, download_at, program_windows}
use Rattle.single_controller.specs.Controller.{controller_after, controller_in, verdict_at, voted_at}
use Rattle.single_controller.proofs.Texts.{has_text}
use Rattle.leg_laws.specs.States.{IsState, Run, Running, State, first_state}
use Rattle.leg_laws.specs.ChangePoint.{change_point, prepared}
use Rattle.leg_laws.specs.HalfScans.{run_on}
use Rattle.leg_laws.specs.Closing.{Closed, run_windows, turned}
use Rattle.leg_laws.specs.Good.{IsGood, good_run, scans_since}
use Rattle.leg_laws.specs.Plays.{play_of}
use Rattle.leg_laws.specs.Rounds.{in_step, state_after}
use Rattle.leg_laws.specs.ThreeScans.{closed_at, scans_behind}
use Rattle.leg_laws.proofs.KeptStates.{states_kept}
use Rattle.leg_laws.proofs.Scans.{next_scan}
use Rattle.majority_laws.specs.Carried.{told}
use Rattle.majority_laws.specs.Majority.{CanBePlayed}
use Rattle.majority_laws.specs.Recovering.{shown_in}
use Rattle.majority_laws.specs.Standing.{run_in, run_of}
use Rattle.majority_laws.proofs.Controllers.{IsKept, controller_epoch, controller_kept, first_good, good_next, run_changed, since_by, some_windows, windows_of_run}
use Rattle.majority_laws.proofs.Countdown.{Fell, IsQuiet, accepted_in, count_next, count_start, quiet, refuses, text_stays, to_some, to_zero, two_sound, windows_after}
use Rattle.majority_laws.proofs.GoodRuns.{good_source, run_stays}
use Rattle.majority_laws.proofs.Lines.{unacted}
use Rattle.majority_laws.proofs.Nearer.{CanBeTaken, kept_ready, nearer_stage}
use Rattle.majority_laws.proofs.Numbers.{of_scan}
use Rattle.majority_laws.proofs.Ring3.{left_left, right_right, three}
use Rattle.majority_laws.proofs.Seen.{seen_in, shared, voted_in}
use Rattle.majority_laws.proofs.Stages.{Any, Stage, stage_end}
use Rattle.majority_laws.proofs.Votes.{Shown, beside_left, beside_right}

starts : (m : Meaning) (v : ScriptValue) (x : Leg) → state_after m (play_of v) 0 x ≡ first_state m v.text
unfolding in_step
starts m v x = refl

module _ (m : Meaning) (v : ScriptValue) (can : CanBePlayed m v) where
  abbrev pub states_at : ℕ → Leg → State
  states_at k = state_after m (play_of v) k

  abbrev pub seen_at : ℕ → Leg → LegScan
  seen_at k = scans_behind (play_of v) k

  can_take : (k : ℕ) (x : Leg) → CanBeTaken m (seen_at k x)
  can_take k x =
      record { swaps = can.texts.swaps x k; swap_bytes = can.texts.swap_bytes x k; download = can.texts.downloads x k }

  kept_after : (k : ℕ) (x : Leg) → IsState m (states_at k x)
  kept_after k x = states_kept m (play_of v) can.engine can.texts k x

  -- what holds of a leg after so many calm scans
  pub record Tracked (k : ℕ) (x : Leg) : Type 0 where
    pub good_where : recovery_countdown m v x k ≡ 0 → IsGood m v k (states_at k x)
    pub near : (c : ℕ) → recovery_countdown m v x k ≡ suc c
        → Stage m (windows_after m v k) (good_run m v k) c (states_at k x)

  windows_some : (k : ℕ) → k ≤ v.scans → 0 < windows_after m v k
  windows_some k low =
      subst (λ t. 0 < program_windows m t) (has_text m v k)
      (some_windows m v.points can.engine (controller_after m v k) (controller_kept m v can.engine can.texts k low)).0

  module _ (scan : ℕ) (first : 1 ≤ scan) (last : scan ≤ v.scans) where
    abbrev behind : ℕ
    behind = scan - 1

    pub seen_here : (x : Leg) → seen_at behind x ≡ scan_of v x scan
    seen_here x = seen_in v scan first last x

    pub voted_here : vote_sheet_of v.points (shown_in (seen_at behind)) ≡ voted_at v scan
    voted_here = voted_in v scan first last

    pub next_state : (x : Leg) → states_at scan x ≡ (closed_at m v.points (seen_at behind) (states_at behind) x).state
    next_state x =
        of_scan (λ k n. states_at n x ≡ (closed_at m v.points (seen_at k) (states_at k) x).state)
        (λ k. (next_scan m (play_of v) k x).state) scan first

    kept_here : IsKept m (controller_after m v behind)
    kept_here = controller_kept m v can.engine can.texts behind (omega (arith, last))

    epoch_here : (controller_after m v behind).epoch < epoch_limit
    epoch_here = omega (arith, controller_epoch m v behind, first, last, can.scans)

    -- a sound leg is good before its scan
    pub good_before : (x : Leg) → Tracked behind x → IsSound m v x scan
        → IsGood m v behind (states_at behind x) × IsQuiet (seen_at behind x)
    good_before x t sound =
        let f =
        to_zero (is_quiet (scan_of v x scan)) (accepted_in m v scan) (windows_after m v scan)
        (recovery_countdown m v x behind) (sym (count_next m v x scan first) ∙ sound) in (
          ⊎_elim
              (λ (e : recovery_countdown m v x behind ≡ 0). t.good_where e)
              (λ (e : (recovery_countdown m v x behind ≡ 1) × (accepted_in m v scan ≡ false)).
              stage_end m (windows_after m v behind) (good_run m v behind) (states_at behind x)
              (windows_some behind (omega (arith, last))) (t.near 0 (e.0 ∙ omega arith)))
              f.from,
          subst IsQuiet (sym (seen_here x)) (quiet (scan_of v x scan) f.quiet_is),
        )

    module _ (calm : IsQuietScan m v scan) where
      pub faces_here : (x : Leg) → face Left (seen_at behind x) ≡ face Right (seen_at behind x)
      faces_here x =
          ap (λ (l : LegScan). face Left l) (seen_here x) ∙ calm.faces x
          ∙ sym (ap (λ (l : LegScan). face Right l) (seen_here x))

      -- a leg is ready with a run and the one controller's verdict
      abbrev pub ShownWith : Run → Leg → Type 0
      ShownWith run x =
          Shown m v.points (seen_at behind) (states_at behind) faces_here run (told (verdict_at m v scan)) x

      abbrev pub ShownAt : Leg → Type 0
      ShownAt x = ShownWith (run_in m v scan) x

      -- a good leg with quiet lines is ready with the controller's run, and shows its result
      pub good_shown : (x : Leg) → IsGood m v behind (states_at behind x) → IsQuiet (seen_at behind x) → ShownAt x
      good_shown x g q =
          let d : (seen_at behind x).download ≡ download_at v scan =
          ap (λ (l : LegScan). l.download) (seen_here x) ∙ shared v x A scan in
          record {
            ready =
                ap (λ (t : State). prepared m (seen_at behind x) t) g
                ∙ unacted m (seen_at behind x) (Running (good_run m v behind)) q.acts
                ∙ (λ i. change_point m (d i) (Running (good_run m v behind)))
                ∙ run_changed m v.points can.engine (download_at v scan) (controller_after m v behind)
                (scans_since m v behind) kept_here epoch_here
                ∙ (λ i. record {
                  state = Running (run_of m (controller_in m v scan)
                      (since_by (accepts m (download_at v scan) (has_text m v behind i)) (scans_since m v behind)));
                  verdict = told (verdict_at m v scan);
                });
            results = q.results;
          }

      turned_here : Running (turned (record (run_in m v scan) {
        words = (run_on m (run_in m v scan) (vote_sheet_of v.points (shown_in (seen_at behind)))).words;
      })) ≡ Running (good_run m v scan)
      turned_here =
          ap (λ (w : VotedSheet). Running
          (turned (record (run_in m v scan) { words = (run_on m (run_in m v scan) w).words })))
          voted_here
          ∙ ap (λ (r : Run). Running r) (good_next m v can.engine can.texts scan first last)

      -- beside another such leg it is good after the scan
      pub good_after_left : (x : Leg) → ShownAt x → ShownAt (left_of x) → IsGood m v scan (states_at scan x)
      good_after_left x h l =
          next_state x
          ∙ ap (λ (c : Closed). c.state) (beside_left m v.points (seen_at behind) (states_at behind) faces_here
          (run_in m v scan) (told (verdict_at m v scan)) x h l)
          ∙ turned_here

      pub good_after_right : (x : Leg) → ShownAt x → ShownAt (right_of x) → IsGood m v scan (states_at scan x)
      good_after_right x h l =
          next_state x
          ∙ ap (λ (c : Closed). c.state) (beside_right m v.points (seen_at behind) (states_at behind) faces_here
          (run_in m v scan) (told (verdict_at m v scan)) x h l)
          ∙ turned_here

      -- the third leg, where its count fell
      fallen : (z : Leg) (c : ℕ) → Tracked behind z
          → Fell (is_quiet (scan_of v z scan)) (accepted_in m v scan) (recovery_countdown m v z behind) c
          → ShownAt (left_of z) → ShownAt (right_of z)
          → Stage m (windows_after m v scan) (good_run m v scan) c (states_at scan z)
      fallen z c t f l r =
          let s : Run = good_run m v behind in
          let stay : run_in m v scan ≡ s = run_stays m v scan f.accepted_is in
          let q : IsQuiet (seen_at behind z) =
          subst IsQuiet (sym (seen_here z)) (quiet (scan_of v z scan) f.quiet_is) in
          let d : (seen_at behind z).download ≡ download_at v scan =
          ap (λ (l : LegScan). l.download) (seen_here z) ∙ shared v z A scan in
          let refused : accepts m (seen_at behind z).download s.text ≡ false =
          ap (λ (d : Option Download). accepts m d s.text) d ∙ refuses m v scan f.accepted_is in
          let w : windows_after m v behind ≡ run_windows s =
          ap (λ t. program_windows m t) (sym (has_text m v behind))
          ∙ sym (windows_of_run m v.points can.engine (controller_after m v behind) (scans_since m v behind)
          kept_here) in
          let n1 : recovery_countdown m v z behind ≡ suc (c + 1) = f.from ∙ omega arith in
          let stage = nearer_stage m v.points can.engine (seen_at behind) (states_at behind) faces_here s
          (told (verdict_at m v scan)) z (windows_after m v behind) c
          (good_source m v can behind (omega (arith, first, last))) w
          (subst (λ (u : Run). ShownWith u (left_of z)) stay l) (subst (λ (u : Run). ShownWith u (right_of z)) stay r)
          q.acts refused
          (kept_ready m v.points can.engine (seen_at behind) (states_at behind) z (can_take behind z)
          (kept_after behind z))
          (t.near (c + 1) n1) in
          let w' : windows_after m v behind ≡ windows_after m v scan =
          ap (λ t. program_windows m t) (sym (text_stays m v scan first f.accepted_is)) in
          let s' : turned (record s {
            words = (run_on m s (vote_sheet_of v.points (shown_in (seen_at behind)))).words;
          }) ≡ good_run m v scan =
          (λ i. turned (record (sym stay i) { words = (run_on m (sym stay i) (voted_here i)).words }))
          ∙ good_next m v can.engine can.texts scan first last in
          subst (λ (t : State). Stage m (windows_after m v scan) (good_run m v scan) c t) (sym (next_state z))
          (subst (λ (p : ℕ × Run). Stage m p.0 p.1 c (closed_at m v.points (seen_at behind) (states_at behind) z).state)
          (λ i. (w' i, s' i)) stage)

      -- the third leg
      third_near : (z : Leg) (c : ℕ) → Tracked behind z → recovery_countdown m v z scan ≡ suc c
          → ShownAt (left_of z) → ShownAt (right_of z)
          → Stage m (windows_after m v scan) (good_run m v scan) c (states_at scan z)
      third_near z c t e l r = ⊎_elim
          (λ (set : c ≡ 3 * windows_after m v scan + 2). Any (kept_after scan z) (omega (arith, set)))
          (λ (f : Fell (is_quiet (scan_of v z scan)) (accepted_in m v scan) (recovery_countdown m v z behind) c).
          fallen z c t f l r)
          (to_some (is_quiet (scan_of v z scan)) (accepted_in m v scan) (windows_after m v scan)
          (recovery_countdown m v z behind) c (sym (count_next m v z scan first) ∙ e))

      pub sound_shown : (x : Leg) → Tracked behind x → IsSound m v x scan → ShownAt x
      sound_shown x t sound = let g = good_before x t sound in good_shown x g.0 g.1

      zero_is : (n c : ℕ) → n ≡ 0 → n ≡ suc c → ⊥
      zero_is n c a b = omega (arith, a, b)

      track_step : ((x : Leg) → Tracked behind x) → (x : Leg) → Tracked scan x
      track_step t x =
          let two = two_sound m v scan calm in
          let z : Leg = two.other in
          let l : ShownAt (left_of z) = sound_shown (left_of z) (t (left_of z)) two.left in
          let r : ShownAt (right_of z) = sound_shown (right_of z) (t (right_of z)) two.right in
          three z (λ (y : Leg). Tracked scan y)
          (record {
            good_where = λ e. good_after_left z (sound_shown z (t z) e) l;
            near = λ c e. third_near z c (t z) e l r;
          })
          (record {
            good_where = λ e. good_after_left (left_of z) l (subst (λ (y : Leg). ShownAt y) (sym (left_left z)) r);
            near = λ c e. absurd (zero_is (recovery_countdown m v (left_of z) scan) c two.left e);
          })
          (record {
            good_where = λ e. good_after_right (right_of z) r (subst (λ (y : Leg). ShownAt y) (sym (right_right z)) l);
            near = λ c e. absurd (zero_is (recovery_countdown m v (right_of z) scan) c two.right e);
          })
          x

  pub track : (k : ℕ) → k ≤ v.scans → IsCalm m v k → (x : Leg) → Tracked k x
  track zero low calm x = record {
    good_where = λ e. starts m v x ∙ first_good m v;
    near = λ c e. absurd (omega (arith, e, count_start m v x));
  }
  track (suc k) low calm x =
      track_step (suc k) (omega arith) low (calm (suc k) (omega arith) (omega arith))
      (λ y. subst (λ n. Tracked n y) (omega arith) (track k (omega (arith, low))
      (λ j f l. calm j f (omega (arith, l))) y)) x

  module _ (scan : ℕ) (first : 1 ≤ scan) (last : scan ≤ v.scans) (calm : IsCalm m v scan) where
    pub tracked_before : (x : Leg) → Tracked (scan - 1) x
    tracked_before x = track (scan - 1) (omega (arith, last)) (λ j f l. calm j f (omega (arith, l))) x

    pub quiet_here : IsQuietScan m v scan
    quiet_here = calm scan first (omega arith)

    -- a sound leg is good before its scan and after it
    pub sound_good : (x : Leg) → IsSound m v x scan
        → IsGood m v (scan - 1) (states_at (scan - 1) x) × IsGood m v scan (states_at scan x)
    sound_good x sound = (
      (good_before scan first last x (tracked_before x) sound).0,
      (track scan last calm x).good_where sound,
    )
