-- From any state of the third leg, so many fair scans beside two legs that have one run bring it to theirs.
use Rattle.std.proofs.Common.{◌≡◌, ℕ, zero, suc, ◌+◌, ◌*◌, ◌%◌, ◌<◌, ◌≤◌, false, is_none, Option, Some, None, List, refl, sym, ap, subst, ◌∙◌, arith}
use Rattle.tri_base.specs.declared.leg.Leg.{Leg}
use Rattle.tri_base.specs.declared.leg.Leg.TheVariants.{A}
use Rattle.tri_base.specs.declared.point.Point.{Point}
use Rattle.tri_base.specs.Legs.{left_of, right_of}
use Rattle.engine_face.specs.Laws.{IsMeaning}
use Rattle.engine_face.specs.Meaning.{Meaning, changes}
use Rattle.engine_face.specs.declared.refusal.Refusal.{Refusal}
use Rattle.engine_face.specs.declared.verdict.Verdict.{Verdict}
use Rattle.leg_laws.specs.ChangePoint.{change_point, changed_run}
use Rattle.leg_laws.specs.Closing.{Closed, run_windows}
use Rattle.leg_laws.specs.States.{IsState, Run, Running, State}
use Rattle.leg_laws.specs.ThreeScans.{closed_at}
use Rattle.majority_laws.proofs.Lines.{no_swap_builds, no_swap_bytes, unacted}
use Rattle.majority_laws.proofs.Nearer.{CanBeTaken, IsSource, kept_ready, kept_step, nearer_stage, then_windows}
use Rattle.majority_laws.proofs.Ring3.{left_left, right_right, three}
use Rattle.majority_laws.proofs.Stages.{Any, Stage, stage_end}
use Rattle.majority_laws.proofs.Votes.{Shown, beside_left, beside_right}
use Rattle.majority_laws.specs.Recovering.{IsFair, RecoversFromAnyState, RecoversInTime, going_on, gone_on, played_from}
use Rattle.plant_script.specs.SingleTexts.{accepts}
use Rattle.script_text.specs.LegScans.{LegScan, LoadsBytes}
use Rattle.tri_base.specs.Downloads.{Download}

-- what a download does that is refused, or isn't there
refused_by : (m : Meaning) (d : Download) (run : Run) (o : Option Refusal) → is_none o ≡ false
    → (verdict : Option Verdict) × (changed_run m d run o ≡ record { state = Running run; verdict = verdict })
refused_by m d run None e = absurd (cc)
refused_by m d run (Some r) e = (_, refl)

refused : (m : Meaning) (d : Option Download) (run : Run) → accepts m d run.text ≡ false → (verdict : Option Verdict)
    × (change_point m d (Running run) ≡ record { state = Running run; verdict = verdict })
unfolding change_point
refused m None run e = (None, refl)
refused m (Some d) run e = refused_by m d run (changes m run.text d) e

module _ (m : Meaning) (points : List Point) (law : IsMeaning points m) where
  -- the three legs after some fair scans
  pub record Beside (x : Leg) (run : Run) (text : List ℕ) (windows n : ℕ) (states : Leg → State) : Type 0 where
    pub left : states (left_of x) ≡ Running run
    pub right : states (right_of x) ≡ Running run
    pub source : IsSource m run
    pub text_is : run.text ≡ text
    pub windows_is : windows ≡ run_windows run
    pub kept : IsState m (states x)
    pub stage : Stage m windows run n (states x)

  ready_fair : (ls : Leg → LegScan) (states : Leg → State) (text : List ℕ) (y : Leg) (run : Run)
      (fair : IsFair m text ls) → run.text ≡ text → states y ≡ Running run
      → (verdict : Option Verdict) → change_point m (ls A).download (Running run)
      ≡ record { state = Running run; verdict = verdict } → Shown m points ls states fair.faces run verdict y
  ready_fair ls states text y run fair e is verdict c = record {
    ready = unacted m (ls y) (states y) (fair.acts y) ∙ (λ i. change_point m (fair.shared y i) (is i)) ∙ c;
    results = fair.results y;
  }

  next : (x : Leg) (s : Run) (text : List ℕ) (windows n : ℕ) (ls : Leg → LegScan) (states : Leg → State)
      → IsFair m text ls → Beside x s text windows (n + 1) states
      → Beside x (gone_on m points ls s) text windows n (λ y. (closed_at m points ls states y).state)
  next x s text windows n ls states fair b =
      let r = refused m (ls A).download s (ap (λ t. accepts m (ls A).download t) b.text_is ∙ fair.refused) in
      let shown : (y : Leg) → states y ≡ Running s → Shown m points ls states fair.faces s r.0 y =
      λ y is. ready_fair ls states text y s fair b.text_is is r.0 r.1 in
      let l : Shown m points ls states fair.faces s r.0 (left_of x) = shown (left_of x) b.left in
      let q : Shown m points ls states fair.faces s r.0 (right_of x) = shown (right_of x) b.right in
      let s' : Run = gone_on m points ls s in
      let left' : (closed_at m points ls states (left_of x)).state ≡ Running s' =
      ap (λ (c : Closed). c.state) (beside_left m points ls states fair.faces s r.0 (left_of x) l
      (subst (λ (y : Leg). Shown m points ls states fair.faces s r.0 y) (sym (left_left x)) q)) in
      let right' : (closed_at m points ls states (right_of x)).state ≡ Running s' =
      ap (λ (c : Closed). c.state) (beside_right m points ls states fair.faces s r.0 (right_of x) q
      (subst (λ (y : Leg). Shown m points ls states fair.faces s r.0 y) (sym (right_right x)) l)) in
      let can : (y : Leg) → CanBeTaken m (ls y) = λ y. record {
        swaps = no_swap_builds m (ls y).acts (fair.acts y);
        swap_bytes = no_swap_bytes (ls y).acts (fair.acts y);
        download = subst LoadsBytes (sym (fair.shared y)) fair.bytes;
      } in
      let kept' : IsState m (Running s') =
      subst (λ (t : State). IsState m t) left' (kept_step m points law ls states (left_of x) (can (left_of x))
      (subst (λ (t : State). IsState m t) (sym b.left) b.source.kept)) in
      let w : run_windows s' ≡ run_windows s = then_windows m points law ls states fair.faces s b.source in
      record {
        left = left';
        right = right';
        source = record {
          kept = kept';
          turn = subst (λ k. s'.turn < k) (sym w)
              (subst (λ k. s'.turn < k) w (below (s.turn + 1) (run_windows s')
              (subst (λ k. 0 < k) (sym w) (some s b.source))));
          epoch = b.source.epoch;
        };
        text_is = b.text_is;
        windows_is = b.windows_is ∙ sym w;
        kept = kept_step m points law ls states x (can x) b.kept;
        stage = nearer_stage m points law ls states fair.faces s r.0 x windows n b.source b.windows_is l q (fair.acts x)
            (ap (λ (d : Option Download). accepts m d s.text) (fair.shared x)
            ∙ ap (λ t. accepts m (ls A).download t) b.text_is ∙ fair.refused)
            (kept_ready m points law ls states x (can x) b.kept) b.stage;
      }
    where
      some : (s : Run) → IsSource m s → 0 < run_windows s
      some s h = let t = h.turn in omega (arith, t)

      below : (a n : ℕ) → 0 < n → a % n < n
      below a n h = omega arith

  module _ (ls : ℕ → Leg → LegScan) (start : Leg → State) (x : Leg) (s : Run) (source : IsSource m s)
      (left : start (left_of x) ≡ Running s) (right : start (right_of x) ≡ Running s) (kept : IsState m (start x))
      (scans : ℕ)
      (fair : (k : ℕ) → k < scans → IsFair m s.text (ls k)) (enough : 2 * run_windows s ≤ scans) where
    after : (k n : ℕ) → k + n ≡ scans
        → Beside x (going_on m points ls s k) s.text (run_windows s) n (played_from m points ls start k)
    unfolding played_from going_on
    after zero n e =
        record {
          left = left;
          right = right;
          source = source;
          text_is = refl;
          windows_is = refl;
          kept = kept;
          stage = Any kept (omega (arith, e, enough));
        }
    after (suc k) n e =
        next x (going_on m points ls s k) s.text (run_windows s) n (ls k) (played_from m points ls start k)
        (fair k (omega (arith, e))) (after k (n + 1) (omega (arith, e)))

    -- all three then have the run that went on
    pub recovered : (y : Leg) → played_from m points ls start scans y ≡ Running (going_on m points ls s scans)
    recovered =
        let b = after scans 0 (omega arith) in
        let r : Run = going_on m points ls s scans in
        let t = source.turn in
        three x (λ (y : Leg). played_from m points ls start scans y ≡ Running r)
        (stage_end m (run_windows s) r (played_from m points ls start scans x) (omega (arith, t)) b.stage)
        b.left b.right

pub recovers_from_any_state : RecoversFromAnyState
recovers_from_any_state m points ls start leg run scans law b enough fair =
    recovered m points law ls start leg run (record { kept = b.run_is; turn = b.turn; epoch = b.epoch })
    b.left b.right b.third scans fair enough

pub recovers_in_time : RecoversInTime
recovers_in_time m points ls start leg run law b fair =
    recovers_from_any_state m points ls start leg run (3 * run_windows run + 2) law b (omega arith) fair
