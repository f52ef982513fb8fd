-- One scan beside two legs that have one run brings the third a scan nearer to it.
use Rattle.std.proofs.Common.{◌≡◌, ◌≢◌, ℕ, ℤ, ◌+◌, ◌<◌, inl, inr, true, false, is_none, Option, Some, None, List, length, refl, sym, ap, subst, ◌∙◌, arith}
use Rattle.tri_base.specs.declared.leg.Leg.{Leg}
use Rattle.tri_base.specs.declared.leg.Side.TheVariants.{Left, Right}
use Rattle.tri_base.specs.declared.point.Point.{Point}
use Rattle.tri_base.specs.Legs.{left_of, right_of}
use Rattle.engine_face.specs.Laws.{IsMeaning}
use Rattle.engine_face.specs.Meaning.{Meaning, Scanned, changes}
use Rattle.engine_face.specs.declared.refusal.Refusal.{Refusal}
use Rattle.engine_face.specs.declared.verdict.Verdict.{Verdict}
use Rattle.input_legs.specs.VotedSheets.{VotedSheet}
use Rattle.std.specs.List.{All}
use Rattle.leg_laws.specs.Plays.{SwapBuilds}
use Rattle.leg_laws.proofs.KeptStates.{kept_closed, kept_half, kept_prepared, voted_fits}
use Rattle.leg_laws.specs.ChangePoint.{Prepared, change_point, changed_run, next_epoch}
use Rattle.leg_laws.specs.Closing.{Closed, closed, judged_of, learned_of, run_windows}
use Rattle.leg_laws.specs.HalfScans.{half_of, run_on, run_sheet}
use Rattle.leg_laws.specs.States.{IsRun, IsState, Learning, Run, Running, State}
use Rattle.leg_laws.specs.ThreeScans.{closed_at, from_left, from_right, half_at}
use Rattle.leg_packet.specs.Sheets.{Sheet, epoch_limit, sheet_of, spelled, windows_of}
use Rattle.majority_laws.proofs.Lines.{unacted}
use Rattle.majority_laws.proofs.Shown.{read, sane, shows, sized}
use Rattle.majority_laws.proofs.Stages.{Any, Close, Empty, Ready, Same, Sane, Stage, Taught, ready_step}
use Rattle.majority_laws.proofs.Votes.{Shown, between, equal_votes, length_run, mid_is, ready_at, stays_left, vote}
use Rattle.majority_laws.specs.Recovering.{gone_on, shown_in}
use Rattle.plant_script.specs.Countdown.{no_acts}
use Rattle.plant_script.specs.Faces.{face}
use Rattle.plant_script.specs.SingleTexts.{accepts}
use Rattle.re_education.specs.Learning.{Lesson, sheet_windows}
use Rattle.script_text.specs.LegScans.{LegScan, LoadsBytes, SwapsBytes}
use Rattle.tri_base.specs.Downloads.{Download}

-- ---- each scan keeps what holds of a state

-- lines and a download that a leg can take
pub record CanBeTaken (m : Meaning) (l : LegScan) : Type 0 where
  pub swaps : All (SwapBuilds m) l.acts
  pub swap_bytes : All SwapsBytes l.acts
  pub download : LoadsBytes l.download

pub kept_ready : (m : Meaning) (points : List Point) (law : IsMeaning points m) (ls : Leg → LegScan)
    (states : Leg → State)
    (x : Leg) → CanBeTaken m (ls x) → IsState m (states x) → IsState m (ready_at m ls states x).state
kept_ready m points law ls states x c k =
    kept_prepared m points law (ls x) (states x) c.swaps c.swap_bytes c.download k

pub kept_step : (m : Meaning) (points : List Point) (law : IsMeaning points m) (ls : Leg → LegScan)
    (states : Leg → State)
    (x : Leg) → CanBeTaken m (ls x) → IsState m (states x) → IsState m (closed_at m points ls states x).state
kept_step m points law ls states x c k =
    kept_closed m points law x (ls x) (half_at m points ls states x)
    (from_left m points ls states x) (from_right m points ls states x)
    (kept_half m points law x (ls x) (ready_at m ls states x) (face Right (ls (left_of x)))
    (face Left (ls (right_of x)))
    (kept_ready m points law ls states x c k))

-- ---- the change point

run_in : State → Run → Run
run_in (Running r) d = r
run_in (Learning o) d = d

pub same_running : (a b : Run) → Running a ≡ Running b → a ≡ b
unfolding run_in
same_running a b is = ap (λ (u : State). run_in u a) is

pub apart : (r : Run) (o : Option Lesson) → Running r ≡ Learning o → ⊥
apart r o is = cc

astray : (m : Meaning) (windows n : ℕ) (s : Run) (t : State) (r r1 : Run) → t ≡ Running r → s.epoch < epoch_limit
    → r1.epoch ≡ next_epoch r.epoch → r ≢ s → IsState m (Running r1) → Stage m windows s n t
    → Ready m windows s n (Running r1)
astray m windows n s t r r1 was low up other kept (Same is) = absurd (other (same_running r s (sym was ∙ is)))
astray m windows n s t r r1 was low up other kept (Empty is soon) = absurd (apart r None (sym was ∙ is))
astray m windows n s t r r1 was low up other kept (Taught z is l) = absurd (apart r (Some z) (sym was ∙ is))
astray m windows n s t r r1 was low up other kept (Close q is l) =
    let e : r.epoch ≡ s.epoch = ap (λ (x : Run). x.epoch) (same_running r q (sym was ∙ is)) ∙ l.epoch in
    inr (r1, refl, (λ (back : r1.epoch ≡ s.epoch). omega (arith, up, e, low, back)), omega (arith, l.soon, l.short))
astray m windows n s t r r1 was low up other kept (Any k soon) = inl (Any kept soon)

-- the good legs' download is refused or there is none; the third leg may accept it
change_by : (m : Meaning) (windows n : ℕ) (s : Run) (d : Download) (r : Run) → s.epoch < epoch_limit
    → is_none (changes m s.text d) ≡ false → Stage m windows s n (Running r)
    → (o : Option Refusal) → changes m r.text d ≡ o → IsState m (changed_run m d r o).state
    → Ready m windows s n (changed_run m d r o).state
change_by m windows n s d r low refused stage (Some e) is kept = inl stage
change_by m windows n s d r low refused stage None is kept =
    astray m windows n s (Running r) r _ refl low refl
    (λ (same : r ≡ s). let bad : true
    ≡ false = sym (ap is_none (ap (λ (x : Run). changes m x.text d) (sym same) ∙ is)) ∙ refused in absurd (cc))
    kept stage

pub change_stage : (m : Meaning) (windows n : ℕ) (s : Run) (d : Option Download) (t : State) → s.epoch < epoch_limit
    → accepts m d s.text ≡ false → IsState m (change_point m d t).state → Stage m windows s n t
    → Ready m windows s n (change_point m d t).state
unfolding change_point
change_stage m windows n s None t low refused kept stage = inl stage
change_stage m windows n s (Some d) (Learning o) low refused kept stage = inl stage
change_stage m windows n s (Some d) (Running r) low refused kept stage =
    change_by m windows n s d r low refused stage (changes m r.text d) refl kept

-- ---- a run that can be learned

pub record IsSource (m : Meaning) (s : Run) : Type 0 where
  pub kept : IsRun m s
  pub turn : s.turn < run_windows s
  pub epoch : s.epoch < epoch_limit

module _ (m : Meaning) (points : List Point) (law : IsMeaning points m) (ls : Leg → LegScan) (states : Leg → State)
    (faces : (x : Leg) → face Left (ls x) ≡ face Right (ls x)) where
  abbrev v : VotedSheet
  v = vote m points ls states faces

  -- what a run becomes by the scan
  abbrev then : Run → Run
  then s = gone_on m points ls s

  pub then_length : (s : Run) → IsSource m s → length (run_on m s v).words ≡ length s.words
  then_length s h = length_run m points law v s (voted_fits points (shown_in ls)) h.kept

  pub then_windows : (s : Run) → IsSource m s → run_windows (then s) ≡ run_windows s
  then_windows s h = ap (λ n. windows_of (length s.text + n)) (then_length s h)

  pub source_sane : (s : Run) → IsSource m s → Sane m s (run_sheet s (run_on m s v))
  source_sane s h =
      sane s (run_on m s v) (then_length s h) m h.kept h.turn (law.some_text s.text h.kept.builds)
      (law.short_text s.text h.kept.builds) (omega (arith, h.kept.count, law.few_words s.text h.kept.builds))

  pub source_read : (s : Run) → IsSource m s → sheet_of (spelled (run_sheet s (run_on m s v)))
      ≡ Some (run_sheet s (run_on m s v))
  source_read s h =
      read s (run_on m s v) (then_length s h) m h.kept h.turn (law.some_text s.text h.kept.builds)
      (law.short_text s.text h.kept.builds) (omega (arith, h.kept.count, law.few_words s.text h.kept.builds))

  -- a leg that is ready with the same run, beside one that shows it
  pub same_stays : (s : Run) (verdict : Option Verdict) (x : Leg)
      → Shown m points ls states faces s verdict (left_of x) → (ready_at m ls states x).state ≡ Running s
      → (closed_at m points ls states x).state ≡ Running (then s)
  unfolding closed judged_of learned_of
  same_stays s verdict x h e =
      let own : List ℤ = spelled (run_sheet s (run_on m s v)) in
      let p : Prepared = ready_at m ls states x in
      let mid : half_at m points ls states x ≡ half_of m v p.verdict (Running s) =
      equal_votes m points ls states faces x ∙ ap (λ (t : State). half_of m v p.verdict t) e in
      let l : from_left m points ls states x ≡ own = (mid_is m points ls states faces s verdict (left_of x) h).right in
      (λ i. (closed m x (ls x) (mid i) (from_left m points ls states x) (from_right m points ls states x)).state)
      ∙ ap (λ (c : Closed). c.state) (stays_left x (ls x) (run_on m s v).outputs own (from_left m points ls states x)
      (from_right m points ls states x) (record s { words = (run_on m s v).words }) (sym l))

  -- one scan nearer
  pub nearer_stage : (s : Run) (verdict : Option Verdict) (x : Leg) (windows n : ℕ) → IsSource m s → windows
      ≡ run_windows s
      → Shown m points ls states faces s verdict (left_of x) → Shown m points ls states faces s verdict (right_of x)
      → no_acts (ls x).acts ≡ true → accepts m (ls x).download s.text ≡ false → IsState m (ready_at m ls states x).state
      → Stage m windows s (n + 1) (states x) → Stage m windows (then s) n (closed_at m points ls states x).state
  nearer_stage s verdict x windows n h is left right acts refused kept stage =
      let after : Scanned = run_on m s v in
      let g : Sheet = run_sheet s after in
      let p : Prepared = ready_at m ls states x in
      let w : windows ≡ sheet_windows g = is ∙ ap (λ n. windows_of (length s.text + n)) (sym (then_length s h)) in
      let un : p ≡ change_point m (ls x).download (states x) = unacted m (ls x) (states x) acts in
      let ready : Ready m windows s (n + 1) p.state =
      subst (λ (q : Prepared). Ready m windows s (n + 1) q.state) (sym un)
      (change_stage m windows (n + 1) s (ls x).download (states x) h.epoch refused
      (subst (λ (q : Prepared). IsState m q.state) un kept) stage) in
      let goes = between m points ls states faces law s verdict x left right (sized s after (then_length s h))
      (source_read s h) kept in
      subst (λ k. Stage m k (then s) n (closed_at m points ls states x).state) (sym w)
      (ready_step m (ls x) s (then s) g (shows s after (then_length s h)) (source_sane s h) n p.state
      (closed_at m points ls states x).state
      (λ e. same_stays s verdict x left e) goes (subst (λ k. Ready m k s (n + 1) p.state) w ready))
