-- Each piece of a scan leaves what holds of each state of a leg.
use Rattle.std.proofs.Common.{◌≡◌, ℕ, zero, suc, ℤ, pos, negsuc, nat_abs, ◌+◌, ◌%◌, ◌<◌, ◌≤◌, ◌≤ℤ◌, ◌&&◌, ◌==◌, is_none, nat_lt, true, Option, Some, None, List, [], ◌∷◌, length, take, drop, map, refl, sym, ap, subst, ◌∙◌, arith}
use Rattle.std.specs.List.{All, AllByRecursion}
use Rattle.std.proofs.lemmas.List.{length-set, length-replicate}
use Rattle.std.proofs.lemmas.List.Elements.{All-map, All-replicate, All-take, recursion_from_All}
use Rattle.std.proofs.lemmas.Bool.{cond_both, and_parts, eqb-true, ltb-true}
use Rattle.std.proofs.lemmas.Int.{ints}
use Rattle.tri_base.specs.declared.leg.Leg.{Leg}
use Rattle.tri_base.specs.declared.leg.Triple.{Triple}
use Rattle.tri_base.specs.declared.point.Point.{Point}
use Rattle.tri_base.specs.declared.leg.Side.TheVariants.{Left, Right}
use Rattle.tri_base.specs.Legs.{left_of, right_of}
use Rattle.tri_base.specs.Downloads.{Download}
use Rattle.tri_base.specs.Limits.{scan_time_limit}
use Rattle.chassis.specs.Points.{inputs_of}
use Rattle.engine_face.specs.declared.refusal.Refusal.{Refusal}
use Rattle.engine_face.specs.declared.verdict.Verdict.{Verdict}
use Rattle.engine_face.specs.Meaning.{Meaning, changes}
use Rattle.engine_face.specs.Laws.{IsMeaning}
use Rattle.engine_face.proofs.Changes.{known_where_accepted}
use Rattle.leg_packet.specs.Readings.{Readings}
use Rattle.leg_packet.specs.Sheets.{Sheet, IsByte, IsCanonical, epoch_limit, sheet_of, windows_of}
use Rattle.leg_packet.proofs.Codec.{spelled_back}
use Rattle.vote_analog.specs.Middle.{LiesIn}
use Rattle.vote_analog.proofs.Ranges.{middle_in}
use Rattle.input_legs.specs.VotedSheets.{VotedSheet, read_three, time_of, times_of, vote_sheet_of}
use Rattle.input_legs.proofs.Readings.{Stands, stands}
use Rattle.input_legs.proofs.Votes.{length_voted_from}
use Rattle.memory_compare.specs.declared.judging.Judgement.{Judgement}
use Rattle.memory_compare.specs.declared.judging.Judgement.TheVariants.{Agrees, Minority, NoVote}
use Rattle.memory_compare.specs.Judging.{judge_of, same_words}
use Rattle.re_education.specs.Learned.{last_turn}
use Rattle.re_education.specs.Learning.{Ends, Held, Lesson, Outcome, Whole, expects, held, learn_of, next_turn, nothing_held, sheet_windows, taught, with_result, with_window}
use Rattle.re_education.proofs.Kept.{bytes_taught, length_taught}
use Rattle.script_text.specs.LegScans.{LegAct, LegScan, LoadsBytes, Poke, Replace, Swap, SwapsBytes}
use Rattle.plant_script.specs.Faces.{face}
use Rattle.leg_laws.specs.States.{IsRun, IsState, Learning, Run, Running, State}
use Rattle.leg_laws.specs.FaultLines.{acted, acted_all}
use Rattle.leg_laws.specs.ChangePoint.{Prepared, change_point, changed_run, prepared}
use Rattle.leg_laws.specs.HalfScans.{HalfScan, half_of, half_scan, voted_packets}
use Rattle.leg_laws.specs.Closing.{Closed, closed, closed_of, is_program, judged_of, judged_run, learned_by, learned_of, learned_run, run_windows, turned}
use Rattle.leg_laws.specs.Plays.{IsPlayable, Play, SwapBuilds, scan_behind}
use Rattle.leg_laws.specs.Rounds.{in_step, state_after}
use Rattle.leg_laws.specs.ThreeScans.{from_left, from_right, half_at, scans_behind}
use Rattle.leg_laws.proofs.Scans.{next_scan}

none_from : {A : Type 0} (o : Option A) → is_none o ≡ true → o ≡ None
none_from None e = refl
none_from (Some a) e = absurd (cc)

-- ---- turns

pub turn_low : (n : ℕ) → n ≤ 319 → pos n ≤ℤ last_turn
turn_low n h = omega (arith, ints, h)

pub below : (a n : ℕ) → 0 < n → n ≤ 320 → a % n ≤ 319
below a n h k = omega arith

pub windows_low : (m : Meaning) (points : List Point) → IsMeaning points m → (text : List ℕ) → m.builds text ≡ None
    → (0 < windows_of (length text + m.word_count text)) × (windows_of (length text + m.word_count text) ≤ 320)
windows_low m points law text b =
    let p = law.some_text text b in
    let q = law.short_text text b in
    let r = law.few_words text b in
    (omega (arith, p, q, r), omega (arith, p, q, r))

-- ---- what is voted fits a scan

pub record IsInput (points : List Point) (v : VotedSheet) : Type 0 where
  pub count : length v.values ≡ length (inputs_of points)
  pub low : pos 0 ≤ℤ v.time
  pub high : v.time ≤ℤ scan_time_limit

time_in : (points : List Point) (o : Option Readings) → Stands points o → LiesIn (pos 0) scan_time_limit (time_of o)
time_in points None h = tt
time_in points (Some r) h = (grind (arith, ints, h), h.1)

pub voted_fits : (points : List Point) (t : Triple (List ℤ)) → IsInput points (vote_sheet_of points t)
voted_fits points t =
    let rs = read_three points t in
    let times = middle_in (pos 0) scan_time_limit (times_of rs) (omega (arith, ints), omega (arith, ints)) (
      time_in (inputs_of points) rs.a (stands points t.a),
      time_in (inputs_of points) rs.b (stands points t.b),
      time_in (inputs_of points) rs.c (stands points t.c),
    ) in
    record { count = length_voted_from (inputs_of points) 0 rs; low = times.0; high = times.1 }

module _ (m : Meaning) (points : List Point) (law : IsMeaning points m) where
  -- ---- fault lines and the change point

  kept_acted : (state : State) (act : LegAct) → SwapBuilds m act → SwapsBytes act → IsState m state
      → IsState m (acted m state act)
  kept_acted (Running run) (Poke address value) b s k = record {
    bytes = k.bytes;
    builds = k.builds;
    count = length-set run.words address value ∙ k.count;
    epoch = k.epoch;
    turn = k.turn;
  }
  kept_acted (Learning lesson) (Poke address value) b s k = k
  kept_acted state Replace b s k = tt
  kept_acted (Running run) (Swap text) b s k =
      record { bytes = s; builds = b; count = law.first_count text b; epoch = k.epoch; turn = k.turn }
  kept_acted (Learning lesson) (Swap text) b s k =
      let low = turn_low 0 (omega arith) in
      record { bytes = s; builds = b; count = law.first_count text b; epoch = omega arith; turn = low }

  kept_acted_all : (state : State) (acts : List LegAct) → AllByRecursion (SwapBuilds m) acts
      → AllByRecursion SwapsBytes acts → IsState m state → IsState m (acted_all m state acts)
  unfolding acted_all
  kept_acted_all state [] b s k = k
  kept_acted_all state (act ∷ acts) b s k =
      kept_acted_all (acted m state act) acts b.1 s.1 (kept_acted state act b.0 s.0 k)

  kept_changed_run : (d : Download) (run : Run) → All (λ (byte : ℕ). byte < 256) d.text → IsRun m run
      → (o : Option Refusal) → changes m run.text d ≡ o → IsState m (changed_run m d run o).state
  kept_changed_run d run b k (Some r) e = k
  kept_changed_run d run b k None e =
      let a = known_where_accepted m run.text d e in
      record {
        bytes = b;
        builds = a.0;
        count = law.carried_count run.text d run.words k.builds a.0 a.1 k.count;
        epoch = omega arith;
        turn = turn_low 0 (omega arith);
      }

  pub kept_prepared : (l : LegScan) (state : State) → All (SwapBuilds m) l.acts → All SwapsBytes l.acts
      → LoadsBytes l.download → IsState m state → IsState m (prepared m l state).state
  unfolding prepared change_point
  kept_prepared l state b s d k =
      by l.download (acted_all m state l.acts) d
      (kept_acted_all state l.acts (recursion_from_All (SwapBuilds m) l.acts b)
      (recursion_from_All SwapsBytes l.acts s) k)
    where
      by : (o : Option Download) (before : State) → LoadsBytes o → IsState m before
          → IsState m (change_point m o before).state
      by None before d k = k
      by (Some d) (Running run) b k = kept_changed_run d run b k (changes m run.text d) refl
      by (Some d) (Learning lesson) b k = k

  -- ---- the run

  kept_half_of : (v : VotedSheet) (verdict : Option Verdict) (state : State) → IsInput points v → IsState m state
      → IsState m (half_of m v verdict state).state
  kept_half_of v verdict (Running run) i k = record {
    bytes = k.bytes;
    builds = k.builds;
    count = (law.scan run.text run.words v.values v.time k.builds k.count i.count i.low i.high).count ∙ k.count;
    epoch = k.epoch;
    turn = k.turn;
  }
  kept_half_of v verdict (Learning lesson) i k = k

  pub kept_half : (leg : Leg) (l : LegScan) (ready : Prepared) (left right : List ℤ) → IsState m ready.state
      → IsState m (half_scan m points leg l ready left right).state
  unfolding half_scan
  kept_half leg l ready left right k =
      let packets : Triple (List ℤ) = voted_packets leg l left right in
      kept_half_of (vote_sheet_of points packets) ready.verdict ready.state (voted_fits points packets) k

  -- ---- the judgement

  pub kept_turned : (run : Run) → IsRun m run → IsRun m (turned run)
  kept_turned run k =
      let w = windows_low m points law run.text k.builds in
      let e : run_windows run ≡ windows_of (length run.text + m.word_count run.text) =
      ap (λ n. windows_of (length run.text + n)) k.count in
      record {
        bytes = k.bytes;
        builds = k.builds;
        count = k.count;
        epoch = k.epoch;
        turn = turn_low ((run.turn + 1) % run_windows run) (subst (λ n. (run.turn + 1) % n ≤ 319) (sym e)
            (below (run.turn + 1) (windows_of (length run.text + m.word_count run.text)) w.0 w.1));
      }

  kept_judged : (leg : Leg) (l : LegScan) (outputs : List ℤ) (run : Run) (j : Judgement) → IsRun m run
      → IsState m (judged_run leg l outputs run j).state
  kept_judged leg l outputs run Minority k = tt
  kept_judged leg l outputs run (Agrees accused) k = kept_turned run k
  kept_judged leg l outputs run NoVote k = kept_turned run k

-- ---- what is learned

-- an image for a running result
record Fits (g : Sheet) (image : List ℤ) : Type 0 where
  size : length image ≡ g.text_length + g.word_length
  bytes : All IsByte (take g.text_length image)

zero_byte : IsByte (pos 0)
zero_byte = (omega (arith, ints), omega (arith, ints))

zeros_fit : (g : Sheet) → Fits g (nothing_held g).image
zeros_fit g = record {
  size = length-replicate (g.text_length + g.word_length) (pos 0);
  bytes = All-take IsByte g.text_length (nothing_held g).image
      (All-replicate IsByte (g.text_length + g.word_length) (pos 0) zero_byte);
}

held_fits : (m : Meaning) (o : Option Lesson) (g : Sheet) → IsState m (Learning o) → Fits g (held o g).image
held_fits m None g k = zeros_fit g
held_fits m (Some z) g k = cond_both (expects z g) (record { image = z.image; windows = z.windows }) (nothing_held g)
    (λ (h : Held). Fits g h.image)
    (λ e.
    let p = and_parts (z.epoch == g.epoch && z.text_length == g.text_length && z.word_length == g.word_length)
    (z.turn == g.turn) e in
    let q = and_parts (z.epoch == g.epoch && z.text_length == g.text_length) (z.word_length == g.word_length) p.0 in
    let r = and_parts (z.epoch == g.epoch) (z.text_length == g.text_length) q.0 in
    let lt : z.text_length ≡ g.text_length = eqb-true z.text_length g.text_length r.1 in
    let lw : z.word_length ≡ g.word_length = eqb-true z.word_length g.word_length q.1 in
    record {
      size = k.image_length ∙ (λ i. lt i + lw i);
      bytes = subst (λ (n : ℕ). All IsByte (take n z.image)) lt k.bytes;
    })
    (λ e. zeros_fit g)

taught_fits : (g : Sheet) (image : List ℤ) → IsCanonical g → Fits g image → Fits g (taught g image)
taught_fits g image c f =
    record { size = length_taught g image c f.size; bytes = bytes_taught g image c f.size f.bytes }

byte_is : (x : ℤ) → IsByte x → nat_abs x < 256
byte_is (pos n) h = omega (arith, ints)
byte_is (negsuc n) h = absurd (omega (arith, ints))

text_bytes : (words : List ℤ) → All IsByte words → All (λ (byte : ℕ). byte < 256) (map nat_abs words)
text_bytes words h =
    All-map (λ (byte : ℕ). byte < 256) nat_abs words (λ i d l. byte_is _ (h i d l))

sheet_turn : (g : Sheet) → IsCanonical g → next_turn g ≤ 319
sheet_turn g c =
    let t = c.turn in
    let a = c.text_length in
    let b = c.word_length in
    below (g.turn + 1) (sheet_windows g) (omega (arith, t)) (omega (arith, a, b))

module _ (m : Meaning) (points : List Point) (law : IsMeaning points m) where
  kept_whole : (l : LegScan) (g : Sheet) (image : List ℤ) → IsCanonical g → Fits g image
      → (w : Whole) → w ≡ record {
        epoch = g.epoch;
        turn = next_turn g;
        text = map nat_abs (take g.text_length image);
        words = drop g.text_length image;
      } → IsState m (learned_by m l (Ends w)).state
  kept_whole l g image c f w is =
      cond_both (is_program m w) (record { state = Running (learned_run w); judged = _; drive = l.drive })
      (record { state = Learning None; judged = _; drive = l.drive }) (λ (x : Closed). IsState m x.state)
      (λ e.
      let p = and_parts (is_none (m.builds w.text)) (m.word_count w.text == length w.words) e in
      record {
        bytes = subst (λ (t : List ℕ). All (λ (byte : ℕ). byte < 256) t) (sym (ap (λ (x : Whole). x.text) is))
            (text_bytes (take g.text_length image) f.bytes);
        builds = none_from (m.builds w.text) p.0;
        count = sym (eqb-true (m.word_count w.text) (length w.words) p.1);
        epoch = subst (λ (n : ℕ). n ≤ epoch_limit) (sym (ap (λ (x : Whole). x.epoch) is)) c.epoch;
        turn = subst (λ (n : ℕ). pos n ≤ℤ last_turn) (sym (ap (λ (x : Whole). x.turn) is))
            (turn_low (next_turn g) (sheet_turn g c));
      })
      (λ e. tt)

  kept_windowed : (l : LegScan) (g : Sheet) (image : List ℤ) (windows : ℕ) → IsCanonical g → Fits g image
      → 0 < windows → IsState m (learned_by m l (with_window g image windows)).state
  kept_windowed l g image windows c f some =
      cond_both (nat_lt windows (sheet_windows g)) _ _ (λ (o : Outcome). IsState m (learned_by m l o).state)
      (λ e. record {
        image_length = f.size;
        bytes = f.bytes;
        some = some;
        not_all = ltb-true windows (sheet_windows g) e;
        epoch = c.epoch;
        turn = turn_low (next_turn g) (sheet_turn g c);
      })
      (λ e. kept_whole l g image c f _ refl)

  kept_with_result : (l : LegScan) (lesson : Option Lesson) (o : Option Sheet) (left : List ℤ) → o ≡ sheet_of left
      → IsState m (Learning lesson) → IsState m (learned_by m l (with_result lesson o)).state
  kept_with_result l lesson None left e k = tt
  kept_with_result l lesson (Some g) left e k =
      let c = (spelled_back left g (sym e)).0 in
      kept_windowed l g (taught g (held lesson g).image) ((held lesson g).windows + 1) c
      (taught_fits g (held lesson g).image c (held_fits m lesson g k)) (omega arith)

  kept_learned : (l : LegScan) (lesson : Option Lesson) (left right : List ℤ) → IsState m (Learning lesson)
      → IsState m (learned_by m l (learn_of lesson left right)).state
  kept_learned l lesson left right k =
      cond_both (same_words left right) (sheet_of left) None
      (λ (o : Option Sheet). IsState m (learned_by m l (with_result lesson o)).state)
      (λ e. kept_with_result l lesson (sheet_of left) left refl k)
      (λ e. tt)

  pub kept_closed : (leg : Leg) (l : LegScan) (half : HalfScan) (left right : List ℤ) → IsState m half.state
      → IsState m (closed m leg l half left right).state
  unfolding closed judged_of learned_of
  kept_closed leg l half left right k = by half.state k
    where
      by : (state : State) → IsState m state → IsState m (closed_of m leg l half left right state).state
      by (Running run) k = kept_judged m points law leg l half.outputs run (judge_of half.own left right) k
      by (Learning lesson) k = kept_learned l lesson left right k

pub states_kept : (m : Meaning) (play : Play) → IsMeaning play.points m → IsPlayable m play
    → (scans : ℕ) (leg : Leg) → IsState m (state_after m play scans leg)
unfolding in_step
states_kept m play law is zero leg = record {
  bytes = is.bytes;
  builds = is.builds;
  count = law.first_count play.text is.builds;
  epoch = omega arith;
  turn = turn_low 0 (omega arith);
}
states_kept m play law is (suc k) leg =
    let l : LegScan = scan_behind play leg k in
    let before : State = state_after m play k leg in
    let states : Leg → State = state_after m play k in
    let ls : Leg → LegScan = scans_behind play k in
    let kept =
    kept_prepared m play.points law l before (is.swaps leg k) (is.swap_bytes leg k) (is.downloads leg k)
    (states_kept m play law is k leg) in
    let kept_there = kept_half m play.points law leg l (prepared m l before)
    (face Right (ls (left_of leg))) (face Left (ls (right_of leg))) kept in
    subst (λ (t : State). IsState m t) (sym (next_scan m play k leg).state)
    (kept_closed m play.points law leg l (half_at m play.points ls states leg)
    (from_left m play.points ls states leg) (from_right m play.points ls states leg) kept_there)
