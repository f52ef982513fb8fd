-- One scan of three legs of which two have one run.
use Rattle.std.proofs.Common.{◌≡◌, ℤ, Bool, true, false, ◌&&◌, is_some, Option, Some, None, List, length, refl, sym, ap, subst, ◌∙◌, inl, inr}
use Rattle.std.specs.Cmp.Rules.{signed_items}
use Rattle.std.proofs.lemmas.Bool.{cond-true, and_from}
use Rattle.tri_base.specs.declared.leg.Leg.{Leg}
use Rattle.tri_base.specs.declared.leg.Leg.TheVariants.{A, B, C}
use Rattle.tri_base.specs.declared.leg.Side.{Side}
use Rattle.tri_base.specs.declared.leg.Side.TheVariants.{Left, Right}
use Rattle.tri_base.specs.declared.point.Point.{Point}
use Rattle.tri_base.specs.Legs.{left_of, right_of}
use Rattle.engine_face.specs.Laws.{IsMeaning}
use Rattle.engine_face.specs.Meaning.{Meaning, Scanned}
use Rattle.engine_face.specs.declared.verdict.Verdict.{Verdict}
use Rattle.input_legs.specs.VotedSheets.{VotedSheet, vote_sheet_of}
use Rattle.leg_laws.proofs.KeptStates.{IsInput, voted_fits}
use Rattle.leg_laws.specs.ChangePoint.{Prepared, prepared}
use Rattle.leg_laws.specs.Closing.{Closed, agreed, closed, judged_of, judged_run, learned_by, learned_of, turned}
use Rattle.leg_laws.specs.HalfScans.{half_of, half_scan, result_towards, run_on, run_sheet}
use Rattle.leg_laws.specs.States.{IsRun, IsState, Learning, Run, Running, State}
use Rattle.leg_laws.specs.ThreeScans.{closed_at, from_left, from_right, half_at}
use Rattle.leg_packet.specs.Sheets.{IsSized, Sheet, sheet_of, spelled}
use Rattle.majority_laws.proofs.Shown.{shows, sized}
use Rattle.leg_packet.proofs.Spelling.{spelled_same}
use Rattle.majority_laws.proofs.Stages.{Goes, Shows}
use Rattle.majority_laws.specs.Recovering.{OwnResults, shown_in}
use Rattle.memory_compare.specs.Judging.{judge_of, judged_by, same_words}
use Rattle.memory_compare.specs.declared.judging.Judgement.{Judgement}
use Rattle.memory_compare.specs.declared.judging.Judgement.TheVariants.{Agrees, Minority}
use Rattle.plant_script.specs.Faces.{decided_or, face}
use Rattle.re_education.specs.Learning.{Lesson, learn_of, with_result}
use Rattle.script_text.specs.LegScans.{LegScan}
use Rattle.std.specs.Option.{option_or}

-- a scan keeps the number of words
pub length_run : (m : Meaning) (points : List Point) → IsMeaning points m → (v : VotedSheet) (run : Run)
    → IsInput points v → IsRun m run → length (run_on m run v).words ≡ length run.words
length_run m points law v run i k =
    (law.scan run.text run.words v.values v.time k.builds k.count i.count i.low i.high).count

-- ---- equal packets

pub same_from : (xs ys : List ℤ) → xs ≡ ys → same_words xs ys ≡ true
same_from xs ys e = (signed_items xs ys).1 e

pub same_is : (xs ys : List ℤ) → same_words xs ys ≡ true → xs ≡ ys
same_is xs ys e = (signed_items xs ys).0 e

-- what a leg says of a neighbour whose packet is, or isn't, its own
abbrev pub accusing : Side → Bool → Option Side
accusing side true = None
accusing side false = Some side

left_by : (b w : Bool) → judged_by true b w ≡ Agrees (accusing Right b)
left_by true w = refl
left_by false w = refl

right_by : (b w : Bool) → judged_by b true w ≡ Agrees (accusing Left b)
right_by true w = refl
right_by false w = refl

pub agrees_left : (own left right : List ℤ) → own ≡ left → judge_of own left right
    ≡ Agrees (accusing Right (same_words own right))
agrees_left own left right e =
    ap (λ b. judged_by b (same_words own right) (same_words left right && is_some (sheet_of left)))
    (same_from own left e) ∙ left_by (same_words own right) (same_words left right && is_some (sheet_of left))

pub agrees_right : (own left right : List ℤ) → own ≡ right → judge_of own left right
    ≡ Agrees (accusing Left (same_words own left))
agrees_right own left right e =
    ap (λ b. judged_by (same_words own left) b (same_words left right && is_some (sheet_of left)))
    (same_from own right e) ∙ right_by (same_words own left) (same_words left right && is_some (sheet_of left))

-- a run that agrees with a neighbour goes on, drives, and accuses the other or nobody
abbrev pub stays : Leg → LegScan → List ℤ → Run → Option Side → Closed
stays leg l outputs run accused =
    record { state = Running (turned run); judged = agreed leg accused; drive = option_or l.drive (Some outputs) }

pub stays_left : (leg : Leg) (l : LegScan) (outputs own left right : List ℤ) (run : Run) → own ≡ left
    → judged_run leg l outputs run (judge_of own left right)
    ≡ stays leg l outputs run (accusing Right (same_words own right))
stays_left leg l outputs own left right run e = ap (λ j. judged_run leg l outputs run j) (agrees_left own left right e)

pub stays_right : (leg : Leg) (l : LegScan) (outputs own left right : List ℤ) (run : Run) → own ≡ right
    → judged_run leg l outputs run (judge_of own left right)
    ≡ stays leg l outputs run (accusing Left (same_words own left))
stays_right leg l outputs own left right run e =
    ap (λ j. judged_run leg l outputs run j) (agrees_right own left right e)

-- ---- the third leg beside two equal results

minority_by : (b c : Bool) → b ≡ false → c ≡ true → judged_by b b c ≡ Minority
minority_by false true e f = refl
minority_by true c e f = absurd (cc)
minority_by false false e f = absurd (cc)

module _ (m : Meaning) (g : Sheet) (is_sized : IsSized g) (read : sheet_of (spelled g) ≡ Some g) where
  third_run : (x : Leg) (l : LegScan) (r : Run) (after : Scanned) → length after.words ≡ length r.words
      → Goes m l g (Running r) (judged_run x l after.outputs (record r { words = after.words })
      (judge_of (spelled (run_sheet r after)) (spelled g) (spelled g))).state
  third_run x l r after same = by (same_words own (spelled g)) refl
    where
      own : List ℤ
      own = spelled (run_sheet r after)

      by : (b : Bool) → same_words own (spelled g) ≡ b
          → Goes m l g (Running r) (judged_run x l after.outputs (record r { words = after.words })
          (judge_of own (spelled g) (spelled g))).state
      by true e =
          let is : run_sheet r after ≡ g =
          spelled_same (run_sheet r after) g (sized r after same) is_sized (same_is own (spelled g) e) in
          inl (
            turned (record r { words = after.words }),
            subst
                (λ (s : Sheet). Shows r (turned (record r { words = after.words })) s) is (shows r after same),
            ap
                (λ (c : Closed). c.state) (stays_left x l after.outputs own (spelled g) (spelled g)
                (record r { words = after.words }) (same_is own (spelled g) e)),
          )
      by false e =
          let two : (same_words (spelled g) (spelled g) && is_some (sheet_of (spelled g))) ≡ true =
          and_from (same_words (spelled g) (spelled g)) (is_some (sheet_of (spelled g)))
          (same_from (spelled g) (spelled g) refl) (ap is_some read) in
          inr (ap (λ (j : Judgement). (judged_run x l after.outputs (record r { words = after.words }) j).state)
          (minority_by (same_words own (spelled g)) (same_words (spelled g) (spelled g) && is_some
          (sheet_of (spelled g))) e two))

  third_learning : (l : LegScan) (lesson : Option Lesson)
      → (learned_by m l (learn_of lesson (spelled g) (spelled g))).state
      ≡ (learned_by m l (with_result lesson (Some g))).state
  third_learning l lesson =
      ap (λ (o : Option Sheet). (learned_by m l (with_result lesson o)).state)
      (cond-true (same_words (spelled g) (spelled g)) (sheet_of (spelled g)) None
      (same_from (spelled g) (spelled g) refl) ∙ read)

  pub third : (points : List Point) (law : IsMeaning points m) (x : Leg) (l : LegScan) (v : VotedSheet)
      (verdict : Option Verdict) (state : State) → IsInput points v → IsState m state
      → Goes m l g state (closed m x l (half_of m v verdict state) (spelled g) (spelled g)).state
  unfolding closed judged_of learned_of
  third points law x l v verdict (Running r) i k = third_run x l r (run_on m r v) (length_run m points law v r i k)
  third points law x l v verdict (Learning lesson) i k = third_learning l lesson

-- ---- the vote of each leg is that of the three right faces

abbrev pub ready_at : Meaning → (Leg → LegScan) → (Leg → State) → Leg → Prepared
ready_at m ls states x = prepared m (ls x) (states x)

pub equal_votes : (m : Meaning) (points : List Point) (ls : Leg → LegScan) (states : Leg → State)
    → ((x : Leg) → face Left (ls x) ≡ face Right (ls x)) → (x : Leg)
    → half_at m points ls states x
    ≡ half_of m (vote_sheet_of points (shown_in ls)) (ready_at m ls states x).verdict (ready_at m ls states x).state
unfolding half_scan
equal_votes m points ls states faces A =
    λ i. half_of m (vote_sheet_of points (record { a = face Right (ls A); b = faces B i; c = face Right (ls C) }))
    (ready_at m ls states A).verdict (ready_at m ls states A).state
equal_votes m points ls states faces B =
    λ i. half_of m (vote_sheet_of points (record { a = face Right (ls A); b = face Right (ls B); c = faces C i }))
    (ready_at m ls states B).verdict (ready_at m ls states B).state
equal_votes m points ls states faces C =
    λ i. half_of m (vote_sheet_of points (record { a = faces A i; b = face Right (ls B); c = face Right (ls C) }))
    (ready_at m ls states C).verdict (ready_at m ls states C).state

-- ---- legs that have one run

module _ (m : Meaning) (points : List Point) (ls : Leg → LegScan) (states : Leg → State)
    (faces : (x : Leg) → face Left (ls x) ≡ face Right (ls x)) where
  abbrev pub vote : VotedSheet
  vote = vote_sheet_of points (shown_in ls)

  -- a leg that is ready with a run, and puts its own result
  pub record Shown (run : Run) (verdict : Option Verdict) (x : Leg) : Type 0 where
    pub ready : ready_at m ls states x ≡ record { state = Running run; verdict = verdict }
    pub results : OwnResults (ls x)

  pub record MidIs (run : Run) (verdict : Option Verdict) (x : Leg) : Type 0 where
    pub mid : half_at m points ls states x ≡ half_of m vote verdict (Running run)
    pub left : result_towards Left (ls x) (half_at m points ls states x) ≡ spelled (run_sheet run (run_on m run vote))
    pub right : result_towards Right (ls x) (half_at m points ls states x) ≡ spelled (run_sheet run (run_on m run vote))

  pub mid_is : (run : Run) (verdict : Option Verdict) (x : Leg) → Shown run verdict x → MidIs run verdict x
  mid_is run verdict x h =
      let e : half_at m points ls states x ≡ half_of m vote verdict (Running run) =
      equal_votes m points ls states faces x ∙ ap (λ (p : Prepared). half_of m vote p.verdict p.state) h.ready in
      record {
        mid = e;
        left = (λ i. decided_or (h.results.left i) (e i).own);
        right = (λ i. decided_or (h.results.right i) (e i).own);
      }

  -- such a leg beside another one, on its left or on its right
  pub beside_left : (run : Run) (verdict : Option Verdict) (x : Leg) → Shown run verdict x
      → Shown run verdict (left_of x)
      → closed_at m points ls states x
      ≡ stays x (ls x) (run_on m run vote).outputs (record run { words = (run_on m run vote).words })
      (accusing Right (same_words (spelled (run_sheet run (run_on m run vote))) (from_right m points ls states x)))
  unfolding closed judged_of learned_of
  beside_left run verdict x h k =
      let own : List ℤ = spelled (run_sheet run (run_on m run vote)) in
      let l : from_left m points ls states x ≡ own = (mid_is run verdict (left_of x) k).right in
      (λ i. closed m x (ls x) ((mid_is run verdict x h).mid i) (from_left m points ls states x)
      (from_right m points ls states x))
      ∙ stays_left x (ls x) (run_on m run vote).outputs own (from_left m points ls states x)
      (from_right m points ls states x) (record run { words = (run_on m run vote).words }) (sym l)

  pub beside_right : (run : Run) (verdict : Option Verdict) (x : Leg) → Shown run verdict x
      → Shown run verdict (right_of x)
      → closed_at m points ls states x
      ≡ stays x (ls x) (run_on m run vote).outputs (record run { words = (run_on m run vote).words })
      (accusing Left (same_words (spelled (run_sheet run (run_on m run vote))) (from_left m points ls states x)))
  unfolding closed judged_of learned_of
  beside_right run verdict x h k =
      let own : List ℤ = spelled (run_sheet run (run_on m run vote)) in
      let r : from_right m points ls states x ≡ own = (mid_is run verdict (right_of x) k).left in
      (λ i. closed m x (ls x) ((mid_is run verdict x h).mid i) (from_left m points ls states x)
      (from_right m points ls states x))
      ∙ stays_right x (ls x) (run_on m run vote).outputs own (from_left m points ls states x)
      (from_right m points ls states x) (record run { words = (run_on m run vote).words }) (sym r)

  -- a leg between two such
  pub between : (law : IsMeaning points m) (run : Run) (verdict : Option Verdict) (x : Leg)
      → Shown run verdict (left_of x) → Shown run verdict (right_of x)
      → IsSized (run_sheet run (run_on m run vote)) → sheet_of (spelled (run_sheet run (run_on m run vote)))
      ≡ Some (run_sheet run (run_on m run vote))
      → IsState m (ready_at m ls states x).state
      → Goes m (ls x) (run_sheet run (run_on m run vote)) (ready_at m ls states x).state
      (closed_at m points ls states x).state
  between law run verdict x h k sz rd kept =
      let g : Sheet = run_sheet run (run_on m run vote) in
      let l : from_left m points ls states x ≡ spelled g = (mid_is run verdict (left_of x) h).right in
      let r : from_right m points ls states x ≡ spelled g = (mid_is run verdict (right_of x) k).left in
      let p : Prepared = ready_at m ls states x in
      subst (λ (c : Closed). Goes m (ls x) g p.state c.state)
      (λ i. closed m x (ls x) (sym (equal_votes m points ls states faces x) i) (sym l i) (sym r i))
      (third m g sz rd points law x (ls x) vote p.verdict p.state (voted_fits points (shown_in ls)) kept)
