-- How a scan ends, by what was judged or learned.
use Rattle.std.proofs.Common.{◌≡◌, ℕ, ℤ, Bool, true, false, List, Option, Some, None, Ok, refl, sym, ap, subst, ◌∙◌, if◌then◌else◌}
use Rattle.tri_base.specs.declared.leg.Leg.{Leg}
use Rattle.tri_base.specs.declared.leg.Side.{Side}
use Rattle.tri_base.specs.declared.judged.Judged.TheVariants as j
use Rattle.engine_face.specs.Meaning.{Meaning}
use Rattle.script_text.specs.LegScans.{LegScan}
use Rattle.memory_compare.specs.declared.judging.Judgement.{Judgement}
use Rattle.memory_compare.specs.declared.judging.Judgement.TheVariants.{Agrees, Minority, NoVote}
use Rattle.memory_compare.specs.Judging.{judge_of}
use Rattle.re_education.specs.declared.progress.Progress.TheVariants.{Waiting, Learned, Ready}
use Rattle.re_education.specs.declared.progress.Image.{Image}
use Rattle.re_education.specs.Learned.{ImageOf, Learns}
use Rattle.re_education.specs.Learning.{Lesson, Whole, Outcome, Waits, Goes_on, Ends, learn_of}
use Rattle.leg_laws.specs.States.{Run, State, Running, Learning}
use Rattle.leg_laws.specs.HalfScans.{HalfScan}
use Rattle.leg_laws.specs.Closing.{Closed, agreed, closed_of, is_program, judged_of, judged_run, learned_by, learned_of, learned_run, turned}
use Rattle.leg_parts.specs.declared.leg_state.Closing.{Closing}
use Rattle.leg_parts.specs.Closings.{Closes, closed_with}
use Rattle.leg_parts.specs.Inner.Programs.{IsWhole, TellsProgram}

-- ---- a leg that ran

ran : (m : Meaning) (leg : Leg) (own left right : List ℤ) (run : Run) (judgement : Judgement) (l : LegScan) (half : HalfScan)
    → judge_of own left right ≡ judgement → half.own ≡ own
    → closed_of m leg l half left right (Running run) ≡ judged_run leg l half.outputs run judgement
unfolding judged_of
ran m leg own left right run judgement l half h e =
    ap (judged_run leg l half.outputs run) (ap (λ (x : List ℤ). judge_of x left right) e ∙ h)

pub minority_closes : (m : Meaning) (leg : Leg) (own left right : List ℤ) (run : Run)
    → judge_of own left right ≡ Minority
    → Closes m leg own left right (Running run) (Learning None) (record { judged = j.Minority; drives = false })
minority_closes m leg own left right run h l half e = ran m leg own left right run Minority l half h e

pub agrees_closes : (m : Meaning) (leg : Leg) (own left right : List ℤ) (run : Run) (accused : Option Side)
    → judge_of own left right ≡ Agrees accused
    → Closes m leg own left right (Running run) (Running (turned run)) (record { judged = agreed leg accused; drives = true })
agrees_closes m leg own left right run accused h l half e = ran m leg own left right run (Agrees accused) l half h e

pub no_vote_closes : (m : Meaning) (leg : Leg) (own left right : List ℤ) (run : Run)
    → judge_of own left right ≡ NoVote
    → Closes m leg own left right (Running run) (Running (turned run)) (record { judged = j.NoVote; drives = true })
no_vote_closes m leg own left right run h l half e = ran m leg own left right run NoVote l half h e

-- ---- a leg that learned

learnt : (m : Meaning) (leg : Leg) (left right : List ℤ) (lesson : Option Lesson) (outcome : Outcome) (l : LegScan) (half : HalfScan)
    → learn_of lesson left right ≡ outcome
    → closed_of m leg l half left right (Learning lesson) ≡ learned_by m l outcome
unfolding learned_of
learnt m leg left right lesson outcome l half h = ap (learned_by m l) h

waited : (outcome : Outcome) (after : Option Lesson) → Learns outcome (Ok Waiting) after → (outcome ≡ Waits) × (after ≡ None)
waited Waits after h = (refl, h)
waited (Goes_on z) after h = absurd h
waited (Ends w) after h = absurd h

went_on : (outcome : Outcome) (n : ℕ) (after : Option Lesson) → Learns outcome (Ok (Learned n)) after
    → (z : Lesson) × (outcome ≡ Goes_on z) × (n ≡ z.windows) × (after ≡ Some z)
went_on Waits n after h = absurd h
went_on (Goes_on z) n after h = (z, refl, h.0, h.1)
went_on (Ends w) n after h = absurd h

ended : (outcome : Outcome) (i : Image) (after : Option Lesson) → Learns outcome (Ok (Ready i)) after
    → (w : Whole) × (outcome ≡ Ends w) × ImageOf w i × (after ≡ None)
ended Waits i after h = absurd h
ended (Goes_on z) i after h = absurd h
ended (Ends w) i after h = (w, refl, h.0, h.1)

pub ready_whole : (outcome : Outcome) (i : Image) (after : Option Lesson) → Learns outcome (Ok (Ready i)) after → IsWhole i
ready_whole outcome i after h = let e = ended outcome i after h in (e.0, e.2)

pub waiting_closes : (m : Meaning) (leg : Leg) (own left right : List ℤ) (lesson after : Option Lesson)
    → Learns (learn_of lesson left right) (Ok Waiting) after
    → Closes m leg own left right (Learning lesson) (Learning after) (record { judged = j.Waiting; drives = false })
waiting_closes m leg own left right lesson after h l half e =
    let w = waited (learn_of lesson left right) after h in
    learnt m leg left right lesson Waits l half w.0
    ∙ ap (λ (o : Option Lesson). closed_with l half.outputs (Learning o) (record { judged = j.Waiting; drives = false })) (sym w.1)

pub learned_closes : (m : Meaning) (leg : Leg) (own left right : List ℤ) (lesson after : Option Lesson) (n : ℕ)
    → Learns (learn_of lesson left right) (Ok (Learned n)) after
    → Closes m leg own left right (Learning lesson) (Learning after) (record { judged = j.Learned n; drives = false })
learned_closes m leg own left right lesson after n h l half e =
    let w = went_on (learn_of lesson left right) n after h in
    let z = w.0 in
    learnt m leg left right lesson (Goes_on z) l half w.1
    ∙ ap (λ (o : Option Lesson). closed_with l half.outputs (Learning o) (record { judged = j.Learned z.windows; drives = false })) (sym w.3)
    ∙ ap (λ (k : ℕ). closed_with l half.outputs (Learning after) (record { judged = j.Learned k; drives = false })) (sym w.2)

chosen : (t b : Bool) (x y : Closed) → t ≡ b → (if t then x else y) ≡ (if b then x else y)
chosen t b x y e = ap (λ (s : Bool). if s then x else y) e

pub ready_closes : (m : Meaning) (leg : Leg) (own left right : List ℤ) (lesson after : Option Lesson) (i : Image) (run : Run)
    → Learns (learn_of lesson left right) (Ok (Ready i)) after → TellsProgram m i (Some run)
    → Closes m leg own left right (Learning lesson) (Running run) (record { judged = j.Ready; drives = false })
ready_closes m leg own left right lesson after i run h t l half e =
    let w = ended (learn_of lesson left right) i after h in
    let told = t w.0 w.2 in
    learnt m leg left right lesson (Ends w.0) l half w.1
    ∙ chosen (is_program m w.0) true (record { state = Running (learned_run w.0); judged = j.Ready; drive = l.drive }) (record { state = Learning None; judged = j.Rejected; drive = l.drive }) told.0
    ∙ ap (λ (r : Run). closed_with l half.outputs (Running r) (record { judged = j.Ready; drives = false })) (sym told.1)

pub rejected_closes : (m : Meaning) (leg : Leg) (own left right : List ℤ) (lesson after : Option Lesson) (i : Image)
    → Learns (learn_of lesson left right) (Ok (Ready i)) after → TellsProgram m i None
    → Closes m leg own left right (Learning lesson) (Learning after) (record { judged = j.Rejected; drives = false })
rejected_closes m leg own left right lesson after i h t l half e =
    let w = ended (learn_of lesson left right) i after h in
    learnt m leg left right lesson (Ends w.0) l half w.1
    ∙ chosen (is_program m w.0) false (record { state = Running (learned_run w.0); judged = j.Ready; drive = l.drive }) (record { state = Learning None; judged = j.Rejected; drive = l.drive }) (t w.0 w.2)
    ∙ ap (λ (o : Option Lesson). closed_with l half.outputs (Learning o) (record { judged = j.Rejected; drives = false })) (sym w.3)

-- ---- the same over equal values

pub closes_over : (m m' : Meaning) (leg : Leg) (own left right : List ℤ) (before before' after after' : State) (c c' : Closing)
    → m ≡ m' → before ≡ before' → after ≡ after' → c ≡ c'
    → Closes m' leg own left right before' after' c' → Closes m leg own left right before after c
closes_over m m' leg own left right before before' after after' c c' e f g h closes =
    subst (λ (x : Meaning). Closes x leg own left right before after c) (sym e)
    (subst (λ (x : State). Closes m' leg own left right x after c) (sym f)
    (subst (λ (x : State). Closes m' leg own left right before' x c) (sym g)
    (subst (λ (x : Closing). Closes m' leg own left right before' after' x) (sym h) closes)))

pub closes_before : (m m' : Meaning) (leg : Leg) (own left right : List ℤ) (before before' after : State) (c c' : Closing)
    → m ≡ m' → before ≡ before' → c ≡ c'
    → Closes m' leg own left right before' after c' → Closes m leg own left right before after c
closes_before m m' leg own left right before before' after c c' e f h closes =
    closes_over m m' leg own left right before before' after after c c' e f refl h closes
