-- The fault lines and the change point, case by case.
use Rattle.std.proofs.Common.{◌≡◌, ℕ, zero, suc, ◌+◌, ◌<◌, List, [], ◌∷◌, length, take, map, slice_index_or, arith, Bool, true, false, ◌||◌, Option, Some, None, option_map, is_some, refl, sym, ap, ◌∙◌, subst}
use Rattle.std.proofs.lemmas.Option.{none-some, same_Some}
use Rattle.std.proofs.lemmas.List.{map_more}
use Rattle.std.specs.List.{list_any}
use Rattle.tri_base.specs.Downloads.{Download}
use Rattle.engine_face.specs.declared.verdict.Verdict.{Verdict}
use Rattle.engine_face.specs.declared.verdict.Verdict.TheVariants as v
use Rattle.engine_face.specs.Meaning.{Meaning, changes}
use Rattle.re_education.specs.Learning.{Lesson}
use Rattle.script_text.specs.Acts.{act_of}
use Rattle.script_text.specs.declared.act.Act.{Act}
use Rattle.script_text.specs.LegScans.{LegScan, renames_of}
use Rattle.leg_laws.proofs.Pieces.{does_lines}
use Rattle.leg_laws.specs.States.{Run, State, Running, Learning}
use Rattle.leg_laws.specs.FaultLines.{acted, acted_all}
use Rattle.leg_laws.specs.ChangePoint.{Prepared, change_point, changed_run, prepared}
use Rattle.leg_laws.specs.NeedsOfMemory.{builds_program, is_swap}

pub none_change : (m : Meaning) (d : Option Download) (state : State)
    → ◌≡◌ {A = Option (List ℕ)} None (option_map (λ (x : Download). x.text) d)
    → change_point m d state ≡ record { state = state; verdict = None }
unfolding change_point
none_change m None state e = refl
none_change m (Some d) state e = absurd (none-some d.text e)

pub learning_change : (m : Meaning) (d : Option Download) (text : List ℕ) (lesson : Option Lesson)
    → Some text ≡ option_map (λ (x : Download). x.text) d
    → change_point m d (Learning lesson) ≡ record { state = Learning lesson; verdict = Some v.Learning }
unfolding change_point
learning_change m None text lesson e = absurd (none-some text (sym e))
learning_change m (Some d) text lesson e = refl

pub running_change : (m : Meaning) (d : Option Download) (text : List ℕ) (renames : List (List ℕ × List ℕ))
    (run run' : Run) (verdict : Verdict)
    → Some text ≡ option_map (λ (x : Download). x.text) d → renames ≡ renames_of d
    → changed_run m (record { text = text; renames = renames }) run (changes m run.text (record { text = text; renames = renames })) ≡ record { state = Running run'; verdict = Some verdict }
    → change_point m d (Running run) ≡ record { state = Running run'; verdict = Some verdict }
unfolding change_point
running_change m None text renames run run' verdict e f h = absurd (none-some text (sym e))
running_change m (Some d) text renames run run' verdict e f h =
    let t : text ≡ d.text = same_Some text d.text e in
    subst (λ (rs : List (List ℕ × List ℕ)). changed_run m (record { text = d.text; renames = rs }) run (changes m run.text (record { text = d.text; renames = rs })) ≡ record { state = Running run'; verdict = Some verdict }) f
    (subst (λ (x : List ℕ). changed_run m (record { text = x; renames = renames }) run (changes m run.text (record { text = x; renames = renames })) ≡ record { state = Running run'; verdict = Some verdict }) t h)

-- one line behind others
pub acts_step : (m : Meaning) (state : State) (acts : List Act) (k : ℕ) (d : Act) → k < length acts
    → acted_all m state (map act_of (take (k + 1) acts))
    ≡ acted m (acted_all m state (map act_of (take k acts))) (act_of (slice_index_or acts k d))
acts_step m state acts k d h =
    ap (acted_all m state) (map_more act_of acts k d h) ∙ (does_lines m).last state (map act_of (take k acts)) (act_of (slice_index_or acts k d))

no_swap_in : (acts : List Act) (k : ℕ) (d : Act) → list_any is_swap (map act_of acts) ≡ false → k < length acts
    → is_swap (act_of (slice_index_or acts k d)) ≡ false
no_swap_in [] k d e h = absurd (omega (arith, h))
no_swap_in (act ∷ acts) zero d e h = by (is_swap (act_of act)) e
  where
    by : (t : Bool) → t || list_any is_swap (map act_of acts) ≡ false → t ≡ false
    by true f = f
    by false f = refl
no_swap_in (act ∷ acts) (suc k) d e h = no_swap_in acts k d (by (is_swap (act_of act)) e) (omega (arith, h))
  where
    by : (t : Bool) → t || list_any is_swap (map act_of acts) ≡ false → list_any is_swap (map act_of acts) ≡ false
    by true f = cc
    by false f = f

-- no line is a SWAP where none is
pub no_swap : (acts : List Act) (k : ℕ) (d : Act) → list_any is_swap (map act_of acts) ≡ false → k < length acts
    → is_swap (act_of (slice_index_or acts k d)) ≡ false
no_swap acts k d e h = no_swap_in acts k d e h

pub acts_none : (m : Meaning) (state : State) → acted_all m state [] ≡ state
unfolding acted_all
acts_none m state = refl

-- lines and then the change point
pub prepared_is : (m : Meaning) (l : LegScan) (state between : State) (ready : Prepared)
    → between ≡ acted_all m state l.acts → change_point m l.download between ≡ ready → prepared m l state ≡ ready
unfolding prepared
prepared_is m l state between ready e h = ap (change_point m l.download) (sym e) ∙ h

-- a scan without download and SWAP
pub quiet : (l : LegScan) → builds_program l ≡ false → (l.download ≡ None) × (list_any is_swap l.acts ≡ false)
quiet l h = by l.download h
  where
    by : (d : Option Download) → is_some d || list_any is_swap l.acts ≡ false → (d ≡ None) × (list_any is_swap l.acts ≡ false)
    by None e = (refl, e)
    by (Some d) e = cc
