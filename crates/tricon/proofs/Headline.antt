-- The report of three legs tells the one controller, and their summary has its sum.
use Rattle.std.proofs.Common.{◌≡◌, ◌∙◌, inl, inr, ℤ, pos, length, ℕ, zero, suc, ◌+◌, ◌≤◌, ◌<◌, List, fold, Option, None, refl, sym, ap, subst, arith}
use Rattle.std.specs.List.{range_with_len}
use Rattle.std.proofs.lemmas.List.Folds.{fold-map}
use Rattle.std.proofs.lemmas.List.FromFn.{length-map-range_with_len}
use Rattle.tri_base.specs.declared.leg.Leg.{Leg}
use Rattle.tri_base.specs.declared.leg.Leg.TheVariants.{A, B, C}
use Rattle.tri_base.specs.Legs.{leg_part}
use Rattle.script_text.specs.ScriptValue.{ReadScript}
use Rattle.plant_script.specs.Calm.{IsFirstUncalm}
use Rattle.plant_script.specs.Countdown.{IsSound}
use Rattle.single_controller.specs.Controller.{scanned_at}
use Rattle.chassis.specs.Points.{inputs_of}
use Rattle.controller_report.specs.SoloSummary.{output_sum, plus_all}
use Rattle.diag_report.specs.Report as legs
use Rattle.diag_report.specs.Report.{alarmed_scans, plus_outputs}
use Rattle.diag_report.specs.Summary.{summary_of}
use Rattle.leg_laws.specs.Endings.{state_ending}
use Rattle.leg_laws.specs.Plays.{play_of}
use Rattle.leg_laws.specs.Rounds.{state_after}
use Rattle.st_build.specs.StructuredText.{structured_text}
use Rattle.majority_laws.specs.Carried.{Carry}
use Rattle.majority_laws.specs.Majority.{note_at}
use Rattle.majority_laws.specs.Sound.{good_ending}
use Rattle.majority_laws.proofs.Scripts.{can_be_played}
use Rattle.majority_laws.proofs.Sound.{sound_ends}
use Rattle.play_report.specs.LegsReport.{endings_of, legs_report, tables_of, told_of}
use Rattle.play_report.specs.Marks.{marks_of}
use Rattle.script_commands.specs.declared.script_command.ScriptCommand.{ScriptCommand}
use Rattle.script_commands.specs.declared.script_command.ScriptCommand.TheVariants.{Play}
use Rattle.script_commands.specs.declared.script_command.PlayCommand.TheVariants.{Summary}
use Rattle.script_commands.specs.Outputs.{IsOutputOf}
use Rattle.tricon.specs.Headline.{ReportsCarry, SummariesCarry, TellsScan, WritesReport, note_in}
use Rattle.tricon.specs.Readings.{meaning_over}
use Rattle.tricon.proofs.Carried.{carried, lawful_over, told_at}

-- what such a command writes is the report, up to the first scan that isn't calm
is_report : (command : ScriptCommand) (script : ReadScript) (uncalm : Option ℕ) (output : List ℕ) → WritesReport command
    → IsOutputOf command structured_text script.value uncalm output
    → IsFirstUncalm (meaning_over script) script.value uncalm
    × (output ≡ legs_report (meaning_over script) script.value uncalm)
is_report command script uncalm output (inl e) is =
    let r = subst (λ (c : ScriptCommand). IsOutputOf c structured_text script.value uncalm output) e is in
    (r.first, r.is)
is_report command script uncalm output (inr e) is =
    subst (λ (c : ScriptCommand). IsOutputOf c structured_text script.value uncalm output) e is

-- the notes in what is told of a scan
noted : (s : ReadScript) (scan : ℕ) (leg : Leg)
    → note_in (told_at s scan) leg ≡ note_at (meaning_over s) s.value scan leg
noted s scan A = refl
noted s scan B = refl
noted s scan C = refl

-- notes that carry the one controller tell its scan
tells : (s : ReadScript) (scan : ℕ) → Carry (meaning_over s) s.value scan (note_at (meaning_over s) s.value scan)
    → TellsScan (meaning_over s) s.value scan (told_at s scan)
tells s scan carry =
    let same : note_in (told_at s scan) ≡ note_at (meaning_over s) s.value scan = λ i leg. noted s scan leg i in
    record {
      outputs = carry.outputs;
      arith = carry.flag;
      carries = subst (Carry (meaning_over s) s.value scan) (sym same) carry;
    }

-- where all scans are calm, each sound leg ends as the one controller does
ends_well : (s : ReadScript) (uncalm : Option ℕ)
    → (uncalm ≡ None → (leg : Leg) → IsSound (meaning_over s) s.value leg s.value.scans
    → state_ending (state_after (meaning_over s) (play_of s.value) s.value.scans leg)
    ≡ good_ending (meaning_over s) s.value s.value.scans)
    → uncalm ≡ None → (leg : Leg) → IsSound (meaning_over s) s.value leg s.value.scans
    → leg_part (endings_of (meaning_over s) s.value) leg ≡ good_ending (meaning_over s) s.value s.value.scans
ends_well s uncalm ends calm A sound = ends calm A sound
ends_well s uncalm ends calm B sound = ends calm B sound
ends_well s uncalm ends calm C sound = ends calm C sound

-- the report of three legs tells the one controller
pub reports_carry : ReportsCarry
reports_carry command bytes uncalm output writes is =
    let s = is.script in
    let m = meaning_over s in
    let v = s.value in
    let report = is_report command s uncalm output writes is.is in
    let can = can_be_played m s (lawful_over s is.proper) is.proper is.builds in
    let calm : uncalm ≡ None → IsFirstUncalm m v None = λ e. subst (IsFirstUncalm m v) e report.0 in
    record {
      told = told_at s;
      marks = marks_of (length (inputs_of v.points)) (tables_of m v);
      ends = endings_of m v;
      is = report.1;
      scans = λ scan first last before.
          tells s scan (carried command bytes uncalm output is report.0 scan first last before);
      sound = ends_well s uncalm (λ e leg sound. sound_ends m v v.scans can (omega arith) (calm e) leg sound);
    }

-- ---- the sum

-- two sums over the same scans
fold_range : (f g : ℤ → ℕ → ℤ) (sum : ℤ) (start n : ℕ)
    → ((k : ℕ) → start ≤ k → k < start + n → (x : ℤ) → f x k ≡ g x k)
    → fold f sum (range_with_len start n) ≡ fold g sum (range_with_len start n)
fold_range f g sum start zero same = refl
fold_range f g sum start (suc n) same =
    fold_range f g (f sum start) (start + 1) n (λ k first last x. same k (omega (arith, first)) (omega (arith, last)) x)
    ∙ ap (λ (x : ℤ). fold g x (range_with_len (start + 1) n)) (same start (omega arith) (omega arith) sum)

-- the summary of a play all of whose scans are calm has the sum of the one controller's outputs
pub summaries_carry : SummariesCarry
summaries_carry bytes output is =
    let s = is.script in
    let m = meaning_over s in
    let v = s.value in
    let carry : (scan : ℕ) → 1 ≤ scan → scan ≤ v.scans → Carry m v scan (note_at m v scan) =
    λ scan first last. carried (Play Summary) bytes None output is is.is.0 scan first last tt in
    let sum : legs.output_sum (told_of m v) ≡ output_sum m v =
    fold-map plus_outputs (told_at s) (pos 0) (range_with_len 1 v.scans)
    ∙ fold_range (λ x scan. plus_outputs x (told_at s scan)) (λ x scan. plus_all x (scanned_at m v scan).outputs)
    (pos 0) 1 v.scans
    (λ scan first last x. ap (λ (out : List ℤ). plus_all x out) (carry scan first (omega (arith, last))).outputs) in
    let count : length (told_of m v) ≡ v.scans = length-map-range_with_len (told_at s) 1 v.scans in
    record {
      alarmed = alarmed_scans (told_of m v);
      is = is.is.1 ∙ (λ i. summary_of (count i) (sum i) (alarmed_scans (told_of m v)) None);
    }
