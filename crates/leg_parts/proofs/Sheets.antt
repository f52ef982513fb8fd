-- A sheet that tells of a run.
use Rattle.std.proofs.Common.{◌≡◌, ℕ, ℤ, Bool, List, ap, ◌∙◌}
use Rattle.engine_face.specs.Meaning.{Meaning}
use Rattle.input_legs.specs.VotedSheets.{VotedSheet}
use Rattle.leg_packet.specs.declared.sheet.OutSheet.{OutSheet}
use Rattle.leg_packet.specs.Sheets.{Has, spelled, spelled_out}
use Rattle.leg_packet.proofs.Spelling.{out_spelled}
use Rattle.leg_laws.specs.States.{Run}
use Rattle.leg_laws.specs.HalfScans.{run_on, run_sheet}
use Rattle.leg_parts.specs.Results.{ResultValue, run_result}
use Rattle.leg_parts.specs.Inner.Sheets.{sheet_told}

pub told_sheet : (m : Meaning) (run : Run) (voted : VotedSheet) (text : List ℕ) (before after outputs : List ℤ)
    → text ≡ run.text → before ≡ run.words → after ≡ (run_on m run voted).words → outputs ≡ (run_on m run voted).outputs
    → sheet_told run.epoch run.turn text before after outputs ≡ run_sheet run (run_on m run voted)
told_sheet m run voted text before after outputs e f g h =
    ap (λ (x : List ℕ). sheet_told run.epoch run.turn x before after outputs) e
    ∙ ap (λ (x : List ℤ). sheet_told run.epoch run.turn run.text x after outputs) f
    ∙ ap (λ (x : List ℤ). sheet_told run.epoch run.turn run.text run.words x outputs) g
    ∙ ap (λ (x : List ℤ). sheet_told run.epoch run.turn run.text run.words (run_on m run voted).words x) h

pub told_result : (m : Meaning) (run : Run) (voted : VotedSheet) (sheet : OutSheet) (text : List ℕ)
    (before after outputs : List ℤ) (flag : Bool)
    → Has sheet (sheet_told run.epoch run.turn text before after outputs)
    → text ≡ run.text → before ≡ run.words → after ≡ (run_on m run voted).words → outputs ≡ (run_on m run voted).outputs
    → flag ≡ (run_on m run voted).flag
    → ◌≡◌ {A = ResultValue} (record { own = spelled_out sheet; outputs = sheet.outputs.list; flag = flag }) (run_result m voted run)
told_result m run voted sheet text before after outputs flag has e f g h i =
    let own : spelled_out sheet ≡ spelled (run_sheet run (run_on m run voted)) =
    out_spelled sheet _ has ∙ ap spelled (told_sheet m run voted text before after outputs e f g h) in
    let driven : sheet.outputs.list ≡ (run_on m run voted).outputs = has.outputs ∙ h in
    ap (λ (x : List ℤ). record { own = x; outputs = sheet.outputs.list; flag = flag }) own
    ∙ ap (λ (x : List ℤ). record { own = spelled (run_sheet run (run_on m run voted)); outputs = x; flag = flag }) driven
    ∙ ap (λ (x : Bool). record { own = spelled (run_sheet run (run_on m run voted)); outputs = (run_on m run voted).outputs; flag = x }) i
