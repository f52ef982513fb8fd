-- What the report of the three legs tells of one scan, from each leg's note of it and the values of the outputs, which
-- are the vote of the three drives. Own rule.
use Rattle.std.specs.Prelude.{ℕ, ℤ, pos, List, [], ◌∷◌, ◌++◌, codes}
use Rattle.tri_base.specs.declared.leg.Leg.TheVariants.{A, B, C}
use Rattle.vote_discrete.specs.Truths.{number}
use Rattle.fault_history.specs.declared.alarms.Alarms.{Alarms}
use Rattle.fault_history.specs.AlarmTests.{alarms_of}
use Rattle.fault_history.specs.Notes.{NoteData}
use Rattle.report_lines.specs.Lines.{line}
use Rattle.diag_report.specs.Judgements.{judgement_line, verdict_line}

-- The verdicts of the three legs, where the scan has a download.
abbrev pub verdict_lines : (a b c : NoteData) → List ℕ
verdict_lines a b c = verdict_line A a.verdict ++ (verdict_line B b.verdict ++ verdict_line C c.verdict)

-- The scan time and the inputs as leg A voted them, and the outputs.
abbrev pub value_lines : (a : NoteData) (out : List ℤ) → List ℕ
value_lines a out = line (codes "IN") (a.time ∷ a.values) ++ line (codes "OUT") out

-- What the three legs were judged.
abbrev pub judgement_lines : (a b c : NoteData) → List ℕ
judgement_lines a b c = judgement_line A a.judged ++ (judgement_line B b.judged ++ judgement_line C c.judged)

-- The alarms MP, INPUT, OUTPUT and ARITH, each as 0 or 1.
abbrev pub alarm_line : Alarms → List ℕ
alarm_line alarms =
    line (codes "ALARMS") (number alarms.mp ∷ number alarms.input ∷ number alarms.output ∷ number alarms.arith ∷ [])

-- A scan's part of the report: its number, from 1; the verdicts; inputs and outputs; the judgements; the alarms.
abbrev pub scan_part_of : (scan : ℕ) (a b c : NoteData) (out : List ℤ) → List ℕ
scan_part_of scan a b c out =
    line (codes "SCAN") (pos scan ∷ [])
    ++ (verdict_lines a b c
    ++ (value_lines a out ++ (judgement_lines a b c ++ alarm_line (alarms_of a b c out))))
