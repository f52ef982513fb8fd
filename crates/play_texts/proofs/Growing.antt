-- What is told grows scan by scan.
use Rattle.std.proofs.Common.{◌≡◌, ◌∙◌, ℕ, ℤ, ◌+◌, List, [], ◌∷◌, ◌++◌, Option, length, cond, ap, sym, arith}
use Rattle.std.proofs.lemmas.List.FromFn.{length-map-range_with_len, map-range_with_len_more}
use Rattle.tri_base.specs.declared.leg.Triple.{Triple}
use Rattle.tri_base.specs.declared.point.Point.{Point}
use Rattle.engine_face.specs.Meaning.{Meaning}
use Rattle.script_text.specs.ScriptValue.{ScriptValue}
use Rattle.diag_report.specs.Report.{alarmed_scans, has_mp, output_sum}
use Rattle.diag_report.specs.Summary.{summary_of}
use Rattle.diag_report.proofs.Growing.{scans_add}
use Rattle.leg_laws.specs.Configs.{LegValue}
use Rattle.play_report.specs.LegsReport.{legs_summary, told_of}
use Rattle.play_report.specs.Played.{HavePlayed}
use Rattle.play_report.proofs.Written.{told_is}
use Rattle.play_texts.specs.Inner.Noted.{first_told, told_in}
use Rattle.play_texts.specs.Inner.Sums.{plus_all}

pub told_next : (points : List Point) (legs : Triple LegValue) (n : ℕ)
    → first_told points legs (n + 1) ≡ first_told points legs n ++ told_in points legs (n + 1) ∷ []
told_next points legs n =
    map-range_with_len_more (λ (scan : ℕ). told_in points legs scan) 1 n (n + 1) (omega arith)

pub told_count : (points : List Point) (legs : Triple LegValue) (n : ℕ) → length (first_told points legs n) ≡ n
told_count points legs n = length-map-range_with_len (λ (scan : ℕ). told_in points legs scan) 1 n

-- behind the last scan it is what is told of the play
pub told_all : (m : Meaning) (v : ScriptValue) (points : List Point) (scans : ℕ) (legs : Triple LegValue)
    → points ≡ v.points → scans ≡ v.scans → HavePlayed m v legs → first_told points legs scans ≡ told_of m v
told_all m v points scans legs e n played = told_is m v points scans legs e n played.notes

-- the sum with one scan more
pub sum_on : (points : List Point) (legs : Triple LegValue) (n : ℕ) (old new : ℤ) (out : List ℤ)
    → old ≡ output_sum (first_told points legs n) → new ≡ plus_all old out → out ≡ (told_in points legs (n + 1)).out
    → new ≡ output_sum (first_told points legs (n + 1))
sum_on points legs n old new out h k e =
    k ∙ ((λ i. plus_all (h i) (e i))
    ∙ (sym (scans_add (first_told points legs n) (told_in points legs (n + 1))).sum
    ∙ ap output_sum (sym (told_next points legs n))))

-- the number of alarmed scans with one scan more
pub alarmed_on : (points chassis : List Point) (legs : Triple LegValue) (n old count : ℕ)
    → old ≡ alarmed_scans (first_told points legs n) → count ≡ cond (has_mp (told_in chassis legs (n + 1))) 1 0
    → chassis ≡ points → old + count ≡ alarmed_scans (first_told points legs (n + 1))
alarmed_on points chassis legs n old count h k e =
    (λ i. h i + k i)
    ∙ (ap (λ (ps : List Point). alarmed_scans (first_told points legs n) + cond (has_mp (told_in ps legs (n + 1))) 1 0)
    e
    ∙ (sym (scans_add (first_told points legs n) (told_in points legs (n + 1))).alarmed
    ∙ ap alarmed_scans (sym (told_next points legs n))))

-- the summary behind what stood there
pub summary_is : (m : Meaning) (v : ScriptValue) (legs : Triple LegValue) (n scans : ℕ) (sum : ℤ) (alarmed : ℕ)
    (uncalm : Option ℕ) (start : List ℕ)
    → sum ≡ output_sum (first_told v.points legs n) → alarmed ≡ alarmed_scans (first_told v.points legs n)
    → n ≡ v.scans → scans ≡ v.scans → first_told v.points legs n ≡ told_of m v
    → start ++ summary_of scans sum alarmed uncalm ≡ start ++ legs_summary m v uncalm
summary_is m v legs n scans sum alarmed uncalm start h k e s t =
    let count : scans ≡ length (told_of m v) = s ∙ (sym e ∙ (sym (told_count v.points legs n) ∙ ap length t)) in
    let sums : sum ≡ output_sum (told_of m v) = h ∙ ap output_sum t in
    let alarms : alarmed ≡ alarmed_scans (told_of m v) = k ∙ ap alarmed_scans t in
    λ i. start ++ summary_of (count i) (sums i) (alarms i) uncalm
