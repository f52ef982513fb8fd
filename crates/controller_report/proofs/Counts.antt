-- The sum of the outputs.
use Rattle.std.proofs.Common.{◌≡◌, ◌∙◌, ◌+◌, ◌∷◌, [], ℕ, ℤ, pos, List, not, ap, sym, arith, fold}
use Rattle.std.specs.List.{All, AllZip, range_with_len}
use Rattle.std.proofs.lemmas.Int.{ints}
use Rattle.std.proofs.lemmas.List.Sums.{fold_push}
use Rattle.std.proofs.lemmas.List.Elements.{All-cons, All-filter, All-head, All-nil, All-tail}
use Rattle.tri_base.specs.declared.point.Point.{Point}
use Rattle.tri_base.specs.declared.point.PointKind.{PointKind}
use Rattle.tri_base.specs.declared.point.PointKind.TheVariants.{Di, Ai, Do, Ao}
use Rattle.chassis.specs.Points.{is_input_kind, outputs_of}
use Rattle.chassis.specs.Ranges.{Fits, HasRange, IsWithin}
use Rattle.engine_face.specs.Meaning.{Meaning}
use Rattle.script_text.specs.ScriptValue.{ScriptValue}
use Rattle.single_controller.specs.Controller.{scanned_at}
use Rattle.controller_report.specs.SoloSummary.{output_sum, plus_all}
use Rattle.controller_report.specs.Inner.Sums.{IsCount}
use Rattle.controller_report.proofs.Written.{range_more}
use Rattle.std.proofs.Common.{◌≤ℤ◌}

-- a value in a point's range is a number of 16 bits
in_range : (k : PointKind) (low high tolerance value : ℤ) → HasRange k low high tolerance → low ≤ℤ value → value ≤ℤ high → IsCount value
in_range Di low high tolerance value h l u = (omega (arith, ints, h.0, h.1, l, u), omega (arith, ints, h.0, h.1, l, u))
in_range Do low high tolerance value h l u = (omega (arith, ints, h.0, h.1, l, u), omega (arith, ints, h.0, h.1, l, u))
in_range Ai low high tolerance value h l u = (omega (arith, ints, h.0, h.3, l, u), omega (arith, ints, h.0, h.3, l, u))
in_range Ao low high tolerance value h l u = (omega (arith, ints, h.0, h.3, l, u), omega (arith, ints, h.0, h.3, l, u))

counts_of : (points : List Point) (values : List ℤ) → All Fits points → AllZip IsWithin points values → All IsCount values
counts_of [] [] fit h = All-nil IsCount
counts_of [] (v ∷ vs) fit h = absurd h
counts_of (p ∷ ps) [] fit h = absurd h
counts_of (p ∷ ps) (v ∷ vs) fit h =
    All-cons IsCount v vs (in_range p.kind p.low p.high p.tolerance v (All-head Fits p ps fit) h.0.0 h.0.1)
    (counts_of ps vs (All-tail Fits p ps fit) h.1)

-- so outputs in their ranges are
pub outputs_are_counts : (points : List Point) (values : List ℤ) → All Fits points → AllZip IsWithin (outputs_of points) values → All IsCount values
outputs_are_counts points values fit h =
    counts_of (outputs_of points) values (All-filter (λ (p : Point). not (is_input_kind p.kind)) Fits points fit) h

-- the sum of one scan more
pub sum_more : (m : Meaning) (v : ScriptValue) (n : ℕ)
    → fold (λ sum scan. plus_all sum (scanned_at m v scan).outputs) (pos 0) (range_with_len 1 (n + 1))
    ≡ plus_all (fold (λ sum scan. plus_all sum (scanned_at m v scan).outputs) (pos 0) (range_with_len 1 n)) (scanned_at m v (n + 1)).outputs
sum_more m v n =
    let f = λ (sum : ℤ) (scan : ℕ). plus_all sum (scanned_at m v scan).outputs in
    let last : 1 + n ≡ n + 1 = omega arith in
    ap (fold f (pos 0)) (range_more 1 n) ∙ (fold_push f (pos 0) (range_with_len 1 n) (1 + n) ∙ ap (f (fold f (pos 0) (range_with_len 1 n))) last)

-- the sum behind one scan more
pub sum_on : (m : Meaning) (v : ScriptValue) (n : ℕ) (old new : ℤ)
    → old ≡ fold (λ sum scan. plus_all sum (scanned_at m v scan).outputs) (pos 0) (range_with_len 1 n)
    → new ≡ plus_all old (scanned_at m v (n + 1)).outputs
    → new ≡ fold (λ sum scan. plus_all sum (scanned_at m v scan).outputs) (pos 0) (range_with_len 1 (n + 1))
sum_on m v n old new h e =
    e ∙ (ap (λ (s : ℤ). plus_all s (scanned_at m v (n + 1)).outputs) h ∙ sym (sum_more m v n))

-- the sum behind the last scan
pub sum_end : (m : Meaning) (v : ScriptValue) (n : ℕ) (sum : ℤ)
    → sum ≡ fold (λ sum scan. plus_all sum (scanned_at m v scan).outputs) (pos 0) (range_with_len 1 n)
    → n ≡ v.scans → sum ≡ output_sum m v
sum_end m v n sum h e =
    h ∙ ap (λ (k : ℕ). fold (λ (sum : ℤ) (scan : ℕ). plus_all sum (scanned_at m v scan).outputs) (pos 0) (range_with_len 1 k)) e
