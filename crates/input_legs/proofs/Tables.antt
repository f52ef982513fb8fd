-- A leg's count in the table is that of its history, so a mark is five disagreements in a row.
use Rattle.std.specs.Prelude.{Option, Some, None, slice_get, slice_index_or, ◌↔◌}
use Rattle.std.proofs.Common.{◌≡◌, ℕ, zero, suc, ◌+◌, ℤ, List, [], ◌∷◌, length, replicate, refl, sym, ap, ◌∙◌, arith}
use Rattle.std.specs.List.{fold}
use Rattle.std.proofs.lemmas.Option.{none-some, get_or_from_slice_get}
use Rattle.tri_base.specs.Legs.{leg_part}
use Rattle.tri_base.specs.declared.leg.Leg.{Leg}
use Rattle.tri_base.specs.declared.leg.Leg.TheVariants.{A, B, C}
use Rattle.tri_base.specs.declared.leg.Triple.{Triple}
use Rattle.tri_base.specs.declared.point.Point.{Point}
use Rattle.chassis.specs.Points.{inputs_of}
use Rattle.leg_packet.specs.Readings.{Readings}
use Rattle.input_legs.specs.VotedSheets.{column, read_three}
use Rattle.input_legs.specs.Marks.{counted_from, counted_row, disagreements, mark_count, no_marks, no_row, note_of}
use Rattle.input_legs.specs.Runs.{HasRun, count_after, disagreements_at, history_of, marks_after}
use Rattle.input_legs.proofs.Runs.{marks_are_runs}

-- One scan more at the input at a place.
one_more : (points : List Point) (from : ℕ) (rs : Triple (Option Readings)) (rows : List (Triple ℕ)) (place : ℕ) (p : Point) (row : Triple ℕ)
    → slice_get points place ≡ Some p → slice_get rows place ≡ Some row
    → slice_get (counted_from points from rs rows) place ≡ Some (counted_row row (disagreements p.kind p.tolerance (column rs (from + place))))
one_more [] from rs rows place p row e h = absurd (none-some p e)
one_more (q ∷ points) from rs [] place p row e h = absurd (none-some row h)
one_more (q ∷ points) from rs (r ∷ rows) zero p row e h =
    let here : from ≡ from + 0 = omega arith in
    ap (λ (x : Option Point × Option (Triple ℕ)). counted x.0 x.1) (λ i. (e i, h i))
    ∙ ap (λ n. Some (counted_row row (disagreements p.kind p.tolerance (column rs n)))) here
  where
    counted : Option Point → Option (Triple ℕ) → Option (Triple ℕ)
    counted None other = None
    counted (Some point) None = None
    counted (Some point) (Some counts) = Some (counted_row counts (disagreements point.kind point.tolerance (column rs from)))
one_more (q ∷ points) from rs (r ∷ rows) (suc place) p row e h =
    let behind : (from + 1) + place ≡ from + suc place = omega arith in
    one_more points (from + 1) rs rows place p row e h
    ∙ ap (λ n. Some (counted_row row (disagreements p.kind p.tolerance (column rs n)))) behind

-- The counts of three legs after more scans.
abbrev counts_after : List Point → ℕ → Point → List (Triple (List ℤ)) → Triple ℕ → Triple ℕ
counts_after points place p scans row = record {
  a = count_after row.a (history_of points place p scans A);
  b = count_after row.b (history_of points place p scans B);
  c = count_after row.c (history_of points place p scans C);
}

all_more : (points : List Point) (scans : List (Triple (List ℤ))) (rows : List (Triple ℕ)) (place : ℕ) (p : Point) (row : Triple ℕ)
    → slice_get (inputs_of points) place ≡ Some p → slice_get rows place ≡ Some row
    → slice_get (fold (λ table packets. note_of points packets table) rows scans) place ≡ Some (counts_after points place p scans row)
all_more points [] rows place p row e h = h
all_more points (packets ∷ scans) rows place p row e h =
    let rs = read_three points packets in
    let here : 0 + place ≡ place = omega arith in
    all_more points scans (note_of points packets rows) place p (counted_row row (disagreements_at points place p packets)) e
    (one_more (inputs_of points) 0 rs rows place p row e h
    ∙ ap (λ n. Some (counted_row row (disagreements p.kind p.tolerance (column rs n)))) here)

no_row_there : (points : List Point) (place : ℕ) (p : Point) → slice_get points place ≡ Some p
    → slice_get (replicate (length points) no_row) place ≡ Some no_row
no_row_there [] place p e = absurd (none-some p e)
no_row_there (q ∷ points) zero p e = refl
no_row_there (q ∷ points) (suc place) p e = no_row_there points place p e

counted : (points : List Point) (place : ℕ) (p : Point) (scans : List (Triple (List ℤ))) (leg : Leg)
    → leg_part (counts_after points place p scans no_row) leg ≡ count_after 0 (history_of points place p scans leg)
counted points place p scans A = refl
counted points place p scans B = refl
counted points place p scans C = refl

pub marks_are_five : (points : List Point) (scans : List (Triple (List ℤ))) (input : ℕ) (point : Point) (leg : Leg)
    → slice_get (inputs_of points) input ≡ Some point
    → (leg_part (slice_index_or (marks_after points scans) input no_row) leg ≡ mark_count) ↔ HasRun (history_of points input point scans leg)
marks_are_five points scans input point leg e =
    let there = all_more points scans (no_marks points) input point no_row e (no_row_there (inputs_of points) input point e) in
    let row = get_or_from_slice_get (marks_after points scans) input (counts_after points input point scans no_row) no_row there in
    let same : leg_part (slice_index_or (marks_after points scans) input no_row) leg ≡ count_after 0 (history_of points input point scans leg) =
    ap (λ (r : Triple ℕ). leg_part r leg) row ∙ counted points input point scans leg in
    let runs = marks_are_runs (history_of points input point scans leg) in
    (λ h. runs.0 (sym same ∙ h), λ run. same ∙ runs.1 run)
