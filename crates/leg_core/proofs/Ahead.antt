-- The scan that is played, and the packets of long lines from it on.
use Rattle.std.proofs.Common.{◌≡◌, ◌≤◌, ◌<◌, ℕ, ◌+◌, ℤ, List, ◌∷◌, length, map, drop, Option, sym, ap, ◌∙◌, arith}
use Rattle.std.proofs.lemmas.List.{drop_more}
use Rattle.std.specs.List.{flat_map}
use Rattle.tri_base.specs.declared.point.Point.{Point}
use Rattle.chassis.specs.Points.{IsChassis, point_limit}
use Rattle.script_text.specs.LegScans.{LegScan, TapeValue, no_lines, scan_at}
use Rattle.leg_parts.specs.LongLines.{long_line, long_lines}
use Rattle.leg_parts.specs.Logs.{room_of}
use Rattle.leg_parts.proofs.Rows.{at_next}
use Rattle.leg_core.specs.Calls.{ReadsInputs}

pub ahead : (tape : TapeValue) (k : ℕ) → k < length tape.scans
    → drop k tape.scans ≡ scan_at tape (k + 1) ∷ drop (k + 1) tape.scans
ahead tape k h =
    drop_more tape.scans k no_lines h ∙ ap (λ (l : LegScan). l ∷ drop (k + 1) tape.scans) (at_next tape k)

-- the packets of long lines from a scan on
abbrev pub rows_from : TapeValue → ℕ → List (Option (List ℤ))
rows_from tape k = flat_map long_lines (drop k tape.scans)

whole : (tape : TapeValue) (k : ℕ) → k < length tape.scans
    → rows_from tape k
    ≡ long_line (scan_at tape (k + 1)).shown_left ∷ long_line (scan_at tape (k + 1)).shown_right
    ∷ long_line (scan_at tape (k + 1)).result_left ∷ long_line (scan_at tape (k + 1)).result_right
    ∷ rows_from tape (k + 1)
whole tape k h = ap (flat_map long_lines) (ahead tape k h)

heads : {T : Type 0} (x y : T) (xs ys : List T) → x ∷ xs ≡ y ∷ ys → (x ≡ y) × (xs ≡ ys)
heads x y xs ys e = (cc, cc)

-- the first row is that of the next put, and the others are those behind it
pub row_0 : (tape : TapeValue) (k : ℕ) (rows rest : List (Option (List ℤ))) (row : Option (List ℤ))
    → k < length tape.scans → rows ≡ drop 0 (rows_from tape k) → rows ≡ row ∷ rest
    → (row ≡ long_line (scan_at tape (k + 1)).shown_left) × (rest ≡ drop 1 (rows_from tape k))
row_0 tape k rows rest row h e f =
    let w = whole tape k h in
    let s = heads row _ rest _ (sym f ∙ e ∙ ap (drop 0) w) in
    (s.0, s.1 ∙ sym (ap (drop 1) w))

pub row_1 : (tape : TapeValue) (k : ℕ) (rows rest : List (Option (List ℤ))) (row : Option (List ℤ))
    → k < length tape.scans → rows ≡ drop 1 (rows_from tape k) → rows ≡ row ∷ rest
    → (row ≡ long_line (scan_at tape (k + 1)).shown_right) × (rest ≡ drop 2 (rows_from tape k))
row_1 tape k rows rest row h e f =
    let w = whole tape k h in
    let s = heads row _ rest _ (sym f ∙ e ∙ ap (drop 1) w) in
    (s.0, s.1 ∙ sym (ap (drop 2) w))

pub row_2 : (tape : TapeValue) (k : ℕ) (rows rest : List (Option (List ℤ))) (row : Option (List ℤ))
    → k < length tape.scans → rows ≡ drop 2 (rows_from tape k) → rows ≡ row ∷ rest
    → (row ≡ long_line (scan_at tape (k + 1)).result_left) × (rest ≡ drop 3 (rows_from tape k))
row_2 tape k rows rest row h e f =
    let w = whole tape k h in
    let s = heads row _ rest _ (sym f ∙ e ∙ ap (drop 2) w) in
    (s.0, s.1 ∙ sym (ap (drop 3) w))

pub row_3 : (tape : TapeValue) (k : ℕ) (rows rest : List (Option (List ℤ))) (row : Option (List ℤ))
    → k < length tape.scans → rows ≡ drop 3 (rows_from tape k) → rows ≡ row ∷ rest
    → (row ≡ long_line (scan_at tape (k + 1)).result_right) × (rest ≡ drop 4 (rows_from tape k))
row_3 tape k rows rest row h e f =
    let w = whole tape k h in
    let s = heads row _ rest _ (sym f ∙ e ∙ ap (drop 3) w) in
    (s.0, s.1 ∙ sym (ap (drop 4) w))

-- there is such a row
pub some_0 : (tape : TapeValue) (k : ℕ) (rows : List (Option (List ℤ))) → k < length tape.scans
    → rows ≡ drop 0 (rows_from tape k) → 0 < length rows
some_0 tape k rows h e = omega (arith, ap length (e ∙ ap (drop 0) (whole tape k h)))

pub some_1 : (tape : TapeValue) (k : ℕ) (rows : List (Option (List ℤ))) → k < length tape.scans
    → rows ≡ drop 1 (rows_from tape k) → 0 < length rows
some_1 tape k rows h e = omega (arith, ap length (e ∙ ap (drop 1) (whole tape k h)))

pub some_2 : (tape : TapeValue) (k : ℕ) (rows : List (Option (List ℤ))) → k < length tape.scans
    → rows ≡ drop 2 (rows_from tape k) → 0 < length rows
some_2 tape k rows h e = omega (arith, ap length (e ∙ ap (drop 2) (whole tape k h)))

pub some_3 : (tape : TapeValue) (k : ℕ) (rows : List (Option (List ℤ))) → k < length tape.scans
    → rows ≡ drop 3 (rows_from tape k) → 0 < length rows
some_3 tape k rows h e = omega (arith, ap length (e ∙ ap (drop 3) (whole tape k h)))

-- with its last put the rows of a scan are over
pub rows_over : (tape : TapeValue) (k : ℕ) (rows : List (Option (List ℤ))) → k < length tape.scans
    → rows ≡ drop 4 (rows_from tape k) → rows ≡ drop 0 (rows_from tape (k + 1))
rows_over tape k rows h e = e ∙ ap (drop 4) (whole tape k h)

-- the rooms of the notes: the first is that of the scan, and the others are those behind it
pub rooms_ahead : (tape : TapeValue) (k inputs outputs : ℕ) → k < length tape.scans
    → map (room_of inputs outputs) (drop k tape.scans)
    ≡ room_of inputs outputs (scan_at tape (k + 1)) ∷ map (room_of inputs outputs) (drop (k + 1) tape.scans)
rooms_ahead tape k inputs outputs h = ap (map (room_of inputs outputs)) (ahead tape k h)

-- a scan has no more readings than a chassis has inputs
pub reads_few : (points : List Point) (tape : TapeValue) (k : ℕ) → IsChassis points → ReadsInputs points tape
    → k < length tape.scans → length (scan_at tape (k + 1)).readings ≤ point_limit
reads_few points tape k chassis reads h =
    let one = reads k no_lines h in
    let at = ap (λ (l : LegScan). length l.readings) (at_next tape k) in
    omega (arith, chassis.few_inputs, one, at)
