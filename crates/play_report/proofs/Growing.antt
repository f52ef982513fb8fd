-- What is told grows scan by scan, and what is marked input by input.
use Rattle.std.proofs.Common.{◌≡◌, ◌∙◌, ℕ, zero, suc, ◌+◌, ◌≤◌, List, append-nil, [], ◌∷◌, ◌++◌, append_assoc, filter, length, map, fold, refl, sym, ap, arith}
use Rattle.std.specs.List.{flat_map, range_with_len}
use Rattle.std.proofs.lemmas.Grind.{flat_map-append}
use Rattle.std.proofs.lemmas.List.Elements.{filter-append}
use Rattle.std.proofs.lemmas.List.FromFn.{length-map-range_with_len, map-range_with_len_more}
use Rattle.tri_base.specs.declared.leg.Leg.{Leg}
use Rattle.tri_base.specs.declared.leg.Leg.TheVariants.{A, B, C}
use Rattle.tri_base.specs.declared.leg.Triple.{Triple}
use Rattle.tri_base.specs.declared.point.Point.{Point}
use Rattle.fault_history.specs.declared.history.Entry.{Entry}
use Rattle.fault_history.specs.Histories.{note_of}
use Rattle.fault_history.specs.Notes.{NoteData}
use Rattle.output_voter.specs.CommonDrives.{vote_drives_of}
use Rattle.diag_report.specs.Report.{ScanTold, history_of, judgements_at, part_at, scan_parts}
use Rattle.diag_report.proofs.Growing.{scans_add}
use Rattle.play_report.specs.Marks.{is_marked, marks_of, with_legs}
use Rattle.play_report.specs.Told.{told_by, told_first}

-- the same notes tell the same
pub told_same : (points : List Point) (g h : Leg → NoteData) → g A ≡ h A → g B ≡ h B → g C ≡ h C
    → told_by points g ≡ told_by points h
told_same points g h ea eb ec = λ i. record {
  a = ea i;
  b = eb i;
  c = ec i;
  out = vote_drives_of points (record { a = (ea i).drive; b = (eb i).drive; c = (ec i).drive });
}

told_more : (points : List Point) (f : Leg → ℕ → NoteData) (n : ℕ)
    → told_first points f (n + 1) ≡ told_first points f n ++ told_by points (λ leg. f leg (n + 1)) ∷ []
told_more points f n =
    map-range_with_len_more (λ (scan : ℕ). told_by points (λ leg. f leg scan)) 1 n (n + 1) (omega arith)

-- the same notes of the first scans
pub told_alike : (points : List Point) (f g : Leg → ℕ → NoteData) (n : ℕ)
    → ((leg : Leg) (scan : ℕ) → 1 ≤ scan → scan ≤ n → f leg scan ≡ g leg scan)
    → told_first points f n ≡ told_first points g n
told_alike points f g zero h = refl
told_alike points f g (suc n) h =
    let one : suc n ≡ n + 1 = omega arith in
    let here : (leg : Leg) → f leg (n + 1) ≡ g leg (n + 1) = λ leg. h leg (n + 1) (omega arith) (omega arith) in
    let last : told_by points (λ leg. f leg (n + 1)) ≡ told_by points (λ leg. g leg (n + 1)) =
    told_same points (λ leg. f leg (n + 1)) (λ leg. g leg (n + 1)) (here A) (here B) (here C) in
    ap (told_first points f) one
    ∙ (told_more points f n
    ∙ ((λ i. told_alike points f g n (λ leg scan first before. h leg scan first (omega (arith, before))) i ++ last i ∷ [])
    ∙ (sym (told_more points g n) ∙ ap (told_first points g) (sym one))))

count : (points : List Point) (f : Leg → ℕ → NoteData) (n : ℕ) → length (told_first points f n) + 1 ≡ n + 1
count points f n = ap (λ (k : ℕ). k + 1) (length-map-range_with_len (λ (scan : ℕ). told_by points (λ leg. f leg scan)) 1 n)

-- the text with one scan more
pub text_on : (points : List Point) (f : Leg → ℕ → NoteData) (n : ℕ) (start before after : List ℕ) (told : ScanTold)
    → before ≡ start ++ scan_parts (told_first points f n) → after ≡ before ++ part_at (n + 1, told)
    → told ≡ told_by points (λ leg. f leg (n + 1)) → after ≡ start ++ scan_parts (told_first points f (n + 1))
text_on points f n start before after told h k e =
    let scans = told_first points f n in
    let last = told_by points (λ leg. f leg (n + 1)) in
    let grown : scan_parts (told_first points f (n + 1)) ≡ scan_parts scans ++ part_at (n + 1, last) =
    ap scan_parts (told_more points f n)
    ∙ ((scans_add scans last).parts ∙ ap (λ (k : ℕ). scan_parts scans ++ part_at (k, last)) (count points f n)) in
    k ∙ ((λ i. h i ++ part_at (n + 1, e i))
    ∙ (append_assoc start (scan_parts scans) (part_at (n + 1, last)) ∙ ap (λ (l : List ℕ). start ++ l) (sym grown)))

-- the history with one scan more
pub history_on : (points : List Point) (f : Leg → ℕ → NoteData) (n : ℕ) (before after : List Entry) (told : ScanTold)
    → before ≡ history_of (told_first points f n) → after ≡ fold note_of before (judgements_at (n + 1, told))
    → told ≡ told_by points (λ leg. f leg (n + 1)) → after ≡ history_of (told_first points f (n + 1))
history_on points f n before after told h k e =
    let scans = told_first points f n in
    let last = told_by points (λ leg. f leg (n + 1)) in
    let grown : history_of (told_first points f (n + 1)) ≡ fold note_of (history_of scans) (judgements_at (n + 1, last)) =
    ap history_of (told_more points f n)
    ∙ ((scans_add scans last).history ∙ ap (λ (k : ℕ). fold note_of (history_of scans) (judgements_at (k, last))) (count points f n)) in
    k ∙ ((λ i. fold note_of (h i) (judgements_at (n + 1, e i))) ∙ sym grown)

-- one number more
range_more : (a n : ℕ) → range_with_len a (n + 1) ≡ range_with_len a n ++ (a + n) ∷ []
range_more a zero = ap (λ k. k ∷ []) (omega arith)
range_more a (suc n) =
    let count : suc n + 1 ≡ suc (n + 1) = omega arith in
    let last : a + 1 + n ≡ a + suc n = omega arith in
    ap (range_with_len a) count ∙ ap (λ l. a ∷ l) (range_more (a + 1) n ∙ ap (λ k. range_with_len (a + 1) n ++ k ∷ []) last)

-- the marks of one input more
pub marks_on : (tables : Triple (List (Triple ℕ))) (n : ℕ)
    → marks_of (n + 1) tables ≡ marks_of n tables ++ filter (is_marked tables) (with_legs n)
marks_on tables n =
    let last : 0 + n ≡ n = omega arith in
    ap (λ l. filter (is_marked tables) (flat_map with_legs l)) (range_more 0 n ∙ ap (λ k. range_with_len 0 n ++ k ∷ []) last)
    ∙ (ap (filter (is_marked tables)) (flat_map-append with_legs (range_with_len 0 n) (n ∷ []) ∙ ap (λ l. flat_map with_legs (range_with_len 0 n) ++ l) (append-nil (with_legs n)))
    ∙ filter-append (is_marked tables) (flat_map with_legs (range_with_len 0 n)) (with_legs n))

-- so many in a row
pub marks_next : (tables : Triple (List (Triple ℕ))) (n : ℕ) (before after : List (ℕ × Leg)) → before ≡ marks_of n tables
    → after ≡ before ++ filter (is_marked tables) (with_legs n) → after ≡ marks_of (n + 1) tables
marks_next tables n before after h k =
    k ∙ (ap (λ l. l ++ filter (is_marked tables) (with_legs n)) h ∙ sym (marks_on tables n))
