-- A tape is what the leg sees of each scan.
use Rattle.std.proofs.Common.{◌≡◌, ℕ, ℤ, zero, suc, pos, ◌+◌, ◌-◌, ◌<◌, ◌≤◌, Bool, true, false, List, [], ◌∷◌, ◌++◌, length, map, fold, take, get_or, set, nat_le, ◌==◌, ◌||◌, Option, Some, None, option_map, refl, sym, ap, ◌∙◌, subst, arith, slice_get}
use Rattle.std.specs.Bool.{if◌then◌else◌}
use Rattle.std.specs.List.{range_with_len}
use Rattle.std.specs.List.Sorted.{IsNonDecreasingBy, IsPartitionPoint}
use Rattle.std.proofs.lemmas.Bool.{eqb-true, eq-eqb, ne_eqb, le-leb, leb-true, leb-false}
use Rattle.std.proofs.lemmas.List.FromFn.{get_or-map-range_with_len, length-map-range_with_len}
use Rattle.tri_base.specs.Downloads.{Download}
use Rattle.tri_base.specs.Legs.{leg_part}
use Rattle.tri_base.specs.declared.leg.Leg.{Leg}
use Rattle.tri_base.specs.declared.leg.Side.{Side}
use Rattle.tri_base.specs.declared.leg.Side.TheVariants.{Left, Right}
use Rattle.tri_base.specs.declared.point.Point.{Point}
use Rattle.chassis.specs.Points.{inputs_of, is_input_kind}
use Rattle.script_text.specs.declared.moment.ScanLine.{ScanLine}
use Rattle.script_text.specs.declared.moment.ScanLine.TheVariants.{Set, Time, Download as DownloadLine, Mute, Poke as PokeLine, Replace as ReplaceLine, Swap as SwapLine, Read, Result, Drive}
use Rattle.script_text.specs.IsScript.{IsLine, is_download, AreLines, AreMoments, IsScript}
use Rattle.script_text.specs.MomentValue.{MomentValue}
use Rattle.script_text.specs.Moments.{moment_at}
use Rattle.script_text.specs.ScriptValue.{ScriptValue}
use Rattle.script_text.specs.Standing.{new_moment}
use Rattle.script_text.specs.LegScans.{LegScan, first_time, reading_only, no_lines, input_place, same_leg, for_leg, with_shown, with_result, with_leg_line, next_scan, scan_of, tape_of, TapeValue, scan_at, shown_on, result_on, renames_of}
use Rattle.script_text.specs.Inner.LegParts.{Rise, RowValue, places_from, with_reading, next_row, rows_from, row_until, RowsSorted, RowsCount, LinesCount, LegLinesValue, nothing_said, lines_shown, lines_result, shown_by, result_by, renames_with, said_to, names_leg, with_said, lines_for, some_line, all_said, lines_until, of_scan, lines_on, LinesSorted, download_of, joined, scan_kept, scans_kept}

-- ---- the last item up to a scan

-- the item before a count decides
abbrev pub before_count : {A : Type 0} → A → List A → ℕ → A → A
before_count start items zero d = start
before_count start items (suc k) d = get_or items k d

pub decides : {A : Type 0} (key : A → ℕ) (scan : ℕ) (start : A) (items : List A) (count : ℕ) (d : A) → count ≤ length items → ((k : ℕ) → k < count → nat_le (key (get_or items k d)) scan ≡ true) → ((k : ℕ) → count ≤ k → k < length items → nat_le (key (get_or items k d)) scan ≡ false) → fold (λ before x. if nat_le (key x) scan then x else before) start items ≡ before_count start items count d
decides key scan start [] zero d le yes' no' = refl
decides key scan start [] (suc k) d le yes' no' = absurd (omega arith)
decides key scan start (s ∷ items) zero d le yes' no' =
    ap (λ t. fold (λ before x. if nat_le (key x) scan then x else before) (if t then s else start) items) (no' 0 (omega arith) (omega arith))
    ∙ decides key scan start items zero d (omega arith) (λ k h. absurd (omega arith)) (λ k a b. no' (suc k) (omega arith) (omega arith))
decides key scan start (s ∷ items) (suc n) d le yes' no' =
    ap (λ t. fold (λ before x. if nat_le (key x) scan then x else before) (if t then s else start) items) (yes' 0 (omega arith))
    ∙ (decides key scan s items n d (omega arith) (λ k h. yes' (suc k) (omega arith)) (λ k a b. no' (suc k) (omega arith) (omega arith)) ∙ at n)
  where
    at : (n : ℕ) → before_count s items n d ≡ get_or (s ∷ items) n d
    at zero = refl
    at (suc n) = refl

pub decided : {A : Type 0} (key : A → ℕ) (scan : ℕ) (start : A) (items : List A) (count : ℕ) (d : A) → count ≤ length items → IsPartitionPoint (λ (x : A). nat_le (key x) scan ≡ true) (λ (x : A). nat_le (key x) scan ≡ false) items count → fold (λ before x. if nat_le (key x) scan then x else before) start items ≡ before_count start items count d
decided key scan start items count d le parts = decides key scan start items count d le (λ k h. parts.0 k d (omega (arith, h, le)) h) (λ k a b. parts.1 k d a b)

pub before_some : {A : Type 0} (start : A) (items : List A) (count : ℕ) (d : A) → 0 < count → before_count start items count d ≡ get_or items (count - 1) d
before_some start items zero d some = absurd (omega arith)
before_some start items (suc k) d some = ap (λ n. get_or items n d) same
  where
    same : k ≡ suc k - 1
    same = omega arith

pub row_before : (start : RowValue) (scan : ℕ) (rows : List RowValue) (count : ℕ) → count ≤ length rows → RowsCount scan rows count → count ≡ 0 → start ≡ row_until start scan rows
row_before start scan rows count le parts none = sym (decided (λ (r : RowValue). r.scan) scan start rows count start le parts ∙ ap (λ n. before_count start rows n start) none)

pub row_found : (start : RowValue) (scan : ℕ) (rows : List RowValue) (count : ℕ) (r : RowValue) → count ≤ length rows → RowsCount scan rows count → 0 < count → r ≡ get_or rows (count - 1) r → r ≡ row_until start scan rows
row_found start scan rows count r le parts some is = is ∙ sym (decided (λ (r : RowValue). r.scan) scan start rows count r le parts ∙ before_some start rows count r some)

pub lines_before : (scan : ℕ) (lines : List LegLinesValue) (count : ℕ) → count ≤ length lines → LinesCount scan lines count → count ≡ 0 → lines_on scan lines ≡ nothing_said scan []
lines_before scan lines count le parts none =
    let start : LegLinesValue = nothing_said scan [] in
    ap (of_scan scan) (decided (λ (l : LegLinesValue). l.scan) scan start lines count start le parts ∙ ap (λ n. before_count start lines n start) none)
    ∙ ap (λ t. if t then nothing_said scan [] else nothing_said scan []) (eq-eqb scan scan refl)

pub lines_found : (scan : ℕ) (lines : List LegLinesValue) (count : ℕ) (l : LegLinesValue) → count ≤ length lines → LinesCount scan lines count → 0 < count → l ≡ get_or lines (count - 1) l → l.scan ≡ scan → lines_on scan lines ≡ l
lines_found scan lines count l le parts some is same =
    let start : LegLinesValue = nothing_said scan [] in
    ap (of_scan scan) (decided (λ (l : LegLinesValue). l.scan) scan start lines count l le parts ∙ before_some start lines count l some ∙ sym is)
    ∙ ap (λ t. if t then l else nothing_said scan []) (eq-eqb l.scan scan same)

pub lines_other : (scan : ℕ) (lines : List LegLinesValue) (count : ℕ) (l : LegLinesValue) → count ≤ length lines → LinesCount scan lines count → 0 < count → l ≡ get_or lines (count - 1) l → (l.scan ≡ scan → ⊥) → lines_on scan lines ≡ nothing_said scan []
lines_other scan lines count l le parts some is other =
    let start : LegLinesValue = nothing_said scan [] in
    let away : (l.scan == scan) ≡ false = ne_eqb l.scan scan other in
    ap (of_scan scan) (decided (λ (l : LegLinesValue). l.scan) scan start lines count l le parts ∙ before_some start lines count l some ∙ sym is)
    ∙ ap (λ t. if t then l else nothing_said scan []) away

-- items whose scans don't fall, from a scan on
abbrev pub Rising : {A : Type 0} → (A → ℕ) → ℕ → List A → Type 0
Rising key last [] = Unit {0}
Rising key last (x ∷ xs) = (last ≤ key x) × Rising key (key x) xs

above : {A : Type 0} (key : A → ℕ) (last : ℕ) (xs : List A) (j : ℕ) (d : A) → Rising key last xs → j < length xs → last ≤ key (get_or xs j d)
above key last [] j d h lt = absurd (omega arith)
above key last (x ∷ xs) zero d h lt = h.0
above key last (x ∷ xs) (suc j) d h lt = let e = above key (key x) xs j d h.1 (omega arith) in omega (arith, e, h.0)

pub sorted : {A : Type 0} (key : A → ℕ) (last : ℕ) (xs : List A) → Rising key last xs → IsNonDecreasingBy key xs
sorted key last [] h i j d le lt = absurd (omega arith)
sorted key last (x ∷ xs) h zero zero d le lt = omega arith
sorted key last (x ∷ xs) h zero (suc j) d le lt = above key (key x) xs j d h.1 (omega arith)
sorted key last (x ∷ xs) h (suc i) zero d le lt = absurd (omega arith)
sorted key last (x ∷ xs) h (suc i) (suc j) d le lt = sorted key (key x) xs h.1 i j d (omega arith) (omega arith)

-- ---- the scans of moments rise

pub rise : (points : List Point) (last scans : ℕ) (moments : List MomentValue) → AreMoments points last scans moments → Rise last moments
rise points last scans [] h = tt
rise points last scans (m ∷ moments) h = (h.0, rise points m.scan scans moments h.3)

pub not_yet : (k scan : ℕ) → k < scan → nat_le scan k ≡ false
not_yet k scan h = grind (arith, h)

other_scan : (k scan : ℕ) → k < scan → (scan == k) ≡ false
other_scan k scan h = grind (arith, h)

later_moment : (last k : ℕ) (moments : List MomentValue) → Rise last moments → k ≤ last → moment_at k moments ≡ new_moment k
later_moment last k [] h le = refl
later_moment last k (m ∷ moments) h le =
    ap (λ t. if t then m else moment_at k moments) (other_scan k m.scan (omega (arith, h.0, le)))
    ∙ later_moment m.scan k moments h.1 (omega (arith, h.0, le))

-- ---- rows

row_scan : (places : List ℕ) (leg : Leg) (row : RowValue) (lines : List ScanLine) → (fold (with_reading places leg) row lines).scan ≡ row.scan
row_scan places leg row [] = refl
row_scan places leg row (line ∷ lines) = row_scan places leg (with_reading places leg row line) lines ∙ one line
  where
    one : (line : ScanLine) → (with_reading places leg row line).scan ≡ row.scan
    one (Set setting) = refl
    one (Time reads) = refl
    one (DownloadLine text) = refl
    one (Mute other) = refl
    one (PokeLine other address value) = refl
    one (ReplaceLine other) = refl
    one (SwapLine other text) = refl
    one (Read other side words) = refl
    one (Result other side words) = refl
    one (Drive other words) = refl

rows_rising : (places : List ℕ) (leg : Leg) (last : ℕ) (row : RowValue) (moments : List MomentValue) → Rise last moments → Rising (λ r. r.scan) last (rows_from places leg row moments)
rows_rising places leg last row [] h = tt
rows_rising places leg last row (m ∷ moments) h =
    let is : (next_row places leg row m).scan ≡ m.scan = row_scan places leg (record row { scan = m.scan }) m.lines in
    (omega (arith, h.0, is), rows_rising places leg (next_row places leg row m).scan (next_row places leg row m) moments (subst (λ n. Rise n moments) (sym is) h.1))

pub rows_sorted : (places : List ℕ) (leg : Leg) (last : ℕ) (row : RowValue) (moments : List MomentValue) → Rise last moments → RowsSorted (rows_from places leg row moments)
rows_sorted places leg last row moments h = sorted (λ (r : RowValue). r.scan) last (rows_from places leg row moments) (rows_rising places leg last row moments h)

later_rows : (places : List ℕ) (leg : Leg) (last k : ℕ) (r row : RowValue) (moments : List MomentValue) → Rise last moments → k ≤ last → row_until r k (rows_from places leg row moments) ≡ r
later_rows places leg last k r row [] h le = refl
later_rows places leg last k r row (m ∷ moments) h le =
    let next : RowValue = next_row places leg row m in
    let is : next.scan ≡ m.scan = row_scan places leg (record row { scan = m.scan }) m.lines in
    ap (λ t. row_until (if t then next else r) k (rows_from places leg next moments)) (not_yet k next.scan (omega (arith, is, h.0, le)))
    ∙ later_rows places leg m.scan k r next moments h.1 (omega (arith, h.0, le))

-- the scan of a row doesn't count for what it reads
other_row_scan : (places : List ℕ) (leg : Leg) (row : RowValue) (n : ℕ) (lines : List ScanLine) → fold (with_reading places leg) (record row { scan = n }) lines ≡ record (fold (with_reading places leg) row lines) { scan = n }
other_row_scan places leg row n [] = refl
other_row_scan places leg row n (line ∷ lines) = ap (λ r. fold (with_reading places leg) r lines) (one line) ∙ other_row_scan places leg (with_reading places leg row line) n lines
  where
    one : (line : ScanLine) → with_reading places leg (record row { scan = n }) line ≡ record (with_reading places leg row line) { scan = n }
    one (Set setting) = refl
    one (Time reads) = refl
    one (DownloadLine text) = refl
    one (Mute other) = refl
    one (PokeLine other address value) = refl
    one (ReplaceLine other) = refl
    one (SwapLine other text) = refl
    one (Read other side words) = refl
    one (Result other side words) = refl
    one (Drive other words) = refl

-- rows that read alike
abbrev unscanned : RowValue → RowValue
unscanned row = record row { scan = 0 }

-- what is read at a scan is what was read at the one before, with its lines
next_read : (places : List ℕ) (leg : Leg) (last k : ℕ) (row : RowValue) (moments : List MomentValue) → Rise last moments → unscanned (row_until row (suc k) (rows_from places leg row moments)) ≡ fold (with_reading places leg) (unscanned (row_until row k (rows_from places leg row moments))) (moment_at (suc k) moments).lines
next_read places leg last k row [] h = refl
next_read places leg last k row (m ∷ moments) h = by (nat_le m.scan k) refl (next_read places leg m.scan k (next_row places leg row m) moments h.1)
  where
    next : RowValue
    next = next_row places leg row m

    is : next.scan ≡ m.scan
    is = row_scan places leg (record row { scan = m.scan }) m.lines

    rest : List RowValue
    rest = rows_from places leg next moments

    at : (scan : ℕ) (t : Bool) → nat_le m.scan scan ≡ t → row_until row scan (next ∷ rest) ≡ row_until (if t then next else row) scan rest
    at scan t e = ap (λ n. row_until (if nat_le n scan then next else row) scan rest) is ∙ ap (λ u. row_until (if u then next else row) scan rest) e

    now : (scan : ℕ) (t : Bool) → (m.scan == scan) ≡ t → moment_at scan (m ∷ moments) ≡ (if t then m else moment_at scan moments)
    now scan t e = ap (λ u. if u then m else moment_at scan moments) e

    other_less : (a b : ℕ) → a < b → (a == b) ≡ false
    other_less a b lt = grind (arith, lt)

    past : (a b : ℕ) → (a == b) ≡ false → b ≤ a → b < a
    past a b e le = grind (arith, e, le)

    here : (t : Bool) → (m.scan == suc k) ≡ t → k < m.scan → row_until row k (next ∷ rest) ≡ row → unscanned (row_until row (suc k) (next ∷ rest)) ≡ fold (with_reading places leg) (unscanned (row_until row k (next ∷ rest))) (moment_at (suc k) (m ∷ moments)).lines
    here true e lt same =
        let scan : m.scan ≡ suc k = eqb-true m.scan (suc k) e in
        ap unscanned (at (suc k) true (le-leb m.scan (suc k) (omega (arith, scan))) ∙ later_rows places leg m.scan (suc k) next next moments h.1 (omega (arith, scan)))
        ∙ (ap unscanned (other_row_scan places leg row m.scan m.lines)
        ∙ (sym (other_row_scan places leg row 0 m.lines)
        ∙ (λ i. fold (with_reading places leg) (unscanned (sym same i)) (sym (now (suc k) true e) i).lines)))
    here false e lt same =
        let later : suc k < m.scan = past m.scan (suc k) e (omega (arith, lt)) in
        ap unscanned (at (suc k) false (not_yet (suc k) m.scan later) ∙ later_rows places leg m.scan (suc k) row next moments h.1 (omega (arith, later)))
        ∙ (λ i. fold (with_reading places leg) (unscanned (sym same i)) (sym (now (suc k) false e ∙ later_moment m.scan (suc k) moments h.1 (omega (arith, later))) i).lines)

    by : (t : Bool) → nat_le m.scan k ≡ t → unscanned (row_until next (suc k) rest) ≡ fold (with_reading places leg) (unscanned (row_until next k rest)) (moment_at (suc k) moments).lines
        → unscanned (row_until row (suc k) (next ∷ rest)) ≡ fold (with_reading places leg) (unscanned (row_until row k (next ∷ rest))) (moment_at (suc k) (m ∷ moments)).lines
    by true e others =
        let le : m.scan ≤ k = leb-true m.scan k e in
        ap unscanned (at (suc k) true (le-leb m.scan (suc k) (omega (arith, le))))
        ∙ (others
        ∙ (λ i. fold (with_reading places leg) (unscanned (sym (at k true e) i)) (sym (now (suc k) false (other_less m.scan (suc k) (omega (arith, le)))) i).lines))
    by false e others =
        let lt : k < m.scan = leb-false m.scan k e in
        let same : row_until row k (next ∷ rest) ≡ row = at k false e ∙ later_rows places leg m.scan k row next moments h.1 (omega (arith, lt)) in
        here (m.scan == suc k) refl lt same

-- ---- what lines say

said_scan : (leg : Leg) (l : LegLinesValue) (lines : List ScanLine) → (fold (with_said leg) l lines).scan ≡ l.scan
said_scan leg l [] = refl
said_scan leg l (line ∷ lines) = said_scan leg (with_said leg l line) lines ∙ by (names_leg leg line) line
  where
    sided : (l : LegLinesValue) (side : Option Side) (words : List ℤ) → ((said_to l (Read leg side words)).scan ≡ l.scan) × ((said_to l (Result leg side words)).scan ≡ l.scan)
    sided l None words = (refl, refl)
    sided l (Some Left) words = (refl, refl)
    sided l (Some Right) words = (refl, refl)

    by : (t : Bool) (line : ScanLine) → (if t then said_to l line else l).scan ≡ l.scan
    by false line = refl
    by true (Set setting) = refl
    by true (Time reads) = refl
    by true (DownloadLine text) = refl
    by true (Mute other) = refl
    by true (PokeLine other address value) = refl
    by true (ReplaceLine other) = refl
    by true (SwapLine other text) = refl
    by true (Read other side words) = (sided l side words).0
    by true (Result other side words) = (sided l side words).1
    by true (Drive other words) = refl

for_scan : (leg : Leg) (m : MomentValue) → (lines_for leg m).scan ≡ m.scan
for_scan leg m = said_scan leg (nothing_said m.scan m.renames) m.lines

-- no line says anything
silent : (leg : Leg) (l : LegLinesValue) (lines : List ScanLine) → some_line leg lines ≡ false → fold (with_said leg) l lines ≡ l
silent leg l [] h = refl
silent leg l (line ∷ lines) h = by (names_leg leg line) refl h (λ k. silent leg l lines k)
  where
    by : (t : Bool) → names_leg leg line ≡ t → (if t then true else some_line leg lines) ≡ false → (some_line leg lines ≡ false → fold (with_said leg) l lines ≡ l) → fold (with_said leg) (with_said leg l line) lines ≡ l
    by true e k others = absurd (cc)
    by false e k others = ap (λ t. fold (with_said leg) (if t then said_to l line else l) lines) e ∙ others k

said_rising : (leg : Leg) (last : ℕ) (moments : List MomentValue) → Rise last moments → Rising (λ l. l.scan) last (all_said leg moments)
said_rising leg last [] h = tt
said_rising leg last (m ∷ moments) h = by (some_line leg m.lines) (said_rising leg m.scan moments h.1)
  where
    lower : (a b : ℕ) (ls : List LegLinesValue) → a ≤ b → Rising (λ l. l.scan) b ls → Rising (λ l. l.scan) a ls
    lower a b [] le k = tt
    lower a b (l ∷ ls) le k = (omega (arith, le, k.0), k.1)

    by : (t : Bool) → Rising (λ l. l.scan) m.scan (all_said leg moments) → Rising (λ l. l.scan) last ((if t then lines_for leg m ∷ [] else []) ++ all_said leg moments)
    by true others = (omega (arith, h.0, for_scan leg m), subst (λ n. Rising (λ l. l.scan) n (all_said leg moments)) (sym (for_scan leg m)) others)
    by false others = lower last m.scan (all_said leg moments) (omega (arith, h.0)) others

pub said_sorted : (leg : Leg) (last : ℕ) (moments : List MomentValue) → Rise last moments → LinesSorted (all_said leg moments)
said_sorted leg last moments h = sorted (λ (l : LegLinesValue). l.scan) last (all_said leg moments) (said_rising leg last moments h)

later_said : (leg : Leg) (last k : ℕ) (start : LegLinesValue) (moments : List MomentValue) → Rise last moments → k ≤ last → lines_until start k (all_said leg moments) ≡ start
later_said leg last k start [] h le = refl
later_said leg last k start (m ∷ moments) h le = by (some_line leg m.lines) (later_said leg m.scan k start moments h.1 (omega (arith, h.0, le)))
  where
    by : (t : Bool) → lines_until start k (all_said leg moments) ≡ start → lines_until start k ((if t then lines_for leg m ∷ [] else []) ++ all_said leg moments) ≡ start
    by true others =
        ap (λ t. lines_until (if t then lines_for leg m else start) k (all_said leg moments)) (not_yet k (lines_for leg m).scan (omega (arith, for_scan leg m, h.0, le)))
        ∙ others
    by false others = others

-- what the lines of a scan say is found
said_at : (row : RowValue) (leg : Leg) (last k : ℕ) (start : LegLinesValue) (moments : List MomentValue) → Rise last moments → of_scan k start ≡ nothing_said k [] → joined row (of_scan k (lines_until start k (all_said leg moments))) ≡ joined row (lines_for leg (moment_at k moments))
said_at row leg last k start [] h other = ap (joined row) other
said_at row leg last k start (m ∷ moments) h other = by (some_line leg m.lines) refl (m.scan == k) refl (λ l own. said_at row leg m.scan k l moments h.1 own)
  where
    here : LegLinesValue
    here = lines_for leg m

    rest : List LegLinesValue
    rest = all_said leg moments

    -- lines of another scan
    apart : (l : LegLinesValue) → (l.scan == k) ≡ false → of_scan k l ≡ nothing_said k []
    apart l e = ap (λ t. if t then l else nothing_said k []) e

    step : (u : Bool) → (m.scan == k) ≡ false → ((l : LegLinesValue) → of_scan k l ≡ nothing_said k [] → joined row (of_scan k (lines_until l k rest)) ≡ joined row (lines_for leg (moment_at k moments)))
        → joined row (of_scan k (lines_until (if u then here else start) k rest)) ≡ joined row (lines_for leg (moment_at k moments))
    step true e others = others here (apart here (ap (λ n. n == k) (for_scan leg m) ∙ e))
    step false e others = others start other

    by : (s : Bool) → some_line leg m.lines ≡ s → (t : Bool) → (m.scan == k) ≡ t
        → ((l : LegLinesValue) → of_scan k l ≡ nothing_said k [] → joined row (of_scan k (lines_until l k rest)) ≡ joined row (lines_for leg (moment_at k moments)))
        → joined row (of_scan k (lines_until start k ((if s then here ∷ [] else []) ++ rest))) ≡ joined row (lines_for leg (if t then m else moment_at k moments))
    by true a true e others =
        let scan : m.scan ≡ k = eqb-true m.scan k e in
        let now : here.scan ≡ k = for_scan leg m ∙ scan in
        ap (λ l. joined row (of_scan k l)) (ap (λ t. lines_until (if t then here else start) k rest) (le-leb here.scan k (omega (arith, now))) ∙ later_said leg m.scan k here moments h.1 (omega (arith, scan)))
        ∙ ap (λ t. joined row (if t then here else nothing_said k [])) (eq-eqb here.scan k now)
    by false a true e others =
        let scan : m.scan ≡ k = eqb-true m.scan k e in
        ap (λ l. joined row (of_scan k l)) (later_said leg m.scan k start moments h.1 (omega (arith, scan)))
        ∙ (ap (joined row) other ∙ sym (ap (joined row) (silent leg (nothing_said m.scan m.renames) m.lines a)))
    by true a false e others = step (nat_le here.scan k) e others
    by false a false e others = others start other

-- ---- places among the inputs

pub places_length : (n : ℕ) (points : List Point) → length (places_from n points) ≡ length points
places_length n [] = refl
places_length n (p ∷ points) = ap suc (places_length (if is_input_kind p.kind then n + 1 else n) points)

pub place_is : (n : ℕ) (points : List Point) (place : ℕ) → place < length points → get_or (places_from n points) place 0 ≡ n + input_place points place
place_is n [] place lt = absurd (omega arith)
place_is n (p ∷ points) zero lt = omega arith
place_is n (p ∷ points) (suc place) lt = by (is_input_kind p.kind) (place_is (n + 1) points place (omega arith)) (place_is n points place (omega arith))
  where
    by : (t : Bool) → get_or (places_from (n + 1) points) place 0 ≡ (n + 1) + input_place points place → get_or (places_from n points) place 0 ≡ n + input_place points place → get_or (places_from (if t then n + 1 else n) points) place 0 ≡ n + length (if t then p ∷ inputs_of (take place points) else inputs_of (take place points))
    by true e f = omega (arith, e)
    by false e f = f

-- ---- a scan in two parts

named : (row : RowValue) (l : LegLinesValue) (x : LegScan) (y : LegLinesValue) → x ≡ joined row y → (t : Bool) → for_leg (joined row l) x t ≡ joined row (if t then y else l)
named row l x y e true = e
named row l x y e false = refl

within : (points : List Point) (place : ℕ) (p : Point) → slice_get points place ≡ Some p → place < length points
within [] place p e = absurd (cc)
within (q ∷ points) zero p e = omega arith
within (q ∷ points) (suc place) p e = let lt = within points place p e in omega (arith, lt)

-- a line that may stand in its scan does to both parts what it does to the whole
one_line : (points : List Point) (renames : List (List ℕ × List ℕ)) (leg : Leg) (row : RowValue) (l : LegLinesValue) (d : Bool) (line : ScanLine) → IsLine points d line → l.renames ≡ renames
    → with_leg_line points renames leg (joined row l) line ≡ joined (with_reading (places_from 0 points) leg row line) (with_said leg l line)
one_line points renames leg row l d (Set setting) is same =
    let there : setting.point < length points = within points setting.point is.point is.there in
    let place : input_place points setting.point ≡ get_or (places_from 0 points) setting.point 0 = let e = place_is 0 points setting.point there in omega (arith, e) in
    ap (λ place. joined (record row { readings = set row.readings place (leg_part setting.reads leg) }) l) place
one_line points renames leg row l d (Time reads) is same = refl
one_line points renames leg row l d (DownloadLine text) is same = ap (λ rs. joined row (record l { text = Some text; renames = rs })) (sym same)
one_line points renames leg row l d (Mute other) is same = named row l _ _ refl (same_leg other leg)
one_line points renames leg row l d (PokeLine other address value) is same = named row l _ _ refl (same_leg other leg)
one_line points renames leg row l d (ReplaceLine other) is same = named row l _ _ refl (same_leg other leg)
one_line points renames leg row l d (SwapLine other text) is same = named row l _ _ refl (same_leg other leg)
one_line points renames leg row l d (Read other side words) is same = named row l _ _ (shown side) (same_leg other leg)
  where
    shown : (side : Option Side) → with_shown (joined row l) side words ≡ joined row (lines_shown l side words)
    shown None = refl
    shown (Some Left) = refl
    shown (Some Right) = refl
one_line points renames leg row l d (Result other side words) is same = named row l _ _ (put side) (same_leg other leg)
  where
    put : (side : Option Side) → with_result (joined row l) side words ≡ joined row (lines_result l side words)
    put None = refl
    put (Some Left) = refl
    put (Some Right) = refl
one_line points renames leg row l d (Drive other words) is same = named row l _ _ refl (same_leg other leg)

same_renames : (leg : Leg) (l : LegLinesValue) (line : ScanLine) → (with_said leg l line).renames ≡ l.renames
same_renames leg l line = by (names_leg leg line) line
  where
    sided : (side : Option Side) (words : List ℤ) → ((lines_shown l side words).renames ≡ l.renames) × ((lines_result l side words).renames ≡ l.renames)
    sided None words = (refl, refl)
    sided (Some Left) words = (refl, refl)
    sided (Some Right) words = (refl, refl)

    by : (t : Bool) (line : ScanLine) → (if t then said_to l line else l).renames ≡ l.renames
    by false line = refl
    by true (Set setting) = refl
    by true (Time reads) = refl
    by true (DownloadLine text) = refl
    by true (Mute other) = refl
    by true (PokeLine other address value) = refl
    by true (ReplaceLine other) = refl
    by true (SwapLine other text) = refl
    by true (Read other side words) = (sided side words).0
    by true (Result other side words) = (sided side words).1
    by true (Drive other words) = refl

all_lines : (points : List Point) (renames : List (List ℕ × List ℕ)) (leg : Leg) (row : RowValue) (l : LegLinesValue) (d : Bool) (lines : List ScanLine) → AreLines points d lines → l.renames ≡ renames
    → fold (with_leg_line points renames leg) (joined row l) lines ≡ joined (fold (with_reading (places_from 0 points) leg) row lines) (fold (with_said leg) l lines)
all_lines points renames leg row l d [] h same = refl
all_lines points renames leg row l d (line ∷ lines) h same =
    ap (λ (s : LegScan). fold (with_leg_line points renames leg) s lines) (one_line points renames leg row l d line h.0 same)
    ∙ all_lines points renames leg (with_reading (places_from 0 points) leg row line) (with_said leg l line) (d || is_download line) lines h.1 (same_renames leg l line ∙ same)

-- ---- all scans

pub lines_there : (points : List Point) (last scans k : ℕ) (moments : List MomentValue) → AreMoments points last scans moments → AreLines points false (moment_at k moments).lines
lines_there points last scans k [] h = tt
lines_there points last scans k (m ∷ moments) h = by (m.scan == k) (lines_there points m.scan scans k moments h.3)
  where
    by : (t : Bool) → AreLines points false (moment_at k moments).lines → AreLines points false (if t then m else moment_at k moments).lines
    by true others = h.2.lines
    by false others = others

-- a row reads what a scan reads
abbrev ReadsAs : RowValue → LegScan → Type 0
ReadsAs row l = (row.time ≡ l.time) × (row.readings ≡ l.readings)

-- what a leg reads at the beginning
abbrev pub first_reads : List Point → RowValue
first_reads points = record { scan = 0; time = first_time; readings = map (λ p. pos 0) (inputs_of points) }

abbrev rows_of : ScriptValue → Leg → List RowValue
rows_of v leg = rows_from (places_from 0 v.points) leg (first_reads v.points) v.moments

-- the row that stands at a scan
abbrev row_of : ScriptValue → Leg → ℕ → RowValue
row_of v leg k = row_until (first_reads v.points) k (rows_of v leg)

no_row_yet : (v : ScriptValue) (leg : Leg) → IsScript v → row_of v leg 0 ≡ first_reads v.points
no_row_yet v leg h = later_rows (places_from 0 v.points) leg 0 0 (first_reads v.points) (first_reads v.points) v.moments (rise v.points 0 v.scans v.moments h.moments) (omega arith)

-- a scan behind one that reads alike
step : (v : ScriptValue) (leg : Leg) (k : ℕ) (before : LegScan) → IsScript v → ReadsAs (row_of v leg k) before
    → joined (row_of v leg (suc k)) (lines_on (suc k) (all_said leg v.moments)) ≡ next_scan v.points leg before (moment_at (suc k) v.moments)
step v leg k before h read =
    let m = moment_at (suc k) v.moments in
    let rises = rise v.points 0 v.scans v.moments h.moments in
    let places = places_from 0 v.points in
    let row = unscanned (row_of v leg k) in
    let next = unscanned (row_of v leg (suc k)) in
    let start : joined row (nothing_said m.scan m.renames) ≡ reading_only before.time before.readings = λ i. reading_only (read.0 i) (read.1 i) in
    let parts = all_lines v.points m.renames leg row (nothing_said m.scan m.renames) false m.lines (lines_there v.points 0 v.scans (suc k) v.moments h.moments) refl in
    let read_now : next ≡ fold (with_reading places leg) row m.lines = next_read places leg 0 k (first_reads v.points) v.moments rises in
    let said : joined next (lines_on (suc k) (all_said leg v.moments)) ≡ joined next (lines_for leg m) = said_at next leg 0 (suc k) (nothing_said (suc k) []) v.moments rises (own (suc k)) in
    said ∙ (ap (λ (r : RowValue). joined r (lines_for leg m)) read_now ∙ (sym parts ∙ ap (λ (s : LegScan). fold (with_leg_line v.points m.renames leg) s m.lines) start))
  where
    own : (k : ℕ) → of_scan k (nothing_said k []) ≡ nothing_said k []
    own k = ap (λ t. if t then nothing_said k [] else nothing_said k []) (eq-eqb k k refl)

read_is : (v : ScriptValue) (leg : Leg) (k : ℕ) → IsScript v → ReadsAs (row_of v leg k) (scan_of v leg k)
unfolding scan_of
read_is v leg zero h = (ap (λ (r : RowValue). r.time) (no_row_yet v leg h), ap (λ (r : RowValue). r.readings) (no_row_yet v leg h))
read_is v leg (suc k) h =
    let is = step v leg k (scan_of v leg k) h (read_is v leg k h) in
    (ap (λ (s : LegScan). s.time) is, ap (λ (s : LegScan). s.readings) is)

-- a scan's two parts
scan_is : (v : ScriptValue) (leg : Leg) (k : ℕ) → IsScript v → scan_kept (first_reads v.points) (rows_of v leg) (all_said leg v.moments) (suc k) ≡ scan_of v leg (suc k)
unfolding scan_of
scan_is v leg k h = step v leg k (scan_of v leg k) h (read_is v leg k h)

pub tape_is : (v : ScriptValue) (leg : Leg) → IsScript v → scans_kept v.scans (first_reads v.points) (rows_of v leg) (all_said leg v.moments) ≡ (tape_of v leg).scans
tape_is v leg h = all 1 v.scans (omega arith)
  where
    kept : ℕ → LegScan
    kept = scan_kept (first_reads v.points) (rows_of v leg) (all_said leg v.moments)

    at : (k : ℕ) → 1 ≤ k → kept k ≡ scan_of v leg k
    at zero low = absurd (omega arith)
    at (suc k) low = scan_is v leg k h

    all : (from n : ℕ) → 1 ≤ from → map kept (range_with_len from n) ≡ map (scan_of v leg) (range_with_len from n)
    all from zero low = refl
    all from (suc n) low = λ i. at from low i ∷ all (from + 1) n (omega (arith, low)) i

-- a scan of what is kept
pub kept_at : (scans : ℕ) (start : RowValue) (rows : List RowValue) (lines : List LegLinesValue) (k : ℕ) → 1 ≤ k → k ≤ scans → get_or (scans_kept scans start rows lines) (k - 1) no_lines ≡ scan_kept start rows lines k
kept_at scans start rows lines k low high = get_or-map-range_with_len (scan_kept start rows lines) 1 scans (k - 1) k no_lines (omega (arith, low, high)) (omega (arith, low))

pub kept_length : (scans : ℕ) (start : RowValue) (rows : List RowValue) (lines : List LegLinesValue) → length (scans_kept scans start rows lines) ≡ scans
kept_length scans start rows lines = length-map-range_with_len (scan_kept start rows lines) 1 scans

-- what a tape has of a scan is what is kept of it
pub seen : (t : TapeValue) (scans : ℕ) (start : RowValue) (rows : List RowValue) (lines : List LegLinesValue) (k : ℕ) → record { scans = scans_kept scans start rows lines } ≡ t → (1 ≤ k) × (k ≤ length t.scans) → scan_at t k ≡ scan_kept start rows lines k
seen t scans start rows lines k is (low, high) =
    let long : length t.scans ≡ scans = sym (ap (λ (t : TapeValue). length t.scans) is) ∙ kept_length scans start rows lines in
    sym (ap (λ (t : TapeValue). scan_at t k) is) ∙ kept_at scans start rows lines k low (omega (arith, high, long))

-- and by what its lines say
pub lines_seen : (t : TapeValue) (scans : ℕ) (start : RowValue) (rows : List RowValue) (lines lent : List LegLinesValue) (k : ℕ) (l : LegLinesValue) → record { scans = scans_kept scans start rows lines } ≡ t → (1 ≤ k) × (k ≤ length t.scans) → lent ≡ lines → lines_on k lent ≡ l → scan_at t k ≡ joined (row_until start k rows) l
lines_seen t scans start rows lines lent k l is within same on = seen t scans start rows lines k is within ∙ ap (joined (row_until start k rows)) (sym (ap (lines_on k) same) ∙ on)

pub shown_joined : (side : Side) (row : RowValue) (l : LegLinesValue) → shown_by side l ≡ shown_on side (joined row l)
shown_joined Left row l = refl
shown_joined Right row l = refl

pub result_joined : (side : Side) (row : RowValue) (l : LegLinesValue) → result_by side l ≡ result_on side (joined row l)
result_joined Left row l = refl
result_joined Right row l = refl

pub text_joined : (text : Option (List ℕ)) (renames : List (List ℕ × List ℕ)) → text ≡ option_map (λ (d : Download). d.text) (download_of text renames)
text_joined None renames = refl
text_joined (Some text) renames = refl

pub renames_joined : (text : Option (List ℕ)) (renames : List (List ℕ × List ℕ)) → renames_with text renames ≡ renames_of (download_of text renames)
renames_joined None renames = refl
renames_joined (Some text) renames = refl

pub none_shown : (side : Side) (row : RowValue) (k : ℕ) → None ≡ shown_on side (joined row (nothing_said k []))
none_shown Left row k = refl
none_shown Right row k = refl

pub none_put : (side : Side) (row : RowValue) (k : ℕ) → None ≡ result_on side (joined row (nothing_said k []))
none_put Left row k = refl
none_put Right row k = refl
