-- A leg can read each scan of a tape.
use Rattle.std.proofs.Common.{◌≡◌, ℕ, ℤ, zero, suc, pos, ◌<◌, ◌≤ℤ◌, int_le, Bool, true, false, List, [], ◌∷◌, ◌++◌, length, map, fold, take, set, ◌&&◌, ◌||◌, Option, Some, None, refl, sym, ap, ◌∙◌, subst, arith, slice_get}
use Rattle.std.specs.Bool.{if◌then◌else◌}
use Rattle.std.specs.List.{All, AllZip}
use Rattle.std.proofs.lemmas.Bool.Decides.{nat_tests}
use Rattle.std.proofs.lemmas.Int.{ints}
use Rattle.std.proofs.lemmas.List.Elements.{All-push}
use Rattle.std.proofs.lemmas.List.FromFn.{get_or-map-range_with_len, length-map-range_with_len}
use Rattle.tri_base.specs.Legs.{leg_part}
use Rattle.tri_base.specs.declared.leg.Leg.{Leg}
use Rattle.tri_base.specs.declared.leg.Leg.TheVariants.{A, B, C}
use Rattle.tri_base.specs.declared.leg.Triple.{Triple}
use Rattle.tri_base.specs.declared.leg.Side.{Side}
use Rattle.tri_base.specs.declared.leg.Side.TheVariants.{Left, Right}
use Rattle.tri_base.specs.declared.point.Point.{Point}
use Rattle.chassis.specs.Points.{inputs_of, is_input_kind}
use Rattle.chassis.specs.Ranges.{Fits, IsWithin, is_within}
use Rattle.chassis.proofs.Ranges.{zero_held}
use Rattle.script_text.specs.declared.moment.ScanLine.{ScanLine}
use Rattle.script_text.specs.declared.moment.ScanLine.TheVariants.{Set, Time, Download, Mute, Poke, Replace, Swap, Read, Result, Drive}
use Rattle.script_text.specs.IsScript.{IsLine, is_download, AreLines, IsScript}
use Rattle.script_text.specs.Moments.{moment_at}
use Rattle.script_text.specs.ScriptValue.{ScriptValue}
use Rattle.script_text.specs.Standing.{all_within, is_time}
use Rattle.script_text.specs.LegScans.{LegAct, Poke as PokeAct, Replace as ReplaceAct, Swap as SwapAct, LegScan, SwapsBytes, LoadsBytes, IsReadable, reading_only, input_place, same_leg, for_leg, with_shown, with_result, with_leg_line, scan_of, tape_of}
use Rattle.script_text.proofs.LineFacts.{both, bytes_all}
use Rattle.script_text.proofs.Tapes.{lines_there}

-- ---- the readings before the first scan

zeros : (points : List Point) → All Fits points → AllZip IsWithin (inputs_of points) (map (λ p. pos 0) (inputs_of points))
zeros [] fit = tt
zeros (p ∷ points) fit = by (is_input_kind p.kind) (zeros points (λ i d lt. fit (suc i) d (omega arith)))
  where
    by : (t : Bool) → AllZip IsWithin (inputs_of points) (map (λ p. pos 0) (inputs_of points)) → AllZip IsWithin (if t then p ∷ inputs_of points else inputs_of points) (map (λ p. pos 0) (if t then p ∷ inputs_of points else inputs_of points))
    by true others = (zero_held p (fit 0 p (omega arith)), others)
    by false others = others

-- ---- a setting

set_within : (points : List Point) (place : ℕ) (p : Point) (value : ℤ) (readings : List ℤ) → slice_get points place ≡ Some p → is_input_kind p.kind ≡ true → IsWithin p value → AllZip IsWithin (inputs_of points) readings → AllZip IsWithin (inputs_of points) (set readings (input_place points place) value)
set_within [] place p value readings e input within h = absurd (cc)
set_within (q ∷ points) zero p value readings e input within h = by (is_input_kind q.kind) refl readings h
  where
    same : q ≡ p
    same = cc

    by : (t : Bool) → is_input_kind q.kind ≡ t → (readings : List ℤ) → AllZip IsWithin (if t then q ∷ inputs_of points else inputs_of points) readings → AllZip IsWithin (if t then q ∷ inputs_of points else inputs_of points) (set readings 0 value)
    by true k [] h = absurd h
    by true k (r ∷ rs) h = (subst (λ (x : Point). IsWithin x value) (sym same) within, h.1)
    by false k readings h = absurd (let w : false ≡ true = sym k ∙ (ap (λ (x : Point). is_input_kind x.kind) same ∙ input) in cc)
set_within (q ∷ points) (suc place) p value readings e input within h = by (is_input_kind q.kind) readings h (λ rs k. set_within points place p value rs e input within k)
  where
    by : (t : Bool) (readings : List ℤ) → AllZip IsWithin (if t then q ∷ inputs_of points else inputs_of points) readings → ((rs : List ℤ) → AllZip IsWithin (inputs_of points) rs → AllZip IsWithin (inputs_of points) (set rs (input_place points place) value))
        → AllZip IsWithin (if t then q ∷ inputs_of points else inputs_of points) (set readings (length (if t then q ∷ inputs_of (take place points) else inputs_of (take place points))) value)
    by true [] h others = absurd h
    by true (r ∷ rs) h others = (h.0, others rs h.1)
    by false readings h others = others readings h

is_within_is : (p : Point) (z : ℤ) → is_within p z ≡ true → IsWithin p z
is_within_is p z h = let parts = both (int_le p.low z) (int_le z p.high) h in low parts.0 parts.1
  where
    low : int_le p.low z ≡ true → int_le z p.high ≡ true → IsWithin p z
    low a b = (grind (arith, ints, nat_tests), grind (arith, ints, nat_tests))

leg_within : (p : Point) (reads : Triple ℤ) (leg : Leg) → all_within p reads ≡ true → IsWithin p (leg_part reads leg)
leg_within p reads leg h =
    let (ab, c) = both (is_within p reads.a && is_within p reads.b) (is_within p reads.c) h in
    let (a, b) = both (is_within p reads.a) (is_within p reads.b) ab in
    by leg a b c
  where
    by : (leg : Leg) → is_within p reads.a ≡ true → is_within p reads.b ≡ true → is_within p reads.c ≡ true → IsWithin p (leg_part reads leg)
    by A a b c = is_within_is p reads.a a
    by B a b c = is_within_is p reads.b b
    by C a b c = is_within_is p reads.c c

time_is : (t : ℤ) → is_time t ≡ true → (pos 1 ≤ℤ t) × (t ≤ℤ pos 10000)
time_is t h = let parts = both (int_le (pos 1) t) (int_le t (pos 10000)) h in low parts.0 parts.1
  where
    low : int_le (pos 1) t ≡ true → int_le t (pos 10000) ≡ true → (pos 1 ≤ℤ t) × (t ≤ℤ pos 10000)
    low a b = (grind (arith, ints, nat_tests), grind (arith, ints, nat_tests))

leg_time : (reads : Triple ℤ) (leg : Leg) → (is_time reads.a ≡ true) × (is_time reads.b ≡ true) × (is_time reads.c ≡ true) → (pos 1 ≤ℤ leg_part reads leg) × (leg_part reads leg ≤ℤ pos 10000)
leg_time reads A (a, b, c) = time_is reads.a a
leg_time reads B (a, b, c) = time_is reads.b b
leg_time reads C (a, b, c) = time_is reads.c c

-- ---- a line more

for_either : (points : List Point) (l x : LegScan) → IsReadable points l → IsReadable points x → (t : Bool) → IsReadable points (for_leg l x t)
for_either points l x h k true = k
for_either points l x h k false = h

-- what else is seen doesn't count
alike : (points : List Point) (l x : LegScan) → IsReadable points l → l.time ≡ x.time → l.readings ≡ x.readings → l.acts ≡ x.acts → l.download ≡ x.download → IsReadable points x
alike points l x h time readings acts download = record {
  time = subst (λ t. (pos 1 ≤ℤ t) × (t ≤ℤ pos 10000)) time h.time;
  readings = subst (AllZip IsWithin (inputs_of points)) readings h.readings;
  acts = subst (All SwapsBytes) acts h.acts;
  download = subst LoadsBytes download h.download;
}

-- an act more
acting : (points : List Point) (l : LegScan) (act : LegAct) → IsReadable points l → SwapsBytes act → IsReadable points (record l { acts = l.acts ++ act ∷ [] })
acting points l act h is = record { time = h.time; readings = h.readings; acts = All-push SwapsBytes l.acts act h.acts is; download = h.download }

line_read : (points : List Point) (renames : List (List ℕ × List ℕ)) (leg : Leg) (l : LegScan) (d : Bool) (line : ScanLine) → IsLine points d line → IsReadable points l → IsReadable points (with_leg_line points renames leg l line)
line_read points renames leg l d (Set s) is h = record { time = h.time; readings = set_within points s.point is.point (leg_part s.reads leg) l.readings is.there is.input (leg_within is.point s.reads leg is.within) h.readings; acts = h.acts; download = h.download }
line_read points renames leg l d (Time reads) is h = record { time = leg_time reads leg is; readings = h.readings; acts = h.acts; download = h.download }
line_read points renames leg l d (Download text) is h = record { time = h.time; readings = h.readings; acts = h.acts; download = bytes_all text is.1.3 }
line_read points renames leg l d (Mute other) is h = for_either points l _ h (alike points l _ h refl refl refl refl) (same_leg other leg)
line_read points renames leg l d (Poke other address value) is h = for_either points l _ h (acting points l (PokeAct address value) h tt) (same_leg other leg)
line_read points renames leg l d (Replace other) is h = for_either points l _ h (acting points l ReplaceAct h tt) (same_leg other leg)
line_read points renames leg l d (Swap other text) is h = for_either points l _ h (acting points l (SwapAct text) h (bytes_all text is.3)) (same_leg other leg)
line_read points renames leg l d (Read other side words) is h = for_either points l _ h (shown side) (same_leg other leg)
  where
    shown : (side : Option Side) → IsReadable points (with_shown l side words)
    shown None = alike points l _ h refl refl refl refl
    shown (Some Left) = alike points l _ h refl refl refl refl
    shown (Some Right) = alike points l _ h refl refl refl refl
line_read points renames leg l d (Result other side words) is h = for_either points l _ h (put side) (same_leg other leg)
  where
    put : (side : Option Side) → IsReadable points (with_result l side words)
    put None = alike points l _ h refl refl refl refl
    put (Some Left) = alike points l _ h refl refl refl refl
    put (Some Right) = alike points l _ h refl refl refl refl
line_read points renames leg l d (Drive other words) is h = for_either points l _ h (alike points l _ h refl refl refl refl) (same_leg other leg)

lines_read : (points : List Point) (renames : List (List ℕ × List ℕ)) (leg : Leg) (l : LegScan) (d : Bool) (lines : List ScanLine) → AreLines points d lines → IsReadable points l → IsReadable points (fold (with_leg_line points renames leg) l lines)
lines_read points renames leg l d [] is h = h
lines_read points renames leg l d (line ∷ lines) is h = lines_read points renames leg (with_leg_line points renames leg l line) (d || is_download line) lines is.1 (line_read points renames leg l d line is.0 h)

-- ---- each scan

scan_read : (v : ScriptValue) (leg : Leg) (k : ℕ) → IsScript v → All Fits v.points → IsReadable v.points (scan_of v leg k)
unfolding scan_of
scan_read v leg zero h fit = record { time = (grind (arith, ints, nat_tests), grind (arith, ints, nat_tests)); readings = zeros v.points fit; acts = (λ i d lt. absurd (omega arith)); download = tt }
scan_read v leg (suc k) h fit =
    let before = scan_read v leg k h fit in
    let m = moment_at (suc k) v.moments in
    lines_read v.points m.renames leg (reading_only (scan_of v leg k).time (scan_of v leg k).readings) false m.lines (lines_there v.points 0 v.scans (suc k) v.moments h.moments) (record { time = before.time; readings = before.readings; acts = (λ i d lt. absurd (omega arith)); download = tt })

pub all_read : (v : ScriptValue) (leg : Leg) → IsScript v → All Fits v.points → All (IsReadable v.points) (tape_of v leg).scans
all_read v leg h fit = λ i d lt.
    let within : i < v.scans = omega (arith, lt, length-map-range_with_len (scan_of v leg) 1 v.scans) in
    subst (IsReadable v.points) (sym (get_or-map-range_with_len (scan_of v leg) 1 v.scans i (suc i) d within (omega arith))) (scan_read v leg (suc i) h fit)
