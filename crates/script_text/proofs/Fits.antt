-- What a script's lines set fits the rows of a tape.
use Rattle.std.proofs.Common.{◌≡◌, ℕ, ℤ, zero, suc, pos, ◌<◌, int_le, Bool, true, false, List, [], ◌∷◌, length, take, ◌&&◌, ◌||◌, Some, sym, ap, ◌∙◌, subst, arith, slice_get}
use Rattle.std.specs.Bool.{if◌then◌else◌}
use Rattle.std.specs.List.{All}
use Rattle.std.proofs.lemmas.Bool.Decides.{nat_tests}
use Rattle.std.proofs.lemmas.Int.{ints}
use Rattle.std.proofs.lemmas.Option.{get_or_from_slice_get}
use Rattle.tri_base.specs.declared.point.Point.{Point}
use Rattle.tri_base.specs.declared.point.PointKind.{PointKind}
use Rattle.tri_base.specs.declared.point.PointKind.TheVariants.{Di, Ai, Do, Ao}
use Rattle.chassis.specs.Points.{inputs_of, is_input_kind}
use Rattle.chassis.specs.Ranges.{Fits, HasRange, is_within}
use Rattle.script_text.specs.declared.moment.ScanLine.{ScanLine}
use Rattle.script_text.specs.declared.moment.ScanLine.TheVariants.{Set, Time, Download, Mute, Poke, Replace, Swap, Read, Result, Drive}
use Rattle.script_text.specs.declared.moment.Setting.{Setting}
use Rattle.script_text.specs.IsScript.{IsSetting, is_download, AreLines, AreMoments}
use Rattle.script_text.specs.MomentValue.{MomentValue}
use Rattle.script_text.specs.LegScans.{input_place}
use Rattle.script_text.specs.Inner.LegParts.{places_from, HasBits, SetFits, AllFit, MomentsFit}
use Rattle.script_text.proofs.LineFacts.{both}
use Rattle.std.proofs.lemmas.List.{length-map}
use Rattle.script_text.proofs.Tapes.{places_length, place_is, first_reads}

pub there : (points : List Point) (place : ℕ) (p : Point) → slice_get points place ≡ Some p → place < length points
there [] place p e = absurd (cc)
there (q ∷ points) zero p e = omega arith
there (q ∷ points) (suc place) p e = let lt = there points place p e in omega (arith, lt)

pub input_there : (points : List Point) (place : ℕ) (p : Point) → slice_get points place ≡ Some p → is_input_kind p.kind ≡ true → input_place points place < length (inputs_of points)
input_there [] place p e k = absurd (cc)
input_there (q ∷ points) zero p e k =
    let same : q ≡ p = cc in
    let input : is_input_kind q.kind ≡ true = ap (λ (p : Point). is_input_kind p.kind) same ∙ k in
    subst (λ t. 0 < length (if t then q ∷ inputs_of points else inputs_of points)) (sym input) (omega arith)
input_there (q ∷ points) (suc place) p e k = by (is_input_kind q.kind) (input_there points place p e k)
  where
    by : (t : Bool) → input_place points place < length (inputs_of points) → length (if t then q ∷ inputs_of (take place points) else inputs_of (take place points)) < length (if t then q ∷ inputs_of points else inputs_of points)
    by true h = omega (arith, h)
    by false h = h

has_bits : (p : Point) (z : ℤ) → Fits p → is_within p z ≡ true → HasBits z
has_bits p z fits h = by p.kind fits (both (int_le p.low z) (int_le z p.high) h)
  where
    by : (k : PointKind) → HasRange k p.low p.high p.tolerance → (int_le p.low z ≡ true) × (int_le z p.high ≡ true) → HasBits z
    by Di f h = let (low, high, tolerance) = f in let (a, b) = h in grind (arith, ints, nat_tests)
    by Do f h = let (low, high, tolerance) = f in let (a, b) = h in grind (arith, ints, nat_tests)
    by Ai f h = let (a, b) = h in (grind (arith, ints, nat_tests, f.0), grind (arith, ints, nat_tests, f.3))
    by Ao f h = let (a, b) = h in (grind (arith, ints, nat_tests, f.0), grind (arith, ints, nat_tests, f.3))

set_fits : (points : List Point) (s : Setting) → All Fits points → IsSetting points s → SetFits (places_from 0 points) (length (inputs_of points)) (Set s)
set_fits points s fit h =
    let lt = there points s.point h.point h.there in
    let place = place_is 0 points s.point lt in
    let fits : Fits h.point = subst Fits (get_or_from_slice_get points s.point h.point h.point h.there) (fit s.point h.point lt) in
    let (ab, c) = both (is_within h.point s.reads.a && is_within h.point s.reads.b) (is_within h.point s.reads.c) h.within in
    let (a, b) = both (is_within h.point s.reads.a) (is_within h.point s.reads.b) ab in
    (omega (arith, lt, places_length 0 points), omega (arith, place, input_there points s.point h.point h.there h.input), has_bits h.point s.reads.a fits a, has_bits h.point s.reads.b fits b, has_bits h.point s.reads.c fits c)

all_fit : (points : List Point) (d : Bool) (lines : List ScanLine) → All Fits points → AreLines points d lines → AllFit (places_from 0 points) (length (inputs_of points)) lines
all_fit points d [] fit h = tt
all_fit points d (Set s ∷ lines) fit h = (set_fits points s fit h.0, all_fit points (d || is_download (Set s)) lines fit h.1)
all_fit points d (Time reads ∷ lines) fit h = (tt, all_fit points (d || is_download (Time reads)) lines fit h.1)
all_fit points d (Download text ∷ lines) fit h = (tt, all_fit points (d || is_download (Download text)) lines fit h.1)
all_fit points d (Mute leg ∷ lines) fit h = (tt, all_fit points (d || is_download (Mute leg)) lines fit h.1)
all_fit points d (Poke leg address value ∷ lines) fit h = (tt, all_fit points (d || is_download (Poke leg address value)) lines fit h.1)
all_fit points d (Replace leg ∷ lines) fit h = (tt, all_fit points (d || is_download (Replace leg)) lines fit h.1)
all_fit points d (Swap leg text ∷ lines) fit h = (tt, all_fit points (d || is_download (Swap leg text)) lines fit h.1)
all_fit points d (Read leg side words ∷ lines) fit h = (tt, all_fit points (d || is_download (Read leg side words)) lines fit h.1)
all_fit points d (Result leg side words ∷ lines) fit h = (tt, all_fit points (d || is_download (Result leg side words)) lines fit h.1)
all_fit points d (Drive leg words ∷ lines) fit h = (tt, all_fit points (d || is_download (Drive leg words)) lines fit h.1)

pub moments_fit : (points : List Point) (last scans : ℕ) (moments : List MomentValue) → All Fits points → AreMoments points last scans moments → MomentsFit (places_from 0 points) (length (inputs_of points)) moments
moments_fit points last scans [] fit h = tt
moments_fit points last scans (m ∷ moments) fit h = (all_fit points false m.lines fit h.2.lines, moments_fit points m.scan scans moments fit h.3)

pub first_inputs : (points : List Point) → length (first_reads points).readings ≡ length (inputs_of points)
first_inputs points = length-map (inputs_of points) (λ p. pos 0)
