-- The scans of the generator are such as a script may have, so what is made is a script.
use Rattle.std.proofs.Common.{◌≡◌, ℕ, zero, suc, pos, ◌+◌, ◌*◌, ◌/◌, ◌%◌, ◌==◌, ◌<◌, ◌≤◌, Bool, true, false, List, [], ◌∷◌, ◌++◌, map, refl, sym, ap, ◌∙◌, subst, arith}
use Rattle.std.specs.Bool.{if◌then◌else◌}
use Rattle.std.specs.List.{range_with_len}
use Rattle.std.proofs.lemmas.List.FromFn.{map-range_with_len_more}
use Rattle.tri_base.specs.Limits.{scan_limit}
use Rattle.tri_base.specs.declared.leg.Leg.{Leg}
use Rattle.tri_base.specs.declared.point.Point.{Point}
use Rattle.script_text.specs.declared.moment.ScanLine.TheVariants.{Replace, Download}
use Rattle.script_text.specs.MomentValue.{MomentValue}
use Rattle.script_text.specs.ScriptValue.{script_value}
use Rattle.script_text.specs.Standing.{all_within}
use Rattle.script_text.specs.IsScript.{IsShort, IsShortTriple, IsSetting, AreLines, IsMoment, AreMoments, IsScript}
use Rattle.script_text.proofs.Reaches.{setting_is}
use Rattle.script_maker.specs.Plants.{row_length, generated_points}
use Rattle.script_maker.specs.Programs.{generated_text}
use Rattle.script_maker.specs.Generated.{next_draw, draw, all_legs, leg_in_turn, event_lines, moment_of, generated_moment, generated}
use Rattle.script_maker.proofs.Plants.{plant, discrete_point, analogue_point, discrete_stands, analogue_stands}
use Rattle.script_maker.proofs.Programs.{block}

-- ---- draws

pub draw_more : (number n : ℕ) → draw number (n + 1) ≡ next_draw (draw number n)
unfolding draw
draw_more number n = let e : n + 1 ≡ suc n = omega arith in ap (draw number) e

draw_fits : (number n : ℕ) → draw number (n + 1) < 4294967296
draw_fits number n = let e = draw_more number n in omega (arith, e)

pub two_draws : (number before x : ℕ) → x ≡ draw number (2 * before) → (next_draw x ≡ draw number (2 * before + 1)) × (next_draw (next_draw x) ≡ draw number (2 * before + 2)) × (next_draw (next_draw x) ≡ draw number (2 * (before + 1)))
two_draws number before x h =
    let one : next_draw x ≡ draw number (2 * before + 1) = ap next_draw h ∙ sym (draw_more number (2 * before)) in
    let e : 2 * before + 1 + 1 ≡ 2 * before + 2 = omega arith in
    let f : 2 * before + 1 + 1 ≡ 2 * (before + 1) = omega arith in
    let two : next_draw (next_draw x) ≡ draw number (2 * before + 1 + 1) = ap next_draw one ∙ sym (draw_more number (2 * before + 1)) in
    (one, two ∙ ap (draw number) e, two ∙ ap (draw number) f)

-- ---- settings

short : (n : ℕ) → n < 4294967296 → IsShortTriple (all_legs n)
short n h =
    let s : IsShort (pos n) = omega (arith, h) in
    (s, s, s)

bit_within : (i v : ℕ) → v < 2 → all_within (discrete_point i) (all_legs v) ≡ true
bit_within i zero h = refl
bit_within i (suc zero) h = refl
bit_within i (suc (suc v)) h = absurd (omega (arith, h))

count_within_range : (j v : ℕ) → v < 4096 → all_within (analogue_point j) (all_legs v) ≡ true
count_within_range j v h = grind (arith, h)

discrete_is : (i v : ℕ) → i < row_length → v < 2 → IsSetting generated_points (record { point = i; reads = all_legs v })
discrete_is i v lt h =
    let at = discrete_stands i lt in
    setting_is generated_points (discrete_point i).name i (discrete_point i) (all_legs v) plant at.found at.there refl (bit_within i v h) (short v (omega (arith, h)))

analogue_is : (j v : ℕ) → j < row_length → v < 4096 → IsSetting generated_points (record { point = row_length + j; reads = all_legs v })
analogue_is j v lt h =
    let at = analogue_stands j lt in
    setting_is generated_points (analogue_point j).name (row_length + j) (analogue_point j) (all_legs v) plant at.found at.there refl (count_within_range j v h) (short v (omega (arith, h)))

-- ---- scans

events_are : (scan : ℕ) → AreLines generated_points false (event_lines scan)
events_are scan = by (scan % 1000 == 10) (scan % 1000 == 990)
  where
    by : (replaces downloads : Bool) → AreLines generated_points false (if replaces then Replace (leg_in_turn (scan / 1000 % 3)) ∷ [] else if downloads then Download generated_text ∷ [] else [])
    by true downloads = (tt, tt)
    by false true = ((refl, block), tt)
    by false false = tt

moment_is : (number before : ℕ) → IsMoment generated_points (generated_moment number before)
moment_is number before =
    let x = draw number (2 * before + 1) in
    let y = draw number (2 * before + 2) in
    let e : 2 * before + 1 + 1 ≡ 2 * before + 2 = omega arith in
    let fits : y < 4294967296 = subst (λ n. draw number n < 4294967296) e (draw_fits number (2 * before + 1)) in
    record {
      lines = (
        discrete_is (x / 65536 % row_length) (x / 8388608 % 2) (omega arith) (omega arith),
        (analogue_is (y / 65536 % row_length) (y / 1048576) (omega arith) (omega (arith, fits)), events_are (before + 1)),
      );
      renames = tt;
      prepared = tt;
      asks = tt;
    }

moments_are : (number scans a n : ℕ) → a + n ≤ scans → AreMoments generated_points a scans (map (generated_moment number) (range_with_len a n))
moments_are number scans a zero h = tt
moments_are number scans a (suc n) h = (omega arith, omega (arith, h), moment_is number a, moments_are number scans (a + 1) n (omega (arith, h)))

pub is_script : (number scans : ℕ) → 1 ≤ scans → scans ≤ scan_limit → IsScript (generated number scans).value
is_script number scans low high = record {
  plant = plant;
  text = block;
  least = low;
  most = high;
  moments = moments_are number scans 0 scans (omega arith);
}

-- the same of parts that are equal
pub made : (number scans : ℕ) (points : List Point) (text : List ℕ) (schedule : List Leg) (moments : List MomentValue) → (1 ≤ scans) × (scans ≤ scan_limit) → points ≡ generated_points → text ≡ generated_text → schedule ≡ [] → moments ≡ map (generated_moment number) (range_with_len 0 scans) → IsScript (script_value points text schedule scans moments)
made number scans points text schedule moments range p t s m =
    subst (λ ps. IsScript (script_value ps text schedule scans moments)) (sym p)
    (subst (λ tx. IsScript (script_value generated_points tx schedule scans moments)) (sym t)
    (subst (λ ls. IsScript (script_value generated_points generated_text ls scans moments)) (sym s)
    (subst (λ ms. IsScript (script_value generated_points generated_text [] scans ms)) (sym m) (is_script number scans range.0 range.1))))

-- one scan more is made
pub scan_more : (number d x first second : ℕ) (moment : MomentValue) (moments new : List MomentValue) → x ≡ draw number (2 * d) → first ≡ next_draw x → second ≡ next_draw first → moment ≡ moment_of (d + 1) first second → moments ≡ map (generated_moment number) (range_with_len 0 d) → new ≡ moments ++ moment ∷ []
    → (second ≡ draw number (2 * (d + 1))) × (new ≡ map (generated_moment number) (range_with_len 0 (d + 1)))
scan_more number d x first second moment moments new h f s m ms k =
    let two = two_draws number d x h in
    let one : first ≡ draw number (2 * d + 1) = f ∙ two.0 in
    let next : second ≡ next_draw (next_draw x) = s ∙ ap next_draw f in
    let made : moment ≡ generated_moment number d = m ∙ (λ i. moment_of (d + 1) (one i) ((next ∙ two.1) i)) in
    (next ∙ two.2, k ∙ ((λ i. ms i ++ made i ∷ []) ∙ sym (map-range_with_len_more (generated_moment number) 0 d d (omega arith))))
