-- What a packet's readings are known to be: one value for each input, in its range, and so a count of 16 bits.
use Rattle.std.specs.Prelude.{Option, Some, None, slice_get}
use Rattle.std.proofs.Common.{◌≡◌, ℕ, ℤ, pos, ◌≤ℤ◌, Bool, true, false, ◌&&◌, cond, List, [], ◌∷◌, refl, subst, arith}
use Rattle.std.specs.Prelude.{int_le}
use Rattle.std.specs.List.{All, AllByRecursion, AllZip}
use Rattle.std.specs.Ordering.{int_eq}
use Rattle.std.proofs.lemmas.Bool.{and_parts}
use Rattle.std.proofs.lemmas.Bool.Decides.{nat_tests}
use Rattle.std.proofs.lemmas.Int.{ints}
use Rattle.std.proofs.lemmas.List.Elements.{All-nil, All-cons, All-filter, recursion_from_All}
use Rattle.std.proofs.lemmas.Option.{slice_get_within, get_or_from_slice_get}
use Rattle.tri_base.specs.declared.point.Point.{Point}
use Rattle.tri_base.specs.declared.point.PointKind.{PointKind}
use Rattle.tri_base.specs.declared.point.PointKind.TheVariants.{Di, Ai, Do, Ao}
use Rattle.chassis.specs.Points.{inputs_of, is_input_kind}
use Rattle.chassis.specs.Ranges.{Fits, HasRange, IsWithin, are_within, is_within}
use Rattle.leg_packet.specs.Readings.{Readings, readings_of}
use Rattle.leg_packet.specs.Views.{IsInViewOf}
use Rattle.leg_packet.specs.declared.views.InView.{InView}
use Rattle.tri_base.specs.Limits.{scan_time_limit}
use Rattle.vote_analog.specs.Middle.{IsCount}
use Rattle.input_legs.specs.Inner.Counts.{HoldsCounts}
use Rattle.input_legs.specs.Inner.Shown.{shown_in}

-- A view shows the readings that it is a view of.
pub view_shows : (r : Option Readings) (v : Option InView) → IsInViewOf r v → shown_in v ≡ r
view_shows None None h = refl
view_shows None (Some v) h = absurd h
view_shows (Some r) None h = absurd h
view_shows (Some r) (Some v) h = λ i. Some (record { time = h.dt i; values = h.values i })

at_most : (a b : ℤ) → int_le a b ≡ true → a ≤ℤ b
at_most a b h = grind (arith, ints, nat_tests)

-- Values that pass the test lie in their points' ranges.
zip_within : (points : List Point) (values : List ℤ) → are_within points values ≡ true → AllZip IsWithin points values
zip_within [] [] h = tt
zip_within [] (value ∷ values) h = absurd (cc)
zip_within (point ∷ points) [] h = absurd (cc)
zip_within (point ∷ points) (value ∷ values) h =
    let parts = and_parts (is_within point value) (are_within points values) h in
    let ends = and_parts (int_le point.low value) (int_le value point.high) parts.0 in
    ((at_most point.low value ends.0, at_most value point.high ends.1), zip_within points values parts.1)

range_count : (kind : PointKind) (low high tolerance v : ℤ) → HasRange kind low high tolerance → low ≤ℤ v → v ≤ℤ high → IsCount (Some v)
range_count Di low high tolerance v h l k = (grind (arith, ints), grind (arith, ints))
range_count Do low high tolerance v h l k = (grind (arith, ints), grind (arith, ints))
range_count Ai low high tolerance v h l k = (omega (arith, ints, h.0), omega (arith, ints, h.3))
range_count Ao low high tolerance v h l k = (omega (arith, ints, h.0), omega (arith, ints, h.3))

all_counts : (points : List Point) (values : List ℤ) → AllByRecursion Fits points → AllZip IsWithin points values
    → All (λ v. IsCount (Some v)) values
all_counts [] [] fit h = All-nil (λ v. IsCount (Some v))
all_counts [] (value ∷ values) fit h = absurd h
all_counts (point ∷ points) [] fit h = All-nil (λ v. IsCount (Some v))
all_counts (point ∷ points) (value ∷ values) fit h =
    All-cons (λ v. IsCount (Some v)) value values
    (range_count point.kind point.low point.high point.tolerance value fit.0 h.0.0 h.0.1)
    (all_counts points values fit.1 h.1)

-- Readings have a scan time and one value for each input, in its range.
abbrev pub Stands : List Point → Option Readings → Type 0
Stands points None = Unit {0}
Stands points (Some r) = (pos 1 ≤ℤ r.time) × (r.time ≤ℤ scan_time_limit) × AllZip IsWithin points r.values

pub stands : (points : List Point) (p : List ℤ) → Stands (inputs_of points) (readings_of points p)
stands points [] = tt
stands points (word ∷ []) = tt
stands points (word ∷ time ∷ values) =
    by (int_eq word (pos 1) && int_le (pos 1) time && int_le time (scan_time_limit) && are_within (inputs_of points) values) refl
  where
    by : (t : Bool) → (int_eq word (pos 1) && int_le (pos 1) time && int_le time (scan_time_limit) && are_within (inputs_of points) values) ≡ t
        → Stands (inputs_of points) (cond t (Some (record { time = time; values = values })) None)
    by true e =
        let whole = and_parts (int_eq word (pos 1) && int_le (pos 1) time && int_le time (scan_time_limit)) (are_within (inputs_of points) values) e in
        let times = and_parts (int_eq word (pos 1) && int_le (pos 1) time) (int_le time (scan_time_limit)) whole.0 in
        let heads = and_parts (int_eq word (pos 1)) (int_le (pos 1) time) times.0 in
        (at_most (pos 1) time heads.1, at_most time (scan_time_limit) times.1, zip_within (inputs_of points) values whole.1)
    by false e = tt

hold : (points : List Point) (r : Option Readings) → AllByRecursion Fits points → Stands points r → HoldsCounts r
hold points None fit h = tt
hold points (Some r) fit h = (h.0, h.1, all_counts points r.values fit h.2)

-- All that a packet's readings hold are counts.
pub counts_read : (points : List Point) (p : List ℤ) → All Fits points → HoldsCounts (readings_of points p)
counts_read points p fit =
    hold (inputs_of points) (readings_of points p)
    (recursion_from_All Fits (inputs_of points) (All-filter (λ q. is_input_kind q.kind) Fits points fit))
    (stands points p)

-- What stands at a place of counts is a count.
pub count_at : (values : List ℤ) (place : ℕ) → All (λ v. IsCount (Some v)) values → IsCount (slice_get values place)
count_at values place h = by (slice_get values place) refl
  where
    by : (o : Option ℤ) → slice_get values place ≡ o → IsCount o
    by None e = tt
    by (Some v) e =
        subst (λ w. IsCount (Some w)) (get_or_from_slice_get values place v v e)
        (h place v (slice_get_within values place v e))
