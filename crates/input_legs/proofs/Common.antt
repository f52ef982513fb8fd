-- Legs that read the same: what is voted is what they read, and none disagrees.
use Rattle.std.specs.Prelude.{IfSome, Option, Some, None, slice_get, unsigned_abs, int_lt}
use Rattle.std.proofs.Common.{◌≡◌, ℕ, zero, suc, ◌+◌, ℤ, pos, ◌-ℤ◌, ◌≤ℤ◌, Bool, true, false, List, [], ◌∷◌, length, take, drop, map, slice_set, slice_index_or, ◌<◌, ◌++◌, refl, ap, sym, subst, ◌∙◌, arith}
use Rattle.std.specs.List.{All, AllByRecursion, AllZip}
use Rattle.std.proofs.lemmas.Int.{ints}
use Rattle.std.proofs.lemmas.Bool.Decides.{nat_tests}
use Rattle.std.proofs.lemmas.Slice.Zip.{AllZip-long}
use Rattle.std.proofs.lemmas.List.Elements.{All-filter, recursion_from_All}
use Rattle.tri_base.specs.declared.leg.Triple.{Triple}
use Rattle.tri_base.specs.declared.point.Point.{Point}
use Rattle.tri_base.specs.declared.point.PointKind.{PointKind}
use Rattle.tri_base.specs.declared.point.PointKind.TheVariants.{Di, Ai, Do, Ao}
use Rattle.chassis.specs.Points.{inputs_of, is_input_kind}
use Rattle.chassis.specs.Ranges.{Fits, HasRange, IsWithin}
use Rattle.leg_packet.specs.Readings.{Readings, readings_of}
use Rattle.leg_packet.specs.Views.{IsInViewOf}
use Rattle.leg_packet.specs.declared.views.InView.{InView}
use Rattle.vote_discrete.specs.Majority.{dissent_of}
use Rattle.vote_discrete.specs.Truths.{is_on, truths}
use Rattle.vote_analog.specs.Middle.{deviates_of, is_off, mid_of}
use Rattle.vote_analog.proofs.Ranges.{between_any}
use Rattle.input_legs.specs.Marks.{counted_from, counted_row, disagreements}
use Rattle.input_legs.specs.VotedSheets.{LieBetween, LiesBetweenAnyTwo, VotedSheet, column, read_three, vote_sheet_of}
use Rattle.input_legs.specs.Inner.Alike.{SpellAll, agreed_row, no_disagreement, three_times}
use Rattle.input_legs.proofs.Between.{votes_between}
use Rattle.input_legs.proofs.Readings.{view_shows}

-- packets with the words of the first one spell what it spells
pub spell_all : (points : List Point) (a b c : List ℤ) (r : Readings) → b ≡ a → c ≡ a → readings_of points a ≡ Some r
    → read_three points (record { a = a; b = b; c = c }) ≡ three_times r
spell_all points a b c r eb ec e =
    (λ i. read_three points (record { a = a; b = eb i; c = ec i })) ∙ (λ i. record { a = e i; b = e i; c = e i })

-- so where a view shows what the first one spells
pub spelled : (points : List Point) (a b c : List ℤ) (view : Option InView) → b ≡ a → c ≡ a
    → IsInViewOf (readings_of points a) view → IfSome view (λ v. SpellAll points (record { a = a; b = b; c = c }) v)
spelled points a b c None eb ec h = tt
spelled points a b c (Some v) eb ec h =
    spell_all points a b c (record { time = v.dt; values = v.values.now }) eb ec (sym (view_shows (readings_of points a) (Some v) h))

-- what it shows stands one for each input
pub counted : (points : List Point) (view : Option InView)
    → IfSome view (λ v. AllZip IsWithin points v.values.now) → IfSome view (λ v. length v.values.now ≡ length points)
counted points None h = tt
counted points (Some v) h = AllZip-long IsWithin points v.values.now h

-- what lies between a list and itself is that list
all_between : (xs values : List ℤ) → LieBetween xs xs values → values ≡ xs
all_between [] [] h = refl
all_between [] (v ∷ values) h = absurd h
all_between (x ∷ xs) [] h = absurd h
all_between (x ∷ xs) (v ∷ values) h =
    let first : v ≡ x = grind (arith, ints, h.0.0, h.0.1) in
    let rest = all_between xs values h.1 in
    λ i. first i ∷ rest i

-- the vote of readings that are the same
pub common_vote : (points : List Point) (packets : Triple (List ℤ)) (r : Readings) → All Fits points
    → read_three points packets ≡ three_times r
    → ((vote_sheet_of points packets).time ≡ r.time) × ((vote_sheet_of points packets).values ≡ r.values)
common_vote points packets r fit e =
    let sheet = vote_sheet_of points packets in
    let between = (subst (λ (rs : Triple (Option Readings)). LiesBetweenAnyTwo rs sheet) e (votes_between points packets fit)).0 in (
      grind (arith, ints, between.time.0, between.time.1),
      all_between r.values sheet.values between.values,
    )

-- no leg dissents from a value that all have
dissent_none : (b : Bool) → dissent_of (record { a = Some b; b = Some b; c = Some b }) ≡ no_disagreement
dissent_none true = refl
dissent_none false = refl

off_by_none : (tolerance v m : ℤ) → pos 0 ≤ℤ tolerance → m ≡ v → is_off m tolerance (Some v) ≡ false
off_by_none tolerance v m h e =
    let none : v -ℤ m ≡ pos 0 = grind (arith, ints, e) in
    ap (λ (d : ℤ). int_lt tolerance (pos (unsigned_abs d))) none ∙ grind (arith, ints, nat_tests, h)

-- nor deviates from it
deviate_none : (tolerance v : ℤ) → pos 0 ≤ℤ tolerance
    → deviates_of (record { a = Some v; b = Some v; c = Some v }) tolerance ≡ no_disagreement
deviate_none tolerance v h =
    let counts : Triple (Option ℤ) = record { a = Some v; b = Some v; c = Some v } in
    let between = between_any counts in
    let m : mid_of counts ≡ v = grind (arith, ints, between.0.0, between.0.1) in
    let off = off_by_none tolerance v (mid_of counts) h m in
    λ i. record { a = off i; b = off i; c = off i }

none_disagrees : (kind : PointKind) (low high tolerance v : ℤ) → HasRange kind low high tolerance
    → disagreements kind tolerance (record { a = Some v; b = Some v; c = Some v }) ≡ no_disagreement
none_disagrees Di low high tolerance v h = dissent_none (is_on v)
none_disagrees Do low high tolerance v h = dissent_none (is_on v)
none_disagrees Ai low high tolerance v h = deviate_none tolerance v h.4
none_disagrees Ao low high tolerance v h = deviate_none tolerance v h.4

-- the value at a place
at_place : (p : Point) (points : List Point) (values : List ℤ) (place : ℕ) → AllZip IsWithin (p ∷ points) (drop place values)
    → (v : ℤ) × (slice_get values place ≡ Some v) × AllZip IsWithin points (drop (place + 1) values)
at_place p points [] zero h = absurd h
at_place p points [] (suc place) h = absurd h
at_place p points (v ∷ values) zero h = (v, refl, h.1)
at_place p points (v ∷ values) (suc place) h =
    let rest = at_place p points values place h in
    let e : suc (place + 1) ≡ suc place + 1 = omega arith in
    (rest.0, rest.1, subst (λ k. AllZip IsWithin points (drop k (v ∷ values))) e rest.2)

counted_alike : (points : List Point) (place : ℕ) (r : Readings) (rows : List (Triple ℕ)) → AllByRecursion Fits points
    → AllZip IsWithin points (drop place r.values) → length rows ≡ length points
    → counted_from points place (three_times r) rows ≡ map agreed_row rows
counted_alike [] place r [] fit h e = refl
counted_alike [] place r (row ∷ rows) fit h e = absurd (omega (arith, e))
counted_alike (p ∷ points) place r [] fit h e = absurd (omega (arith, e))
counted_alike (p ∷ points) place r (row ∷ rows) fit h e =
    let here = at_place p points r.values place h in
    let alike : column (three_times r) place ≡ record { a = Some here.0; b = Some here.0; c = Some here.0 } = λ i. record { a = here.1 i; b = here.1 i; c = here.1 i } in
    let none : disagreements p.kind p.tolerance (column (three_times r) place) ≡ no_disagreement =
    ap (disagreements p.kind p.tolerance) alike ∙ none_disagrees p.kind p.low p.high p.tolerance here.0 fit.0 in
    let rest = counted_alike points (place + 1) r rows fit.1 here.2 (omega (arith, e)) in
    λ i. counted_row row (none i) ∷ rest i

drop_none : (values : List ℤ) → drop 0 values ≡ values
drop_none [] = refl
drop_none (v ∷ values) = refl

-- all rows, where the legs read the same
pub counted_all : (points : List Point) (r : Readings) (rows : List (Triple ℕ)) → All Fits points
    → AllZip IsWithin (inputs_of points) r.values → length rows ≡ length (inputs_of points)
    → counted_from (inputs_of points) 0 (three_times r) rows ≡ map agreed_row rows
counted_all points r rows fit h e =
    counted_alike (inputs_of points) 0 r rows
    (recursion_from_All Fits (inputs_of points) (All-filter (λ q. is_input_kind q.kind) Fits points fit))
    (subst (λ values. AllZip IsWithin (inputs_of points) values) (sym (drop_none r.values)) h) e

-- one row more is counted
pub agreed_more : (place : ℕ) (rows olds : List (Triple ℕ)) (row none : Triple ℕ)
    → rows ≡ map agreed_row (take place olds) ++ drop place olds → place < length olds
    → row ≡ agreed_row (slice_index_or rows place none)
    → slice_set rows place row ≡ map agreed_row (take (place + 1) olds) ++ drop (place + 1) olds
agreed_more place rows olds row none h within e =
    (λ i. slice_set (h i) place (e i)) ∙ (ap (λ (r : List (Triple ℕ)). slice_set (map agreed_row (take place olds) ++ drop place olds) place (agreed_row (slice_index_or r place none))) h
    ∙ by place olds within)
  where
    by : (n : ℕ) (xs : List (Triple ℕ)) → n < length xs
        → slice_set (map agreed_row (take n xs) ++ drop n xs) n (agreed_row (slice_index_or (map agreed_row (take n xs) ++ drop n xs) n none))
        ≡ map agreed_row (take (n + 1) xs) ++ drop (n + 1) xs
    by n [] h = absurd (omega (arith, h))
    by zero (x ∷ []) h = refl
    by zero (x ∷ y ∷ xs) h = refl
    by (suc n) (x ∷ xs) h =
        let e : suc (n + 1) ≡ suc n + 1 = omega arith in
        ap (λ (l : List (Triple ℕ)). agreed_row x ∷ l) (by n xs (omega (arith, h)))
        ∙ ap (λ (k : ℕ). map agreed_row (take k (x ∷ xs)) ++ drop k (x ∷ xs)) e
