-- What is voted lies between the readings of any two legs.
use Rattle.std.specs.Prelude.{Option, Some, None, slice_get, option_map}
use Rattle.std.proofs.Common.{◌≡◌, ℕ, zero, suc, ◌+◌, ℤ, pos, negsuc, ◌≤ℤ◌, Bool, true, false, List, [], ◌∷◌, drop, refl, sym, ap, subst, ◌∙◌, arith}
use Rattle.std.specs.List.{All, AllByRecursion, AllZip}
use Rattle.std.proofs.lemmas.Int.{ints, clamps}
use Rattle.std.proofs.lemmas.List.Elements.{All-filter, recursion_from_All}
use Rattle.tri_base.specs.declared.leg.Triple.{Triple}
use Rattle.tri_base.specs.declared.point.Point.{Point}
use Rattle.tri_base.specs.declared.point.PointKind.{PointKind}
use Rattle.tri_base.specs.declared.point.PointKind.TheVariants.{Di, Ai, Do, Ao}
use Rattle.chassis.specs.Points.{inputs_of, is_input_kind}
use Rattle.chassis.specs.Ranges.{Fits, HasRange, IsDiscreteRange, IsWithin}
use Rattle.leg_packet.specs.Readings.{Readings, readings_of}
use Rattle.vote_discrete.specs.Majority.{vote_of}
use Rattle.vote_discrete.specs.Truths.{is_on, number, truths}
use Rattle.vote_analog.specs.Middle.{LiesBetween, mid_of}
use Rattle.vote_analog.proofs.Ranges.{between_any}
use Rattle.input_legs.specs.VotedSheets.{LieBetween, LiesBetweenAnyTwo, LiesBetweenTwo, VotedSheet, column, read_three, reading_at, times_of, vote_sheet_of, voted_from, voted_value}
use Rattle.input_legs.proofs.Readings.{Stands, stands}

-- ---- discrete values

-- A truth value lies between two where it is theirs wherever they are the same.
number_between : (s t u : Bool) → (s ≡ t → u ≡ s) → LiesBetween (Some (number s)) (Some (number t)) (number u)
number_between true true true h = (omega (arith, ints, clamps), omega (arith, ints, clamps))
number_between true true false h = let bad = h refl in absurd (cc)
number_between true false true h = (omega (arith, ints, clamps), omega (arith, ints, clamps))
number_between true false false h = (omega (arith, ints, clamps), omega (arith, ints, clamps))
number_between false true true h = (omega (arith, ints, clamps), omega (arith, ints, clamps))
number_between false true false h = (omega (arith, ints, clamps), omega (arith, ints, clamps))
number_between false false true h = let bad = h refl in absurd (cc)
number_between false false false h = (omega (arith, ints, clamps), omega (arith, ints, clamps))

wins_ab : (s t : Bool) (o : Option Bool) → s ≡ t → vote_of (record { a = Some s; b = Some t; c = o }) ≡ s
wins_ab true true None h = refl
wins_ab true true (Some u) h = refl
wins_ab true false o h = absurd (cc)
wins_ab false true o h = absurd (cc)
wins_ab false false None h = refl
wins_ab false false (Some u) h = refl

wins_bc : (s t : Bool) (o : Option Bool) → s ≡ t → vote_of (record { a = o; b = Some s; c = Some t }) ≡ s
wins_bc true true None h = refl
wins_bc true true (Some true) h = refl
wins_bc true true (Some false) h = refl
wins_bc true false o h = absurd (cc)
wins_bc false true o h = absurd (cc)
wins_bc false false None h = refl
wins_bc false false (Some true) h = refl
wins_bc false false (Some false) h = refl

wins_ca : (s t : Bool) (o : Option Bool) → s ≡ t → vote_of (record { a = Some t; b = o; c = Some s }) ≡ s
wins_ca true true None h = refl
wins_ca true true (Some true) h = refl
wins_ca true true (Some false) h = refl
wins_ca true false o h = absurd (cc)
wins_ca false true o h = absurd (cc)
wins_ca false false None h = refl
wins_ca false false (Some true) h = refl
wins_ca false false (Some false) h = refl

-- A reading in a discrete point's range is the word of a truth value.
is_number : (low high tolerance v : ℤ) → IsDiscreteRange low high tolerance → low ≤ℤ v → v ≤ℤ high → number (is_on v) ≡ v
is_number low high tolerance (pos zero) r l h = refl
is_number low high tolerance (pos (suc zero)) r l h = refl
is_number low high tolerance (pos (suc (suc n))) r l h = absurd (omega (arith, ints, r.1, h))
is_number low high tolerance (negsuc n) r l h = absurd (omega (arith, ints, r.0, l))

moved : (x y x' y' v : ℤ) → x ≡ x' → y ≡ y' → LiesBetween (Some x) (Some y) v → LiesBetween (Some x') (Some y') v
moved x y x' y' v e d h = subst (λ (z : ℤ × ℤ). LiesBetween (Some z.0) (Some z.1) v) (λ i. (e i, d i)) h

-- ---- one input

discrete_ab : (low high tolerance x y : ℤ) (o : Option ℤ) → IsDiscreteRange low high tolerance → (low ≤ℤ x) × (x ≤ℤ high) → (low ≤ℤ y) × (y ≤ℤ high)
    → LiesBetween (Some x) (Some y) (number (vote_of (truths (record { a = Some x; b = Some y; c = o }))))
discrete_ab low high tolerance x y o r h k =
    moved (number (is_on x)) (number (is_on y)) x y _ (is_number low high tolerance x r h.0 h.1) (is_number low high tolerance y r k.0 k.1)
    (number_between (is_on x) (is_on y) _ (wins_ab (is_on x) (is_on y) (option_map is_on o)))

discrete_bc : (low high tolerance x y : ℤ) (o : Option ℤ) → IsDiscreteRange low high tolerance → (low ≤ℤ x) × (x ≤ℤ high) → (low ≤ℤ y) × (y ≤ℤ high)
    → LiesBetween (Some x) (Some y) (number (vote_of (truths (record { a = o; b = Some x; c = Some y }))))
discrete_bc low high tolerance x y o r h k =
    moved (number (is_on x)) (number (is_on y)) x y _ (is_number low high tolerance x r h.0 h.1) (is_number low high tolerance y r k.0 k.1)
    (number_between (is_on x) (is_on y) _ (wins_bc (is_on x) (is_on y) (option_map is_on o)))

discrete_ca : (low high tolerance x y : ℤ) (o : Option ℤ) → IsDiscreteRange low high tolerance → (low ≤ℤ x) × (x ≤ℤ high) → (low ≤ℤ y) × (y ≤ℤ high)
    → LiesBetween (Some x) (Some y) (number (vote_of (truths (record { a = Some y; b = o; c = Some x }))))
discrete_ca low high tolerance x y o r h k =
    moved (number (is_on x)) (number (is_on y)) x y _ (is_number low high tolerance x r h.0 h.1) (is_number low high tolerance y r k.0 k.1)
    (number_between (is_on x) (is_on y) _ (wins_ca (is_on x) (is_on y) (option_map is_on o)))

value_ab : (kind : PointKind) (low high tolerance x y : ℤ) (o : Option ℤ) → HasRange kind low high tolerance → (low ≤ℤ x) × (x ≤ℤ high)
    → (low ≤ℤ y) × (y ≤ℤ high) → LiesBetween (Some x) (Some y) (voted_value kind (record { a = Some x; b = Some y; c = o }))
value_ab Di low high tolerance x y o r h k = discrete_ab low high tolerance x y o r h k
value_ab Do low high tolerance x y o r h k = discrete_ab low high tolerance x y o r h k
value_ab Ai low high tolerance x y o r h k = (between_any (record { a = Some x; b = Some y; c = o })).0
value_ab Ao low high tolerance x y o r h k = (between_any (record { a = Some x; b = Some y; c = o })).0

value_bc : (kind : PointKind) (low high tolerance x y : ℤ) (o : Option ℤ) → HasRange kind low high tolerance → (low ≤ℤ x) × (x ≤ℤ high)
    → (low ≤ℤ y) × (y ≤ℤ high) → LiesBetween (Some x) (Some y) (voted_value kind (record { a = o; b = Some x; c = Some y }))
value_bc Di low high tolerance x y o r h k = discrete_bc low high tolerance x y o r h k
value_bc Do low high tolerance x y o r h k = discrete_bc low high tolerance x y o r h k
value_bc Ai low high tolerance x y o r h k = (between_any (record { a = o; b = Some x; c = Some y })).1
value_bc Ao low high tolerance x y o r h k = (between_any (record { a = o; b = Some x; c = Some y })).1

value_ca : (kind : PointKind) (low high tolerance x y : ℤ) (o : Option ℤ) → HasRange kind low high tolerance → (low ≤ℤ x) × (x ≤ℤ high)
    → (low ≤ℤ y) × (y ≤ℤ high) → LiesBetween (Some x) (Some y) (voted_value kind (record { a = Some y; b = o; c = Some x }))
value_ca Di low high tolerance x y o r h k = discrete_ca low high tolerance x y o r h k
value_ca Do low high tolerance x y o r h k = discrete_ca low high tolerance x y o r h k
value_ca Ai low high tolerance x y o r h k = (between_any (record { a = Some y; b = o; c = Some x })).2
value_ca Ao low high tolerance x y o r h k = (between_any (record { a = Some y; b = o; c = Some x })).2

-- ---- all inputs

-- The value at a place, and the values behind it.
record At (p : Point) (points : List Point) (values : List ℤ) (place : ℕ) : Type 0 where
  value : ℤ
  there : slice_get values place ≡ Some value
  rest : drop place values ≡ value ∷ drop (place + 1) values
  within : IsWithin p value
  more : AllZip IsWithin points (drop (place + 1) values)

at_place : (p : Point) (points : List Point) (values : List ℤ) (place : ℕ) → AllZip IsWithin (p ∷ points) (drop place values)
    → At p points values place
at_place p points [] zero h = absurd h
at_place p points [] (suc place) h = absurd h
at_place p points (v ∷ values) zero h = record { value = v; there = refl; rest = refl; within = h.0; more = h.1 }
at_place p points (v ∷ values) (suc place) h =
    let found = at_place p points values place h in
    let e : suc (place + 1) ≡ suc place + 1 = omega arith in
    record {
      value = found.value;
      there = found.there;
      rest = found.rest ∙ ap (λ k. found.value ∷ drop k (v ∷ values)) e;
      within = found.within;
      more = subst (λ k. AllZip IsWithin points (drop k (v ∷ values))) e found.more;
    }

-- What two legs of three read, and what the vote of a point makes of any three readings.
abbrev Votes : (Option ℤ → Option ℤ → Option ℤ → Triple (Option ℤ)) → PointKind → (low high tolerance : ℤ) → Type 0
Votes put kind low high tolerance =
    (x y : ℤ) (o : Option ℤ) → HasRange kind low high tolerance → (low ≤ℤ x) × (x ≤ℤ high) → (low ≤ℤ y) × (y ≤ℤ high)
    → LiesBetween (Some x) (Some y) (voted_value kind (put (Some x) (Some y) o))

nothing_between : (xs ys : List ℤ) → AllZip IsWithin [] xs → AllZip IsWithin [] ys → LieBetween xs ys []
nothing_between [] [] h k = tt
nothing_between [] (y ∷ ys) h k = absurd k
nothing_between (x ∷ xs) ys h k = absurd h

-- Two legs' readings and the third's, each at its leg's place in the columns.
values_between : (points : List Point) (input : ℕ) (r s : Readings) (o : Option Readings) (rs : Triple (Option Readings))
    (put : Option ℤ → Option ℤ → Option ℤ → Triple (Option ℤ))
    → ((kind : PointKind) (low high tolerance : ℤ) → Votes put kind low high tolerance)
    → ((i : ℕ) → column rs i ≡ put (slice_get r.values i) (slice_get s.values i) (reading_at o i))
    → AllByRecursion Fits points → AllZip IsWithin points (drop input r.values) → AllZip IsWithin points (drop input s.values)
    → LieBetween (drop input r.values) (drop input s.values) (voted_from points input rs)
values_between [] input r s o rs put votes columns fit h k = nothing_between (drop input r.values) (drop input s.values) h k
values_between (p ∷ points) input r s o rs put votes columns fit h k =
    let x = at_place p points r.values input h in
    let y = at_place p points s.values input k in
    let put_here : column rs input ≡ put (Some x.value) (Some y.value) (reading_at o input) =
    columns input ∙ ap (λ (z : Option ℤ × Option ℤ). put z.0 z.1 (reading_at o input)) (λ i. (x.there i, y.there i)) in
    let here : LiesBetween (Some x.value) (Some y.value) (voted_value p.kind (column rs input)) =
    subst (λ readings. LiesBetween (Some x.value) (Some y.value) (voted_value p.kind readings)) (sym put_here)
    (votes p.kind p.low p.high p.tolerance x.value y.value (reading_at o input) fit.0 x.within y.within) in
    let behind = values_between points (input + 1) r s o rs put votes columns fit.1 x.more y.more in
    subst (λ (z : List ℤ × List ℤ). LieBetween z.0 z.1 (voted_from (p ∷ points) input rs)) (λ i. (sym x.rest i, sym y.rest i)) (here, behind)

drop_none : (values : List ℤ) → drop 0 values ≡ values
drop_none [] = refl
drop_none (v ∷ values) = refl

all_values : (points : List Point) (r s : Readings) (o : Option Readings) (rs : Triple (Option Readings))
    (put : Option ℤ → Option ℤ → Option ℤ → Triple (Option ℤ))
    → ((kind : PointKind) (low high tolerance : ℤ) → Votes put kind low high tolerance)
    → ((i : ℕ) → column rs i ≡ put (slice_get r.values i) (slice_get s.values i) (reading_at o i))
    → AllByRecursion Fits points → Stands points (Some r) → Stands points (Some s)
    → LieBetween r.values s.values (voted_from points 0 rs)
all_values points r s o rs put votes columns fit h k =
    subst (λ (z : List ℤ × List ℤ). LieBetween z.0 z.1 (voted_from points 0 rs))
    (λ i. (drop_none r.values i, drop_none s.values i))
    (values_between points 0 r s o rs put votes columns fit
    (subst (λ values. AllZip IsWithin points values) (sym (drop_none r.values)) h.2)
    (subst (λ values. AllZip IsWithin points values) (sym (drop_none s.values)) k.2))

abbrev sheet : Triple (Option Readings) → List Point → VotedSheet
sheet rs points = record { time = mid_of (times_of rs); values = voted_from points 0 rs }

two_ab : (points : List Point) (a b c : Option Readings) → AllByRecursion Fits points → Stands points a → Stands points b
    → LiesBetweenTwo a b (sheet (record { a = a; b = b; c = c }) points)
two_ab points None b c fit h k = tt
two_ab points (Some r) None c fit h k = tt
two_ab points (Some r) (Some s) c fit h k = record {
  time = (between_any (times_of (record { a = Some r; b = Some s; c = c }))).0;
  values = all_values points r s c (record { a = Some r; b = Some s; c = c }) (λ x y z. record { a = x; b = y; c = z }) value_ab (λ i. refl) fit h k;
}

two_bc : (points : List Point) (a b c : Option Readings) → AllByRecursion Fits points → Stands points b → Stands points c
    → LiesBetweenTwo b c (sheet (record { a = a; b = b; c = c }) points)
two_bc points a None c fit h k = tt
two_bc points a (Some r) None fit h k = tt
two_bc points a (Some r) (Some s) fit h k = record {
  time = (between_any (times_of (record { a = a; b = Some r; c = Some s }))).1;
  values = all_values points r s a (record { a = a; b = Some r; c = Some s }) (λ x y z. record { a = z; b = x; c = y }) value_bc (λ i. refl) fit h k;
}

two_ca : (points : List Point) (a b c : Option Readings) → AllByRecursion Fits points → Stands points c → Stands points a
    → LiesBetweenTwo c a (sheet (record { a = a; b = b; c = c }) points)
two_ca points a b None fit h k = tt
two_ca points None b (Some r) fit h k = tt
two_ca points (Some s) b (Some r) fit h k = record {
  time = (between_any (times_of (record { a = Some s; b = b; c = Some r }))).2;
  values = all_values points r s b (record { a = Some s; b = b; c = Some r }) (λ x y z. record { a = y; b = z; c = x }) value_ca (λ i. refl) fit h k;
}

pub votes_between : (points : List Point) (packets : Triple (List ℤ)) → All Fits points
    → LiesBetweenAnyTwo (read_three points packets) (vote_sheet_of points packets)
votes_between points packets fit =
    let inputs = inputs_of points in
    let a = readings_of points packets.a in let b = readings_of points packets.b in let c = readings_of points packets.c in
    let fits = recursion_from_All Fits inputs (All-filter (λ q. is_input_kind q.kind) Fits points fit) in
    let in_a = stands points packets.a in let in_b = stands points packets.b in let in_c = stands points packets.c in
    (two_ab inputs a b c fits in_a in_b, two_bc inputs a b c fits in_b in_c, two_ca inputs a b c fits in_c in_a)
