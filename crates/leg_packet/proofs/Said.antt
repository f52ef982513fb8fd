-- What a view says of the packet.
use Rattle.std.proofs.Common.{◌≡◌, ◌≢◌, ℤ, pos, ◌≤ℤ◌, int_le, Bool, true, false, ◌&&◌, if◌then◌else◌, Option, Some, None, unwrap_or, List, [], ◌∷◌, refl, sym, ap, subst, ◌∙◌, arith}
use Rattle.std.specs.Option.{IfSome, IfNone}
use Rattle.std.specs.List.{AllZip}
use Rattle.std.specs.Ordering.{int_eq}
use Rattle.std.proofs.lemmas.Bool.{and_parts, and_from, cond-true}
use Rattle.std.proofs.lemmas.Bool.Decides.{Decides-int_eq, nat_tests}
use Rattle.std.proofs.lemmas.Int.{ints}
use Rattle.tri_base.specs.declared.point.Point.{Point}
use Rattle.chassis.specs.Points.{inputs_of}
use Rattle.chassis.specs.Ranges.{IsWithin, are_within}
use Rattle.leg_packet.specs.Readings.{Readings, AreCanonical, spelled_readings, readings_of}
use Rattle.leg_packet.specs.Sheets.{Sheet, IsCanonical, spelled, sheet_of}
use Rattle.leg_packet.specs.Views.{Shows, IsViewOf, InShows, IsInViewOf}
use Rattle.leg_packet.specs.declared.views.OutView.{OutView}
use Rattle.leg_packet.specs.declared.views.InView.{InView}
use Rattle.leg_packet.proofs.Codec.{spelled_back, read_back}

no_some : {A : Type 0} (a : A) → ◌≡◌ {A = Option A} None (Some a) → ⊥
no_some a e = cc

same_some : {A : Type 0} (a b : A) → ◌≡◌ {A = Option A} (Some a) (Some b) → a ≡ b
same_some a b e = ap (λ o. unwrap_or o a) e

abbrev SaysSheet : List ℤ → OutView → Type 0
SaysSheet p v = (s : Sheet) × IsCanonical s × (spelled s ≡ p) × Shows s v

pub some_said : (p : List ℤ) (r : Option OutView) → IsViewOf (sheet_of p) r → IfSome r (SaysSheet p)
some_said p r h = by (sheet_of p) r refl h
  where
    by : (o : Option Sheet) (r : Option OutView) → sheet_of p ≡ o → IsViewOf o r → IfSome r (SaysSheet p)
    by (Some s) (Some v) e k = let b = spelled_back p s e in (s, b.0, b.1, k)
    by None (Some v) e k = absurd k
    by (Some s) None e k = tt
    by None None e k = tt

pub none_said : (p : List ℤ) (r : Option OutView) → IsViewOf (sheet_of p) r → IfNone r ((s : Sheet) → IsCanonical s → spelled s ≢ p)
none_said p r h = by (sheet_of p) r refl h
  where
    by : (o : Option Sheet) (r : Option OutView) → sheet_of p ≡ o → IsViewOf o r → IfNone r ((s : Sheet) → IsCanonical s → spelled s ≢ p)
    by o (Some v) e k = tt
    by (Some s) None e k = absurd k
    by None None e k = λ s c q. no_some s (sym e ∙ ap sheet_of (sym q) ∙ read_back s c)

-- ---- readings

within_back : (points : List Point) (values : List ℤ) → are_within points values ≡ true → AllZip IsWithin points values
within_back [] [] h = tt
within_back [] (value ∷ values) h = absurd (cc)
within_back (point ∷ points) [] h = absurd (cc)
within_back (point ∷ points) (value ∷ values) h =
    let p = and_parts (int_le point.low value && int_le value point.high) (are_within points values) h in
    let q = and_parts (int_le point.low value) (int_le value point.high) p.0 in
    ((order point.low value q.0, order value point.high q.1), within_back points values p.1)
  where
    order : (a b : ℤ) → int_le a b ≡ true → a ≤ℤ b
    order a b e = grind (arith, ints, nat_tests)

within_read : (points : List Point) (values : List ℤ) → AllZip IsWithin points values → are_within points values ≡ true
within_read [] [] h = refl
within_read [] (value ∷ values) h = absurd h
within_read (point ∷ points) [] h = absurd h
within_read (point ∷ points) (value ∷ values) h =
    and_from (int_le point.low value && int_le value point.high) (are_within points values)
    (and_from (int_le point.low value) (int_le value point.high) (test point.low value h.0.0) (test value point.high h.0.1)) (within_read points values h.1)
  where
    test : (a b : ℤ) → a ≤ℤ b → int_le a b ≡ true
    test a b e = grind (arith, ints, nat_tests)

ordered : (a b : ℤ) → int_le a b ≡ true → a ≤ℤ b
ordered a b e = grind (arith, ints, nat_tests)

tested : (a b : ℤ) → a ≤ℤ b → int_le a b ≡ true
tested a b e = grind (arith, ints, nat_tests)

pub readings_back : (points : List Point) (p : List ℤ) (r : Readings) → readings_of points p ≡ Some r → AreCanonical points r × (spelled_readings r ≡ p)
readings_back points [] r h = absurd (no_some r h)
readings_back points (k ∷ []) r h = absurd (no_some r h)
readings_back points (k ∷ t ∷ values) r h = by (int_eq k (pos 1) && int_le (pos 1) t && int_le t (pos 10000) && are_within (inputs_of points) values) refl h
  where
    by : (b : Bool) → (int_eq k (pos 1) && int_le (pos 1) t && int_le t (pos 10000) && are_within (inputs_of points) values) ≡ b → (if b then Some (record { time = t; values = values }) else None) ≡ Some r
        → AreCanonical points r × (spelled_readings r ≡ k ∷ t ∷ values)
    by false e q = absurd (no_some r q)
    by true e q =
        let p3 = and_parts (int_eq k (pos 1) && int_le (pos 1) t && int_le t (pos 10000)) (are_within (inputs_of points) values) e in
        let p2 = and_parts (int_eq k (pos 1) && int_le (pos 1) t) (int_le t (pos 10000)) p3.0 in
        let p1 = and_parts (int_eq k (pos 1)) (int_le (pos 1) t) p2.0 in
        let one : k ≡ pos 1 = (Decides-int_eq k (pos 1)).0 p1.0 in
        let x : Readings = record { time = t; values = values } in
        subst (λ (y : Readings). AreCanonical points y × (spelled_readings y ≡ k ∷ t ∷ values)) (same_some x r q)
        (record { from = ordered (pos 1) t p1.1; to = ordered t (pos 10000) p2.1; values = within_back (inputs_of points) values p3.1 }, λ i. sym one i ∷ t ∷ values)

pub readings_read : (points : List Point) (r : Readings) → AreCanonical points r → readings_of points (spelled_readings r) ≡ Some r
readings_read points r c =
    let all : (int_eq (pos 1) (pos 1) && int_le (pos 1) r.time && int_le r.time (pos 10000) && are_within (inputs_of points) r.values) ≡ true =
    and_from (int_eq (pos 1) (pos 1) && int_le (pos 1) r.time && int_le r.time (pos 10000)) (are_within (inputs_of points) r.values)
    (and_from (int_eq (pos 1) (pos 1) && int_le (pos 1) r.time) (int_le r.time (pos 10000))
    (and_from (int_eq (pos 1) (pos 1)) (int_le (pos 1) r.time) ((Decides-int_eq (pos 1) (pos 1)).1 refl) (tested (pos 1) r.time c.from)) (tested r.time (pos 10000) c.to))
    (within_read (inputs_of points) r.values c.values) in
    cond-true _ _ _ all

abbrev SaysReadings : List Point → List ℤ → InView → Type 0
SaysReadings points p v = (r : Readings) × AreCanonical points r × (spelled_readings r ≡ p) × InShows r v

pub some_in_said : (points : List Point) (p : List ℤ) (r : Option InView) → IsInViewOf (readings_of points p) r → IfSome r (SaysReadings points p)
some_in_said points p r h = by (readings_of points p) r refl h
  where
    by : (o : Option Readings) (r : Option InView) → readings_of points p ≡ o → IsInViewOf o r → IfSome r (SaysReadings points p)
    by (Some s) (Some v) e k = let b = readings_back points p s e in (s, b.0, b.1, k)
    by None (Some v) e k = absurd k
    by (Some s) None e k = tt
    by None None e k = tt

pub none_in_said : (points : List Point) (p : List ℤ) (r : Option InView) → IsInViewOf (readings_of points p) r → IfNone r ((s : Readings) → AreCanonical points s → spelled_readings s ≢ p)
none_in_said points p r h = by (readings_of points p) r refl h
  where
    by : (o : Option Readings) (r : Option InView) → readings_of points p ≡ o → IsInViewOf o r → IfNone r ((s : Readings) → AreCanonical points s → spelled_readings s ≢ p)
    by o (Some v) e k = tt
    by (Some s) None e k = absurd k
    by None None e k = λ s c q. no_some s (sym e ∙ ap (readings_of points) (sym q) ∙ readings_read points s c)
