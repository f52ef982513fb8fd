-- A leg that has served the fewest needs can serve its next one, unless all are done.
use Rattle.std.proofs.Common.{◌≡◌, ◌↔◌, ℕ, ◌+◌, ◌*◌, ◌%◌, ◌<◌, ◌≤◌, ℤ, Bool, true, false, nat_lt, is_some, is_none, Option, Some, None, if◌then◌else◌, cond, List, length, refl, sym, ap, ◌∙◌, arith, ⊎_elim}
use Rattle.std.proofs.lemmas.Bool.{cases_lt, ltb-false, le-ltb}
use Rattle.tri_base.specs.declared.leg.Leg.TheVariants.{A, B, C}
use Rattle.tri_base.specs.declared.leg.Side.TheVariants.{Left, Right}
use Rattle.leg_laws.specs.declared.need.Need.{Need}
use Rattle.leg_laws.specs.declared.need.Need.TheVariants.{Put, Take, Done}
use Rattle.leg_laws.specs.declared.place.Place.{Place}
use Rattle.leg_laws.specs.declared.place.Place.TheVariants as p
use Rattle.leg_laws.specs.Configs.{LegValue, place_of, need_of}
use Rattle.leg_laws.specs.Places.{need_at, served}
use Rattle.leg_laws.specs.Exchanges.{Exchange, can_serve, can_step, first_enabled, AllDone}
use Rattle.leg_laws.proofs.Moves.{one_most, one_there}
use Rattle.leg_laws.specs.Counts.{served_in_round, one_from, full, put_left, put_right, took_left, took_right, needs_served, IsCounted}

full_is : (o : Option (List ℤ)) → is_none o ≡ false → full o ≡ 1
full_is None e = absurd (cc)
full_is (Some packet) e = refl

empty_is : (o : Option (List ℤ)) → is_some o ≡ false → full o ≡ 0
empty_is None e = refl
empty_is (Some packet) e = absurd (cc)

served_most : (place : Place) → served place ≤ 7
served_most p.PutLeftReadings = omega arith
served_most p.PutRightReadings = omega arith
served_most p.TakeLeftReadings = omega arith
served_most p.TakeRightReadings = omega arith
served_most p.PutLeftResult = omega arith
served_most p.PutRightResult = omega arith
served_most p.TakeLeftResult = omega arith
served_most p.TakeRightResult = omega arith

module _ (x l r : LegValue) (own_left own_right from_left from_right : Option (List ℤ))
    (on_left : put_left x ≡ took_right l + full own_left) (on_right : put_right x ≡ took_left r + full own_right)
    (off_left : put_right l ≡ took_left x + full from_left)
    (off_right : put_left r ≡ took_right x + full from_right) (least_l : needs_served x ≤ needs_served l)
    (least_r : needs_served x ≤ needs_served r) where
  -- a put to the left whose box is full
  stuck0 : (s : ℕ) → served (place_of x.config) ≡ s → s % 4 ≡ 0 → full own_left ≡ 1 → ⊥
  stuck0 s e q f =
      let o : one_from 1 (served_in_round x) ≡ 0 = ap (λ k. one_from 1 (k % 4)) e ∙ ap (one_from 1) q in
      omega (arith, on_left, o, f, e, q, least_l)

  stuck1 : (s : ℕ) → served (place_of x.config) ≡ s → s % 4 ≡ 1 → full own_right ≡ 1 → ⊥
  stuck1 s e q f =
      let o : one_from 2 (served_in_round x) ≡ 0 = ap (λ k. one_from 2 (k % 4)) e ∙ ap (one_from 2) q in
      omega (arith, on_right, o, f, e, q, least_r)

  stuck2 : (s : ℕ) → served (place_of x.config) ≡ s → s % 4 ≡ 2 → full from_left ≡ 0 → ⊥
  stuck2 s e q f =
      let o : one_from 3 (served_in_round x) ≡ 0 = ap (λ k. one_from 3 (k % 4)) e ∙ ap (one_from 3) q in
      ⊎_elim
      (λ (k : served_in_round l < 2). omega (arith, off_left, o, f, e, q, least_l, k, one_most 2 (served_in_round l)))
      (λ (k : 2 ≤ served_in_round l).
      omega (arith, off_left, o, f, e, q, least_l, k, one_there 2 (served_in_round l) k))
      (cases_lt (served_in_round l) 2)

  stuck3 : (s : ℕ) → served (place_of x.config) ≡ s → s % 4 ≡ 3 → full from_right ≡ 0 → ⊥
  stuck3 s e q f =
      ⊎_elim
      (λ (k : served_in_round r < 1). omega (arith, off_right, f, e, q, least_r, k, one_most 1 (served_in_round r)))
      (λ (k : 1 ≤ served_in_round r). omega (arith, off_right, f, e, q, least_r, k, one_there 1 (served_in_round r) k))
      (cases_lt (served_in_round r) 1)

  stuck : (place : Place) → place_of x.config ≡ place → (can : Need → Bool) → can (Put Left) ≡ is_none own_left
      → can (Put Right) ≡ is_none own_right → can (Take Left) ≡ is_some from_left
      → can (Take Right) ≡ is_some from_right
      → can (need_at place) ≡ false → ⊥
  stuck p.PutLeftReadings e can a b c d h = stuck0 0 (ap served e) refl (full_is own_left (sym a ∙ h))
  stuck p.PutRightReadings e can a b c d h = stuck1 1 (ap served e) refl (full_is own_right (sym b ∙ h))
  stuck p.TakeLeftReadings e can a b c d h = stuck2 2 (ap served e) refl (empty_is from_left (sym c ∙ h))
  stuck p.TakeRightReadings e can a b c d h = stuck3 3 (ap served e) refl (empty_is from_right (sym d ∙ h))
  stuck p.PutLeftResult e can a b c d h = stuck0 4 (ap served e) refl (full_is own_left (sym a ∙ h))
  stuck p.PutRightResult e can a b c d h = stuck1 5 (ap served e) refl (full_is own_right (sym b ∙ h))
  stuck p.TakeLeftResult e can a b c d h = stuck2 6 (ap served e) refl (empty_is from_left (sym c ∙ h))
  stuck p.TakeRightResult e can a b c d h = stuck3 7 (ap served e) refl (empty_is from_right (sym d ∙ h))

  -- the leg behind all others is done, where it can't step
  pub least_done : (can : Need → Bool) → can (Put Left) ≡ is_none own_left → can (Put Right) ≡ is_none own_right
      → can (Take Left) ≡ is_some from_left → can (Take Right) ≡ is_some from_right
      → can (need_of x) ≡ false → length x.tape.scans ≤ x.finished
  least_done can a b c d h = by (nat_lt x.finished (length x.tape.scans)) refl h
    where
      by : (t : Bool) → nat_lt x.finished (length x.tape.scans) ≡ t
          → can (if t then need_at (place_of x.config) else Done) ≡ false → length x.tape.scans ≤ x.finished
      by true e k = absurd (stuck (place_of x.config) refl can a b c d k)
      by false e k = ltb-false x.finished (length x.tape.scans) e

behind_done : (v : LegValue) → length v.tape.scans ≤ v.finished → need_of v ≡ Done
behind_done v h = ap (λ t. cond t (need_at (place_of v.config)) Done) (le-ltb v.finished (length v.tape.scans) h)

-- if no leg can step, all are done
none_steps : (w : Exchange) → IsCounted w → can_step w A ≡ false → can_step w B ≡ false → can_step w C ≡ false
    → AllDone w
none_steps w h sa sb sc =
    let a = w.legs.a in
    let b = w.legs.b in
    let c = w.legs.c in
    let la : needs_served a ≤ needs_served c → needs_served a ≤ needs_served b → length a.tape.scans ≤ a.finished =
    λ k m.
    least_done a c b w.boxes.a.left w.boxes.a.right w.boxes.c.right w.boxes.b.left h.left_a h.right_a h.right_c h.left_b
    k m (can_serve w A) refl refl refl refl sa in
    let lb : needs_served b ≤ needs_served a → needs_served b ≤ needs_served c → length b.tape.scans ≤ b.finished =
    λ k m.
    least_done b a c w.boxes.b.left w.boxes.b.right w.boxes.a.right w.boxes.c.left h.left_b h.right_b h.right_a h.left_c
    k m (can_serve w B) refl refl refl refl sb in
    let lc : needs_served c ≤ needs_served b → needs_served c ≤ needs_served a → length c.tape.scans ≤ c.finished =
    λ k m.
    least_done c b a w.boxes.c.left w.boxes.c.right w.boxes.b.right w.boxes.a.left h.left_c h.right_c h.right_b h.left_a
    k m (can_serve w C) refl refl refl refl sc in
    let all : 8 * length a.tape.scans ≤ needs_served a → 8 * length a.tape.scans ≤ needs_served b
    → 8 * length a.tape.scans ≤ needs_served c → AllDone w =
    λ x y z. (
      behind_done a (omega (arith, x, served_most (place_of a.config))),
      behind_done b (omega (arith, y, h.scans_b, served_most (place_of b.config))),
      behind_done c (omega (arith, z, h.scans_c, served_most (place_of c.config))),
    ) in
    ⊎_elim
    (λ (ab : needs_served b < needs_served a). ⊎_elim
    (λ (bc : needs_served c < needs_served b).
    let d = lc (omega (arith, bc)) (omega (arith, ab, bc)) in
    all (omega (arith, d, h.scans_c, ab, bc)) (omega (arith, d, h.scans_c, bc)) (omega (arith, d, h.scans_c)))
    (λ (bc : needs_served b ≤ needs_served c).
    let d = lb (omega (arith, ab)) bc in
    all (omega (arith, d, h.scans_b, ab)) (omega (arith, d, h.scans_b)) (omega (arith, d, h.scans_b, bc)))
    (cases_lt (needs_served c) (needs_served b)))
    (λ (ab : needs_served a ≤ needs_served b). ⊎_elim
    (λ (ac : needs_served c < needs_served a).
    let d = lc (omega (arith, ab, ac)) (omega (arith, ac)) in
    all (omega (arith, d, h.scans_c, ac)) (omega (arith, d, h.scans_c, ab, ac)) (omega (arith, d, h.scans_c)))
    (λ (ac : needs_served a ≤ needs_served c).
    let d = la ac ab in all (omega (arith, d)) (omega (arith, d, ab)) (omega (arith, d, ac)))
    (cases_lt (needs_served c) (needs_served a)))
    (cases_lt (needs_served b) (needs_served a))

none_enabled : (a b c : Bool)
    → (if a then Some A else (if b then Some B else (if c then Some C else None))) ≡ None
    → (a ≡ false) × (b ≡ false) × (c ≡ false)
none_enabled true b c e = absurd (cc)
none_enabled false true c e = absurd (cc)
none_enabled false false true e = absurd (cc)
none_enabled false false false e = (refl, refl, refl)

pub none_stuck : (w : Exchange) → IsCounted w → (first_enabled w ≡ None) ↔ AllDone w
none_stuck w h = (
  λ e. let n = none_enabled (can_step w A) (can_step w B) (can_step w C) e in none_steps w h n.0 n.1 n.2,
  λ d. λ i.
      if can_serve w A (d.0 i) then Some A
      else (if can_serve w B (d.1 i) then Some B else (if can_serve w C (d.2 i) then Some C else None)),
)
