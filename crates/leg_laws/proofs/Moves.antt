-- What serving a need does to a leg's place, its scans and its counts, starved or not.
use Rattle.std.proofs.Common.{◌≡◌, ℕ, ℤ, ◌+◌, ◌*◌, ◌/◌, ◌%◌, ◌<◌, ◌≤◌, nat_lt, nat_le, Bool, true, false, if◌then◌else◌, cond, List, [], ◌∷◌, length, refl, sym, ap, subst, ◌∙◌, arith}
use Rattle.std.proofs.lemmas.Bool.{le-leb, ltb-true}
use Rattle.std.proofs.lemmas.List.{length-append}
use Rattle.tri_base.specs.declared.leg.Side.{Side}
use Rattle.tri_base.specs.declared.leg.Side.TheVariants.{Left, Right}
use Rattle.tri_base.specs.Legs.{leg_part}
use Rattle.engine_face.specs.Meaning.{Meaning}
use Rattle.script_text.specs.LegScans.{LegScan, scan_at}
use Rattle.leg_laws.specs.declared.need.Need.{Need}
use Rattle.leg_laws.specs.declared.need.Need.TheVariants.{Put, Take, Done}
use Rattle.leg_laws.specs.declared.place.Place.{Place}
use Rattle.leg_laws.specs.declared.place.Place.TheVariants as p
use Rattle.leg_laws.specs.Plays.{Play, scan_behind}
use Rattle.leg_laws.specs.Rounds.{Standing}
use Rattle.leg_laws.specs.Places.{need_at, next_place, finished_after, served}
use Rattle.leg_laws.specs.Configs.{Config, LegValue, PutLeftReadings, PutRightReadings, TakeLeftReadings, TakeRightReadings, PutLeftResult, PutRightResult, TakeLeftResult, TakeRightResult, Starved, place_of, need_of, starves, is_starved, scan_now}
use Rattle.leg_laws.specs.Needs.{config_after_put, config_after_take, starved}
use Rattle.leg_laws.specs.ExchangeSteps.{Puts, Takes}
use Rattle.leg_laws.specs.Counts.{rounds_done, served_in_round, one_from, put_left, put_right, took_left, took_right, needs_served, IsWithin}
use Rattle.leg_laws.specs.SentTaken.{SentTaken, CountsPackets, sent_more, taken_more}

-- ---- what no two of are one

pub take_is_put : (s t : Side) → Take s ≡ Put t → ⊥
take_is_put s t e = cc

pub put_is_take : (s t : Side) → Put s ≡ Take t → ⊥
put_is_take s t e = cc

pub put_other : Put Left ≡ Put Right → ⊥
put_other e = cc

pub take_other : Take Left ≡ Take Right → ⊥
take_other e = cc

pub true_is_false : true ≡ false → ⊥
true_is_false e = cc

done_is_put : (s : Side) → Done ≡ Put s → ⊥
done_is_put s e = cc

done_is_take : (s : Side) → Done ≡ Take s → ⊥
done_is_take s e = cc

-- ---- small numbers

pub one_most : (a b : ℕ) → one_from a b ≤ 1
one_most a b = by (nat_le a b)
  where
    by : (t : Bool) → (if t then 1 else 0) ≤ 1
    by true = omega arith
    by false = omega arith

pub one_there : (a b : ℕ) → a ≤ b → one_from a b ≡ 1
one_there a b h = ap (λ t. cond t 1 0) (le-leb a b h)

-- ---- where a leg stands

-- a leg with a need has a scan, and stands at that need
pub record At (v : LegValue) (need : Need) : Type 0 where
  pub scan : v.finished < length v.tape.scans
  pub need_is : need_at (place_of v.config) ≡ need

at_need : (v : LegValue) (need : Need) → (Done ≡ need → ⊥) → need_of v ≡ need → At v need
at_need v need not h = by (nat_lt v.finished (length v.tape.scans)) refl h
  where
    by : (t : Bool) → nat_lt v.finished (length v.tape.scans) ≡ t
        → (if t then need_at (place_of v.config) else Done) ≡ need → At v need
    by true e k = record { scan = ltb-true v.finished (length v.tape.scans) e; need_is = k }
    by false e k = absurd (not k)

pub at_put : (v : LegValue) (side : Side) → need_of v ≡ Put side → At v (Put side)
at_put v side h = at_need v (Put side) (done_is_put side) h

pub at_take : (v : LegValue) (side : Side) → need_of v ≡ Take side → At v (Take side)
at_take v side h = at_need v (Take side) (done_is_take side) h

pub scan_there : (play : Play) (v : LegValue) (s : Standing) → v.tape ≡ leg_part play.tapes v.leg
    → v.finished ≡ s.finished → scan_now v ≡ scan_behind play v.leg s.finished
scan_there play v s e f = λ i. scan_at (e i) (f i + 1)

pub place_put : (m : Meaning) (l : LegScan) (c : Config) (side : Side) → need_at (place_of c) ≡ Put side
    → place_of (config_after_put m l c) ≡ next_place (place_of c)
place_put m l (PutLeftReadings state) side n = refl
place_put m l (PutRightReadings q) side n = refl
place_put m l (TakeLeftReadings q) side n = absurd (take_is_put Left side n)
place_put m l (TakeRightReadings q left) side n = absurd (take_is_put Right side n)
place_put m l (PutLeftResult half) side n = refl
place_put m l (PutRightResult half) side n = refl
place_put m l (TakeLeftResult half) side n = absurd (take_is_put Left side n)
place_put m l (TakeRightResult half left) side n = absurd (take_is_put Right side n)
place_put m l (Starved place) side n = refl

pub starves_put : (m : Meaning) (l : LegScan) (c : Config) → starves (config_after_put m l c) ≡ starves c
starves_put m l (PutLeftReadings state) = refl
starves_put m l (PutRightReadings q) = refl
starves_put m l (TakeLeftReadings q) = refl
starves_put m l (TakeRightReadings q left) = refl
starves_put m l (PutLeftResult half) = refl
starves_put m l (PutRightResult half) = refl
starves_put m l (TakeLeftResult half) = refl
starves_put m l (TakeRightResult half left) = refl
starves_put m l (Starved place) = refl

pub place_take : (m : Meaning) (v : LegValue) (l : LegScan) (packet : List ℤ) (c : Config) (side : Side)
    → need_at (place_of c) ≡ Take side
    → place_of (config_after_take m v.points v.leg l packet c) ≡ next_place (place_of c)
place_take m v l packet (PutLeftReadings state) side n = absurd (put_is_take Left side n)
place_take m v l packet (PutRightReadings q) side n = absurd (put_is_take Right side n)
place_take m v l packet (TakeLeftReadings q) side n = refl
place_take m v l packet (TakeRightReadings q left) side n = refl
place_take m v l packet (PutLeftResult half) side n = absurd (put_is_take Left side n)
place_take m v l packet (PutRightResult half) side n = absurd (put_is_take Right side n)
place_take m v l packet (TakeLeftResult half) side n = refl
place_take m v l packet (TakeRightResult half left) side n = refl
place_take m v l packet (Starved place) side n = refl

pub starves_take : (m : Meaning) (v : LegValue) (l : LegScan) (packet : List ℤ) (c : Config)
    → starves (config_after_take m v.points v.leg l packet c) ≡ starves c
starves_take m v l packet (PutLeftReadings state) = refl
starves_take m v l packet (PutRightReadings q) = refl
starves_take m v l packet (TakeLeftReadings q) = refl
starves_take m v l packet (TakeRightReadings q left) = refl
starves_take m v l packet (PutLeftResult half) = refl
starves_take m v l packet (PutRightResult half) = refl
starves_take m v l packet (TakeLeftResult half) = refl
starves_take m v l packet (TakeRightResult half left) = refl
starves_take m v l packet (Starved place) = refl

-- ---- what is added to the counts

abbrev pub is_left : Side → ℕ
is_left Left = 1
is_left Right = 0

abbrev pub is_right : Side → ℕ
is_right Left = 0
is_right Right = 1

-- what a put adds to the counts
pub record PutAdds (place : Place) (side : Side) : Type 0 where
  pub rounds : served (next_place place) / 4 ≡ served place / 4
  pub one : one_from 1 (served (next_place place) % 4) ≡ one_from 1 (served place % 4) + is_left side
  pub two : one_from 2 (served (next_place place) % 4) ≡ one_from 2 (served place % 4) + is_right side
  pub three : one_from 3 (served (next_place place) % 4) ≡ one_from 3 (served place % 4)
  pub one_before : is_left side ≡ 1 → one_from 1 (served place % 4) ≡ 0
  pub two_before : is_right side ≡ 1 → one_from 2 (served place % 4) ≡ 0
  pub same_scan : (finished : ℕ) → finished_after place finished ≡ finished

pub put_adds : (place : Place) (side : Side) → need_at place ≡ Put side → PutAdds place side
put_adds p.PutLeftReadings Left n = record {
  rounds = refl;
  one = refl;
  two = refl;
  three = refl;
  one_before = λ e. refl;
  two_before = λ e. refl;
  same_scan = λ f. refl;
}
put_adds p.PutLeftResult Left n = record {
  rounds = refl;
  one = refl;
  two = refl;
  three = refl;
  one_before = λ e. refl;
  two_before = λ e. refl;
  same_scan = λ f. refl;
}
put_adds p.PutRightReadings Right n = record {
  rounds = refl;
  one = refl;
  two = refl;
  three = refl;
  one_before = λ e. absurd (omega (arith, e));
  two_before = λ e. refl;
  same_scan = λ f. refl;
}
put_adds p.PutRightResult Right n = record {
  rounds = refl;
  one = refl;
  two = refl;
  three = refl;
  one_before = λ e. absurd (omega (arith, e));
  two_before = λ e. refl;
  same_scan = λ f. refl;
}
put_adds p.PutLeftReadings Right n = absurd (put_other n)
put_adds p.PutLeftResult Right n = absurd (put_other n)
put_adds p.PutRightReadings Left n = absurd (put_other (sym n))
put_adds p.PutRightResult Left n = absurd (put_other (sym n))
put_adds p.TakeLeftReadings side n = absurd (take_is_put Left side n)
put_adds p.TakeRightReadings side n = absurd (take_is_put Right side n)
put_adds p.TakeLeftResult side n = absurd (take_is_put Left side n)
put_adds p.TakeRightResult side n = absurd (take_is_put Right side n)

pub record LeftAdds (place : Place) : Type 0 where
  pub finished : (n : ℕ) → finished_after place n ≡ n
  pub rounds : served (next_place place) / 4 ≡ served place / 4
  pub one : one_from 1 (served (next_place place) % 4) ≡ one_from 1 (served place % 4)
  pub two : one_from 2 (served (next_place place) % 4) ≡ one_from 2 (served place % 4)
  pub three : one_from 3 (served (next_place place) % 4) ≡ one_from 3 (served place % 4) + 1
  pub before : one_from 3 (served place % 4) ≡ 0

pub left_adds : (place : Place) → need_at place ≡ Take Left → LeftAdds place
left_adds p.TakeLeftReadings n = record {
  finished = λ x. refl;
  rounds = refl;
  one = refl;
  two = refl;
  three = refl;
  before = refl;
}
left_adds p.TakeLeftResult n = record {
  finished = λ x. refl;
  rounds = refl;
  one = refl;
  two = refl;
  three = refl;
  before = refl;
}
left_adds p.PutLeftReadings n = absurd (put_is_take Left Left n)
left_adds p.PutRightReadings n = absurd (put_is_take Right Left n)
left_adds p.TakeRightReadings n = absurd (take_other (sym n))
left_adds p.PutLeftResult n = absurd (put_is_take Left Left n)
left_adds p.PutRightResult n = absurd (put_is_take Right Left n)
left_adds p.TakeRightResult n = absurd (take_other (sym n))

pub record RightAdds (place : Place) : Type 0 where
  pub rounds : (n : ℕ) → 2 * finished_after place n + served (next_place place) / 4 ≡ 2 * n + served place / 4 + 1
  pub one : one_from 1 (served place % 4) ≡ 1
  pub two : one_from 2 (served place % 4) ≡ 1
  pub three : one_from 3 (served place % 4) ≡ 1
  pub none : served (next_place place) % 4 ≡ 0
  pub on : (n : ℕ) → n ≤ finished_after place n

pub right_adds : (place : Place) → need_at place ≡ Take Right → RightAdds place
right_adds p.TakeRightReadings n = record {
  rounds = λ n. omega arith;
  one = refl;
  two = refl;
  three = refl;
  none = refl;
  on = λ n. omega arith;
}
right_adds p.TakeRightResult n = record {
  rounds = λ n. omega arith;
  one = refl;
  two = refl;
  three = refl;
  none = refl;
  on = λ n. omega arith;
}
right_adds p.PutLeftReadings n = absurd (put_is_take Left Right n)
right_adds p.PutRightReadings n = absurd (put_is_take Right Right n)
right_adds p.TakeLeftReadings n = absurd (take_other n)
right_adds p.PutLeftResult n = absurd (put_is_take Left Right n)
right_adds p.PutRightResult n = absurd (put_is_take Right Right n)
right_adds p.TakeLeftResult n = absurd (take_other n)

-- fed or not, the leg goes on to its next need
pub record GoesOn (v v' : LegValue) : Type 0 where
  pub finished : v'.finished ≡ finished_after (place_of v.config) v.finished
  pub place : place_of v'.config ≡ next_place (place_of v.config)
  pub scans : length v'.tape.scans ≡ length v.tape.scans

-- a leg that is starved goes on as well
pub starved_goes : (v : LegValue) → GoesOn v (starved v)
starved_goes v = record { finished = refl; place = refl; scans = refl }

pub put_goes : (m : Meaning) (v v' : LegValue) (packet : List ℤ) (side : Side)
    → need_at (place_of v.config) ≡ Put side → Puts m v v' packet → GoesOn v v'
put_goes m v v' packet side n h = by (is_starved v') refl
  where
    by : (t : Bool) → is_starved v' ≡ t → GoesOn v v'
    by false e = subst (λ (w : LegValue). GoesOn v w) (sym (h.fed e)) (record {
      finished = sym ((put_adds (place_of v.config) side n).same_scan v.finished);
      place = place_put m (scan_now v) v.config side n;
      scans = refl;
    })
    by true e = subst (λ (w : LegValue). GoesOn v w) (sym (h.out e)) (record {
      finished = refl;
      place = refl;
      scans = refl;
    })

pub take_goes : (m : Meaning) (v v' : LegValue) (packet : List ℤ) (side : Side)
    → need_at (place_of v.config) ≡ Take side → Takes m v v' packet → GoesOn v v'
take_goes m v v' packet side n h = by (is_starved v') refl
  where
    by : (t : Bool) → is_starved v' ≡ t → GoesOn v v'
    by false e = subst (λ (w : LegValue). GoesOn v w) (sym (h.fed e)) (record {
      finished = refl;
      place = place_take m v (scan_now v) packet v.config side n;
      scans = refl;
    })
    by true e = subst (λ (w : LegValue). GoesOn v w) (sym (h.out e)) (record {
      finished = refl;
      place = refl;
      scans = refl;
    })

-- what a step adds to the counts of its leg
pub record Adds (v v' : LegValue) (pl pr tl tr : ℕ) : Type 0 where
  pub put_l : put_left v' ≡ put_left v + pl
  pub put_r : put_right v' ≡ put_right v + pr
  pub took_l : took_left v' ≡ took_left v + tl
  pub took_r : took_right v' ≡ took_right v + tr
  pub within : IsWithin v'
  pub scans : length v'.tape.scans ≡ length v.tape.scans

-- the needs that are served rise by one
record Rises (place : Place) : Type 0 where
  pub by_one : (n : ℕ) → 8 * finished_after place n + served (next_place place) ≡ 8 * n + served place + 1
  pub most : served place ≤ 7

rises : (place : Place) → Rises place
rises p.PutLeftReadings = record { by_one = λ n. omega arith; most = omega arith }
rises p.PutRightReadings = record { by_one = λ n. omega arith; most = omega arith }
rises p.TakeLeftReadings = record { by_one = λ n. omega arith; most = omega arith }
rises p.TakeRightReadings = record { by_one = λ n. omega arith; most = omega arith }
rises p.PutLeftResult = record { by_one = λ n. omega arith; most = omega arith }
rises p.PutRightResult = record { by_one = λ n. omega arith; most = omega arith }
rises p.TakeLeftResult = record { by_one = λ n. omega arith; most = omega arith }
rises p.TakeRightResult = record { by_one = λ n. omega arith; most = omega arith }

within_next : (v v' : LegValue) → v.finished < length v.tape.scans → GoesOn v v' → IsWithin v'
within_next v v' l g =
    let r = rises (place_of v.config) in
    let e : needs_served v' ≡ 8 * finished_after (place_of v.config) v.finished + served
    (next_place (place_of v.config)) =
    λ i. 8 * g.finished i + served (g.place i) in
    omega (arith, e, r.by_one v.finished, r.most, l, g.scans)

pub rounds_next : (v v' : LegValue) → GoesOn v v'
    → rounds_done v' ≡ 2 * finished_after (place_of v.config) v.finished + served (next_place (place_of v.config)) / 4
rounds_next v v' g = λ i. 2 * g.finished i + served (g.place i) / 4

pub put_rounds : (v v' : LegValue) (side : Side) → At v (Put side) → GoesOn v v' → rounds_done v' ≡ rounds_done v
put_rounds v v' side at g =
    let a = put_adds (place_of v.config) side at.need_is in
    rounds_next v v' g ∙ (λ i. 2 * a.same_scan v.finished i + a.rounds i)

pub left_rounds : (v v' : LegValue) → At v (Take Left) → GoesOn v v' → rounds_done v' ≡ rounds_done v
left_rounds v v' at g =
    let a = left_adds (place_of v.config) at.need_is in
    rounds_next v v' g ∙ (λ i. 2 * a.finished v.finished i + a.rounds i)

pub right_rounds : (v v' : LegValue) → At v (Take Right) → GoesOn v v' → rounds_done v' ≡ rounds_done v + 1
right_rounds v v' at g = rounds_next v v' g ∙ (right_adds (place_of v.config) at.need_is).rounds v.finished

from_next : (k : ℕ) (v v' : LegValue) → GoesOn v v'
    → one_from k (served_in_round v') ≡ one_from k (served (next_place (place_of v.config)) % 4)
from_next k v v' g = ap (λ x. one_from k (served x % 4)) g.place

pub adds_put_left : (v v' : LegValue) → At v (Put Left) → GoesOn v v' → Adds v v' 1 0 0 0
adds_put_left v v' at g =
    let a = put_adds (place_of v.config) Left at.need_is in
    let r : rounds_done v' ≡ rounds_done v = put_rounds v v' Left at g in
    record {
      put_l = omega (arith, r, from_next 1 v v' g, a.one);
      put_r = omega (arith, r, from_next 2 v v' g, a.two);
      took_l = omega (arith, r, from_next 3 v v' g, a.three);
      took_r = omega (arith, r);
      within = within_next v v' at.scan g;
      scans = g.scans;
    }

pub adds_put_right : (v v' : LegValue) → At v (Put Right) → GoesOn v v' → Adds v v' 0 1 0 0
adds_put_right v v' at g =
    let a = put_adds (place_of v.config) Right at.need_is in
    let r : rounds_done v' ≡ rounds_done v = put_rounds v v' Right at g in
    record {
      put_l = omega (arith, r, from_next 1 v v' g, a.one);
      put_r = omega (arith, r, from_next 2 v v' g, a.two);
      took_l = omega (arith, r, from_next 3 v v' g, a.three);
      took_r = omega (arith, r);
      within = within_next v v' at.scan g;
      scans = g.scans;
    }

pub adds_take_left : (v v' : LegValue) → At v (Take Left) → GoesOn v v' → Adds v v' 0 0 1 0
adds_take_left v v' at g =
    let a = left_adds (place_of v.config) at.need_is in
    let r : rounds_done v' ≡ rounds_done v = left_rounds v v' at g in
    record {
      put_l = omega (arith, r, from_next 1 v v' g, a.one);
      put_r = omega (arith, r, from_next 2 v v' g, a.two);
      took_l = omega (arith, r, from_next 3 v v' g, a.three);
      took_r = omega (arith, r);
      within = within_next v v' at.scan g;
      scans = g.scans;
    }

pub adds_take_right : (v v' : LegValue) → At v (Take Right) → GoesOn v v' → Adds v v' 0 0 0 1
adds_take_right v v' at g =
    let a = right_adds (place_of v.config) at.need_is in
    let r : rounds_done v' ≡ rounds_done v + 1 = right_rounds v v' at g in
    record {
      put_l = omega (arith, r, from_next 1 v v' g ∙ ap (one_from 1) a.none, a.one);
      put_r = omega (arith, r, from_next 2 v v' g ∙ ap (one_from 2) a.none, a.two);
      took_l = omega (arith, r, from_next 3 v v' g ∙ ap (one_from 3) a.none, a.three);
      took_r = omega (arith, r);
      within = within_next v v' at.scan g;
      scans = g.scans;
    }

-- ---- the packets that were put and taken

pub counted_put : (v v' : LegValue) (l : SentTaken) (side : Side) (packet : List ℤ) → CountsPackets v l
    → At v (Put side) → GoesOn v v' → CountsPackets v' (sent_more side packet l)
counted_put v v' l Left packet c at g = let d = adds_put_left v v' at g in record {
  sent_left = omega (arith, length-append l.sent_left (packet ∷ []), c.sent_left, d.put_l);
  sent_right = omega (arith, c.sent_right, d.put_r);
  taken_left = omega (arith, c.taken_left, d.took_l);
  taken_right = omega (arith, c.taken_right, d.took_r);
}
counted_put v v' l Right packet c at g = let d = adds_put_right v v' at g in record {
  sent_left = omega (arith, c.sent_left, d.put_l);
  sent_right = omega (arith, length-append l.sent_right (packet ∷ []), c.sent_right, d.put_r);
  taken_left = omega (arith, c.taken_left, d.took_l);
  taken_right = omega (arith, c.taken_right, d.took_r);
}

pub counted_take : (v v' : LegValue) (l : SentTaken) (side : Side) (packet : List ℤ) → CountsPackets v l
    → At v (Take side) → GoesOn v v' → CountsPackets v' (taken_more side packet l)
counted_take v v' l Left packet c at g = let d = adds_take_left v v' at g in record {
  sent_left = omega (arith, c.sent_left, d.put_l);
  sent_right = omega (arith, c.sent_right, d.put_r);
  taken_left = omega (arith, length-append l.taken_left (packet ∷ []), c.taken_left, d.took_l);
  taken_right = omega (arith, c.taken_right, d.took_r);
}
counted_take v v' l Right packet c at g = let d = adds_take_right v v' at g in record {
  sent_left = omega (arith, c.sent_left, d.put_l);
  sent_right = omega (arith, c.sent_right, d.put_r);
  taken_left = omega (arith, c.taken_left, d.took_l);
  taken_right = omega (arith, length-append l.taken_right (packet ∷ []), c.taken_right, d.took_r);
}
