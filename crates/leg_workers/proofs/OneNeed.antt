-- One need that is served keeps all that work keeps.
use Rattle.std.proofs.Common.{◌≡◌, ℤ, Bool, true, false, List, refl, sym, ap, subst}
use Rattle.tri_base.specs.declared.point.Point.{Point}
use Rattle.tri_base.specs.declared.leg.Side.{Side}
use Rattle.tri_base.specs.declared.leg.Side.TheVariants.{Left, Right}
use Rattle.engine_face.specs.Meaning.{Meaning}
use Rattle.leg_laws.specs.declared.need.Need.{Need}
use Rattle.leg_laws.specs.declared.need.Need.TheVariants.{Put, Take, Done}
use Rattle.leg_laws.specs.Configs.{LegValue, is_starved, need_of}
use Rattle.leg_laws.specs.Counts.{IsWithin}
use Rattle.leg_laws.specs.ExchangeSteps.{Puts, Takes}
use Rattle.leg_laws.specs.SentTaken.{Follows, SentTaken}
use Rattle.leg_laws.proofs.Moves.{at_put, at_take, put_goes, take_goes, adds_put_left, adds_put_right, adds_take_left, adds_take_right}
use Rattle.leg_laws.proofs.Followed.{followed_put}
use Rattle.leg_laws.proofs.FollowedTakes.{followed_take}
use Rattle.tribus.specs.Posts.{PostValue}
use Rattle.leg_workers.specs.Working.{LegAtPost, IsKept}
use Rattle.leg_workers.specs.Inner.Serving.{ServesNeed}
use Rattle.leg_workers.proofs.Kept.{kept_same}

-- ---- what a put and a take leave of a leg

pub record Stays (v v' : LegValue) : Type 0 where
  pub letter : v'.leg ≡ v.leg
  pub points : v'.points ≡ v.points
  pub tape : v'.tape ≡ v.tape
  pub given : v'.given ≡ v.given

put_stays : (m : Meaning) (v v' : LegValue) (packet : List ℤ) → Puts m v v' packet → Stays v v'
put_stays m v v' packet h = by (is_starved v') refl
  where
    by : (t : Bool) → is_starved v' ≡ t → Stays v v'
    by false e = subst (Stays v) (sym (h.fed e)) (record { letter = refl; points = refl; tape = refl; given = refl })
    by true e = subst (Stays v) (sym (h.out e)) (record { letter = refl; points = refl; tape = refl; given = refl })

take_stays : (m : Meaning) (v v' : LegValue) (packet : List ℤ) → Takes m v v' packet → Stays v v'
take_stays m v v' packet h = by (is_starved v') refl
  where
    by : (t : Bool) → is_starved v' ≡ t → Stays v v'
    by false e = subst (Stays v) (sym (h.fed e)) (record { letter = refl; points = refl; tape = refl; given = refl })
    by true e = subst (Stays v) (sym (h.out e)) (record { letter = refl; points = refl; tape = refl; given = refl })

put_within : (m : Meaning) (v v' : LegValue) (side : Side) (packet : List ℤ) → need_of v ≡ Put side
    → Puts m v v' packet → IsWithin v'
put_within m v v' Left packet e h =
    let at = at_put v Left e in
    (adds_put_left v v' at (put_goes m v v' packet Left at.need_is h)).within
put_within m v v' Right packet e h =
    let at = at_put v Right e in
    (adds_put_right v v' at (put_goes m v v' packet Right at.need_is h)).within

take_within : (m : Meaning) (v v' : LegValue) (side : Side) (packet : List ℤ) → need_of v ≡ Take side
    → Takes m v v' packet → IsWithin v'
take_within m v v' Left packet e h =
    let at = at_take v Left e in
    (adds_take_left v v' at (take_goes m v v' packet Left at.need_is h)).within
take_within m v v' Right packet e h =
    let at = at_take v Right e in
    (adds_take_right v v' at (take_goes m v v' packet Right at.need_is h)).within

-- ---- both at a post

pub served_kept : (m : List Point → Meaning) (p q : LegAtPost) → ServesNeed (m p.0.points) (need_of p.0) p q
    → IsKept m p q
served_kept m p q served = by (need_of p.0) refl served
  where
    by : (n : Need) → need_of p.0 ≡ n → ServesNeed (m p.0.points) n p q → IsKept m p q
    by (Put side) e s =
        let k = m p.0.points in
        let t = put_stays k p.0 q.0 s.0 s.1 in
        record {
          letter = t.letter;
          points = t.points;
          tape = t.tape;
          given = t.given;
          place = ap (λ (x : PostValue). x.place) s.2;
          follows =
              λ play f.
              subst (λ (l : SentTaken). Follows k play q.0 l) (sym (ap (λ (x : PostValue). x.lists) s.2))
              (followed_put k play p.0 q.0 p.1.lists side s.0 f e s.1);
          within = λ _. put_within k p.0 q.0 side s.0 e s.1;
        }
    by (Take side) e s =
        let k = m p.0.points in
        let t = take_stays k p.0 q.0 s.0 s.1 in
        record {
          letter = t.letter;
          points = t.points;
          tape = t.tape;
          given = t.given;
          place = ap (λ (x : PostValue). x.place) s.2;
          follows =
              λ play f.
              subst (λ (l : SentTaken). Follows k play q.0 l) (sym (ap (λ (x : PostValue). x.lists) s.2))
              (followed_take k play p.0 q.0 p.1.lists side s.0 f e s.1);
          within = λ _. take_within k p.0 q.0 side s.0 e s.1;
        }
    by Done e s = kept_same m p q s
