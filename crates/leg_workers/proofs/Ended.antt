-- Three legs that were worked from their start to their end have played.
use Rattle.std.proofs.Common.{◌≡◌, ℤ, List, ◌++◌, length, sym, ap, subst, ◌∙◌, arith}
use Rattle.tri_base.specs.declared.point.Point.{Point}
use Rattle.tri_base.specs.declared.leg.Leg.{Leg}
use Rattle.tri_base.specs.declared.leg.Leg.TheVariants.{A, B, C}
use Rattle.tri_base.specs.declared.leg.Side.TheVariants.{Left, Right}
use Rattle.tri_base.specs.declared.leg.Triple.{Triple}
use Rattle.tri_base.specs.Legs.{leg_part, left_of, right_of}
use Rattle.engine_face.specs.Meaning.{Meaning}
use Rattle.leg_laws.specs.declared.need.Need.TheVariants.{Done}
use Rattle.leg_laws.specs.Configs.{LegValue, need_of}
use Rattle.leg_laws.specs.Counts.{IsWithin}
use Rattle.leg_laws.specs.ExchangeSteps.{leg_at_start}
use Rattle.leg_laws.specs.Plays.{Play, HaveEqualScans}
use Rattle.leg_laws.specs.SentTaken.{Follows, SentTaken, nothing_sent, packet_of}
use Rattle.leg_laws.specs.Links.{HavePlayed, IsFront, IsSettled}
use Rattle.leg_laws.proofs.Joins.{follows_start}
use Rattle.leg_laws.proofs.Settled.{settled_played}
use Rattle.tribus.specs.Posts.{AreAtTheirPlaces, PostPlace, PostValue, first_posts}
use Rattle.tribus.specs.Settling.{KeepsLists, SettledPost, LosesNothing, left_on}
use Rattle.leg_workers.specs.Working.{LegAtPost, IsWorked}
use Rattle.leg_workers.specs.Playing.{AreAtStart, HavePlayedOver, KeepNotes, PlaysOver}

-- ---- one leg

-- a leg that followed a play to its end
pub record HasEnded (m : Meaning) (play : Play) (x : Leg) (v : LegValue) (l : SentTaken) : Type 0 where
  pub letter : v.leg ≡ x
  pub follows : Follows m play v l
  pub done : need_of v ≡ Done
  pub within : IsWithin v

pub within_at_start : (m : Meaning) (play : Play) (x : Leg) → IsWithin (leg_at_start m play x)
within_at_start m play x = omega arith

pub has_ended : (m : List Point → Meaning) (play : Play) (x : Leg) (was now : LegAtPost)
    → was.0 ≡ leg_at_start (m play.points) play x → was.1.lists ≡ nothing_sent → IsWorked m was now
    → HasEnded (m play.points) play x now.0 now.1.lists
has_ended m play x was now e l w =
    let k = m play.points in
    let at : was.0.points ≡ play.points = ap (λ (v : LegValue). v.points) e in
    let begun : Follows k play was.0 was.1.lists =
    subst (λ (p : LegValue × SentTaken). Follows k play p.0 p.1) (λ i. (sym e i, sym l i)) (follows_start k play x) in
    record {
      letter = w.0.letter ∙ ap (λ (v : LegValue). v.leg) e;
      follows =
          subst (λ (ps : List Point). Follows (m ps) play was.0 was.1.lists → Follows (m ps) play now.0 now.1.lists) at
          (w.0.follows play) begun;
      done = w.1;
      within = w.0.within (subst IsWithin (sym e) (within_at_start k play x));
    }

-- ---- three of them

is_front : (taken sent : List (List ℤ)) → sent ≡ taken → IsFront taken sent
is_front taken sent e = (
  omega (arith, ap length e),
  λ r h. sym (ap (λ (l : List (List ℤ)). packet_of l r) e),
)

module _ (m : Meaning) (play : Play) (same : HaveEqualScans play) (bus : Triple SettledPost) (whole : LosesNothing bus)
  where
    settled : IsSettled (λ x. (leg_part bus x).lists) (λ x side. left_on side (leg_part bus x))
    settled = record { from_left = from_left; from_right = from_right }
      where
        from_left : (x : Leg)
            → IsFront ((leg_part bus x).lists.taken_left ++ left_on Left (leg_part bus x)) (leg_part bus (left_of x)).lists.sent_right
        from_left x = is_front _ _ (whole x Left)

        from_right : (x : Leg)
            → IsFront ((leg_part bus x).lists.taken_right ++ left_on Right (leg_part bus x)) (leg_part bus (right_of x)).lists.sent_left
        from_right x = is_front _ _ (whole x Right)

    -- legs that each followed the play over the bus have played
    pub played : (vs : Leg → LegValue) → ((x : Leg) → HasEnded m play x (vs x) (leg_part bus x).lists)
        → HavePlayed m play vs (λ x side. left_on side (leg_part bus x))
    played vs ended =
        settled_played m play vs (λ x. (leg_part bus x).lists) (λ x side. left_on side (leg_part bus x)) same
        (record {
          letters = λ x. (ended x).letter;
          follows = λ x. (ended x).follows;
          done = λ x. (ended x).done;
          within = λ x. (ended x).within;
        })
        settled

    pub played_over : (legs : Triple LegValue)
        → ((x : Leg) → HasEnded m play x (leg_part legs x) (leg_part bus x).lists) → HavePlayedOver m play legs bus
    played_over legs ended =
        let p = played (leg_part legs) ended in
        record {
          done = λ x. (ended x).done;
          follows = λ x. (ended x).follows;
          none_left = p.none_left;
          in_step = p.in_step;
        }

-- each of three
pub each_leg : (P : Leg → Type 0) → P A → P B → P C → (x : Leg) → P x
each_leg P a b c A = a
each_leg P a b c B = b
each_leg P a b c C = c

-- three that were worked from their start on, over a bus that is settled
pub legs_played : (m : List Point → Meaning) (play : Play) → HaveEqualScans play → (legs : Triple LegValue)
    (places : Triple PostPlace) (posts : Triple PostValue) (now : Triple LegAtPost) (bus : Triple SettledPost)
    → AreAtStart (m play.points) play legs → posts ≡ first_posts places → IsWorked m (legs.a, posts.a) now.a
    → IsWorked m (legs.b, posts.b) now.b → IsWorked m (legs.c, posts.c) now.c
    → KeepsLists (record { a = now.a.1; b = now.b.1; c = now.c.1 }) bus → LosesNothing bus
    → HavePlayedOver (m play.points) play (record { a = now.a.0; b = now.b.0; c = now.c.0 }) bus
legs_played m play same legs places posts now bus start first a b c lists whole =
    played_over (m play.points) play same bus whole (record { a = now.a.0; b = now.b.0; c = now.c.0 }) each
  where
    each : (x : Leg)
        → HasEnded (m play.points) play x (leg_part (record { a = now.a.0; b = now.b.0; c = now.c.0 }) x)
        (leg_part bus x).lists
    each A =
        subst (λ (l : SentTaken). HasEnded (m play.points) play A now.a.0 l) (sym lists.0)
        (has_ended m play A (legs.a, posts.a) now.a (ap (λ (t : Triple LegValue). t.a) start)
        (ap (λ (p : Triple PostValue). p.a.lists) first) a)
    each B =
        subst (λ (l : SentTaken). HasEnded (m play.points) play B now.b.0 l) (sym lists.1)
        (has_ended m play B (legs.b, posts.b) now.b (ap (λ (t : Triple LegValue). t.b) start)
        (ap (λ (p : Triple PostValue). p.b.lists) first) b)
    each C =
        subst (λ (l : SentTaken). HasEnded (m play.points) play C now.c.0 l) (sym lists.2)
        (has_ended m play C (legs.c, posts.c) now.c (ap (λ (t : Triple LegValue). t.c) start)
        (ap (λ (p : Triple PostValue). p.c.lists) first) c)

-- the posts are back at their places
pub at_places : (m : List Point → Meaning) (legs : Triple LegValue) (places : Triple PostPlace) (posts : Triple PostValue)
    (now : Triple LegAtPost) → posts ≡ first_posts places → IsWorked m (legs.a, posts.a) now.a
    → IsWorked m (legs.b, posts.b) now.b → IsWorked m (legs.c, posts.c) now.c
    → AreAtTheirPlaces places (record { a = now.a.1; b = now.b.1; c = now.c.1 })
at_places m legs places posts now first a b c = (
  a.0.place ∙ ap (λ (p : Triple PostValue). p.a.place) first,
  b.0.place ∙ ap (λ (p : Triple PostValue). p.b.place) first,
  c.0.place ∙ ap (λ (p : Triple PostValue). p.c.place) first,
)

-- and no note was taken away
pub notes_kept : (m : List Point → Meaning) (legs : Triple LegValue) (posts : Triple PostValue) (now : Triple LegAtPost)
    → IsWorked m (legs.a, posts.a) now.a → IsWorked m (legs.b, posts.b) now.b → IsWorked m (legs.c, posts.c) now.c
    → KeepNotes legs (record { a = now.a.0; b = now.b.0; c = now.c.0 })
notes_kept m legs posts now a b c A = a.0.given
notes_kept m legs posts now a b c B = b.0.given
notes_kept m legs posts now a b c C = c.0.given

pub plays_over : (m : List Point → Meaning) (legs : Triple LegValue) (places : Triple PostPlace) (posts : Triple PostValue)
    (now : Triple LegAtPost) (bus : Triple SettledPost) → posts ≡ first_posts places
    → IsWorked m (legs.a, posts.a) now.a → IsWorked m (legs.b, posts.b) now.b → IsWorked m (legs.c, posts.c) now.c
    → KeepsLists (record { a = now.a.1; b = now.b.1; c = now.c.1 }) bus → LosesNothing bus
    → PlaysOver m legs (record { a = now.a.0; b = now.b.0; c = now.c.0 }) bus
plays_over m legs places posts now bus first a b c lists whole = record {
  played = λ play same start. legs_played m play same legs places posts now bus start first a b c lists whole;
  notes = notes_kept m legs posts now a b c;
}
