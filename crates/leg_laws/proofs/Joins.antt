-- Each step keeps what ties the legs and their boxes to what was put and taken.
use Rattle.std.proofs.Common.{◌≡◌, ℕ, ℤ, Option, Some, None, option_to_list, List, [], ◌∷◌, ◌++◌, refl, sym, ap, subst, ◌∙◌, arith}
use Rattle.std.proofs.lemmas.List.{append-nil}
use Rattle.tri_base.specs.declared.leg.Leg.{Leg}
use Rattle.tri_base.specs.declared.leg.Leg.TheVariants.{A, B, C}
use Rattle.tri_base.specs.declared.leg.Side.TheVariants.{Left, Right}
use Rattle.tri_base.specs.declared.leg.Triple.{Triple}
use Rattle.tri_base.specs.declared.point.Point.{Point}
use Rattle.engine_face.specs.Meaning.{Meaning}
use Rattle.leg_laws.specs.declared.need.Need.{Need}
use Rattle.leg_laws.specs.declared.need.Need.TheVariants.{Put, Take, Done}
use Rattle.leg_laws.specs.Configs.{need_of}
use Rattle.leg_laws.specs.Plays.{Play}
use Rattle.leg_laws.specs.Exchanges.{Exchange}
use Rattle.leg_laws.specs.ExchangeSteps.{Puts, Takes, Serves, ExchangeStep, Reaches, leg_at_start, exchange_at_start}
use Rattle.leg_laws.specs.SentTaken.{SentTaken, nothing_sent, Follows, PutsIn, sent_more, taken_more, by_taken}
use Rattle.leg_laws.specs.Links.{Joined}
use Rattle.leg_laws.proofs.Followed.{followed_put}
use Rattle.leg_laws.proofs.FollowedTakes.{followed_take}

abbrev JoinedSome : Meaning → Play → Exchange → Type 0
JoinedSome m play w = (t : Triple SentTaken) × Joined m play w t

-- a packet into an empty box
filled : (sent taken : List (List ℤ)) (box : Option (List ℤ)) (packet : List ℤ) → sent ≡ taken ++ option_to_list box
    → box ≡ None → sent ++ packet ∷ [] ≡ taken ++ option_to_list (Some packet)
filled sent taken box packet e b =
    ap (λ l. l ++ packet ∷ []) (e ∙ (ap (λ o. taken ++ option_to_list o) b ∙ append-nil taken))

-- the packet out of a full box
emptied : (sent taken : List (List ℤ)) (box : Option (List ℤ)) (packet : List ℤ)
    → sent ≡ taken ++ option_to_list box → box ≡ Some packet → sent ≡ (taken ++ packet ∷ []) ++ option_to_list None
emptied sent taken box packet e b =
    e ∙ (ap (λ o. taken ++ option_to_list o) b ∙ sym (append-nil (taken ++ packet ∷ [])))

module _ (m : List Point → Meaning) (play : Play) where
  join_a : (w w' : Exchange) → JoinedSome (m play.points) play w → ExchangeStep m w A w'
      → JoinedSome (m play.points) play w'
  join_a w w' j step = by (need_of w.legs.a) refl step
    where
      t : Triple SentTaken
      t = j.0

      h : Joined (m play.points) play w t
      h = j.1

      by : (n : Need) → need_of w.legs.a ≡ n → Serves m w A n w' → JoinedSome (m play.points) play w'
      by (Put Left) e s =
          let puts = subst (λ (ps : List Point). Puts (m ps) w.legs.a s.1 s.0) h.follows_a.points s.3 in
          let u : Triple SentTaken = record { a = sent_more Left s.0 t.a; b = t.b; c = t.c } in (
            u,
            subst (λ (x : Exchange). Joined (m play.points) play x u) (sym s.4) (record {
              follows_a = followed_put (m play.points) play w.legs.a s.1 t.a Left s.0 h.follows_a e puts;
              follows_b = h.follows_b;
              follows_c = h.follows_c;
              left_a = filled t.a.sent_left t.c.taken_right w.boxes.a.left s.0 h.left_a s.2;
              left_b = h.left_b;
              left_c = h.left_c;
              right_a = h.right_a;
              right_b = h.right_b;
              right_c = h.right_c;
            }),
          )
      by (Put Right) e s =
          let puts = subst (λ (ps : List Point). Puts (m ps) w.legs.a s.1 s.0) h.follows_a.points s.3 in
          let u : Triple SentTaken = record { a = sent_more Right s.0 t.a; b = t.b; c = t.c } in (
            u,
            subst (λ (x : Exchange). Joined (m play.points) play x u) (sym s.4) (record {
              follows_a = followed_put (m play.points) play w.legs.a s.1 t.a Right s.0 h.follows_a e puts;
              follows_b = h.follows_b;
              follows_c = h.follows_c;
              left_a = h.left_a;
              left_b = h.left_b;
              left_c = h.left_c;
              right_a = filled t.a.sent_right t.b.taken_left w.boxes.a.right s.0 h.right_a s.2;
              right_b = h.right_b;
              right_c = h.right_c;
            }),
          )
      by (Take Left) e s =
          let takes = subst (λ (ps : List Point). Takes (m ps) w.legs.a s.1 s.0) h.follows_a.points s.3 in
          let u : Triple SentTaken = record { a = taken_more Left s.0 t.a; b = t.b; c = t.c } in (
            u,
            subst (λ (x : Exchange). Joined (m play.points) play x u) (sym s.4) (record {
              follows_a = followed_take (m play.points) play w.legs.a s.1 t.a Left s.0 h.follows_a e takes;
              follows_b = h.follows_b;
              follows_c = h.follows_c;
              left_a = h.left_a;
              left_b = h.left_b;
              left_c = h.left_c;
              right_a = h.right_a;
              right_b = h.right_b;
              right_c = emptied t.c.sent_right t.a.taken_left w.boxes.c.right s.0 h.right_c s.2;
            }),
          )
      by (Take Right) e s =
          let takes = subst (λ (ps : List Point). Takes (m ps) w.legs.a s.1 s.0) h.follows_a.points s.3 in
          let u : Triple SentTaken = record { a = taken_more Right s.0 t.a; b = t.b; c = t.c } in (
            u,
            subst (λ (x : Exchange). Joined (m play.points) play x u) (sym s.4) (record {
              follows_a = followed_take (m play.points) play w.legs.a s.1 t.a Right s.0 h.follows_a e takes;
              follows_b = h.follows_b;
              follows_c = h.follows_c;
              left_a = h.left_a;
              left_b = emptied t.b.sent_left t.a.taken_right w.boxes.b.left s.0 h.left_b s.2;
              left_c = h.left_c;
              right_a = h.right_a;
              right_b = h.right_b;
              right_c = h.right_c;
            }),
          )
      by Done e s = absurd s

  -- the ring, turned: B stands where A stood
  abbrev turned : Exchange → Exchange
  turned w = record {
    legs = record { a = w.legs.b; b = w.legs.c; c = w.legs.a };
    boxes = record { a = w.boxes.b; b = w.boxes.c; c = w.boxes.a };
  }

  turn : (w : Exchange) → JoinedSome (m play.points) play w → JoinedSome (m play.points) play (turned w)
  turn w j = let h = j.1 in (
    record { a = j.0.b; b = j.0.c; c = j.0.a },
    record {
      follows_a = h.follows_b;
      follows_b = h.follows_c;
      follows_c = h.follows_a;
      left_a = h.left_b;
      left_b = h.left_c;
      left_c = h.left_a;
      right_a = h.right_b;
      right_b = h.right_c;
      right_c = h.right_a;
    },
  )

  turned_b : (w w' : Exchange) → ExchangeStep m w B w' → ExchangeStep m (turned w) A (turned w')
  turned_b w w' step = by (need_of w.legs.b) step
    where
      by : (n : Need) → Serves m w B n w' → Serves m (turned w) A n (turned w')
      by (Put Left) s = (s.0, s.1, s.2, s.3, ap turned s.4)
      by (Put Right) s = (s.0, s.1, s.2, s.3, ap turned s.4)
      by (Take Left) s = (s.0, s.1, s.2, s.3, ap turned s.4)
      by (Take Right) s = (s.0, s.1, s.2, s.3, ap turned s.4)
      by Done s = s

  turned_c : (w w' : Exchange) → ExchangeStep m w C w' → ExchangeStep m (turned w) B (turned w')
  turned_c w w' step = by (need_of w.legs.c) step
    where
      by : (n : Need) → Serves m w C n w' → Serves m (turned w) B n (turned w')
      by (Put Left) s = (s.0, s.1, s.2, s.3, ap turned s.4)
      by (Put Right) s = (s.0, s.1, s.2, s.3, ap turned s.4)
      by (Take Left) s = (s.0, s.1, s.2, s.3, ap turned s.4)
      by (Take Right) s = (s.0, s.1, s.2, s.3, ap turned s.4)
      by Done s = s

  join_b : (w w' : Exchange) → JoinedSome (m play.points) play w → ExchangeStep m w B w'
      → JoinedSome (m play.points) play w'
  join_b w w' j s =
      turn (turned (turned w')) (turn (turned w') (join_a (turned w) (turned w') (turn w j) (turned_b w w' s)))

  join_step : (w w' : Exchange) (leg : Leg) → JoinedSome (m play.points) play w → ExchangeStep m w leg w'
      → JoinedSome (m play.points) play w'
  join_step w w' A j s = join_a w w' j s
  join_step w w' B j s = join_b w w' j s
  join_step w w' C j s =
      turn (turned (turned w')) (turn (turned w') (join_b (turned w) (turned w') (turn w j) (turned_c w w' s)))

  join_reach : (steps : List Leg) (w w' : Exchange) → JoinedSome (m play.points) play w → Reaches m w steps w'
      → JoinedSome (m play.points) play w'
  join_reach [] w w' j r = subst (λ (x : Exchange). JoinedSome (m play.points) play x) r j
  join_reach (leg ∷ steps) w w' j r = join_reach steps r.0 w' (join_step w r.0 leg j r.1) r.2

nothing_put : (m : Meaning) (play : Play) (leg : Leg) (bound : ℕ) → PutsIn m play leg nothing_sent bound
nothing_put m play leg bound Left r rb l = absurd (omega (arith, l))
nothing_put m play leg bound Right r rb l = absurd (omega (arith, l))

pub follows_start : (m : Meaning) (play : Play) (leg : Leg) → Follows m play (leg_at_start m play leg) nothing_sent
unfolding by_taken
follows_start m play leg = record {
  points = refl;
  tape = refl;
  counted = record { sent_left = refl; sent_right = refl; taken_left = refl; taken_right = refl };
  puts = λ h bound. nothing_put m play leg bound;
  stands = λ h. record { given = omega arith; notes = refl; marks = refl; finished = refl; config = refl };
  behind = omega arith;
  early_puts = nothing_put m play leg 0;
  early_notes = refl;
}

-- for every list of steps the legs and boxes stay tied to what was put and taken
pub joined_reached : (m : List Point → Meaning) (play : Play) (steps : List Leg) (w : Exchange)
    → Reaches m (exchange_at_start (m play.points) play) steps w
    → (t : Triple SentTaken) × Joined (m play.points) play w t
joined_reached m play steps w r = join_reach m play steps (exchange_at_start (m play.points) play) w (
  record { a = nothing_sent; b = nothing_sent; c = nothing_sent },
  record {
    follows_a = follows_start (m play.points) play A;
    follows_b = follows_start (m play.points) play B;
    follows_c = follows_start (m play.points) play C;
    left_a = refl;
    left_b = refl;
    left_c = refl;
    right_a = refl;
    right_b = refl;
    right_c = refl;
  },
) r
