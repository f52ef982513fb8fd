-- Each step keeps the counts of puts and takes and what the boxes hold.
use Rattle.std.proofs.Common.{◌≡◌, List, refl, sym, ap, subst, ◌∙◌, arith}
use Rattle.tri_base.specs.declared.leg.Leg.{Leg}
use Rattle.tri_base.specs.declared.leg.Leg.TheVariants.{A, B, C}
use Rattle.tri_base.specs.declared.leg.Side.TheVariants.{Left, Right}
use Rattle.tri_base.specs.declared.point.Point.{Point}
use Rattle.engine_face.specs.Meaning.{Meaning}
use Rattle.leg_laws.specs.declared.need.Need.{Need}
use Rattle.leg_laws.specs.declared.need.Need.TheVariants.{Put, Take, Done}
use Rattle.leg_laws.specs.Configs.{need_of}
use Rattle.leg_laws.specs.Exchanges.{Exchange}
use Rattle.leg_laws.specs.ExchangeSteps.{Serves, ExchangeStep}
use Rattle.leg_laws.specs.Counts.{full, IsCounted}
use Rattle.leg_laws.proofs.Moves.{at_put, at_take, put_goes, take_goes, adds_put_left, adds_put_right, adds_take_left, adds_take_right}

-- ---- a step of leg A

step_a : (m : List Point → Meaning) (w w' : Exchange) → IsCounted w → ExchangeStep m w A w' → IsCounted w'
step_a m w w' h step = by (need_of w.legs.a) refl step
  where
    by : (n : Need) → need_of w.legs.a ≡ n → Serves m w A n w' → IsCounted w'
    by (Put Left) e s =
        let at = at_put w.legs.a Left e in
        let d = adds_put_left w.legs.a s.1 at (put_goes (m w.legs.a.points) w.legs.a s.1 s.0 Left at.need_is s.3) in
        let box : full w.boxes.a.left ≡ 0 = ap full s.2 in
        subst IsCounted (sym s.4) (record {
          scans_b = h.scans_b ∙ sym d.scans;
          scans_c = h.scans_c ∙ sym d.scans;
          within_a = d.within;
          within_b = h.within_b;
          within_c = h.within_c;
          left_a = omega (arith, d.put_l, h.left_a, box);
          left_b = omega (arith, d.took_r, h.left_b);
          left_c = h.left_c;
          right_a = omega (arith, d.put_r, h.right_a);
          right_b = h.right_b;
          right_c = omega (arith, d.took_l, h.right_c);
        })
    by (Put Right) e s =
        let at = at_put w.legs.a Right e in
        let d = adds_put_right w.legs.a s.1 at (put_goes (m w.legs.a.points) w.legs.a s.1 s.0 Right at.need_is s.3) in
        let box : full w.boxes.a.right ≡ 0 = ap full s.2 in
        subst IsCounted (sym s.4) (record {
          scans_b = h.scans_b ∙ sym d.scans;
          scans_c = h.scans_c ∙ sym d.scans;
          within_a = d.within;
          within_b = h.within_b;
          within_c = h.within_c;
          left_a = omega (arith, d.put_l, h.left_a);
          left_b = omega (arith, d.took_r, h.left_b);
          left_c = h.left_c;
          right_a = omega (arith, d.put_r, h.right_a, box);
          right_b = h.right_b;
          right_c = omega (arith, d.took_l, h.right_c);
        })
    by (Take Left) e s =
        let at = at_take w.legs.a Left e in
        let d = adds_take_left w.legs.a s.1 at (take_goes (m w.legs.a.points) w.legs.a s.1 s.0 Left at.need_is s.3) in
        let box : full w.boxes.c.right ≡ 1 = ap full s.2 in
        subst IsCounted (sym s.4) (record {
          scans_b = h.scans_b ∙ sym d.scans;
          scans_c = h.scans_c ∙ sym d.scans;
          within_a = d.within;
          within_b = h.within_b;
          within_c = h.within_c;
          left_a = omega (arith, d.put_l, h.left_a);
          left_b = omega (arith, d.took_r, h.left_b);
          left_c = h.left_c;
          right_a = omega (arith, d.put_r, h.right_a);
          right_b = h.right_b;
          right_c = omega (arith, d.took_l, h.right_c, box);
        })
    by (Take Right) e s =
        let at = at_take w.legs.a Right e in
        let d = adds_take_right w.legs.a s.1 at (take_goes (m w.legs.a.points) w.legs.a s.1 s.0 Right at.need_is s.3) in
        let box : full w.boxes.b.left ≡ 1 = ap full s.2 in
        subst IsCounted (sym s.4) (record {
          scans_b = h.scans_b ∙ sym d.scans;
          scans_c = h.scans_c ∙ sym d.scans;
          within_a = d.within;
          within_b = h.within_b;
          within_c = h.within_c;
          left_a = omega (arith, d.put_l, h.left_a);
          left_b = omega (arith, d.took_r, h.left_b, box);
          left_c = h.left_c;
          right_a = omega (arith, d.put_r, h.right_a);
          right_b = h.right_b;
          right_c = omega (arith, d.took_l, h.right_c);
        })
    by Done e s = absurd s

-- ---- the ring, turned: B stands where A stood

abbrev turned : Exchange → Exchange
turned w = record {
  legs = record { a = w.legs.b; b = w.legs.c; c = w.legs.a };
  boxes = record { a = w.boxes.b; b = w.boxes.c; c = w.boxes.a };
}

turned_counts : (w : Exchange) → IsCounted w → IsCounted (turned w)
turned_counts w h = record {
  scans_b = h.scans_c ∙ sym h.scans_b;
  scans_c = sym h.scans_b;
  within_a = h.within_b;
  within_b = h.within_c;
  within_c = h.within_a;
  left_a = h.left_b;
  left_b = h.left_c;
  left_c = h.left_a;
  right_a = h.right_b;
  right_b = h.right_c;
  right_c = h.right_a;
}

turned_step : (m : List Point → Meaning) (w w' : Exchange) → ExchangeStep m w B w'
    → ExchangeStep m (turned w) A (turned w')
turned_step m w w' step = by (need_of w.legs.b) step
  where
    by : (n : Need) → Serves m w B n w' → Serves m (turned w) A n (turned w')
    by (Put Left) s = (s.0, s.1, s.2, s.3, ap turned s.4)
    by (Put Right) s = (s.0, s.1, s.2, s.3, ap turned s.4)
    by (Take Left) s = (s.0, s.1, s.2, s.3, ap turned s.4)
    by (Take Right) s = (s.0, s.1, s.2, s.3, ap turned s.4)
    by Done s = s

turned_twice : (m : List Point → Meaning) (w w' : Exchange) → ExchangeStep m w C w'
    → ExchangeStep m (turned w) B (turned w')
turned_twice m w w' step = by (need_of w.legs.c) step
  where
    by : (n : Need) → Serves m w C n w' → Serves m (turned w) B n (turned w')
    by (Put Left) s = (s.0, s.1, s.2, s.3, ap turned s.4)
    by (Put Right) s = (s.0, s.1, s.2, s.3, ap turned s.4)
    by (Take Left) s = (s.0, s.1, s.2, s.3, ap turned s.4)
    by (Take Right) s = (s.0, s.1, s.2, s.3, ap turned s.4)
    by Done s = s

step_b : (m : List Point → Meaning) (w w' : Exchange) → IsCounted w → ExchangeStep m w B w' → IsCounted w'
step_b m w w' h s =
    turned_counts (turned (turned w'))
    (turned_counts (turned w') (step_a m (turned w) (turned w') (turned_counts w h) (turned_step m w w' s)))

-- a step keeps the counts
pub step_counts : (m : List Point → Meaning) (w w' : Exchange) (leg : Leg) → IsCounted w → ExchangeStep m w leg w'
    → IsCounted w'
step_counts m w w' A h s = step_a m w w' h s
step_counts m w w' B h s = step_b m w w' h s
step_counts m w w' C h s =
    turned_counts (turned (turned w'))
    (turned_counts (turned w') (step_b m (turned w) (turned w') (turned_counts w h) (turned_twice m w w' s)))
