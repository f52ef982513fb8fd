-- Of three some are here, and are served together.
use Rattle.std.proofs.Common.{◌≡◌, Option, None, Some, subst}
use Rattle.tri_base.specs.declared.leg.Triple.{Triple}
use Rattle.leg_workers.specs.Inner.Here.{AreHere, HoldAll, HoldsHere, IsHere}

module _ {T : Type 0} (R : T → T → Type 0) where
  -- as they are
  here_self : ((x : T) → R x x) → (x : Option T) → IsHere R x x
  here_self f None = tt
  here_self f (Some p) = f p

  pub all_self : ((x : T) → R x x) → (xs : Triple (Option T)) → AreHere R xs xs
  all_self f xs = record { a = here_self f xs.a; b = here_self f xs.b; c = here_self f xs.c }

  -- one after the other
  here_twice : ((x y z : T) → R x y → R y z → R x z) → (x y z : Option T) → IsHere R x y → IsHere R y z → IsHere R x z
  here_twice f None None None a b = tt
  here_twice f (Some p) (Some q) (Some r) a b = f p q r a b
  here_twice f None (Some q) z a b = absurd a
  here_twice f (Some p) None z a b = absurd a
  here_twice f None None (Some r) a b = absurd b
  here_twice f (Some p) (Some q) None a b = absurd b

  pub all_twice : ((x y z : T) → R x y → R y z → R x z) → (xs ys zs : Triple (Option T)) → AreHere R xs ys
      → AreHere R ys zs → AreHere R xs zs
  all_twice f xs ys zs h k = record {
    a = here_twice f xs.a ys.a zs.a h.a k.a;
    b = here_twice f xs.b ys.b zs.b h.b k.b;
    c = here_twice f xs.c ys.c zs.c h.c k.c;
  }

  -- and something holds of each
  here_with : (P : T → Type 0) (x y : Option T) → IsHere R x y → HoldsHere P y → IsHere (λ p q. R p q × P q) x y
  here_with P None None a d = tt
  here_with P (Some p) (Some q) a d = (a, d)
  here_with P None (Some q) a d = absurd a
  here_with P (Some p) None a d = absurd a

  pub all_with : (P : T → Type 0) (xs ys : Triple (Option T)) → AreHere R xs ys → HoldAll P ys
      → AreHere (λ p q. R p q × P q) xs ys
  all_with P xs ys h d = record {
    a = here_with P xs.a ys.a h.a d.a;
    b = here_with P xs.b ys.b h.b d.b;
    c = here_with P xs.c ys.c h.c d.c;
  }

  -- one that is here was here
  pub here_from : (was : T) (x y : Option T) (now : T) → x ≡ Some was → y ≡ Some now → IsHere R x y → R was now
  here_from was None y now e f h = absurd (cc e)
  here_from was (Some p) None now e f h = absurd (cc f)
  here_from was (Some p) (Some q) now e f h =
      let p_is : p ≡ was = cc e in
      let q_is : q ≡ now = cc f in
      subst (λ (z : T × T). R z.0 z.1) (λ i. (p_is i, q_is i)) h
