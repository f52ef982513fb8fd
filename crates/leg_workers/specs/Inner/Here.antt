-- Of three some are here: those that the caller works.
-- Nobody has to believe this: it serves private functions alone.
use Rattle.std.specs.Prelude.{Option, None, Some}
use Rattle.tri_base.specs.declared.leg.Triple.{Triple}

module _ {T : Type 0} where
  -- one that is here stays here, and is related to what it was; one that isn't stays away
  abbrev pub IsHere : (T → T → Type 0) → (was now : Option T) → Type 0
  IsHere R None None = Unit {0}
  IsHere R (Some was) (Some now) = R was now
  IsHere R None (Some now) = ⊥
  IsHere R (Some was) None = ⊥

  -- each of three
  pub record AreHere (R : T → T → Type 0) (was now : Triple (Option T)) : Type 0 where
    pub a : IsHere R was.a now.a
    pub b : IsHere R was.b now.b
    pub c : IsHere R was.c now.c

  -- something holds of one that is here
  abbrev pub HoldsHere : (T → Type 0) → Option T → Type 0
  HoldsHere P None = Unit {0}
  HoldsHere P (Some x) = P x

  -- of each of three
  pub record HoldAll (P : T → Type 0) (xs : Triple (Option T)) : Type 0 where
    pub a : HoldsHere P xs.a
    pub b : HoldsHere P xs.b
    pub c : HoldsHere P xs.c
