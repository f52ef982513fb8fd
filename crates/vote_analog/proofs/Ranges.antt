-- The middle lies in every range that holds 0 and the counts, and between any two counts.
use Rattle.std.specs.Prelude.{ℤ, pos, negsuc, ◌+ℤ◌, ◌≤ℤ◌, [], ◌∷◌, Option, Some, None}
use Rattle.std.specs.Int.{int_div_euclid, int_max, int_min}
use Rattle.std.proofs.Common.{arith, refl}
use Rattle.std.proofs.lemmas.Int.{ints, clamps}
use Rattle.tri_base.specs.declared.leg.Triple.{Triple}
use Rattle.vote_analog.specs.Middle.{LiesBetween, LiesBetweenAny, LiesIn, LieIn, mid_of, middle, present}
use Rattle.vote_analog.proofs.Between.{between_ends, between_first_two, between_last_two}

-- the floor of a half
halved : (low high s : ℤ) → (low +ℤ low) ≤ℤ s → s ≤ℤ (high +ℤ high) → LiesIn low high (Some (int_div_euclid s (pos 2)))
halved low high (pos n) h k = (omega (arith, ints), omega (arith, ints))
halved low high (negsuc n) h k = (omega (arith, ints), omega (arith, ints))

two_in : (low high a b : ℤ) → LiesIn low high (Some a) → LiesIn low high (Some b) → LiesIn low high (Some (middle (a ∷ b ∷ [])))
two_in low high a b h k = halved low high (a +ℤ b) (omega (arith, ints, h.0, k.0)) (omega (arith, ints, h.1, k.1))

three_in : (low high a b c : ℤ) → LiesIn low high (Some a) → LiesIn low high (Some b) → LiesIn low high (Some c)
    → LiesIn low high (Some (middle (a ∷ b ∷ c ∷ [])))
three_in low high a b c h k l = (omega (arith, ints, clamps), omega (arith, ints, clamps))

any_in : (low high : ℤ) (a b c : Option ℤ) → LiesIn low high (Some (pos 0)) → LiesIn low high a → LiesIn low high b → LiesIn low high c
    → LiesIn low high (Some (middle (present (record { a = a; b = b; c = c }))))
any_in low high None None None zero h k l = zero
any_in low high (Some a) None None zero h k l = h
any_in low high None (Some b) None zero h k l = k
any_in low high None None (Some c) zero h k l = l
any_in low high (Some a) (Some b) None zero h k l = two_in low high a b h k
any_in low high (Some a) None (Some c) zero h k l = two_in low high a c h l
any_in low high None (Some b) (Some c) zero h k l = two_in low high b c k l
any_in low high (Some a) (Some b) (Some c) zero h k l = three_in low high a b c h k l

pub middle_in : (low high : ℤ) (counts : Triple (Option ℤ)) → LiesIn low high (Some (pos 0)) → LieIn low high counts
    → LiesIn low high (Some (mid_of counts))
middle_in low high counts zero h = any_in low high counts.a counts.b counts.c zero h.0 h.1 h.2

half_between : (a b : ℤ) → LiesBetween (Some a) (Some b) (middle (a ∷ b ∷ []))
half_between a b = halved (int_min a b) (int_max a b) (a +ℤ b) (omega (arith, ints, clamps)) (omega (arith, ints, clamps))

back : (a b m : ℤ) → LiesBetween (Some a) (Some b) m → LiesBetween (Some b) (Some a) m
back a b m h = (omega (arith, ints, clamps, h.0), omega (arith, ints, clamps, h.1))

by_parts : (a b c : Option ℤ) → LiesBetweenAny (record { a = a; b = b; c = c }) (mid_of (record { a = a; b = b; c = c }))
by_parts None None None = (tt, tt, tt)
by_parts (Some a) None None = (tt, tt, tt)
by_parts None (Some b) None = (tt, tt, tt)
by_parts None None (Some c) = (tt, tt, tt)
by_parts (Some a) (Some b) None = (half_between a b, tt, tt)
by_parts (Some a) None (Some c) = (tt, tt, back a c (mid_of (record { a = Some a; b = None; c = Some c })) (half_between a c))
by_parts None (Some b) (Some c) = (tt, half_between b c, tt)
by_parts (Some a) (Some b) (Some c) =
    let m = middle (a ∷ b ∷ c ∷ []) in (between_first_two a b c m refl, between_last_two a b c m refl, between_ends a b c m refl)

pub between_any : (counts : Triple (Option ℤ)) → LiesBetweenAny counts (mid_of counts)
between_any counts = by_parts counts.a counts.b counts.c
