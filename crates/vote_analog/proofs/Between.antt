-- The middle of three counts lies between any two of them.
use Rattle.std.specs.Prelude.{◌≡◌, ℤ, [], ◌∷◌, Some}
use Rattle.std.proofs.Common.{arith}
use Rattle.std.proofs.lemmas.Int.{ints, clamps}
use Rattle.vote_analog.specs.Middle.{IsCount, LiesBetween, middle}

pub between_first_two : (a b c m : ℤ) → m ≡ middle (a ∷ b ∷ c ∷ []) → LiesBetween (Some a) (Some b) m
between_first_two a b c m e = (omega (arith, ints, clamps), omega (arith, ints, clamps))

pub between_last_two : (a b c m : ℤ) → m ≡ middle (a ∷ b ∷ c ∷ []) → LiesBetween (Some b) (Some c) m
between_last_two a b c m e = (omega (arith, ints, clamps), omega (arith, ints, clamps))

pub between_ends : (a b c m : ℤ) → m ≡ middle (a ∷ b ∷ c ∷ []) → LiesBetween (Some c) (Some a) m
between_ends a b c m e = (omega (arith, ints, clamps), omega (arith, ints, clamps))

-- What lies between two counts is a count.
pub count_between : (a b m : ℤ) → IsCount (Some a) → IsCount (Some b) → LiesBetween (Some a) (Some b) m → IsCount (Some m)
count_between a b m in_a in_b h = (omega (arith, ints, clamps), omega (arith, ints, clamps))
