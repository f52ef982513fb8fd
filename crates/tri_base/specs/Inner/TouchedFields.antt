-- Nobody has to believe what stands here: it serves private fields alone.
-- How the touched places are kept: the pairs in a row, and for each address one more than the place of its pair, or 0.
use Rattle.std.specs.Prelude.{◌≡◌, ℕ, ℤ, pos, ◌+◌, ◌<◌, ◌≤◌, zero, suc, List, [], ◌∷◌, length, slice_index, slice_index_or, vec_capacity}
use Rattle.tri_base.specs.declared.touched.Touched.TheInside.{Inside}

-- the address of the pair at a place
abbrev pub address_at : List (ℕ × ℤ) → ℕ → ℕ
address_at pairs place = (slice_index_or pairs place (0, pos 0)).0

-- how many addresses know no place
abbrev pub unknowing : List ℕ → ℕ
unknowing [] = 0
unknowing (zero ∷ places) = suc (unknowing places)
unknowing (suc place ∷ places) = unknowing places

pub record Tied (pairs : List (ℕ × ℤ)) (places : List ℕ) : Type 0 where
  -- each pair's address is one of the memory's
  pub within : (k : ℕ) → k < length pairs → address_at pairs k < length places
  -- and knows the pair's place
  pub known : (k : ℕ) → k < length pairs → slice_index places (address_at pairs k) ≡ k + 1
  -- an address that knows a place has its pair there
  pub owns : (a k : ℕ) → slice_index places a ≡ k + 1 → (k < length pairs) × (address_at pairs k ≡ a)
  -- there are as many pairs as addresses that know a place
  pub free : unknowing places + length pairs ≡ length places

pub record IsTied (t : Inside) : Type 0 where
  pub tied : Tied t.pairs.items t.places.items
  pub room : length t.places.items ≤ vec_capacity t.pairs
