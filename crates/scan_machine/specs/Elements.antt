-- The elements of an array, which has one word for each index from the lowest to the highest. Own rule.
use Rattle.std.specs.Prelude.{◌≡◌, ℕ, ◌+◌, ℤ, ◌-ℤ◌, ◌≤ℤ◌, unsigned_abs}

-- the word of the element at an index, where the word of the lowest index is at the address
abbrev pub element : (address : ℕ) (low index : ℤ) → ℕ
element address low index = address + unsigned_abs (index -ℤ low)

-- the word is that of the element at some index
abbrev pub IsElement : (address : ℕ) (low high : ℤ) (word : ℕ) → Type 0
IsElement address low high word =
    (index : ℤ) × (low ≤ℤ index) × (index ≤ℤ high) × (word ≡ element address low index)
