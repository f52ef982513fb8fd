-- Which places of a memory were stored to, in order of the first store to each, and what stood there before.
use Rattle.std.specs.Prelude.{ℕ, ℤ, ◌+◌, List, [], ◌∷◌, ◌++◌, Option, Some, None, is_some, unwrap_or}
use Rattle.std.specs.Prelude.{◌==◌, if◌then◌else◌}

-- Pairs of an address and the number that stood there, of a memory of so many words.
pub record TouchedValue : Type 0 where
  pub pairs : List (ℕ × ℤ)
  pub size : ℕ

-- The number that stood at an address before the first store to it; None where none was noted.
abbrev pub number_before : ℕ → List (ℕ × ℤ) → Option ℤ
number_before address [] = None
number_before address (pair ∷ pairs) = if pair.0 == address then Some pair.1 else number_before address pairs

-- A store to an address, where a number stood: the first one counts.
abbrev pub noted : ℕ → ℤ → List (ℕ × ℤ) → List (ℕ × ℤ)
noted address before pairs = if is_some (number_before address pairs) then pairs else pairs ++ (address, before) ∷ []

-- The words from an address on, each noted number put back at its address.
abbrev pub restored_from : ℕ → List (ℕ × ℤ) → List ℤ → List ℤ
restored_from address pairs [] = []
restored_from address pairs (word ∷ words) = unwrap_or (number_before address pairs) word ∷ restored_from (address + 1) pairs words

-- The words as they were before the stores.
abbrev pub restored : List (ℕ × ℤ) → List ℤ → List ℤ
restored pairs words = restored_from 0 pairs words
