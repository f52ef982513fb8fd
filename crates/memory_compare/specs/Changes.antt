-- What a scan changed of a program's words: pairs of an address and its new number. Own rule.
use Rattle.std.specs.Prelude.{ℕ, ℤ, pos, ◌+◌, List, [], ◌∷◌, map, slice_set, if◌then◌else◌}
use Rattle.std.specs.Ordering.{int_eq}

-- The places from an address on at which two lists differ, with the new numbers.
abbrev pub changes_from : ℕ → (old new : List ℤ) → List (ℕ × ℤ)
changes_from address [] new = []
changes_from address (x ∷ old) [] = []
changes_from address (x ∷ old) (y ∷ new) =
    if int_eq x y then changes_from (address + 1) old new else (address, y) ∷ changes_from (address + 1) old new

-- The places at which two lists differ, counted from 0, with the new numbers.
abbrev pub changes_of : (old new : List ℤ) → List (ℕ × ℤ)
changes_of old new = changes_from 0 old new

-- The addresses of changes, as words.
abbrev pub addresses_in : List (ℕ × ℤ) → List ℤ
addresses_in changes = map (λ (pair : ℕ × ℤ). pos pair.0) changes

-- The numbers of changes.
abbrev pub values_in : List (ℕ × ℤ) → List ℤ
values_in changes = map (λ (pair : ℕ × ℤ). pair.1) changes

-- A list in which the number of each pair, one after the other, is set at its address behind so many places.
abbrev pub applied : (behind : ℕ) → List (ℕ × ℤ) → List ℤ → List ℤ
applied behind [] image = image
applied behind (pair ∷ pairs) image = applied behind pairs (slice_set image (behind + pair.0) pair.1)
