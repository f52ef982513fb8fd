-- Nobody has to believe what stands here: it serves private functions alone.
use Rattle.std.specs.Prelude.{ℕ, ◌+◌, ℤ, nat_lt, List, [], ◌∷◌, unwrap_or, if◌then◌else◌}
use Rattle.std.specs.Ordering.{int_eq}
use Rattle.tri_base.specs.Noted.{number_before}

-- The change of one place from one number to another, where there is one.
abbrev pub change_at : (address : ℕ) (before after : ℤ) → List (ℕ × ℤ)
change_at address before after = if int_eq before after then [] else (address, after) ∷ []

-- The number that a place had before the stores, where it holds a word now.
abbrev pub before_of : (address : ℕ) → List (ℕ × ℤ) → (word : ℤ) → ℤ
before_of address pairs word = unwrap_or (number_before address pairs) word

-- The change of one place by what was noted of it.
abbrev pub noted_change : (address : ℕ) → List (ℕ × ℤ) → (word : ℤ) → List (ℕ × ℤ)
noted_change address pairs word = change_at address (before_of address pairs word) word

-- How many pairs have an address below another.
abbrev pub noted_below : ℕ → List (ℕ × ℤ) → ℕ
noted_below address [] = 0
noted_below address (pair ∷ pairs) = (if nat_lt pair.0 address then 1 else 0) + noted_below address pairs
