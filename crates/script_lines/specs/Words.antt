-- A line's words (own rule).
use Rattle.std.specs.Prelude.{ℕ, Bool, List, [], ◌∷◌, ◌==◌, ◌||◌, if◌then◌else◌}
use Rattle.tri_base.specs.Bytes.{space, tab}

-- A space or a tab.
abbrev pub is_blank : ℕ → Bool
is_blank b = b == space || b == tab

-- A byte that is no blank, with the words of what stands behind it: it begins a word of its own, or goes in front
-- of the next.
abbrev pub with_byte : ℕ → List ℕ → List (List ℕ) → List (List ℕ)
with_byte b [] words = (b ∷ []) ∷ words
with_byte b (c ∷ bs) [] = (b ∷ []) ∷ []
with_byte b (c ∷ bs) (word ∷ words) = if is_blank c then (b ∷ []) ∷ word ∷ words else (b ∷ word) ∷ words

-- The words of a line: its longest runs of bytes that are no blanks.
abbrev pub words_of : List ℕ → List (List ℕ)
words_of [] = []
words_of (b ∷ bs) = if is_blank b then words_of bs else with_byte b bs (words_of bs)
