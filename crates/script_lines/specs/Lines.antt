-- A text's lines (own rule).
use Rattle.std.specs.Prelude.{ℕ, ◌≤◌, Bool, true, false, List, [], ◌∷◌, ◌++◌, ◌==◌, if◌then◌else◌, length}
use Rattle.std.proofs.Common.{arith}
use Rattle.std.specs.List.{list_all}
use Rattle.tri_base.specs.Bytes.{line_feed, carriage_return}

-- A byte in front of the first line.
abbrev pub in_front : ℕ → List (List ℕ) → List (List ℕ)
in_front b [] = (b ∷ []) ∷ []
in_front b (line ∷ lines) = (b ∷ line) ∷ lines

-- The lines of a text: what stands before each line feed, and what stands behind the last one where that is
-- anything.
abbrev pub lines_of : List ℕ → List (List ℕ)
lines_of [] = []
lines_of (b ∷ bs) = if b == line_feed then [] ∷ lines_of bs else in_front b (lines_of bs)

-- A line without the carriage returns at its end.
abbrev pub content_of : List ℕ → List ℕ
content_of [] = []
content_of (b ∷ bs) = if list_all (λ c. c == carriage_return) (b ∷ bs) then [] else b ∷ content_of bs

-- A line with its line feed.
abbrev pub ended : List ℕ → List ℕ
ended line = line ++ line_feed ∷ []

-- There are no more lines than bytes.
pub lines_of-le : (text : List ℕ) → length (lines_of text) ≤ length text
lines_of-le [] = omega arith
lines_of-le (b ∷ bs) = by (b == line_feed) (lines_of bs) (lines_of-le bs)
  where
    grown : (lines : List (List ℕ)) → length lines ≤ length bs → length (in_front b lines) ≤ length (b ∷ bs)
    grown [] h = omega arith
    grown (line ∷ lines) h = omega arith

    by : (t : Bool) (lines : List (List ℕ)) → length lines ≤ length bs
        → length (if t then [] ∷ lines else in_front b lines) ≤ length (b ∷ bs)
    by true lines h = omega arith
    by false lines h = grown lines h
