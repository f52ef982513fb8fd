-- Lines of a report. Own rule.
use Rattle.std.specs.Prelude.{ℕ, ℤ, List, ◌++◌, codes}
use Rattle.std.specs.List.{flat_map}
use Rattle.std.specs.Fmt.{signed_decimal}

-- A space and the shortest decimal text of a number.
abbrev pub spaced : ℤ → List ℕ
spaced number = codes " " ++ signed_decimal number

-- A line: a word, then numbers, then a line feed.
abbrev pub line : List ℕ → List ℤ → List ℕ
line word numbers = word ++ (flat_map spaced numbers ++ codes "\n")

-- A line: two words, then a line feed.
abbrev pub two_words : List ℕ → List ℕ → List ℕ
two_words word other = word ++ (codes " " ++ (other ++ codes "\n"))
