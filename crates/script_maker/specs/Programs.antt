-- The program of the generator: it reads each input, drives each output through a timer or at once, and has as many
-- timers as make it as large as a program may be (own rules). A comment brings its text to 16,384 bytes.
use Rattle.std.specs.Prelude.{ℕ, List, [], ◌∷◌, ◌++◌, map, flat_map, replicate, decimal, codes}
use Rattle.std.specs.List.{range_with_len}
use Rattle.script_lines.specs.Lines.{ended}
use Rattle.script_maker.specs.Plants.{row_length, numbered}

-- A letter with the numbers from 0 to `last`, with a comma and a space between them.
unfoldable pub names_to : List ℕ → ℕ → List ℕ
names_to letter last = numbered letter 0 ++ flat_map (λ i. codes ", " ++ numbered letter i) (range_with_len 1 last)

-- A line that declares such names.
abbrev pub declaration : List ℕ → ℕ → List ℕ → List ℕ
declaration letter last type = names_to letter last ++ type

-- A statement with one number in two places.
abbrev pub body_line : List ℕ → List ℕ → List ℕ → ℕ → List ℕ
body_line before between behind i = before ++ (decimal i ++ (between ++ (decimal i ++ behind)))

-- Such a line for each number from 0 to 127.
unfoldable pub body_lines : List ℕ → List ℕ → List ℕ → List (List ℕ)
body_lines before between behind = map (body_line before between behind) (range_with_len 0 row_length)

-- A comment of so many letters `x` that the text has 16,384 bytes.
unfoldable pub comment_line : List ℕ
comment_line = codes "(*" ++ (replicate 2544 120 ++ codes "*)")

-- The lines of the program.
abbrev pub program_lines : List (List ℕ)
program_lines =
    codes "PROGRAM BIG"
    ∷ codes "VAR_EXTERNAL"
    ∷ declaration (codes "D") 127 (codes " : BOOL;")
    ∷ declaration (codes "A") 127 (codes " : INT;")
    ∷ declaration (codes "Q") 127 (codes " : BOOL;")
    ∷ declaration (codes "V") 127 (codes " : INT;")
    ∷ codes "END_VAR"
    ∷ codes "VAR"
    ∷ declaration (codes "T") 715 (codes " : TON;")
    ∷ codes "N0, N1, N2, N3 : INT;"
    ∷ codes "END_VAR"
    ∷ (body_lines (codes "T") (codes "(IN := D") (codes ", PT := 300);")
    ++ (body_lines (codes "Q") (codes " := T") (codes ".Q;")
    ++ (body_lines (codes "V") (codes " := A") (codes ";")
    ++ (codes "N0 := N0 + 1;" ∷ comment_line ∷ codes "END_PROGRAM" ∷ []))))

-- The text of the program.
unfoldable pub generated_text : List ℕ
generated_text = flat_map ended program_lines
