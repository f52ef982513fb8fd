-- The program as it is written, piece by piece. It serves private functions alone: nobody has to believe it.
use Rattle.std.specs.Prelude.{ℕ, List, ◌++◌, flat_map, replicate, codes}
use Rattle.script_lines.specs.Lines.{ended}
use Rattle.script_maker.specs.Programs.{declaration, body_lines}

-- the lines up to those that declare the inputs
abbrev pub inputs_piece : List ℕ
inputs_piece =
    codes "PROGRAM BIG\nVAR_EXTERNAL\n"
    ++ (declaration (codes "D") 127 (codes " : BOOL;\n")
    ++ declaration (codes "A") 127 (codes " : INT;\n"))

-- the lines that declare the outputs and the tags
abbrev pub outputs_piece : List ℕ
outputs_piece =
    declaration (codes "Q") 127 (codes " : BOOL;\n")
    ++ (declaration (codes "V") 127 (codes " : INT;\nEND_VAR\nVAR\n")
    ++ declaration (codes "T") 715 (codes " : TON;\nN0, N1, N2, N3 : INT;\nEND_VAR\n"))

-- the statements of the rows
abbrev pub body_piece : List ℕ
body_piece =
    flat_map ended (body_lines (codes "T") (codes "(IN := D") (codes ", PT := 300);"))
    ++ (flat_map ended (body_lines (codes "Q") (codes " := T") (codes ".Q;"))
    ++ flat_map ended (body_lines (codes "V") (codes " := A") (codes ";")))

-- a letter again and again
unfoldable pub repeated : ℕ → ℕ → List ℕ
repeated letter count = replicate count letter

-- the end
abbrev pub end_piece : List ℕ
end_piece = codes "N0 := N0 + 1;\n(*" ++ (repeated 120 2544 ++ codes "*)\nEND_PROGRAM\n")
