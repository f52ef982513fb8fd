-- The table of reserved words as the code has it. It serves private functions alone: nobody has to believe it.
use Rattle.std.specs.Prelude.{ℕ, List, map}
use denote.Ref.{Bor}
use Rattle.st_tree.specs.declared.token.Fixed.{Fixed}

-- A table of the code, with the texts that it points to.
abbrev pub entries : List (Bor (List ℕ) × Fixed) → List (List ℕ × Fixed)
entries table = map (λ entry. (entry.0.now, entry.1)) table
