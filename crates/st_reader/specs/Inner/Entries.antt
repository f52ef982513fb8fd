-- Nobody has to believe what stands here: it serves private functions alone.
-- Tables of words and symbols.
use Rattle.std.specs.Prelude.{ℕ, nat_lt, Bool, List, length, map}
use denote.Ref.{Bor}
use Rattle.st_tree.specs.declared.token.Fixed.{Fixed}

-- a table of the code, with the texts that it points to
abbrev pub entries : List (Bor (List ℕ) × Fixed) → List (List ℕ × Fixed)
entries table = map (λ entry. (entry.0.now, entry.1)) table

-- an entry's text has at least one byte
abbrev pub is_written : List ℕ × Fixed → Bool
is_written entry = nat_lt 0 (length entry.0)
