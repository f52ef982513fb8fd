-- The words of a command, one by one.
use Rattle.std.proofs.Common.{◌≡◌, ◌≤◌, List, [], ◌∷◌, length, None, refl, arith}
use Rattle.tri_base.specs.Rows.{TextValue}
use Rattle.tricon.specs.Commands.{bytes_of, command_of}

-- more words than any command has
pub too_many : (words : List TextValue) → 4 ≤ length words → command_of (bytes_of words) ≡ None
too_many [] h = absurd (omega arith)
too_many (a ∷ []) h = absurd (omega arith)
too_many (a ∷ b ∷ []) h = absurd (omega arith)
too_many (a ∷ b ∷ c ∷ []) h = absurd (omega arith)
too_many (a ∷ b ∷ c ∷ d ∷ more) h = refl
