use Rattle.std.proofs.Common.{◌≡◌, ◌++◌, length, option_map}
use Rattle.script_lines.specs.Statements.{legs_of}
use Rattle.script_lines.proofs.operands.read_legs.Given as goal

-- what the words that are left come to, behind the numbers so far, is what all of them come to
abbrev pub invariant-letters : goal.invariant-letters
invariant-letters l = option_map (λ more. l.legs ++ more) (legs_of l.rest) ≡ legs_of l.fn.word

abbrev pub decreases-letters : goal.decreases-letters
decreases-letters l = length l.rest
