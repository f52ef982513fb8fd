use Rattle.std.proofs.Common.{◌≡◌, ◌++◌, length, option_map}
use Rattle.script_lines.specs.Words.{words_of}
use Rattle.script_lines.specs.Statements.{numbers_of}
use Rattle.script_lines.proofs.operands.read_numbers.Given as goal

-- what the words that are left come to, behind the numbers so far, is what all of them come to
abbrev pub invariant-words : goal.invariant-words
invariant-words l = option_map (λ more. l.numbers ++ more) (numbers_of (words_of l.rest)) ≡ numbers_of (words_of l.fn.rest)

abbrev pub decreases-words : goal.decreases-words
decreases-words l = length (words_of l.rest)
