use Rattle.std.proofs.Common.{◌≡◌, length, false}
use Rattle.st_tree.specs.Numerals.{are_digits}
use Rattle.st_reader.proofs.numeral.are_digits.Given as goal

abbrev pub invariant-loop-text : goal.invariant-loop-text
invariant-loop-text l = are_digits l.base l.behind_digit l.text ≡ are_digits l.base false l.initial.text

abbrev pub decreases-loop-text : goal.decreases-loop-text
decreases-loop-text l = length l.text
