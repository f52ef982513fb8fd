use Rattle.tri_base.proofs.Digits.{Reads}
use Rattle.tri_base.proofs.number.value_of_digits.Given as goal

abbrev pub invariant-loop-byte : goal.invariant-loop-byte
invariant-loop-byte l = Reads l.text l.byte-index l.value
