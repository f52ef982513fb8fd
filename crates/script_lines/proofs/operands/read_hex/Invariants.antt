use Rattle.std.proofs.Common.{◌≡◌, ◌++◌, length, option_map}
use Rattle.script_lines.specs.Statements.{hex_bytes}
use Rattle.script_lines.proofs.operands.read_hex.Given as goal

-- what the digits that are left spell, behind the bytes so far, is what all of them spell
abbrev pub invariant-pairs : goal.invariant-pairs
invariant-pairs l = option_map (λ more. l.bytes ++ more) (hex_bytes l.rest) ≡ hex_bytes l.fn.word

abbrev pub decreases-pairs : goal.decreases-pairs
decreases-pairs l = length l.rest
