-- The statements of a program that was read nest within the limit.
use Rattle.std.proofs.Common.{◌≡◌, ◌≤◌, List, None, arith}
use Rattle.st_tree.specs.declared.program.Tree.{Tree}
use Rattle.st_tree.specs.declared.token.Token.{Token}
use Rattle.st_tree.specs.Nesting.{nesting_limit, first_too_deep}
use Rattle.st_tree.specs.TreeNesting.{body_nesting, nesting_of}
use Rattle.st_tree.specs.Programs.{Spells}
use Rattle.st_parser.proofs.ProgramNesting.{nests_as_its_tokens}

pub shallow : (tree : Tree) (tokens : List Token) → Spells tree tokens → first_too_deep tokens ≡ None → body_nesting tree.statements ≤ nesting_limit
unfolding nesting_of
shallow tree tokens spells few = let h = (nests_as_its_tokens tree tokens spells).0 few in omega (arith, h)
