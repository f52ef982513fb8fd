-- What the parser answers.
use Rattle.std.specs.Prelude.{◌≡◌, List, Result, Ok, Err}
use Rattle.st_tree.specs.declared.token.Token.{Token}
use Rattle.st_tree.specs.declared.program.Tree.{Tree}
use Rattle.st_tree.specs.Programs.{Spells, IsFirstImpossible}
use Rattle.st_parser.specs.declared.fault.ParseFault.{ParseFault}
use Rattle.st_parser.specs.declared.fault.ParseFault.TheVariants.{Syntax, NoMemory}

-- the tree that spells the tokens; or the first token with which no program goes on; or want of memory
abbrev pub IsParsed : List Token → Result Tree ParseFault → Type 0
IsParsed tokens (Ok tree) = Spells tree tokens
IsParsed tokens (Err (Syntax token)) = IsFirstImpossible tokens token
IsParsed tokens (Err NoMemory) = Unit {0}

-- this tree, or want of memory
abbrev pub IsTree : Tree → Result Tree ParseFault → Type 0
IsTree tree (Ok found) = found ≡ tree
IsTree tree (Err (Syntax token)) = ⊥
IsTree tree (Err NoMemory) = Unit {0}
