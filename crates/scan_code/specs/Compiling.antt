-- What the code of a program is, and when a program has none.
use Rattle.std.specs.Prelude.{◌≡◌, ◌<◌, ◌≤◌, min, pos, List, Result, Ok, Err}
use Rattle.scan_machine.specs.declared.instructions.Instr.{Instr}
use Rattle.scan_machine.specs.Codes.{CodeValue}
use Rattle.st_tree.specs.declared.program.Tree.{Tree}
use Rattle.st_tree.specs.Tags.{tags_of}
use Rattle.st_core.specs.Compiled.{IsCodeOf}
use Rattle.st_core.specs.Codes.{body_code}
use Rattle.st_meaning.specs.Programs.{body_of, program_cost}
use Rattle.tag_layout.specs.Layout.{total_words}
use Rattle.st_sound.specs.Shapes.{shape_in}
use Rattle.code_size.specs.Limits.{greatest_told}
use Rattle.scan_code.specs.declared.compiling.CodeFault.{CodeFault}
use Rattle.scan_code.specs.declared.compiling.CodeFault.TheVariants.{TooLong, NoMemory}
use Rattle.scan_code.specs.Limits.{cost_limit}

-- The code is that of a program: it keeps all rules of the machine, it does on the words of the program's tags what the
-- statements do, in as many instructions as a scan costs at most, and it works on as many words as the tags have.
pub record IsProgramCode (tree : Tree) (code : CodeValue) : Type 0 where
  pub does : IsCodeOf (shape_in (tags_of tree)) (body_of tree) code.list
  pub words : code.words ≡ total_words (tags_of tree)

-- A program has code where a scan of it costs no more than the limit, and else its cost is told, or the greatest number
-- that is told where that is less. That memory fails says nothing of the program.
abbrev pub Compiles : Tree → Result CodeValue CodeFault → Type 0
Compiles tree (Ok code) = IsProgramCode tree code × (program_cost tree ≤ cost_limit)
Compiles tree (Err (TooLong cost)) =
    (cost_limit < program_cost tree) × (cost ≡ pos (min (program_cost tree) greatest_told))
Compiles tree (Err NoMemory) = Unit {0}

-- The instructions of a program, as a function of its tree. What they do is said by IsProgramCode.
abbrev pub code_in : Tree → List Instr
code_in tree = body_code (shape_in (tags_of tree)) (body_of tree)
