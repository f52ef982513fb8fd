-- Nobody has to believe what stands here: it serves private functions alone.
-- What a program keeps.
use Rattle.std.specs.Prelude.{◌≡◌, ℕ, ◌<◌, ◌≤◌, min, pos, List, Result, Ok, Err}
use Rattle.st_tree.specs.declared.program.Tree.{Tree}
use Rattle.st_tree.specs.declared.tag.Tag.{Tag}
use Rattle.st_tree.specs.Tags.{tags_of}
use Rattle.scan_machine.specs.Codes.{CodeValue}
use Rattle.st_meaning.specs.Programs.{program_cost}
use Rattle.code_size.specs.Limits.{greatest_told}
use Rattle.scan_code.specs.Limits.{cost_limit}
use Rattle.scan_code.specs.Compiling.{IsProgramCode, code_in}
use Rattle.download_change.specs.declared.fault.RenameFault.{RenameFault}
use Rattle.download_change.specs.declared.fault.RenameFault.TheVariants.{Unknown, Twice}
use Rattle.engine_face.specs.declared.refusal.Refusal.{Refusal}
use Rattle.engine_face.specs.declared.refusal.Refusal.TheVariants.{TooLong, NoMemory, RenameUnknown, RenameTwice}
use Rattle.st_front.specs.FrontEnd.{HasTree}

-- A text with the tags and the code of its program.
pub record KeptProgram : Type 0 where
  pub text : List ℕ
  pub tags : List Tag
  pub code : CodeValue

-- The tags and the code are those of the one tree that the text spells.
pub record IsKept (p : KeptProgram) : Type 0 where
  pub tree : Tree
  pub has : HasTree p.text tree
  pub tags_are : p.tags ≡ tags_of tree
  pub code : IsProgramCode tree p.code
  pub code_is : p.code.list ≡ code_in tree

-- The code of a tree, or why there is none.
abbrev pub IsCoded : Tree → Result CodeValue Refusal → Type 0
IsCoded tree (Ok code) = IsProgramCode tree code × (program_cost tree ≤ cost_limit) × (code.list ≡ code_in tree)
IsCoded tree (Err (TooLong cost)) =
    (cost_limit < program_cost tree) × (cost ≡ pos (min (program_cost tree) greatest_told))
IsCoded tree (Err NoMemory) = Unit {0}
IsCoded tree (Err refusal) = ⊥

-- A program of a text and its tree, or why there is none.
abbrev pub Finishes : Tree → List ℕ → Result KeptProgram Refusal → Type 0
Finishes tree text (Ok program) = (program_cost tree ≤ cost_limit) × (program.text ≡ text)
Finishes tree text (Err refusal) = IsCoded tree (Err refusal)

-- What a fault of renames refuses a change for.
abbrev pub refusal_of_fault : RenameFault → Refusal
refusal_of_fault (Unknown name) = RenameUnknown name
refusal_of_fault (Twice name) = RenameTwice name
