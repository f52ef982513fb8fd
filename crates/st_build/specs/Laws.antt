-- What holds of all texts, and of all scans.
use Rattle.std.specs.Prelude.{◌≡◌, ◌≢◌, ◌↔◌, ℕ, ◌≤◌, ℤ, List, length, Ok, Err}
use Rattle.tri_base.specs.declared.point.Point.{Point}
use Rattle.tri_base.specs.Downloads.{Download}
use Rattle.st_tree.specs.declared.program.Tree.{Tree}
use Rattle.st_tree.specs.declared.tag.Tag.{Tag}
use Rattle.st_tree.specs.Tags.{tags_of}
use Rattle.tag_layout.specs.Layout.{total_words, first_environment, Laid}
use Rattle.download_change.specs.Kept.{carried_of}
use Rattle.st_sound.specs.Shapes.{shape_in}
use Rattle.tag_wiring.specs.HeldEnvironments.{env_in}
use Rattle.tag_wiring.specs.PointWords.{outputs_from}
use Rattle.scan_machine.specs.Machine as machine
use Rattle.scan_machine.specs.Machine.{Ran}
use Rattle.st_meaning.specs.Programs.{program_cost}
use Rattle.scan_code.specs.Compiling.{code_in}
use Rattle.engine_face.specs.declared.refusal.Refusal.{Refusal}
use Rattle.engine_face.specs.declared.refusal.Refusal.TheVariants.{NoMemory}
use Rattle.st_build.specs.Building.{Runs, IsRejected, program_of, tags_at}
use Rattle.st_build.specs.Running.{begun, scanned_of, stored_of}
use Rattle.st_build.specs.StructuredText.{structured_text}

-- The function says what the relations say. So a text is a program with one tree, or rejected for one reason, and never
-- both.
pub record ProgramIs (points : List Point) (text : List ℕ) : Type 0 where
  pub program : (tree : Tree) → (program_of points text ≡ Ok tree) ↔ Runs points text tree
  pub rejected : (refusal : Refusal) → refusal ≢ NoMemory
      → (program_of points text ≡ Err refusal) ↔ IsRejected points text refusal
  pub memory : program_of points text ≢ Err NoMemory

-- The machine's run of the program's code, from the words with the inputs set, ends within the program's cost and
-- leaves the words, the flag and the stores of the scan.
pub record RunsScan (points : List Point) (tree : Tree) (before inputs : List ℤ) (dt : ℤ) : Type 0 where
  pub ran : Ran
  pub run : machine.Runs (code_in tree) dt (begun points tree before inputs) ran
  pub cheap : ran.count ≤ program_cost tree
  pub words : ran.memory.words ≡ (scanned_of points tree before inputs dt).words
  pub flag : ran.flag ≡ (scanned_of points tree before inputs dt).flag
  pub stores : ran.memory.stores ≡ stored_of points tree before inputs dt

-- So it is for each program.
abbrev pub ScansAreRuns : Type 0
ScansAreRuns =
    (points : List Point) (text : List ℕ) (tree : Tree) (words inputs : List ℤ) (dt : ℤ) → Runs points text tree
    → length words ≡ total_words (tags_of tree) → RunsScan points tree words inputs dt

-- And the outputs of a scan are those of the words that it leaves.
abbrev pub OutputsAreOfWords : Type 0
OutputsAreOfWords =
    (points : List Point) (text : List ℕ) (tree : Tree) (words inputs : List ℤ) (dt : ℤ) → Runs points text tree
    → length words ≡ total_words (tags_of tree)
    → (scanned_of points tree words inputs dt).outputs
    ≡ outputs_from points (tags_of tree) (scanned_of points tree words inputs dt).words

-- As many words as the tags have hold the environment that a scan takes from them.
abbrev pub WordsHoldValues : Type 0
WordsHoldValues =
    (tags : List Tag) (words : List ℤ) → length words ≡ total_words tags → Laid tags (env_in (shape_in tags) words) words

-- A program starts with words that hold its first values; and a download goes on with words that hold the values of the
-- tags that are kept, and the first ones of the others.
pub record HoldsValues (points : List Point) (old : List ℕ) (d : Download) (words : List ℤ) : Type 0 where
  pub first : Laid (tags_at points d.text) (first_environment (tags_at points d.text))
      ((structured_text points).first d.text)
  pub carried : Laid (tags_at points d.text)
      (carried_of (tags_at points old) (tags_at points d.text) d.renames
      (env_in (shape_in (tags_at points old)) words) (first_environment (tags_at points d.text)))
      ((structured_text points).carried old d words)

-- So it is for each two programs, and any words of the old one.
abbrev pub ProgramsHoldValues : Type 0
ProgramsHoldValues =
    (points : List Point) (old : List ℕ) (d : Download) (words : List ℤ) (before after : Tree)
    → Runs points old before → Runs points d.text after → length words ≡ total_words (tags_at points old)
    → HoldsValues points old d words
