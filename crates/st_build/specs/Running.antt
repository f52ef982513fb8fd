-- What a scan of a program does to the words of its memory, and which stores it tells. Own rule.
use Rattle.std.specs.Prelude.{ℕ, zero, suc, ℤ, Bool, true, false, not, ◌&&◌, ◌||◌, if◌then◌else◌, List, [], ◌∷◌, Option, Some, None, unwrap_or, Result, Ok, Err}
use Rattle.std.specs.Str.{bytes_eq}
use Rattle.tri_base.specs.declared.point.Point.{Point}
use Rattle.st_tree.specs.declared.program.Tree.{Tree}
use Rattle.st_tree.specs.Tags.{tags_of}
use Rattle.scan_machine.specs.declared.instructions.Instr.{Instr}
use Rattle.scan_machine.specs.Machine.{State, Memory, after, at_start}
use Rattle.st_core.specs.Environments.{Env}
use Rattle.st_core.specs.Memory.{words_of}
use Rattle.st_meaning.specs.Programs.{scan_of, program_cost}
use Rattle.st_sound.specs.Shapes.{shape_in}
use Rattle.tag_wiring.specs.HeldEnvironments.{env_in}
use Rattle.tag_wiring.specs.PointWords.{inputs_set, input_stores}
use Rattle.scan_code.specs.Compiling.{code_in}
use Rattle.engine_face.specs.declared.refusal.Refusal.{Refusal}
use Rattle.engine_face.specs.Meaning.{Scanned}
use Rattle.engine_face.specs.Counting.{zeros_at}

-- ---- words

-- The values of a program's tags that the words of its memory hold.
abbrev pub held_in : Tree → List ℤ → Env
held_in tree words = env_in (shape_in (tags_of tree)) words

-- What a scan leaves: the words that hold the values which the program's meaning leaves, its outputs and its flag.
unfoldable pub scanned_of : List Point → Tree → (words inputs : List ℤ) → (dt : ℤ) → Scanned
scanned_of points tree words inputs dt =
    let s = scan_of points tree (held_in tree words) inputs dt in
    record { words = words_of s.env; outputs = s.outputs; flag = s.flag }

-- ---- stores

-- Where the machine stands after so many instructions, or after as many as there are.
unfoldable pub stands : List Instr → ℤ → ℕ → State → State
stands code dt zero s = s
stands code dt (suc n) s = unwrap_or (after code dt (suc n) s) (stands code dt n s)

-- What the machine begins a scan with: the inputs are set, and the stores that did it are noted.
abbrev pub begun : List Point → Tree → (words inputs : List ℤ) → Memory
begun points tree words inputs = record {
  words = inputs_set points (tags_of tree) inputs words;
  stores = input_stores points (tags_of tree) words;
}

-- The stores of a scan: those that set the inputs, and those of the machine's run of the program's code. A scan takes
-- no more instructions than the program costs.
unfoldable pub stored_of : List Point → Tree → (words inputs : List ℤ) → (dt : ℤ) → List (ℕ × ℤ)
stored_of points tree words inputs dt =
    (stands (code_in tree) dt (program_cost tree) (at_start (begun points tree words inputs))).stores

-- ---- texts

-- A point has this name.
unfoldable pub is_named : List ℕ → List Point → Bool
is_named n [] = false
is_named n (p ∷ ps) = bytes_eq n p.name || is_named n ps

-- No two points have one name. No chassis has others.
unfoldable pub are_apart : List Point → Bool
are_apart [] = true
are_apart (p ∷ ps) = not (is_named p.name ps) && are_apart ps

-- What runs: a program, where no two points have one name.
abbrev pub running : List Point → Result Tree Refusal → Option Tree
running points (Ok tree) = if are_apart points then Some tree else None
running points (Err refusal) = None

-- A scan where a program runs; else the words stay, and each output is 0.
abbrev pub scanned_by : List Point → Option Tree → (words inputs : List ℤ) → (dt : ℤ) → Scanned
scanned_by points (Some tree) words inputs dt = scanned_of points tree words inputs dt
scanned_by points None words inputs dt = record { words = words; outputs = zeros_at points; flag = false }

-- The stores of a scan where a program runs; else none.
abbrev pub stored_by : List Point → Option Tree → (words inputs : List ℤ) → (dt : ℤ) → List (ℕ × ℤ)
stored_by points (Some tree) words inputs dt = stored_of points tree words inputs dt
stored_by points None words inputs dt = []
