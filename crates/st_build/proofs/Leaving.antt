-- What a run of a kept program's code leaves is what its scan is said to leave.
use Rattle.std.proofs.Common.{◌≡◌, ℕ, ◌<◌, ℤ, Bool, if◌then◌else◌, List, length, Option, Some, None, Ok, sym, ap, ◌∙◌, subst}
use Rattle.std.specs.List.{All}
use Rattle.std.proofs.lemmas.List.{length-map}
use Rattle.tri_base.specs.declared.point.Point.{Point}
use Rattle.tri_base.specs.Noted.{restored}
use Rattle.chassis.specs.Points.{IsChassis, outputs_of}
use Rattle.chassis.specs.Ranges.{HoldsZero}
use Rattle.st_tree.specs.declared.tag.Tag.{Tag}
use Rattle.st_tree.specs.declared.program.Tree.{Tree}
use Rattle.st_tree.specs.Tags.{tags_of}
use Rattle.tag_layout.specs.Layout.{total_words}
use Rattle.scan_machine.specs.declared.instructions.Instr.{Instr}
use Rattle.scan_machine.specs.Machine as machine
use Rattle.scan_machine.specs.Machine.{Memory, Ran}
use Rattle.tag_wiring.specs.PointWords.{inputs_set, input_stores, outputs_from, output_in}
use Rattle.scan_code.specs.Compiling.{code_in}
use Rattle.engine_face.specs.Laws.{IsScan}
use Rattle.engine_face.proofs.Restoring.{stores_restore}
use Rattle.st_build.specs.Building.{Runs, program_of, refusal_in}
use Rattle.st_build.specs.Running.{are_apart, running, scanned_of, stored_of, scanned_by, stored_by}
use Rattle.st_build.specs.Inner.Kept.{KeptProgram, IsKept}
use Rattle.st_build.specs.Inner.Scans.{scan_runs, same_ran, outputs_taken, is_scan}
use Rattle.st_build.specs.Inner.MeaningLaws.{pairs_apart}
use Rattle.st_build.proofs.Keeping.{known}

-- what the machine leaves behind the inputs of these tags were set
abbrev pub RanOn : List Point → List Tag → List Instr → (words inputs : List ℤ) → ℤ → (after : List ℤ) → Bool → List (ℕ × ℤ) → Type 0
RanOn points tags code words inputs dt after flag pairs =
    (ran : Ran) × machine.Runs code dt (record { words = inputs_set points tags inputs words; stores = input_stores points tags words }) ran
    × (ran.memory ≡ record { words = after; stores = pairs }) × (ran.flag ≡ flag)

-- what the scan is said to leave, and what the laws say of it
pub record Leaves (points : List Point) (tree : Option Tree) (before inputs : List ℤ) (dt : ℤ) (after outs : List ℤ) (flag : Bool) (pairs : List (ℕ × ℤ)) : Type 0 where
  pub words_are : after ≡ (scanned_by points tree before inputs dt).words
  pub outputs_are : outs ≡ (scanned_by points tree before inputs dt).outputs
  pub flag_is : flag ≡ (scanned_by points tree before inputs dt).flag
  pub stores_are : pairs ≡ stored_by points tree before inputs dt
  pub number : length outs ≡ length (outputs_of points)
  pub within : All (λ (pair : ℕ × ℤ). pair.0 < length before) pairs
  pub restores : restored pairs after ≡ before

tree_leaves : (points : List Point) (text : List ℕ) (tree : Tree) (words inputs : List ℤ) (dt : ℤ) (after outs : List ℤ) (flag : Bool) (pairs : List (ℕ × ℤ))
    → program_of points text ≡ Ok tree → Runs points text tree
    → IsChassis points → All HoldsZero points → length words ≡ total_words (tags_of tree)
    → RanOn points (tags_of tree) (code_in tree) words inputs dt after flag pairs → outs ≡ outputs_from points (tags_of tree) after
    → Leaves points (Some tree) words inputs dt after outs flag pairs
tree_leaves points text tree words inputs dt after outs flag pairs e runs chassis holds count (ran, run, memory, flag_is) taken =
    let r = scan_runs points text tree words inputs dt runs.is count in
    let same = same_ran points tree words inputs dt ran r run in
    let words_are : after ≡ (scanned_of points tree words inputs dt).words =
    sym (ap (λ (m : Memory). m.words) memory) ∙ (ap (λ (x : Ran). x.memory.words) same ∙ r.words) in
    let stores_are : pairs ≡ stored_of points tree words inputs dt =
    sym (ap (λ (m : Memory). m.stores) memory) ∙ (ap (λ (x : Ran). x.memory.stores) same ∙ r.stores) in
    let scan : IsScan points words (scanned_of points tree words inputs dt) (stored_of points tree words inputs dt) =
    is_scan points text tree words inputs dt holds chassis.apart runs.is count in
    record {
      words_are = words_are;
      outputs_are = taken ∙ (ap (outputs_from points (tags_of tree)) words_are ∙ outputs_taken points text tree words inputs dt runs.is count);
      flag_is = sym flag_is ∙ (ap (λ (x : Ran). x.flag) same ∙ r.flag);
      stores_are = stores_are;
      number = ap length taken ∙ length-map (outputs_of points) (output_in (tags_of tree) after);
      within = subst (All (λ (pair : ℕ × ℤ). pair.0 < length words)) (sym stores_are) scan.stores.within;
      restores = (λ i. restored (stores_are i) (words_are i)) ∙ stores_restore words (scanned_of points tree words inputs dt).words (stored_of points tree words inputs dt) scan.stores scan.count;
    }

runs_there : (points : List Point) (tree : Tree) → IsChassis points → (if are_apart points then Some tree else None) ≡ Some tree
runs_there points tree chassis = ap (λ b. if b then Some tree else None) (pairs_apart points chassis.apart)

pub leaves : (points : List Point) (p : KeptProgram) (words inputs : List ℤ) (dt : ℤ) (after outs : List ℤ) (flag : Bool) (pairs : List (ℕ × ℤ))
    → IsKept p → refusal_in (program_of points p.text) ≡ None → IsChassis points → All HoldsZero points → length words ≡ total_words p.tags
    → RanOn points p.tags p.code.list words inputs dt after flag pairs → outs ≡ outputs_from points p.tags after
    → Leaves points (running points (program_of points p.text)) words inputs dt after outs flag pairs
leaves points p words inputs dt after outs flag pairs kept e chassis holds count ran taken =
    let k = known points p kept e in
    let runs : running points (program_of points p.text) ≡ Some k.tree = ap (running points) k.is ∙ runs_there points k.tree chassis in
    subst (λ o. Leaves points o words inputs dt after outs flag pairs) (sym runs)
    (tree_leaves points p.text k.tree words inputs dt after outs flag pairs k.is k.runs chassis holds (count ∙ ap total_words k.tags)
    (subst (λ (x : List Tag). RanOn points x (code_in k.tree) words inputs dt after flag pairs) k.tags (subst (λ (x : List Instr). RanOn points p.tags x words inputs dt after flag pairs) k.code ran))
    (taken ∙ ap (λ (x : List Tag). outputs_from points x after) k.tags))
