-- Nobody has to believe what stands here: it serves the implementation of a trait alone.
-- A scan is the machine's run of the program's code.
use Rattle.std.proofs.Common.{◌≡◌, ◌≢◌, ℕ, ◌≤◌, ◌+◌, ℤ, List, [], ◌∷◌, length, length-append, map, arith, refl, sym, ap, ◌∙◌, subst, max}
use Rattle.std.specs.List.{All, AllPairs, AllZip}
use Rattle.tri_base.specs.declared.point.Point.{Point}
use Rattle.chassis.specs.Points.{outputs_of}
use Rattle.chassis.specs.Ranges.{HoldsZero, IsWithin}
use Rattle.st_tree.specs.declared.program.Tree.{Tree}
use Rattle.st_tree.specs.Tags.{tags_of}
use Rattle.st_tree.specs.Nesting.{nesting_limit}
use Rattle.st_tree.specs.TreeNesting.{body_nesting, nesting_of}
use Rattle.st_parser.proofs.ProgramNesting.{nests_as_its_tokens}
use Rattle.tag_layout.specs.Layout.{total_words}
use Rattle.tag_layout.proofs.Apart.{apart_of}
use Rattle.scan_machine.specs.Machine.{Ran, Runs, at_start, at_end}
use Rattle.scan_machine.specs.Rules.{IsVerified}
use Rattle.scan_machine.specs.Laws.{NotesStores}
use Rattle.scan_machine.proofs.OneRun.{one_run}
use Rattle.scan_machine.proofs.Storing.{noted_stores}
use Rattle.st_core.specs.Environments.{Env}
use Rattle.st_core.specs.Memory.{shape_of, words_of, total_of}
use Rattle.st_core.specs.Fits.{ActFits}
use Rattle.st_core.specs.Compiled.{IsCodeOf}
use Rattle.st_core.proofs.Compiled.{body_code_is}
use Rattle.st_core.proofs.Effects.{effect_shape}
use Rattle.st_meaning.specs.Programs.{with_inputs, output_of, body_of, program_cost, scan_of}
use Rattle.st_sound.specs.Shapes.{shape_in}
use Rattle.st_sound.proofs.SoundStatements.{well_typed_sound}
use Rattle.tag_wiring.specs.HeldEnvironments.{env_in}
use Rattle.tag_wiring.specs.PointWords.{inputs_set, input_stores, outputs_from}
use Rattle.tag_wiring.proofs.Holding.{comes_back}
use Rattle.tag_wiring.proofs.SettingWords.{inputs_are}
use Rattle.tag_wiring.proofs.TakingWords.{outputs_are, outputs_within}
use Rattle.tag_wiring.proofs.TellingStores.{stores_tell}
use Rattle.tag_wiring.proofs.Declaring.{total_same}
use Rattle.scan_code.specs.Compiling.{code_in}
use Rattle.scan_code.proofs.Assembled.{body_fits}
use Rattle.engine_face.specs.Laws.{IsScan, TellStores}
use Rattle.st_front.specs.FrontEnd.{HasTree, IsProgram}
use Rattle.st_build.specs.Running.{held_in, begun, scanned_of, stored_of}
use Rattle.st_build.specs.Laws.{RunsScan}
use Rattle.st_build.specs.Inner.Ending.{stands_there}
use Rattle.st_build.specs.Inner.Stores.{tell_run}

-- ---- programs fit

low_part : (a b n : ℕ) → max a b ≤ n → b ≤ n
low_part a b n h = omega (arith, h)

-- the statements of a program nest within the limit
pub shallow : (text : List ℕ) (tree : Tree) → HasTree text tree → body_nesting tree.statements ≤ nesting_limit
unfolding nesting_of
shallow text tree h = low_part _ (body_nesting tree.statements) nesting_limit ((nests_as_its_tokens tree h.tokens h.spells).0 h.low)

pub program_fits : (points : List Point) (text : List ℕ) (tree : Tree) → IsProgram points text tree → ActFits (shape_in (tags_of tree)) [] (body_of tree)
program_fits points text tree h =
    body_fits (shape_in (tags_of tree)) (tags_of tree) tree.statements (well_typed_sound points tree h.typed) (shallow text tree h.has)

-- ---- scans are runs

-- what the code of a tree does
pub runs_scan : (points : List Point) (tree : Tree) (words inputs : List ℤ) (dt : ℤ) → IsCodeOf (shape_in (tags_of tree)) (body_of tree) (code_in tree)
    → length words ≡ total_words (tags_of tree) → RunsScan points tree words inputs dt
unfolding scanned_of stored_of scan_of
runs_scan points tree words inputs dt code count =
    let tags = tags_of tree in
    let set = inputs_are points tags inputs words (tree, refl) count in
    let env = with_inputs points tags inputs (held_in tree words) in
    let does = code.does dt env (input_stores points tags words) set.shape in
    let run : Runs (code_in tree) dt (begun points tree words inputs) does.ran =
    subst (λ (ws : List ℤ). Runs (code_in tree) dt (record { words = ws; stores = input_stores points tags words }) does.ran) (sym set.words) does.run in
    let there = stands_there (code_in tree) dt (program_cost tree) does.ran.count (at_start (begun points tree words inputs)) (at_end (code_in tree) does.ran) does.cheap run refl in
    record {
      ran = does.ran;
      run = run;
      cheap = does.cheap;
      words = does.words;
      flag = does.flag;
      stores = sym (ap (λ s. s.stores) there);
    }

-- the one run leaves what the scan says
pub same_ran : (points : List Point) (tree : Tree) (words inputs : List ℤ) (dt : ℤ) (ran : Ran) (r : RunsScan points tree words inputs dt)
    → Runs (code_in tree) dt (begun points tree words inputs) ran → ran ≡ r.ran
same_ran points tree words inputs dt ran r run = one_run (code_in tree) dt (begun points tree words inputs) ran r.ran run r.run

-- ---- a scan is one

words_count : (env : Env) → length (words_of env) ≡ total_of (shape_of env)
unfolding words_of total_of shape_of
words_count [] = refl
words_count (t ∷ ts) = length-append t.1 (words_of ts) ∙ ap (λ n. length t.1 + n) (words_count ts)

module _ (points : List Point) (text : List ℕ) (tree : Tree) (words inputs : List ℤ) (dt : ℤ)
    (is : IsProgram points text tree) (count : length words ≡ total_words (tags_of tree)) where
  left_env : Env
  left_env = (scan_of points tree (held_in tree words) inputs dt).env

  left_shape : shape_of left_env ≡ shape_in (tags_of tree)
  unfolding left_env scan_of
  left_shape =
      effect_shape dt (shape_in (tags_of tree)) [] (body_of tree) (with_inputs points (tags_of tree) inputs (held_in tree words)) (program_fits points text tree is)
      (inputs_are points (tags_of tree) inputs words (tree, refl) count).shape

  left_total : length (words_of left_env) ≡ total_words (tags_of tree)
  left_total = words_count left_env ∙ (ap total_of left_shape ∙ total_same (tags_of tree))

  left_count : length (scanned_of points tree words inputs dt).words ≡ length words
  unfolding scanned_of left_env
  left_count = left_total ∙ sym count

  outputs_are_left : outputs_from points (tags_of tree) (words_of left_env) ≡ map (output_of (tags_of tree) left_env) (outputs_of points)
  outputs_are_left =
      outputs_are points (tags_of tree) (words_of left_env) (tree, refl) left_total
      ∙ ap (λ env. map (output_of (tags_of tree) env) (outputs_of points))
      (ap (λ shape. env_in shape (words_of left_env)) (sym left_shape) ∙ comes_back left_env)

  -- the outputs from the words that are left
  taken : outputs_from points (tags_of tree) (scanned_of points tree words inputs dt).words ≡ (scanned_of points tree words inputs dt).outputs
  unfolding scanned_of left_env scan_of
  taken = outputs_are_left

  code_is : IsCodeOf (shape_in (tags_of tree)) (body_of tree) (code_in tree)
  code_is = body_code_is (shape_in (tags_of tree)) (body_of tree) (program_fits points text tree is)

  run_is : RunsScan points tree words inputs dt
  run_is = runs_scan points tree words inputs dt code_is count

  set_count : length (inputs_set points (tags_of tree) inputs words) ≡ length words
  set_count = (inputs_are points (tags_of tree) inputs words (tree, refl) count).count

  notes : NotesStores (begun points tree words inputs) run_is.ran.memory
  notes =
      noted_stores (code_in tree) dt (begun points tree words inputs) run_is.ran
      (subst (λ n. IsVerified (code_in tree) n) (total_same (tags_of tree) ∙ sym (set_count ∙ count)) code_is.verified)
      run_is.run

  stores_tell_all : AllPairs (λ (p q : Point). p.name ≢ q.name) points
      → TellStores words (scanned_of points tree words inputs dt).words (stored_of points tree words inputs dt)
  stores_tell_all apart =
      let r = run_is in
      let first = stores_tell points (tags_of tree) inputs words (tree, refl) (apart_of points tree is.typed) apart count in
      let both = tell_run words (inputs_set points (tags_of tree) inputs words) r.ran.memory.words (input_stores points (tags_of tree) words) r.ran.memory.stores first notes set_count in
      subst (λ ws. TellStores words ws (stored_of points tree words inputs dt)) r.words (subst (λ ps. TellStores words r.ran.memory.words ps) r.stores both)

pub scan_runs : (points : List Point) (text : List ℕ) (tree : Tree) (words inputs : List ℤ) (dt : ℤ) → IsProgram points text tree → length words ≡ total_words (tags_of tree)
    → RunsScan points tree words inputs dt
scan_runs points text tree words inputs dt is count = run_is points text tree words inputs dt is count

pub is_scan : (points : List Point) (text : List ℕ) (tree : Tree) (words inputs : List ℤ) (dt : ℤ) → All HoldsZero points → AllPairs (λ (p q : Point). p.name ≢ q.name) points
    → IsProgram points text tree → length words ≡ total_words (tags_of tree) → IsScan points words (scanned_of points tree words inputs dt) (stored_of points tree words inputs dt)
is_scan points text tree words inputs dt holds apart is count = record {
  count = left_count points text tree words inputs dt is count;
  outputs = subst (λ vs. AllZip IsWithin (outputs_of points) vs) (taken points text tree words inputs dt is count)
      (outputs_within points (tags_of tree) (scanned_of points tree words inputs dt).words holds);
  stores = stores_tell_all points text tree words inputs dt is count apart;
}

pub outputs_taken : (points : List Point) (text : List ℕ) (tree : Tree) (words inputs : List ℤ) (dt : ℤ) → IsProgram points text tree → length words ≡ total_words (tags_of tree)
    → outputs_from points (tags_of tree) (scanned_of points tree words inputs dt).words ≡ (scanned_of points tree words inputs dt).outputs
outputs_taken points text tree words inputs dt is count = taken points text tree words inputs dt is count

pub words_left : (points : List Point) (text : List ℕ) (tree : Tree) (words inputs : List ℤ) (dt : ℤ) → IsProgram points text tree → length words ≡ total_words (tags_of tree)
    → length (scanned_of points tree words inputs dt).words ≡ length words
words_left points text tree words inputs dt is count = left_count points text tree words inputs dt is count
