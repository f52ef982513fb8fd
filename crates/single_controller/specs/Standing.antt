-- How the one controller stands in a play of a script. Own rule.
use Rattle.std.specs.Prelude.{◌≡◌, ℕ, ℤ, ◌≤◌, List, length, None}
use Rattle.tri_base.specs.declared.leg.Leg.TheVariants.{A, B, C}
use Rattle.engine_face.specs.Meaning.{Meaning}
use Rattle.script_text.specs.ScriptValue.{ScriptValue}
use Rattle.script_text.specs.LegScans.{TapeValue, tape_of}
use Rattle.input_legs.specs.VotedSheets.{VotedSheet}
use Rattle.single_controller.specs.Controller.{Controller, controller_after}

-- What is seen of it: the controller, what each leg sees of the script, and the votes and outputs of the last scan.
pub record SingleValue : Type 0 where
  pub controller : Controller
  pub tape_a : TapeValue
  pub tape_b : TapeValue
  pub tape_c : TapeValue
  pub voted : VotedSheet
  pub outputs : List ℤ

-- It stands where the one controller of a script is after so many scans.
pub record Stands (m : Meaning) (v : ScriptValue) (scans : ℕ) (s : SingleValue) : Type 0 where
  pub controller : s.controller ≡ controller_after m v scans
  pub tape_a : s.tape_a ≡ tape_of v A
  pub tape_b : s.tape_b ≡ tape_of v B
  pub tape_c : s.tape_c ≡ tape_of v C
  -- its text builds, there are as many words as the program has, and no more downloads than scans
  pub builds : m.builds s.controller.text ≡ None
  pub count : length s.controller.words ≡ m.word_count s.controller.text
  pub epoch : s.controller.epoch ≤ scans
