-- What holds of all plays of the one controller.
use Rattle.std.specs.Prelude.{◌≡◌, ℕ}
use Rattle.engine_face.specs.Meaning.{Meaning}
use Rattle.script_text.specs.ScriptValue.{ScriptValue}
use Rattle.plant_script.specs.SingleTexts.{text_after}
use Rattle.single_controller.specs.Controller.{controller_after}

-- Its text after so many scans is the one by which legs are called suspect and downloads are checked.
abbrev pub HasTheText : Type 0
HasTheText = (m : Meaning) (v : ScriptValue) (scans : ℕ) → (controller_after m v scans).text ≡ text_after m v scans
