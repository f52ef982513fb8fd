-- What holds of all scripts over an engine.
use Rattle.std.specs.Prelude.{◌≡◌, ℕ, List, Some}
use Rattle.tri_base.specs.declared.point.Point.{Point}
use Rattle.engine_face.specs.declared.refusal.Refusal.{Refusal}
use Rattle.engine_face.specs.Meaning.{Meaning}
use Rattle.engine_face.specs.Laws.{IsMeaning, IsOfText}
use Rattle.script_text.specs.ScriptValue.{ReadScript}
use Rattle.plant_script.specs.FirstRefused.{first_refused_of}

-- The first refused block of a script is refused for what is wrong with a text.
abbrev pub BlocksAreNoPrograms : Type 0
BlocksAreNoPrograms =
    (points : List Point) (m : Meaning) (s : ReadScript) (line : ℕ) (refusal : Refusal) → IsMeaning points m
    → first_refused_of m s ≡ Some (line, refusal) → IsOfText refusal
