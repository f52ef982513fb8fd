-- Scripts can be played and read. Own rule.
use Rattle.std.specs.Prelude.{◌≡◌, ℕ, ◌≤◌, None}
use Rattle.engine_face.specs.Meaning.{Meaning}
use Rattle.engine_face.specs.Laws.{IsMeaning}
use Rattle.script_text.specs.IsScript.{IsScript}
use Rattle.script_text.specs.ScriptValue.{ReadScript}
use Rattle.plant_script.specs.FirstRefused.{first_refused_of}
use Rattle.majority_laws.specs.Between.{CanBeRead}
use Rattle.majority_laws.specs.Majority.{CanBePlayed}

-- A script can be played over an engine for its points where that refuses none of its blocks.
abbrev pub ScriptsCanBePlayed : Type 0
ScriptsCanBePlayed =
    (m : Meaning) (s : ReadScript) → IsMeaning s.value.points m → IsScript s.value → first_refused_of m s ≡ None
    → CanBePlayed m s.value

-- Each scan of a script can be read.
abbrev pub ScriptsCanBeRead : Type 0
ScriptsCanBeRead =
    (s : ReadScript) (scan : ℕ) → IsScript s.value → 1 ≤ scan → scan ≤ s.value.scans → CanBeRead s.value scan
