-- Whether all blocks of a script build, and to which program its text.
-- Nobody has to believe this: it serves private functions alone.
use Rattle.std.specs.Prelude.{◌≡◌, ℕ, List, Some, None, Result, Ok, Err}
use Rattle.engine_face.specs.Meaning.{Meaning}
use Rattle.script_text.specs.ScriptValue.{ReadScript}
use Rattle.plant_script.specs.FirstRefused.{first_refused_of}
use Rattle.script_commands.specs.declared.script_command.Refused.{Refused}
use Rattle.script_commands.specs.declared.script_command.Refused.TheVariants.{Block, Stuck, NoMemory}

-- All build; or this is the first that doesn't.
abbrev pub AreBuilt : Meaning → ReadScript → Result (Unit {0}) Refused → Type 0
AreBuilt m script (Ok unit) = first_refused_of m script ≡ None
AreBuilt m script (Err (Block line refusal)) = first_refused_of m script ≡ Some (line, refusal)
AreBuilt m script (Err (Stuck letter)) = ⊥
AreBuilt m script (Err NoMemory) = Unit {0}

-- All build, and this program stands for the script's text; or this is the first that doesn't build.
abbrev pub HasBuilt : {P : Type 0} → (P → List ℕ) → Meaning → ReadScript → Result P Refused → Type 0
HasBuilt text_of m script (Ok program) =
    (first_refused_of m script ≡ None) × (text_of program ≡ script.value.text)
HasBuilt text_of m script (Err (Block line refusal)) = first_refused_of m script ≡ Some (line, refusal)
HasBuilt text_of m script (Err (Stuck letter)) = ⊥
HasBuilt text_of m script (Err NoMemory) = Unit {0}
