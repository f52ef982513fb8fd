-- Where no block of a script is refused, its text builds.
use Rattle.std.proofs.Common.{◌≡◌, refl, ℕ, Option, Some, None}
use Rattle.engine_face.specs.declared.refusal.Refusal.{Refusal}
use Rattle.engine_face.specs.Meaning.{Meaning}
use Rattle.script_text.specs.ScriptValue.{ReadScript}
use Rattle.plant_script.specs.FirstRefused.{first_refused_of, refused_or}

none_of : (line : ℕ) (o : Option Refusal) (others : Option (ℕ × Refusal)) → refused_or line o others ≡ None → o ≡ None
none_of line None others e = refl
none_of line (Some refusal) others e = absurd cc

pub text_builds : (m : Meaning) (script : ReadScript) → first_refused_of m script ≡ None → m.builds script.value.text ≡ None
text_builds m script e = none_of script.text_line (m.builds script.value.text) _ e
