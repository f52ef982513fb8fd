-- What is made of a download. Own rule.
use Rattle.std.specs.Prelude.{◌≡◌, ℕ, List, Option, Some, None, Result, Ok, Err}
use Rattle.engine_face.specs.declared.refusal.Refusal.{Refusal}

-- A program of the new text where nothing refuses it, or the refusal.
abbrev pub Judges : {P : Type 0} → (P → List ℕ) → Option Refusal → List ℕ → Result P Refusal → Type 0
Judges text_of meant text (Ok program) = (meant ≡ None) × (text_of program ≡ text)
Judges text_of meant text (Err refusal) = meant ≡ Some refusal
