-- What the calls of an engine answer.
use Rattle.std.specs.Prelude.{◌≡◌, List, ℕ, Option, Some, None, Result, Ok, Err}
use Rattle.engine_face.specs.declared.refusal.Refusal.{Refusal}
use Rattle.engine_face.specs.declared.refusal.Refusal.TheVariants.{NoMemory}

-- A refusal is the one that is meant, or want of memory.
abbrev pub IsMeant : Option Refusal → Refusal → Type 0
IsMeant meant NoMemory = Unit {0}
IsMeant meant refusal = meant ≡ Some refusal

-- A program that stands for the text where nothing refuses it, or the refusal that is meant.
abbrev pub Builds : {P : Type 0} → (P → List ℕ) → Option Refusal → List ℕ → Result P Refusal → Type 0
Builds text_of meant text (Ok program) = (meant ≡ None) × (text_of program ≡ text)
Builds text_of meant text (Err refusal) = IsMeant meant refusal
