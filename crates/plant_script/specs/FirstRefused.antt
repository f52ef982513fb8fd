-- The first block of a script that the engine doesn't build: the TEXT block, then the SWAP blocks in their order.
-- Own rule.
use Rattle.std.specs.Prelude.{ℕ, List, [], ◌∷◌, Option, Some, None}
use Rattle.std.specs.List.{flat_map}
use Rattle.engine_face.specs.declared.refusal.Refusal.{Refusal}
use Rattle.engine_face.specs.Meaning.{Meaning}
use Rattle.script_text.specs.declared.moment.ScanLine.{ScanLine}
use Rattle.script_text.specs.declared.moment.ScanLine.TheVariants.{Swap}
use Rattle.script_text.specs.MomentValue.{MomentValue}
use Rattle.script_text.specs.ScriptValue.{ReadScript}

-- The text of a line, where it is a SWAP.
abbrev pub swap_text : ScanLine → List (List ℕ)
swap_text (Swap leg text) = text ∷ []
swap_text line = []

-- The texts of the SWAP blocks.
abbrev pub swap_texts : List MomentValue → List (List ℕ)
swap_texts moments = flat_map (λ m. flat_map swap_text m.lines) moments

-- Texts, each with its line; the line is 0 where none is known.
unfoldable pub with_lines : List ℕ → List (List ℕ) → List (ℕ × List ℕ)
with_lines lines [] = []
with_lines [] (text ∷ texts) = (0, text) ∷ with_lines [] texts
with_lines (line ∷ lines) (text ∷ texts) = (line, text) ∷ with_lines lines texts

-- The SWAP blocks, each with the line of its first word, counted from 1.
abbrev pub swaps_of : ReadScript → List (ℕ × List ℕ)
swaps_of s = with_lines s.swap_lines (swap_texts s.value.moments)

-- The blocks that have to build, likewise. A made script has the line of its TEXT in its canonical text.
abbrev pub blocks_of : ReadScript → List (ℕ × List ℕ)
blocks_of s = (s.text_line, s.value.text) ∷ swaps_of s

-- A block's line and refusal where it has one, else what the blocks behind it come to.
abbrev pub refused_or : ℕ → Option Refusal → Option (ℕ × Refusal) → Option (ℕ × Refusal)
refused_or line None others = others
refused_or line (Some refusal) others = Some (line, refusal)

-- The first refused block, with its line and refusal.
abbrev pub first_refused_in : Meaning → List (ℕ × List ℕ) → Option (ℕ × Refusal)
first_refused_in m [] = None
first_refused_in m (block ∷ blocks) = refused_or block.0 (m.builds block.1) (first_refused_in m blocks)

-- That of a script.
abbrev pub first_refused_of : Meaning → ReadScript → Option (ℕ × Refusal)
first_refused_of m s = first_refused_in m (blocks_of s)

-- That of the SWAP blocks alone.
abbrev pub first_refused_swap_of : Meaning → ReadScript → Option (ℕ × Refusal)
first_refused_swap_of m s = first_refused_in m (swaps_of s)
