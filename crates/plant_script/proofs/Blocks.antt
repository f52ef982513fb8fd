-- Why blocks are refused.
use Rattle.std.proofs.Common.{◌≡◌, ℕ, List, [], ◌∷◌, Option, Some, None, refl, sym, ap, ◌∙◌}
use Rattle.std.proofs.lemmas.Option.{none-some, same_Some}
use Rattle.tri_base.specs.declared.point.Point.{Point}
use Rattle.engine_face.specs.declared.refusal.Refusal.{Refusal}
use Rattle.engine_face.specs.Meaning.{Meaning}
use Rattle.engine_face.specs.Laws.{IsMeaning, IsOfText}
use Rattle.plant_script.specs.FirstRefused.{first_refused_in, refused_or, blocks_of}
use Rattle.plant_script.specs.Laws.{BlocksAreNoPrograms}

in_blocks : (points : List Point) (m : Meaning) (blocks : List (ℕ × List ℕ)) (line : ℕ) (refusal : Refusal) → IsMeaning points m → first_refused_in m blocks ≡ Some (line, refusal) → IsOfText refusal
in_blocks points m [] line refusal law e = absurd (none-some (line, refusal) e)
in_blocks points m (block ∷ blocks) line refusal law e =
    by (m.builds block.1) refl (λ rest. in_blocks points m blocks line refusal law rest)
  where
    by : (o : Option Refusal) → m.builds block.1 ≡ o
        → (first_refused_in m blocks ≡ Some (line, refusal) → IsOfText refusal) → IsOfText refusal
    by None h rest =
        rest (sym (ap (λ (o : Option Refusal). refused_or block.0 o (first_refused_in m blocks)) h) ∙ e)
    by (Some other) h rest =
        let same = same_Some (block.0, other) (line, refusal) (sym (ap (λ (o : Option Refusal). refused_or block.0 o (first_refused_in m blocks)) h) ∙ e) in
        law.of_text block.1 refusal (h ∙ ap (λ (pair : ℕ × Refusal). Some pair.1) same)

pub blocks_are_no_programs : BlocksAreNoPrograms
blocks_are_no_programs points m s line refusal law e = in_blocks points m (blocks_of s) line refusal law e
