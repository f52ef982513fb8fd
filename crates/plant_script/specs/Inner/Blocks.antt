-- Nobody has to believe what stands here: it serves private functions alone.
-- What the first of some blocks come to.
use Rattle.std.specs.Prelude.{◌≡◌, ℕ, List, ◌∷◌, ◌++◌, drop, Option, Some, None}
use Rattle.engine_face.specs.declared.refusal.Refusal.{Refusal}
use Rattle.engine_face.specs.Meaning.{Meaning}
use Rattle.plant_script.specs.FirstRefused.{first_refused_in, with_lines}

-- What the blocks of some texts come to, where so many were seen before them.
abbrev pub first_behind : Meaning → List ℕ → ℕ → List (List ℕ) → Option (ℕ × Refusal)
first_behind m numbers seen texts = first_refused_in m (with_lines (drop seen numbers) texts)

-- Whatever texts stand behind some, the first refused is one of these, or the one of those behind.
abbrev pub GoesOn : Meaning → List ℕ → ℕ → List (List ℕ) → Option (ℕ × Refusal) → ℕ → Type 0
GoesOn m numbers seen texts (Some found) then_seen =
    (more : List (List ℕ)) → first_behind m numbers seen (texts ++ more) ≡ Some found
GoesOn m numbers seen texts None then_seen =
    (more : List (List ℕ)) → first_behind m numbers seen (texts ++ more) ≡ first_behind m numbers then_seen more

-- The next text has this line, and what stands behind it goes on with the lines from another place on.
abbrev pub TakesLine : List ℕ → (at line next : ℕ) → Type 0
TakesLine numbers at line next = (text : List ℕ) → (texts : List (List ℕ))
    → with_lines (drop at numbers) (text ∷ texts) ≡ (line, text) ∷ with_lines (drop next numbers) texts
