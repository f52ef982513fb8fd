-- What an engine makes of programs over given points: functions of texts, words, inputs and scan times.
-- A program stands for its text alone. Own rule.
use Rattle.std.specs.Prelude.{◌≡◌, ℕ, ℤ, Bool, List, Option, Some, None}
use Rattle.tri_base.specs.Downloads.{Download}
use Rattle.engine_face.specs.declared.refusal.Refusal.{Refusal}
use Rattle.engine_face.specs.declared.refusal.Refusal.TheVariants.{RenameUnknown, RenameTwice, KindChanged}

-- What a scan leaves: the words, the values of the output points, and the flag ARITH: whether a computed number or an
-- index was clamped, or a divisor was 0.
pub record Scanned : Type 0 where
  pub words : List ℤ
  pub outputs : List ℤ
  pub flag : Bool

-- What programs are, and what they do.
pub record Meaning : Type 0 where
  -- why a text is no program, or none
  pub builds : List ℕ → Option Refusal
  -- of the first rename whose old name is no tag of the old program, or whose new name is none of the new one, that
  -- name; the old one first
  pub unknown_name : List ℕ → Download → Option (List ℕ)
  -- the first old or new name of a rename that an earlier rename has in the same place
  pub name_twice : List ℕ → Download → Option (List ℕ)
  -- the first tag of the old text that the download declares, under its new name, with another type
  pub changed_kind : List ℕ → Download → Option (List ℕ)
  -- how many words a program's memory has
  pub word_count : List ℕ → ℕ
  -- the words that a program starts with
  pub first : List ℕ → List ℤ
  -- the words that a download goes on with, from the old text and its words
  pub carried : List ℕ → Download → List ℤ → List ℤ
  -- a scan of a program, from its words, the values of the input points and the scan time
  pub scanned : List ℕ → List ℤ → List ℤ → ℤ → Scanned
  -- the addresses that this scan may store to, each once, with the numbers that stood there
  pub stored : List ℕ → List ℤ → List ℤ → ℤ → List (ℕ × ℤ)

-- The first of: what a text is refused for, a name that isn't found, a name twice, a changed kind.
abbrev pub first_refusal : (text : Option Refusal) (unknown twice kind : Option (List ℕ)) → Option Refusal
first_refusal (Some refusal) unknown twice kind = Some refusal
first_refusal None (Some name) twice kind = Some (RenameUnknown name)
first_refusal None None (Some name) kind = Some (RenameTwice name)
first_refusal None None None (Some name) = Some (KindChanged name)
first_refusal None None None None = None

-- Why a program can't be changed to a download, or none.
abbrev pub changes : Meaning → List ℕ → Download → Option Refusal
changes m old d = first_refusal (m.builds d.text) (m.unknown_name old d) (m.name_twice old d) (m.changed_kind old d)

-- Each rename finds its two names, and no other has one of them in its place.
abbrev pub NamesKnown : Meaning → List ℕ → Download → Type 0
NamesKnown m old d = (m.unknown_name old d ≡ None) × (m.name_twice old d ≡ None)
