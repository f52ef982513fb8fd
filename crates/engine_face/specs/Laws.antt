-- What holds of the meaning of every engine over given points. Own rule.
use Rattle.std.specs.Prelude.{◌≡◌, ◌≢◌, ℕ, ℤ, pos, ◌<◌, ◌≤◌, ◌≤ℤ◌, List, length, Some, None, slice_index_or}
use Rattle.std.specs.List.{All, AllPairs, AllZip}
use Rattle.tri_base.specs.declared.point.Point.{Point}
use Rattle.tri_base.specs.Downloads.{Download}
use Rattle.tri_base.specs.Noted.{number_before, restored}
use Rattle.chassis.specs.Points.{inputs_of, outputs_of}
use Rattle.chassis.specs.Ranges.{IsWithin}
use Rattle.engine_face.specs.declared.refusal.Refusal.{Refusal}
use Rattle.engine_face.specs.declared.refusal.Refusal.TheVariants.{RenameUnknown, RenameTwice, KindChanged, NoMemory}
use Rattle.engine_face.specs.Meaning.{Meaning, Scanned, NamesKnown, changes}
use Rattle.tri_base.specs.Limits.{scan_time_limit, text_limit, word_limit}

-- Pairs of an address and a number tell what a scan did to the words.
pub record TellStores (before after : List ℤ) (pairs : List (ℕ × ℤ)) : Type 0 where
  -- each address is that of a word
  pub within : All (λ pair. pair.0 < length before) pairs
  -- no two pairs have one address
  pub once : AllPairs (λ pair other. pair.0 ≢ other.0) pairs
  -- each number is the one that stood there before
  pub number : (address : ℕ) (v : ℤ) → number_before address pairs ≡ Some v → v ≡ slice_index_or before address (pos 0)
  -- a word that isn't told is as before
  pub others : (address : ℕ) → number_before address pairs ≡ None
      → slice_index_or after address (pos 0) ≡ slice_index_or before address (pos 0)

-- A scan leaves as many words as before, gives each output point a value in its range, and its stores tell
-- what it did to the words.
pub record IsScan (points : List Point) (before : List ℤ) (after : Scanned) (pairs : List (ℕ × ℤ)) : Type 0 where
  pub count : length after.words ≡ length before
  pub outputs : AllZip IsWithin (outputs_of points) after.outputs
  pub stores : TellStores before after.words pairs

-- A reason against a text by itself: none against a change alone, and not want of memory.
abbrev pub IsOfText : Refusal → Type 0
IsOfText (RenameUnknown name) = ⊥
IsOfText (RenameTwice name) = ⊥
IsOfText (KindChanged name) = ⊥
IsOfText NoMemory = ⊥
IsOfText refusal = Unit {0}

-- The meaning of an engine over the points.
pub record IsMeaning (points : List Point) (m : Meaning) : Type 0 where
  -- a text that builds has some bytes, and not too many
  pub some_text : (text : List ℕ) → m.builds text ≡ None → 0 < length text
  pub short_text : (text : List ℕ) → m.builds text ≡ None → length text ≤ text_limit
  -- and no more words than a memory has
  pub few_words : (text : List ℕ) → m.builds text ≡ None → m.word_count text ≤ word_limit
  -- a text by itself is refused for what is wrong with a text
  pub of_text : (text : List ℕ) (refusal : Refusal) → m.builds text ≡ Some refusal → IsOfText refusal
  -- the first words and the carried ones are as many as the program has
  pub first_count : (text : List ℕ) → m.builds text ≡ None → length (m.first text) ≡ m.word_count text
  pub carried_count : (old : List ℕ) (d : Download) (words : List ℤ) → m.builds old ≡ None → m.builds d.text ≡ None
      → NamesKnown m old d → length words ≡ m.word_count old → length (m.carried old d words) ≡ m.word_count d.text
  -- a scan of as many words as the program has, over one value for each input point, in a time of at most ten
  -- seconds, is one
  pub scan : (text : List ℕ) (words inputs : List ℤ) (dt : ℤ) → m.builds text ≡ None
      → length words ≡ m.word_count text → length inputs ≡ length (inputs_of points)
      → pos 0 ≤ℤ dt → dt ≤ℤ scan_time_limit
      → IsScan points words (m.scanned text words inputs dt) (m.stored text words inputs dt)

-- With each number put back, the words that a scan left are those before it.
abbrev pub StoresRestore : Type 0
StoresRestore =
    (before after : List ℤ) (pairs : List (ℕ × ℤ)) → TellStores before after pairs → length after ≡ length before
    → restored pairs after ≡ before

-- Where nothing forbids a change, the text builds and the renames' names are known.
abbrev pub ChangesKnowNames : Type 0
ChangesKnowNames =
    (m : Meaning) (old : List ℕ) (d : Download) → changes m old d ≡ None → (m.builds d.text ≡ None) × NamesKnown m old d
