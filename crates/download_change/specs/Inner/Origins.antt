-- Nobody has to believe what stands here: it serves private functions alone.
-- Where a name of the new program comes from: the old name whose heir it is.
use Rattle.std.specs.Prelude.{ℕ, ℤ, Bool, true, false, List, [], Option, Some, None}
use Rattle.std.specs.List.{find}
use Rattle.std.specs.Option.{option_and_then}
use Rattle.std.specs.Str.{bytes_eq}
use Rattle.st_tree.specs.declared.tag.Tag.{Tag}
use Rattle.tag_layout.specs.declared.placed.PlacedTag.{PlacedTag}
use Rattle.tag_layout.specs.Layout.{placed_named}
use Rattle.download_change.specs.Renames.{Rename, is_old_name}
use Rattle.download_change.specs.Kept.{of_type, words_at}

-- the old name by a name's rename, if it has one; was the name another tag's, and the name
abbrev pub source_by : (renamed : Option Rename) → (given : Bool) → (name : List ℕ) → Option (List ℕ)
source_by (Some r) given name = Some r.0
source_by None true name = None
source_by None false name = Some name

-- the old name whose heir a name is
abbrev pub source_of : List Rename → List ℕ → Option (List ℕ)
source_of renames name = source_by (find (λ r. bytes_eq name r.1) renames) (is_old_name renames name) name

-- the old tag that is kept as a tag of the new program
abbrev pub kept_by_name : (old : List Tag) → List Rename → PlacedTag → Option PlacedTag
kept_by_name old renames t = of_type t.of (option_and_then (placed_named old) (source_of renames t.name))

-- the words of a tag that is found
abbrev pub part_of : List ℤ → Option PlacedTag → List ℤ
part_of words None = []
part_of words (Some t) = words_at words t
