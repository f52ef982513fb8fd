-- Nobody has to believe what stands here: it serves private fields alone.
-- How a layout is kept: the declared tags, the tags with their addresses, and a table of the first place of each name.
use Rattle.std.specs.Prelude.{◌≡◌, ℕ, ◌≤◌, List}
use Rattle.std.specs.Map.{lookup}
use Rattle.tri_base.specs.Inner.NameFields.{same_name}
use Rattle.tri_base.specs.Limits.{word_limit}
use Rattle.st_types.specs.Inner.Places.{place_of}
use Rattle.tag_layout.specs.Layout.{total_words, placed_tags, AreApart}
use Rattle.tag_layout.specs.declared.layout.Layout.TheInside.{Inside}

-- The fields of a layout say the same.
pub record IsKept (s : Inside) : Type 0 where
  pub placed : s.placed.items ≡ placed_tags s.tags.items
  pub places : (name : List ℕ) → lookup (same_name name) s.places.entries ≡ place_of s.tags.items name
  pub words : s.words ≡ total_words s.tags.items
  pub few : total_words s.tags.items ≤ word_limit
  pub apart : AreApart s.tags.items
