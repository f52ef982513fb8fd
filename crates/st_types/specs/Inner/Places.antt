-- Nobody has to believe what stands here: it serves private fields alone.
-- How the declared tags are kept: a list of them, and a table of the first place of each name.
use Rattle.std.specs.Prelude.{◌≡◌, ℕ, List, [], ◌∷◌, ◌++◌, Option, Some, None}
use Rattle.std.specs.List.{position}
use Rattle.std.specs.Map.{lookup}
use Rattle.std.specs.Str.{bytes_eq}
use Rattle.tri_base.specs.Inner.NameFields.{same_name}
use Rattle.st_tree.specs.declared.tag.Tag.{Tag}
use Rattle.st_types.specs.declared.tags.DeclaredTags.TheInside.{Inside}

-- the place of the first tag with a name
abbrev pub place_of : List Tag → List ℕ → Option ℕ
place_of tags name = position (λ t. bytes_eq name t.name) tags

-- The table has the place of the first tag with each name.
pub record IsKept (s : Inside) : Type 0 where
  pub places : (name : List ℕ) → lookup (same_name name) s.places.entries ≡ place_of s.tags.items name

-- the table with a place for a name, where it has none yet
abbrev pub with_place : Option ℕ → List (List ℕ × ℕ) → List ℕ → ℕ → List (List ℕ × ℕ)
with_place None places name place = places ++ (name, place) ∷ []
with_place (Some first) places name place = places

-- the table with a place for a name that has none yet
abbrev pub with_first : List (List ℕ × ℕ) → List ℕ → ℕ → List (List ℕ × ℕ)
with_first places name place = with_place (lookup (same_name name) places) places name place
