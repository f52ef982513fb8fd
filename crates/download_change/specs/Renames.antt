-- The renames of a download: which of them are wrong, and what tags are called behind it. A rename is a pair of names,
-- the old one and the new one. Own rule.
use Rattle.std.specs.Prelude.{ℕ, Bool, true, false, if◌then◌else◌, List, [], ◌∷◌, ◌++◌, Option, Some, None, is_some}
use Rattle.std.specs.List.{find, list_any}
use Rattle.std.specs.Option.{option_or}
use Rattle.std.specs.Str.{bytes_eq}
use Rattle.st_tree.specs.declared.tag.Tag.{Tag}
use Rattle.tag_layout.specs.Layout.{placed_named}
use Rattle.download_change.specs.declared.fault.RenameFault.{RenameFault}
use Rattle.download_change.specs.declared.fault.RenameFault.TheVariants.{Unknown, Twice}

-- The old name of a tag with its new one.
abbrev pub Rename : Type 0
Rename = List ℕ × List ℕ

-- ---- names that no program has

-- A program has a tag of this name.
abbrev pub is_tag : List Tag → List ℕ → Bool
is_tag tags name = is_some (placed_named tags name)

-- The name of a rename that isn't found: the old one in the old program, or else the new one in the new program.
abbrev pub unknown_in : (old new : List Tag) → Rename → Option (List ℕ)
unknown_in old new r = if is_tag old r.0 then (if is_tag new r.1 then None else Some r.1) else Some r.0

-- Of the first rename with such a name, that name.
abbrev pub unknown_name_of : (old new : List Tag) → List Rename → Option (List ℕ)
unknown_name_of old new [] = None
unknown_name_of old new (r ∷ rs) = option_or (unknown_in old new r) (unknown_name_of old new rs)

-- ---- names that two renames have

-- One of these renames has this old name.
abbrev pub is_old_name : List Rename → List ℕ → Bool
is_old_name renames name = list_any (λ r. bytes_eq name r.0) renames

-- One of these renames has this new name.
abbrev pub is_new_name : List Rename → List ℕ → Bool
is_new_name renames name = list_any (λ r. bytes_eq name r.1) renames

-- The name of a rename that an earlier one has in the same place: the old name, or else the new one.
abbrev pub twice_in : (earlier : List Rename) → Rename → Option (List ℕ)
twice_in earlier r = if is_old_name earlier r.0 then Some r.0 else (if is_new_name earlier r.1 then Some r.1 else None)

-- The same of the first of several renames that has such a name, where others lie before them all.
abbrev pub twice_behind : (earlier renames : List Rename) → Option (List ℕ)
twice_behind earlier [] = None
twice_behind earlier (r ∷ rs) = option_or (twice_in earlier r) (twice_behind (earlier ++ r ∷ []) rs)

-- Of the first rename whose old name is that of an earlier rename, or whose new name is that of an earlier rename, that
-- name; the old one goes first.
abbrev pub name_twice_of : List Rename → Option (List ℕ)
name_twice_of renames = twice_behind [] renames

-- ---- the first fault

-- A name that isn't found goes before a name twice.
abbrev pub first_fault : (unknown twice : Option (List ℕ)) → Option RenameFault
first_fault (Some name) twice = Some (Unknown name)
first_fault None (Some name) = Some (Twice name)
first_fault None None = None

-- What is wrong with the renames of a download, or none.
abbrev pub renames_fault_of : (old new : List Tag) → List Rename → Option RenameFault
renames_fault_of old new renames = first_fault (unknown_name_of old new renames) (name_twice_of renames)

-- ---- heirs

-- What a tag is called by its rename, if it has one, or else by its own name, unless a rename has taken that.
abbrev pub heir_by : (renamed : Option Rename) → (taken : Bool) → (name : List ℕ) → Option (List ℕ)
heir_by (Some r) taken name = Some r.1
heir_by None true name = None
heir_by None false name = Some name

-- What a tag of the old program is called in the new one: the new name of its rename; without one its own name, unless
-- that is the new name of a rename, and then it is called nothing.
abbrev pub heir_of : List Rename → List ℕ → Option (List ℕ)
heir_of renames name = heir_by (find (λ r. bytes_eq name r.0) renames) (is_new_name renames name) name
