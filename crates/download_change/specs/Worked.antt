-- Downloads worked by hand.
use Rattle.std.specs.Prelude.{◌≡◌, ℕ, ℤ, pos, List, [], ◌∷◌, map, codes, Some, None}
use Rattle.function_blocks.specs.declared.kinds.Kind.TheVariants as kind
use Rattle.function_blocks.specs.declared.blocks.BlockKind.TheVariants as block
use Rattle.st_tree.specs.declared.declaration.DeclaredType.TheVariants as declared
use Rattle.st_tree.specs.declared.tag.Tag.{Tag}
use Rattle.tag_layout.specs.Layout.{first_environment, first_words}
use Rattle.tag_layout.specs.Worked.{integer, variable, array_and_int}
use Rattle.download_change.specs.declared.fault.RenameFault.TheVariants.{Unknown, Twice}
use Rattle.download_change.specs.Renames.{Rename, renames_fault_of, heir_of}
use Rattle.download_change.specs.Kept.{changed_type_of, carried_of, carried_words}

-- `VAR` with one INT of each name.
abbrev pub ints : List (List ℕ) → List Tag
ints names = map (λ name. variable name (declared.Simple kind.Int) None) names

-- `VAR K : INT; J : INT; END_VAR`
abbrev pub k_and_j : List Tag
k_and_j = ints (codes "K" ∷ codes "J" ∷ [])

-- `VAR COUNT : INT; K : INT; END_VAR`
abbrev pub count_and_k : List Tag
count_and_k = ints (codes "COUNT" ∷ codes "K" ∷ [])

-- `VAR K : DINT; J : INT; END_VAR`
abbrev pub k_is_dint : List Tag
k_is_dint = variable (codes "K") (declared.Simple kind.Dint) None ∷ ints (codes "J" ∷ [])

-- `VAR X : INT; A : ARRAY [1..3] OF INT; END_VAR`
abbrev pub int_and_array : List Tag
int_and_array =
    variable (codes "X") (declared.Simple kind.Int) None
    ∷ variable (codes "A") (declared.Array (integer 1) (integer 3) kind.Int) None
    ∷ []

-- `VAR A : ARRAY [0..2] OF INT; X : INT; END_VAR`
abbrev pub other_bounds : List Tag
other_bounds = variable (codes "A") (declared.Array (integer 0) (integer 2) kind.Int) None ∷ ints (codes "X" ∷ [])

-- `VAR EDGE : F_TRIG; END_VAR`
abbrev pub edge : List Tag
edge = variable (codes "EDGE") (declared.Block block.FTrig) None ∷ []

-- `VAR K : INT; FALLING : F_TRIG; END_VAR`
abbrev pub falling : List Tag
falling =
    variable (codes "K") (declared.Simple kind.Int) None
    ∷ variable (codes "FALLING") (declared.Block block.FTrig) None
    ∷ []

-- K becomes COUNT.
abbrev pub k_is_count : List Rename
k_is_count = (codes "K", codes "COUNT") ∷ []

-- K becomes J, and J becomes K.
abbrev pub swapped : List Rename
swapped = (codes "K", codes "J") ∷ (codes "J", codes "K") ∷ []

-- K becomes J.
abbrev pub k_is_j : List Rename
k_is_j = (codes "K", codes "J") ∷ []

-- The words of a download, from these words.
abbrev pub words_behind : (old new : List Tag) → List Rename → List ℕ → List ℤ
words_behind old new renames words = carried_words old new renames (first_words new) (map pos words)

-- What they are.
pub record Worked : Type 0 where
  pub new_name : heir_of k_is_count (codes "K") ≡ Some (codes "COUNT")
  pub own_name : heir_of k_is_count (codes "J") ≡ Some (codes "J")
  pub name_lost : heir_of k_is_j (codes "J") ≡ None
  pub names_swapped : map (heir_of swapped) (codes "K" ∷ codes "J" ∷ []) ≡ Some (codes "J") ∷ Some (codes "K") ∷ []
  pub no_fault : renames_fault_of k_and_j count_and_k k_is_count ≡ None
  pub swap_is_no_fault : renames_fault_of k_and_j k_and_j swapped ≡ None
  pub old_unknown : renames_fault_of k_and_j count_and_k ((codes "Z", codes "Y") ∷ []) ≡ Some (Unknown (codes "Z"))
  pub new_unknown : renames_fault_of k_and_j count_and_k ((codes "K", codes "Y") ∷ []) ≡ Some (Unknown (codes "Y"))
  pub old_twice :
      renames_fault_of k_and_j count_and_k ((codes "K", codes "K") ∷ (codes "K", codes "K") ∷ [])
      ≡ Some (Twice (codes "K"))
  pub new_twice :
      renames_fault_of k_and_j count_and_k ((codes "K", codes "COUNT") ∷ (codes "J", codes "COUNT") ∷ [])
      ≡ Some (Twice (codes "COUNT"))
  pub unknown_before_twice :
      renames_fault_of k_and_j count_and_k
      ((codes "K", codes "K") ∷ (codes "K", codes "K") ∷ (codes "Z", codes "K") ∷ [])
      ≡ Some (Unknown (codes "Z"))
  pub nothing_changed : changed_type_of k_and_j count_and_k [] ≡ None
  pub dint_for_int : changed_type_of k_and_j k_is_dint [] ≡ Some (codes "K")
  pub told_by_its_old_name : changed_type_of k_and_j k_is_dint swapped ≡ Some (codes "J")
  pub no_heir_no_change :
      changed_type_of k_and_j k_is_dint ((codes "J", codes "J") ∷ (codes "X", codes "K") ∷ []) ≡ None
  pub bounds_changed : changed_type_of int_and_array other_bounds [] ≡ Some (codes "A")
  pub kept_at_another_place : words_behind k_and_j count_and_k [] (9 ∷ 4 ∷ []) ≡ pos 0 ∷ pos 9 ∷ []
  pub kept_under_a_new_name : words_behind k_and_j count_and_k k_is_count (9 ∷ 4 ∷ []) ≡ pos 9 ∷ pos 0 ∷ []
  pub kept_swapped : words_behind k_and_j k_and_j swapped (9 ∷ 4 ∷ []) ≡ pos 4 ∷ pos 9 ∷ []
  pub lost_to_a_rename : words_behind k_and_j k_and_j k_is_j (9 ∷ 4 ∷ []) ≡ pos 0 ∷ pos 9 ∷ []
  pub array_kept :
      words_behind int_and_array array_and_int [] (7 ∷ 1 ∷ 5 ∷ 3 ∷ []) ≡ pos 1 ∷ pos 5 ∷ pos 3 ∷ pos 7 ∷ []
  pub other_bounds_not_kept :
      words_behind other_bounds array_and_int [] (1 ∷ 5 ∷ 3 ∷ 7 ∷ []) ≡ pos 2 ∷ pos 2 ∷ pos 2 ∷ pos 7 ∷ []
  pub hidden_field_kept :
      words_behind edge falling ((codes "EDGE", codes "FALLING") ∷ []) (1 ∷ 1 ∷ 0 ∷ [])
      ≡ pos 0 ∷ pos 1 ∷ pos 1 ∷ pos 0 ∷ []
  pub environment_kept :
      carried_of k_and_j count_and_k k_is_count ((codes "K", pos 9 ∷ []) ∷ (codes "J", pos 4 ∷ []) ∷ [])
      (first_environment count_and_k)
      ≡ (codes "COUNT", pos 9 ∷ []) ∷ (codes "K", pos 0 ∷ []) ∷ []
