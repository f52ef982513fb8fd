-- The inputs of a call, where each name is kept once.
use Rattle.std.proofs.Common.{◌≡◌, ℕ, Bool, true, false, ◌||◌, not, List, [], ◌∷◌, ◌++◌, refl, sym, ap, ◌∙◌}
use Rattle.std.specs.Prelude.{if◌then◌else◌}
use Rattle.std.specs.List.{list_any}
use Rattle.std.specs.Str.{bytes_eq}
use Rattle.std.proofs.lemmas.List.Folds.{list_any-append}
use Rattle.std.proofs.lemmas.Slice.Eq.{bytes_eq-Decides}
use Rattle.function_blocks.specs.declared.blocks.BlockKind.{BlockKind}
use Rattle.function_blocks.specs.Fields.{input_named}
use Rattle.tri_base.specs.Inner.NameFields.{same_name}
use Rattle.st_tree.specs.declared.statement.Input.{Input}
use Rattle.st_tree.specs.declared.tag.Tag.{Tag}
use Rattle.st_tree.specs.Typing.Statements.{input_faults, inputs_faults}
use Rattle.indexmap.specs.IndexSet.{insert_key}
use Rattle.st_types.proofs.Named.{same_bytes}

-- the names are the same, whatever their order and number
abbrev Alike : List (List ℕ) → List (List ℕ) → Type 0
Alike ks ms = (n : List ℕ) → list_any (bytes_eq n) ks ≡ list_any (bytes_eq n) ms

alike_more : (ks ms : List (List ℕ)) (x : List ℕ) → Alike ks ms → Alike (ks ++ x ∷ []) (ms ++ x ∷ [])
alike_more ks ms x same n =
    list_any-append (bytes_eq n) ks (x ∷ []) ∙ (ap (λ b. b || list_any (bytes_eq n) (x ∷ [])) (same n) ∙ sym (list_any-append (bytes_eq n) ms (x ∷ [])))

-- only whether a name is among those before counts
alike_faults : (tags : List Tag) (b : BlockKind) (ks ms : List (List ℕ)) (inputs : List Input) → Alike ks ms → inputs_faults tags b ks inputs ≡ inputs_faults tags b ms inputs
alike_faults tags b ks ms [] same = refl
alike_faults tags b ks ms (i ∷ inputs) same =
    λ j. input_faults tags (same i.name.name j) i.name i.value (input_named b i.name.name) ++ alike_faults tags b (ks ++ i.name.name ∷ []) (ms ++ i.name.name ∷ []) inputs (alike_more ks ms i.name.name same) j

there_twice : (t a : Bool) → (t ≡ true → a ≡ true) → a ≡ (a || (t || false))
there_twice true true h = refl
there_twice true false h = h refl
there_twice false true h = refl
there_twice false false h = refl

-- a name that is there already
alike_again : (ks : List (List ℕ)) (x : List ℕ) → list_any (bytes_eq x) ks ≡ true → Alike ks (ks ++ x ∷ [])
alike_again ks x there n =
    there_twice (bytes_eq n x) (list_any (bytes_eq n) ks) (λ e. ap (λ m. list_any (bytes_eq m) ks) ((bytes_eq-Decides n x).0 e) ∙ there)
    ∙ sym (list_any-append (bytes_eq n) ks (x ∷ []))

-- among the names as the table tests them
pub among_kept : (ks : List (List ℕ)) (x : List ℕ) → list_any (same_name x) ks ≡ list_any (bytes_eq x) ks
among_kept ks x = λ i. list_any (λ n. same_bytes x n i) ks

-- what the table keeps of the names serves as well as all of them
pub kept_faults : (tags : List Tag) (b : BlockKind) (ks : List (List ℕ)) (x : List ℕ) (inputs : List Input)
    → inputs_faults tags b (insert_key same_name ks x) inputs ≡ inputs_faults tags b (ks ++ x ∷ []) inputs
kept_faults tags b ks x inputs = by (list_any (same_name x) ks) refl
  where
    by : (t : Bool) → list_any (same_name x) ks ≡ t → inputs_faults tags b (if t then ks else ks ++ x ∷ []) inputs ≡ inputs_faults tags b (ks ++ x ∷ []) inputs
    by true e = alike_faults tags b ks (ks ++ x ∷ []) inputs (alike_again ks x (sym (among_kept ks x) ∙ e))
    by false e = refl

turned : (t : Bool) → not (not t) ≡ t
turned true = refl
turned false = refl

-- a name that is new to the table wasn't among those before, and else it was
pub among_unless_new : (ks : List (List ℕ)) (x : List ℕ) (new : Bool) → new ≡ not (list_any (same_name x) ks) → not new ≡ list_any (bytes_eq x) ks
among_unless_new ks x new e = ap not e ∙ (turned (list_any (same_name x) ks) ∙ among_kept ks x)
