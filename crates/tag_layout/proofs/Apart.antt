-- A well-typed program declares no name twice.
use Rattle.std.proofs.Common.{◌≡◌, ◌≢◌, ℕ, Bool, true, false, ◌||◌, List, [], ◌∷◌, ◌++◌, refl, sym, ◌∙◌, true≢false, arith}
use Rattle.std.specs.List.{All, list_any}
use Rattle.std.specs.Str.{bytes_eq}
use Rattle.std.proofs.lemmas.Slice.Eq.{bytes_eq-Decides}
use Rattle.std.proofs.lemmas.List.Elements.{All-nil, All-cons, All-weaker}
use Rattle.std.proofs.lemmas.List.Folds.{list_any-append}
use Rattle.std.proofs.lemmas.List.Kept.{AllPairs-cons}
use Rattle.tri_base.specs.declared.point.Point.{Point}
use Rattle.st_tree.specs.declared.program.Tree.{Tree}
use Rattle.st_tree.specs.declared.tag.Tag.{Tag}
use Rattle.st_tree.specs.Tags.{tags_of}
use Rattle.st_tree.specs.Typing.Declarations.{name_faults, names_faults, block_faults}
use Rattle.st_tree.specs.Typing.Statements.{statement_faults}
use Rattle.st_tree.specs.Typing.Programs.{typing_faults, WellTyped, scope_of}
use Rattle.std.specs.List.{flat_map}
use Rattle.tag_layout.specs.Layout.{AreApart}

-- two lists that are none together are none
none_both : {X : Type 0} (xs ys : List X) → xs ++ ys ≡ [] → (xs ≡ []) × (ys ≡ [])
none_both [] ys h = (refl, h)
none_both (x ∷ xs) ys h = absurd (cc)

-- the name isn't among others
IsNew : List (List ℕ) → Tag → Type 0
IsNew before t = list_any (bytes_eq t.name) before ≡ false

new_name : (points : List Point) (again : Bool) (t : Tag) → name_faults points again t ≡ [] → again ≡ false
new_name points true t h = absurd (cc)
new_name points false t h = refl

or_false : (a b : Bool) → (a || b) ≡ false → (a ≡ false) × (b ≡ false)
or_false true b h = absurd (true≢false h)
or_false false b h = (refl, h)

differs : (n m : List ℕ) → (bytes_eq n m || false) ≡ false → m ≢ n
differs n m h e = absurd (true≢false (sym ((bytes_eq-Decides n m).1 (sym e)) ∙ (or_false (bytes_eq n m) false h).0))

-- what is new behind one name more
record Behind (before : List (List ℕ)) (tags : List Tag) : Type 0 where
  new : All (λ t. list_any (bytes_eq t.name) before ≡ false) tags
  apart : AreApart tags

behind : (points : List Point) (before : List (List ℕ)) (tags : List Tag) → names_faults points before tags ≡ [] → Behind before tags
behind points before [] h = record { new = All-nil _; apart = λ i j d l m. absurd (omega (arith, m)) }
behind points before (t ∷ tags) h =
    let parts = none_both (name_faults points (list_any (bytes_eq t.name) before) t) (names_faults points (before ++ t.name ∷ []) tags) h in
    let rest = behind points (before ++ t.name ∷ []) tags parts.1 in
    let split : (u : Tag) → list_any (bytes_eq u.name) (before ++ t.name ∷ []) ≡ false → (list_any (bytes_eq u.name) before ≡ false) × ((bytes_eq u.name t.name || false) ≡ false) =
    λ u e. or_false (list_any (bytes_eq u.name) before) (bytes_eq u.name t.name || false) (sym (list_any-append (bytes_eq u.name) before (t.name ∷ [])) ∙ e) in
    record {
      new = All-cons (λ (u : Tag). list_any (bytes_eq u.name) before ≡ false) t tags (new_name points _ t parts.0)
          (All-weaker (λ (u : Tag). list_any (bytes_eq u.name) (before ++ t.name ∷ []) ≡ false) (λ (u : Tag). list_any (bytes_eq u.name) before ≡ false) (λ u e. (split u e).0) tags rest.new);
      apart = AllPairs-cons (λ (s u : Tag). s.name ≢ u.name) t tags
          (All-weaker (λ (u : Tag). list_any (bytes_eq u.name) (before ++ t.name ∷ []) ≡ false) (λ (u : Tag). t.name ≢ u.name) (λ u e. differs u.name t.name (split u e).1) tags rest.new)
          rest.apart;
    }

pub apart_of : (points : List Point) (tree : Tree) → WellTyped points tree → AreApart (tags_of tree)
unfolding typing_faults WellTyped
apart_of points tree h =
    let names = names_faults points [] (tags_of tree) in
    let blocks = flat_map block_faults tree.blocks in
    let statements = flat_map (statement_faults (scope_of points tree) []) tree.statements in
    (behind points [] (tags_of tree) (none_both names blocks (none_both (names ++ blocks) statements h).0).0).apart
