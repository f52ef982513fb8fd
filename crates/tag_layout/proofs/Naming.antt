-- A tag is at the same place among the placed tags as among the declared ones.
use Rattle.std.proofs.Common.{◌≡◌, ℕ, ◌+◌, suc, Bool, List, [], ◌∷◌, map, slice_get, cond, Option, Some, None, refl, sym, ap, ◌∙◌}
use Rattle.std.specs.List.{position, enumerate_from}
use Rattle.std.specs.Option.{option_map}
use Rattle.std.specs.Str.{bytes_eq}
use Rattle.st_tree.specs.declared.tag.Tag.{Tag}
use Rattle.st_tree.specs.Tags.{tag_named}
use Rattle.st_types.specs.Inner.Places.{place_of}
use Rattle.st_types.proofs.Positions.{position_cons, some_there, none_there}
use Rattle.tag_layout.specs.declared.placed.PlacedTag.{PlacedTag}
use Rattle.tag_layout.specs.Layout.{placed_tags, placed_named}
use Rattle.tag_layout.proofs.Placing.{placed_in}

names_from : (all : List Tag) (n : ℕ) (ts : List Tag) → map (λ (p : PlacedTag). p.name) (map (placed_in all) (enumerate_from n ts)) ≡ map (λ (t : Tag). t.name) ts
names_from all n [] = refl
names_from all n (t ∷ ts) = ap (λ l. t.name ∷ l) (names_from all (n + 1) ts)

-- the placed tags have the names of the declared ones
pub placed_names : (tags : List Tag) → map (λ (p : PlacedTag). p.name) (placed_tags tags) ≡ map (λ (t : Tag). t.name) tags
unfolding placed_tags
placed_names tags = names_from tags 0 tags

position_mapped : {X Y : Type 0} (f : X → Y) (q : Y → Bool) (xs : List X) → position q (map f xs) ≡ position (λ x. q (f x)) xs
position_mapped f q [] = refl
position_mapped f q (x ∷ xs) =
    position_cons q (f x) (map f xs)
    ∙ (ap (λ o. cond (q (f x)) (Some 0) (option_map suc o)) (position_mapped f q xs)
    ∙ sym (position_cons (λ y. q (f y)) x xs))

pub place_is : (tags : List Tag) (name : List ℕ) → place_of tags name ≡ position (λ (p : PlacedTag). bytes_eq name p.name) (placed_tags tags)
place_is tags name =
    sym (position_mapped (λ (t : Tag). t.name) (bytes_eq name) tags)
    ∙ (ap (position (bytes_eq name)) (sym (placed_names tags))
    ∙ position_mapped (λ (p : PlacedTag). p.name) (bytes_eq name) (placed_tags tags))

-- the tag at the place of a name is the tag of the name
pub named_there : (tags : List Tag) (name : List ℕ) (place : ℕ) (ps : List PlacedTag) (o : Option PlacedTag)
    → o ≡ slice_get ps place → ps ≡ placed_tags tags → Some place ≡ place_of tags name → o ≡ placed_named tags name
unfolding placed_named
named_there tags name place ps o got all there =
    got
    ∙ (ap (λ ts. slice_get ts place) all
    ∙ some_there (λ (p : PlacedTag). bytes_eq name p.name) (placed_tags tags) place (there ∙ place_is tags name))

pub named_nowhere : (tags : List Tag) (name : List ℕ) → None ≡ place_of tags name → None ≡ placed_named tags name
unfolding placed_named
named_nowhere tags name nowhere = none_there (λ (p : PlacedTag). bytes_eq name p.name) (placed_tags tags) (nowhere ∙ place_is tags name)

-- the declared tag at the place of a name is the tag of the name
pub declared_there : (tags : List Tag) (name : List ℕ) (place : ℕ) (ts : List Tag) (o : Option Tag)
    → o ≡ slice_get ts place → ts ≡ tags → Some place ≡ place_of tags name → o ≡ tag_named tags name
unfolding tag_named
declared_there tags name place ts o got all there =
    got ∙ (ap (λ us. slice_get us place) all ∙ some_there (λ (t : Tag). bytes_eq name t.name) tags place there)

pub declared_nowhere : (tags : List Tag) (name : List ℕ) → None ≡ place_of tags name → None ≡ tag_named tags name
unfolding tag_named
declared_nowhere tags name nowhere = none_there (λ (t : Tag). bytes_eq name t.name) tags nowhere
