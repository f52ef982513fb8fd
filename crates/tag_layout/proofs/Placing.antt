-- The tags with their addresses, one by one.
use Rattle.std.proofs.Common.{◌≡◌, ℕ, ◌<◌, ◌≤◌, ◌+◌, suc, List, [], ◌∷◌, ◌++◌, length, get_or, take, map, min, false, None, sym, ap, ◌∙◌, arith, length-take-le, take_all}
use Rattle.std.specs.List.{enumerate_from}
use Rattle.std.proofs.lemmas.List.{take_more, map-append, length-map, get_or-map}
use Rattle.std.proofs.lemmas.List.Sums.{sum_by_more, sum_by-take-le}
use Rattle.std.proofs.lemmas.List.FromFn.{length-enumerate_from, get_or-enumerate_from}
use Rattle.function_blocks.specs.declared.kinds.Kind.TheVariants as kind
use Rattle.st_tree.specs.declared.declaration.DeclaredType.TheVariants as declared
use Rattle.st_tree.specs.declared.tag.Tag.{Tag}
use Rattle.tag_layout.specs.declared.placed.PlacedTag.{PlacedTag}
use Rattle.tri_base.specs.Limits.{word_limit}
use Rattle.tag_layout.specs.Layout.{greatest_told, words_of_tag, total_words, address_at, placed_tag, placed_tags}

-- a tag with its place, at its address among all tags
abbrev pub placed_in : List Tag → ℕ × Tag → PlacedTag
placed_in tags t = placed_tag t.1 (address_at tags t.0)

-- some tag
abbrev pub some_tag : Tag
some_tag = record { name = []; place = 0; declared = declared.Simple kind.Bool; constant = None; external = false }

next_place : (n k : ℕ) → n + 1 + k ≡ n + suc k
next_place n k = omega arith

this_place : (n : ℕ) → n ≡ n + 0
this_place n = omega arith

single : {X : Type 0} (n m : ℕ) (x : X) → n ≡ m → enumerate_from n (x ∷ []) ≡ enumerate_from m (x ∷ [])
single n m x e = ap (λ k. enumerate_from k (x ∷ [])) e

enumerate_push : {X : Type 0} (n : ℕ) (xs : List X) (x : X) → enumerate_from n (xs ++ x ∷ []) ≡ enumerate_from n xs ++ (n + length xs, x) ∷ []
enumerate_push n [] x = single n (n + 0) x (this_place n)
enumerate_push n (y ∷ ys) x =
    ap (λ l. (n, y) ∷ l) (enumerate_push (n + 1) ys x ∙ ap (λ (k : ℕ). enumerate_from (n + 1) ys ++ (k, x) ∷ []) (next_place n (length ys)))

-- the tags up to a place and one more
pub tags_next : (tags : List Tag) (i : ℕ) (t : Tag) → i < length tags → t ≡ get_or tags i t → take (i + 1) tags ≡ take i tags ++ t ∷ []
tags_next tags i t within is = take_more tags i t within ∙ ap (λ y. take i tags ++ y ∷ []) (sym is)

pub counted : (tags : List Tag) (i : ℕ) → i < length tags → length (take i tags) ≡ i
counted tags i within = length-take-le i tags (omega (arith, within))

counted_from_0 : (tags : List Tag) (i : ℕ) → i < length tags → 0 + length (take i tags) ≡ i
counted_from_0 tags i within = let e = counted tags i within in omega (arith, e)

-- one tag more has its address
pub place_more : (tags : List Tag) (i : ℕ) (t : Tag) (address : ℕ) (here now : List PlacedTag) → i < length tags → t ≡ get_or tags i t
    → address ≡ total_words (take i tags) → here ≡ map (placed_in tags) (enumerate_from 0 (take i tags)) → now ≡ here ++ placed_tag t address ∷ []
    → now ≡ map (placed_in tags) (enumerate_from 0 (take (i + 1) tags))
place_more tags i t address here now within is a h n =
    n ∙ ((λ j. h j ++ placed_tag t (a j) ∷ [])
    ∙ (sym (map-append (placed_in tags) (enumerate_from 0 (take i tags)) ((i, t) ∷ []))
    ∙ ap (map (placed_in tags)) ((λ j. enumerate_from 0 (take i tags) ++ (sym (counted_from_0 tags i within) j, t) ∷ [])
    ∙ (sym (enumerate_push 0 (take i tags) t) ∙ ap (enumerate_from 0) (sym (tags_next tags i t within is))))))

-- one tag more has so many words more
pub total_more : (tags : List Tag) (i : ℕ) (t : Tag) → i < length tags → t ≡ get_or tags i t → total_words (take (i + 1) tags) ≡ total_words (take i tags) + words_of_tag t
total_more tags i t within is = sum_by_more words_of_tag tags i t within ∙ ap (λ x. total_words (take i tags) + words_of_tag x) (sym is)

-- some of the tags have no more words than all
pub total_part : (tags : List Tag) (i : ℕ) → total_words (take i tags) ≤ total_words tags
total_part tags i = sum_by-take-le words_of_tag tags i

-- all tags have their addresses
pub place_whole : (tags : List Tag) (i : ℕ) (here : List PlacedTag) → length tags ≤ i → here ≡ map (placed_in tags) (enumerate_from 0 (take i tags)) → here ≡ placed_tags tags
unfolding placed_tags
place_whole tags i here past h = h ∙ ap (λ ts. map (placed_in tags) (enumerate_from 0 ts)) (take_all i tags past)

pub length_placed : (tags : List Tag) → length (placed_tags tags) ≡ length tags
unfolding placed_tags
length_placed tags = length-map (enumerate_from 0 tags) (placed_in tags) ∙ length-enumerate_from 0 tags

zero_more : (i : ℕ) → 0 + i ≡ i
zero_more i = omega arith

-- the tag at a place
pub placed_get : (tags : List Tag) (i : ℕ) (d : PlacedTag) (t : Tag) → i < length tags → get_or (placed_tags tags) i d ≡ placed_tag (get_or tags i t) (total_words (take i tags))
unfolding placed_tags
placed_get tags i d t within =
    get_or-map (placed_in tags) (enumerate_from 0 tags) i (0, t) d (rw (length-enumerate_from 0 tags) within)
    ∙ (ap (placed_in tags) (get_or-enumerate_from 0 tags i (0, t) within)
    ∙ ap (λ (k : ℕ). placed_tag (get_or tags i t) (total_words (take k tags))) (zero_more i))

-- a number that is told and is within the limit is the number of the words
pub few_told : (told total : ℕ) → told ≡ min total greatest_told → told ≤ word_limit → (told ≡ total) × (total ≤ word_limit)
few_told told total is few = (omega (arith, is, few), omega (arith, is, few))
