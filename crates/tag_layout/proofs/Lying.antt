-- The words of tags don't overlap, and lie below the number of all words.
use Rattle.std.proofs.Common.{◌≡◌, ◌≢◌, ℕ, ◌<◌, ◌≤◌, ◌+◌, zero, suc, Bool, true, false, List, [], ◌∷◌, length, get_or, take, cond, Option, Some, None, refl, sym, ap, ◌∙◌, subst, arith, take-take}
use Rattle.std.specs.Prelude.{IfSome, nat_lt, if◌then◌else◌}
use Rattle.std.specs.List.{All, AllPairs, find}
use Rattle.std.specs.Str.{bytes_eq}
use Rattle.std.proofs.lemmas.Bool.Decides.{nat_tests}
use Rattle.std.proofs.lemmas.Slice.Eq.{bytes_eq-Decides}
use Rattle.tri_base.specs.Limits.{word_limit}
use Rattle.st_tree.specs.declared.tag.Tag.{Tag}
use Rattle.tag_layout.specs.declared.placed.PlacedTag.{PlacedTag}
use Rattle.tag_layout.specs.Layout.{words_of, words_of_tag, total_words, placed_tags, placed_named, field_address, address_of, AreApart}
use Rattle.tag_layout.proofs.Placing.{some_tag, total_more, total_part, length_placed, placed_get}

within_tags : (tags : List Tag) (k : ℕ) → k < length (placed_tags tags) → k < length tags
within_tags tags k h = subst (λ n. k < n) (length_placed tags) h

-- the words of the tags up to a place and with it are no more than those up to a later one
upto : (tags : List Tag) (i j : ℕ) → i < j → j < length tags → total_words (take i tags) + words_of_tag (get_or tags i some_tag) ≤ total_words (take j tags)
upto tags i j before within =
    let more = total_more tags i (get_or tags i some_tag) (omega (arith, before, within)) (same tags i (omega (arith, before, within))) in
    let part = total_part (take j tags) (i + 1) in
    let cut : total_words (take (i + 1) (take j tags)) ≡ total_words (take (i + 1) tags) = ap total_words (take-take (i + 1) j tags (omega (arith, before))) in
    omega (arith, more, part, cut)
  where
    same : (ts : List Tag) (k : ℕ) → k < length ts → get_or ts k some_tag ≡ get_or ts k (get_or ts k some_tag)
    same [] k h = absurd (omega (arith, h))
    same (t ∷ ts) zero h = refl
    same (t ∷ ts) (suc k) h = same ts k (omega (arith, h))

pub lies_apart : (tags : List Tag) → AllPairs (λ (p q : PlacedTag). p.address + words_of p.of ≤ q.address) (placed_tags tags)
lies_apart tags i j d before within =
    let short = within_tags tags j within in
    subst (λ (p : PlacedTag). p.address + words_of p.of ≤ (get_or (placed_tags tags) j d).address) (sym (placed_get tags i d some_tag (omega (arith, before, short))))
    (subst (λ (q : PlacedTag). total_words (take i tags) + words_of_tag (get_or tags i some_tag) ≤ q.address) (sym (placed_get tags j d some_tag short))
    (upto tags i j before short))

below : (tags : List Tag) (k : ℕ) → k < length tags → total_words (take k tags) + words_of_tag (get_or tags k some_tag) ≤ total_words tags
below tags k within =
    let more = total_more tags k (get_or tags k some_tag) within (same tags k within) in
    let part = total_part tags (k + 1) in
    omega (arith, more, part)
  where
    same : (ts : List Tag) (i : ℕ) → i < length ts → get_or ts i some_tag ≡ get_or ts i (get_or ts i some_tag)
    same [] i h = absurd (omega (arith, h))
    same (t ∷ ts) zero h = refl
    same (t ∷ ts) (suc i) h = same ts i (omega (arith, h))

pub lies_below : (tags : List Tag) → All (λ (p : PlacedTag). p.address + words_of p.of ≤ total_words tags) (placed_tags tags)
lies_below tags k d within =
    let short = within_tags tags k within in
    subst (λ (p : PlacedTag). p.address + words_of p.of ≤ total_words tags) (sym (placed_get tags k d some_tag short)) (below tags k short)

-- what holds of all holds of what is found
found_by : {X : Type 0} (P : X → Type 0) (x : X) (o : Option X) (b : Bool) → P x → IfSome o P → IfSome (cond b (Some x) o) P
found_by P x o true h rest = h
found_by P x o false h rest = rest

found_all : {X : Type 0} (P : X → Type 0) (test : X → Bool) (xs : List X) → All P xs → IfSome (find test xs) P
found_all P test [] h = tt
found_all P test (x ∷ xs) h =
    found_by P x (find test xs) (test x) (h 0 x (omega arith)) (found_all P test xs (λ k d w. h (suc k) d (omega (arith, w))))

within_limit : (end total : ℕ) → total ≤ word_limit → end ≤ total → end ≤ word_limit
within_limit end total few h = omega (arith, few, h)

named_below : (tags : List Tag) (name : List ℕ) → IfSome (placed_named tags name) (λ (p : PlacedTag). p.address + words_of p.of ≤ total_words tags)
unfolding placed_named
named_below tags name = found_all (λ (p : PlacedTag). p.address + words_of p.of ≤ total_words tags) (λ t. bytes_eq name t.name) (placed_tags tags) (lies_below tags)

-- the words of a tag that is found lie in the memory
pub named_within : (tags : List Tag) (name : List ℕ) (o : Option PlacedTag) → total_words tags ≤ word_limit → o ≡ placed_named tags name → IfSome o (λ (p : PlacedTag). p.address + words_of p.of ≤ word_limit)
named_within tags name o few is = by o (subst (λ q. IfSome q (λ (p : PlacedTag). p.address + words_of p.of ≤ total_words tags)) (sym is) (named_below tags name))
  where
    by : (q : Option PlacedTag) → IfSome q (λ (p : PlacedTag). p.address + words_of p.of ≤ total_words tags) → IfSome q (λ (p : PlacedTag). p.address + words_of p.of ≤ word_limit)
    by None h = tt
    by (Some p) h = within_limit (p.address + words_of p.of) (total_words tags) few h

-- ---- by name

own_name : (n : List ℕ) → bytes_eq n n ≡ true
own_name n = (bytes_eq-Decides n n).1 refl

other_name : (n m : List ℕ) → m ≢ n → bytes_eq n m ≡ false
other_name n m h = by (bytes_eq n m) refl
  where
    by : (b : Bool) → bytes_eq n m ≡ b → b ≡ false
    by true e = absurd (h (sym ((bytes_eq-Decides n m).0 e)))
    by false e = refl

-- where no two have one name, each is the first with its name
find_own : (ps : List PlacedTag) → AllPairs (λ (p q : PlacedTag). p.name ≢ q.name) ps → (k : ℕ) (d : PlacedTag) → k < length ps
    → find (λ t. bytes_eq (get_or ps k d).name t.name) ps ≡ Some (get_or ps k d)
find_own [] h k d w = absurd (omega (arith, w))
find_own (p ∷ ps) h zero d w = ap (λ b. cond b (Some p) (find (λ t. bytes_eq p.name t.name) ps)) (own_name p.name)
find_own (p ∷ ps) h (suc k) d w =
    ap (λ b. cond b (Some p) (find (λ t. bytes_eq (get_or ps k d).name t.name) ps)) (other_name (get_or ps k d).name p.name (h 0 (suc k) d (omega arith) w))
    ∙ find_own ps (λ i j e l m. h (suc i) (suc j) e (omega (arith, l)) (omega (arith, m))) k d (omega (arith, w))

-- the placed tags have different names
placed_apart : (tags : List Tag) → AreApart tags → AllPairs (λ (p q : PlacedTag). p.name ≢ q.name) (placed_tags tags)
placed_apart tags apart i j d before within =
    let short = within_tags tags j within in
    subst (λ (p : PlacedTag). p.name ≢ (get_or (placed_tags tags) j d).name) (sym (placed_get tags i d some_tag (omega (arith, before, short))))
    (subst (λ (q : PlacedTag). (get_or tags i some_tag).name ≢ q.name) (sym (placed_get tags j d some_tag short))
    (apart i j some_tag before short))

is_field : (field words : ℕ) → field < words → nat_lt field words ≡ true
is_field field words h = grind (arith, nat_tests)

pub found_by_name : (tags : List Tag) → AreApart tags
    → All (λ (p : PlacedTag). (field : ℕ) → field < words_of p.of → address_of tags p.name field ≡ Some (p.address + field)) (placed_tags tags)
unfolding placed_named
found_by_name tags apart k d within field has =
    let p = get_or (placed_tags tags) k d in
    ap (λ o. field_address o field) (find_own (placed_tags tags) (placed_apart tags apart) k d within)
    ∙ ap (λ (b : Bool). if b then Some (p.address + field) else None) (is_field field (words_of p.of) has)
