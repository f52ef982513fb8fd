-- An environment is read back from the words that hold it.
use Rattle.std.proofs.Common.{◌≡◌, ◌≢◌, ℕ, ◌<◌, ◌+◌, zero, suc, ℤ, Bool, true, false, cond, List, [], ◌∷◌, ◌++◌, length, get_or, map, take, drop, Option, Some, None, refl, sym, ap, ◌∙◌, subst, arith, append_assoc, length-append}
use Rattle.std.specs.List.{All, AllPairs, find, flat_map, enumerate_from}
use Rattle.std.specs.Option.{option_map}
use Rattle.std.specs.Str.{bytes_eq}
use Rattle.std.proofs.lemmas.Slice.Eq.{bytes_eq-Decides}
use Rattle.std.proofs.lemmas.List.Sums.{sum_by-cons, sum_by-append}
use Rattle.std.proofs.Math.Seq.{take-append_seam, drop-append_seam}
use Rattle.st_tree.specs.declared.tag.Tag.{Tag}
use Rattle.tag_layout.specs.declared.placed.PlacedTag.{PlacedTag}
use Rattle.tag_layout.specs.Layout.{words_of, words_of_tag, total_words, placed_tag, placed_tags, placed_named, Environment, name_and_words, name_and_count, laid_words, Laid, AreApart}
use Rattle.tag_layout.proofs.Placing.{placed_in, placed_get, length_placed, some_tag}
use Rattle.download_change.specs.Kept.{numbers_in, numbers_named, words_at}
use Rattle.download_change.specs.Inner.Origins.{part_of}
use Rattle.download_change.proofs.Walks.{find_mapped}

-- the name of a tag with the words at its address
abbrev pub read_tag : List ℤ → PlacedTag → List ℕ × List ℤ
read_tag words p = (p.name, words_at words p)

pub heads : {X : Type 0} (x y : X) (xs ys : List X) → x ∷ xs ≡ y ∷ ys → x ≡ y
heads x y xs ys h = cc

pub tails : {X : Type 0} (x y : X) (xs ys : List X) → x ∷ xs ≡ y ∷ ys → xs ≡ ys
tails x y xs ys h = cc

no_more : (n : ℕ) → n ≡ n + 0
no_more n = omega arith

total_push : (ts : List Tag) (t : Tag) → total_words (ts ++ t ∷ []) ≡ total_words ts + words_of_tag t
total_push ts t =
    let one : total_words (t ∷ []) ≡ words_of_tag t = sum_by-cons words_of_tag t [] ∙ sym (no_more (words_of_tag t)) in
    sum_by-append words_of_tag ts (t ∷ []) ∙ ap (λ k. total_words ts + k) one

-- a part between others
between : (before here after : List ℤ) (address count : ℕ) → address ≡ length before → count ≡ length here → take count (drop address (before ++ (here ++ after))) ≡ here
between before here after address count a n =
    (λ i. take (n i) (drop (a i) (before ++ (here ++ after))))
    ∙ (ap (take (length here)) (drop-append_seam before (here ++ after)) ∙ take-append_seam here after)

read_from : (all before ts : List Tag) (env : Environment) (ahead : List ℤ) → before ++ ts ≡ all → total_words before ≡ length ahead → map name_and_count env ≡ map name_and_words ts
    → map (read_tag (ahead ++ flat_map (λ (e : List ℕ × List ℤ). e.1) env)) (map (placed_in all) (enumerate_from (length before) ts)) ≡ env
read_from all before [] [] ahead is so h = refl
read_from all before [] (e ∷ env) ahead is so h = absurd (cc)
read_from all before (t ∷ ts) [] ahead is so h = absurd (cc)
read_from all before (t ∷ ts) (e ∷ env) ahead is so h =
    let head : name_and_count e ≡ name_and_words t = heads (name_and_count e) (name_and_words t) (map name_and_count env) (map name_and_words ts) h in
    let count : words_of_tag t ≡ length e.1 = sym (ap (λ (x : List ℕ × ℕ). x.1) head) in
    let after = flat_map (λ (d : List ℕ × List ℤ). d.1) env in
    let here : take (length before) all ≡ before = ap (take (length before)) (sym is) ∙ take-append_seam before (t ∷ ts) in
    let longer : length (before ++ t ∷ []) ≡ length before + 1 = length-append before (t ∷ []) in
    let ends : total_words (before ++ t ∷ []) ≡ length (ahead ++ e.1) = total_push before t ∙ ((λ i. so i + count i) ∙ sym (length-append ahead e.1)) in
    let rest = read_from all (before ++ t ∷ []) ts env (ahead ++ e.1) (append_assoc before (t ∷ []) ts ∙ is) ends (tails (name_and_count e) (name_and_words t) (map name_and_count env) (map name_and_words ts) h) in
    let first : words_at (ahead ++ (e.1 ++ after)) (placed_tag t (total_words (take (length before) all))) ≡ e.1 = between ahead e.1 after (total_words (take (length before) all)) (words_of_tag t) (ap total_words here ∙ so) count in
    (λ i. (sym (ap (λ (x : List ℕ × ℕ). x.0) head) i, first i) ∷ map (read_tag (sym (append_assoc ahead e.1 after) i)) (map (placed_in all) (enumerate_from (sym longer i) ts)))
    ∙ ap (λ (d : Environment). e ∷ d) rest

pub read_back : (tags : List Tag) (env : Environment) (words : List ℤ) → Laid tags env words → env ≡ map (read_tag words) (placed_tags tags)
unfolding placed_tags laid_words
read_back tags env words laid =
    sym (read_from tags [] tags env [] refl refl laid.0) ∙ ap (λ (ws : List ℤ). map (read_tag ws) (placed_tags tags)) (sym laid.1)

found_words : (words : List ℤ) (o : Option PlacedTag) → numbers_in (option_map (read_tag words) o) ≡ part_of words o
found_words words None = refl
found_words words (Some p) = refl

-- the numbers of a tag are the words at its address
pub numbers_read : (tags : List Tag) (env : Environment) (words : List ℤ) → Laid tags env words → (name : List ℕ) → numbers_named env name ≡ part_of words (placed_named tags name)
unfolding placed_named
numbers_read tags env words laid name =
    ap (λ (e : Environment). numbers_named e name) (read_back tags env words laid)
    ∙ (ap numbers_in (find_mapped (read_tag words) (λ (e : List ℕ × List ℤ). bytes_eq name e.0) (placed_tags tags))
    ∙ found_words words (find (λ (p : PlacedTag). bytes_eq name p.name) (placed_tags tags)))

-- ---- each tag is found by its name

within_tags : (tags : List Tag) (k : ℕ) → k < length (placed_tags tags) → k < length tags
within_tags tags k h = subst (λ n. k < n) (length_placed tags) h

placed_apart : (tags : List Tag) → AreApart tags → AllPairs (λ (p q : PlacedTag). p.name ≢ q.name) (placed_tags tags)
placed_apart tags apart i j d before within =
    let short = within_tags tags j within in
    subst (λ (p : PlacedTag). p.name ≢ (get_or (placed_tags tags) j d).name) (sym (placed_get tags i d some_tag (omega (arith, before, short))))
    (subst (λ (q : PlacedTag). (get_or tags i some_tag).name ≢ q.name) (sym (placed_get tags j d some_tag short))
    (apart i j some_tag before short))

other_name : (n m : List ℕ) → m ≢ n → bytes_eq n m ≡ false
other_name n m h = by (bytes_eq n m) refl
  where
    by : (t : Bool) → bytes_eq n m ≡ t → t ≡ false
    by true e = absurd (h (sym ((bytes_eq-Decides n m).0 e)))
    by false e = refl

find_own : (ps : List PlacedTag) → AllPairs (λ (p q : PlacedTag). p.name ≢ q.name) ps → All (λ (p : PlacedTag). find (λ (t : PlacedTag). bytes_eq p.name t.name) ps ≡ Some p) ps
find_own [] h k d w = absurd (omega (arith, w))
find_own (p ∷ ps) h zero d w = ap (λ (b : Bool). cond b (Some p) (find (λ (t : PlacedTag). bytes_eq p.name t.name) ps)) ((bytes_eq-Decides p.name p.name).1 refl)
find_own (p ∷ ps) h (suc k) d w =
    ap (λ (b : Bool). cond b (Some p) (find (λ (t : PlacedTag). bytes_eq (get_or ps k d).name t.name) ps)) (other_name (get_or ps k d).name p.name (h 0 (suc k) d (omega arith) w))
    ∙ find_own ps (λ i j e l m. h (suc i) (suc j) e (omega (arith, l)) (omega (arith, m))) k d (omega (arith, w))

pub found_by_name : (tags : List Tag) → AreApart tags → All (λ (p : PlacedTag). placed_named tags p.name ≡ Some p) (placed_tags tags)
unfolding placed_named
found_by_name tags apart = find_own (placed_tags tags) (placed_apart tags apart)

-- ---- the placed tags have the declared ones' names and words

same_from : (all : List Tag) (n : ℕ) (ts : List Tag) → map (λ (p : PlacedTag). (p.name, words_of p.of)) (map (placed_in all) (enumerate_from n ts)) ≡ map name_and_words ts
same_from all n [] = refl
same_from all n (t ∷ ts) = ap (λ l. name_and_words t ∷ l) (same_from all (n + 1) ts)

pub names_and_words : (tags : List Tag) → map (λ (p : PlacedTag). (p.name, words_of p.of)) (placed_tags tags) ≡ map name_and_words tags
unfolding placed_tags
names_and_words tags = same_from tags 0 tags
