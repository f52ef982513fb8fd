-- Each number of an environment stands at the address of its field.
use Rattle.std.proofs.Common.{◌≡◌, ℕ, ◌<◌, ◌≤◌, ◌+◌, zero, suc, ℤ, Bool, true, false, nat_lt, List, [], ◌∷◌, ◌++◌, length, map, take, slice_get, cond, Option, Some, None, refl, sym, ap, ◌∙◌, arith, append_assoc, length-append, if◌then◌else◌}
use Rattle.std.specs.List.{flat_map, find, enumerate_from}
use Rattle.std.specs.Str.{bytes_eq}
use Rattle.std.proofs.lemmas.Bool.Decides.{nat_tests}
use Rattle.std.proofs.lemmas.Option.{slice_get_past}
use Rattle.std.proofs.lemmas.List.Sums.{sum_by-cons, sum_by-append}
use Rattle.std.proofs.Math.Seq.{take-append_seam}
use Rattle.st_tree.specs.declared.tag.Tag.{Tag}
use Rattle.tag_layout.specs.declared.placed.PlacedTag.{PlacedTag}
use Rattle.tag_layout.specs.Layout.{words_of_tag, total_words, placed_tag, placed_tags, placed_named, field_address, address_of, Environment, name_and_words, name_and_count, laid_words, Laid, number_in, number_of, word_at}
use Rattle.tag_layout.proofs.Placing.{placed_in}

-- the tags one behind the other, from an address on
abbrev placed_from : ℕ → List Tag → List PlacedTag
placed_from address [] = []
placed_from address (t ∷ ts) = placed_tag t address ∷ placed_from (address + words_of_tag t) ts

no_more : (n : ℕ) → n ≡ n + 0
no_more n = omega arith

one_more : (n : ℕ) → n + 1 ≡ n + suc 0
one_more n = omega arith

total_push : (ts : List Tag) (t : Tag) → total_words (ts ++ t ∷ []) ≡ total_words ts + words_of_tag t
total_push ts t =
    let split = sum_by-append words_of_tag ts (t ∷ []) in
    let one : total_words (t ∷ []) ≡ words_of_tag t = sum_by-cons words_of_tag t [] ∙ sym (no_more (words_of_tag t)) in
    split ∙ ap (λ k. total_words ts + k) one

place_from : (all before ts : List Tag) → before ++ ts ≡ all → map (placed_in all) (enumerate_from (length before) ts) ≡ placed_from (total_words before) ts
place_from all before [] is = refl
place_from all before (t ∷ ts) is =
    let here : take (length before) all ≡ before = ap (take (length before)) (sym is) ∙ take-append_seam before (t ∷ ts) in
    let longer : length (before ++ t ∷ []) ≡ length before + 1 = length-append before (t ∷ []) in
    let rest = place_from all (before ++ t ∷ []) ts (append_assoc before (t ∷ []) ts ∙ is) in
    (λ j. placed_tag t (total_words (here j)) ∷ map (placed_in all) (enumerate_from (sym longer j) ts))
    ∙ (ap (λ l. placed_tag t (total_words before) ∷ l) rest
    ∙ ap (λ (k : ℕ). placed_tag t (total_words before) ∷ placed_from k ts) (total_push before t))

from_0 : (tags : List Tag) → placed_tags tags ≡ placed_from 0 tags
unfolding placed_tags
from_0 tags = place_from tags [] tags refl

-- ---- one environment

heads : {X : Type 0} (x y : X) (xs ys : List X) → x ∷ xs ≡ y ∷ ys → x ≡ y
heads x y xs ys h = cc

tails : {X : Type 0} (x y : X) (xs ys : List X) → x ∷ xs ≡ y ∷ ys → xs ≡ ys
tails x y xs ys h = cc

-- the number at a place behind others
zero_more : (n : ℕ) → 0 + n ≡ n
zero_more n = omega arith

one_before : (n k : ℕ) → suc n + k ≡ suc (n + k)
one_before n k = omega arith

behind_all : (before rest : List ℤ) (field : ℕ) → slice_get (before ++ rest) (length before + field) ≡ slice_get rest field
behind_all [] rest field = ap (slice_get rest) (zero_more field)
behind_all (v ∷ before) rest field = ap (slice_get (v ∷ (before ++ rest))) (one_before (length before) field) ∙ behind_all before rest field

within_these : (here after : List ℤ) (field : ℕ) → field < length here → slice_get (here ++ after) field ≡ slice_get here field
within_these [] after field h = absurd (omega (arith, h))
within_these (v ∷ here) after zero h = refl
within_these (v ∷ here) after (suc field) h = within_these here after field (omega (arith, h))

got_behind : (before here after : List ℤ) (field : ℕ) → field < length here → slice_get (before ++ (here ++ after)) (length before + field) ≡ slice_get here field
got_behind before here after field h = behind_all before (here ++ after) field ∙ within_these here after field h

in_field : (before here after : List ℤ) (field words : ℕ) (b : Bool) → nat_lt field words ≡ b → length here ≡ words
    → word_at (before ++ (here ++ after)) (if b then Some (length before + field) else None) ≡ slice_get here field
in_field before here after field words true e n =
    let inside : field < words = grind (arith, nat_tests) in
    got_behind before here after field (omega (arith, inside, n))
in_field before here after field words false e n =
    let outside : words ≤ field = grind (arith, nat_tests) in
    sym (slice_get_past here field (omega (arith, outside, n)))

stands_from : (before : List ℤ) (tags : List Tag) (env : Environment) (name : List ℕ) (field : ℕ) → map name_and_count env ≡ map name_and_words tags
    → word_at (before ++ flat_map (λ (e : List ℕ × List ℤ). e.1) env) (field_address (find (λ (p : PlacedTag). bytes_eq name p.name) (placed_from (length before) tags)) field)
    ≡ number_in (find (λ (e : List ℕ × List ℤ). bytes_eq name e.0) env) field
stands_from before [] [] name field h = refl
stands_from before [] (e ∷ env) name field h = absurd (cc)
stands_from before (t ∷ tags) [] name field h = absurd (cc)
stands_from before (t ∷ tags) (e ∷ env) name field h =
    let head : name_and_count e ≡ name_and_words t = heads (name_and_count e) (name_and_words t) (map name_and_count env) (map name_and_words tags) h in
    let named : e.0 ≡ t.name = ap (λ (x : List ℕ × ℕ). x.0) head in
    let count : length e.1 ≡ words_of_tag t = ap (λ (x : List ℕ × ℕ). x.1) head in
    let after = flat_map (λ (d : List ℕ × List ℤ). d.1) env in
    let rest = stands_from (before ++ e.1) tags env name field (tails (name_and_count e) (name_and_words t) (map name_and_count env) (map name_and_words tags) h) in
    let longer : length (before ++ e.1) ≡ length before + words_of_tag t = length-append before e.1 ∙ ap (λ (k : ℕ). length before + k) count in
    by named count after rest longer (bytes_eq name t.name) refl
  where
    whole : List ℤ
    whole = before ++ (e.1 ++ flat_map (λ (d : List ℕ × List ℤ). d.1) env)

    there : ℕ → Option PlacedTag
    there k = find (λ (p : PlacedTag). bytes_eq name p.name) (placed_from k tags)

    number : Option (List ℕ × List ℤ)
    number = find (λ (d : List ℕ × List ℤ). bytes_eq name d.0) env

    by : e.0 ≡ t.name → length e.1 ≡ words_of_tag t → (after : List ℤ)
        → word_at ((before ++ e.1) ++ flat_map (λ (d : List ℕ × List ℤ). d.1) env) (field_address (there (length (before ++ e.1))) field) ≡ number_in number field
        → length (before ++ e.1) ≡ length before + words_of_tag t
        → (b : Bool) → bytes_eq name t.name ≡ b
        → word_at whole (field_address (cond (bytes_eq name t.name) (Some (placed_tag t (length before))) (there (length before + words_of_tag t))) field)
        ≡ number_in (cond (bytes_eq name e.0) (Some e) number) field
    by named count after rest longer true is =
        ap (λ (b : Bool). word_at whole (field_address (cond b (Some (placed_tag t (length before))) (there (length before + words_of_tag t))) field)) is
        ∙ (in_field before e.1 (flat_map (λ (d : List ℕ × List ℤ). d.1) env) field (words_of_tag t) (nat_lt field (words_of_tag t)) refl count
        ∙ ap (λ (b : Bool). number_in (cond b (Some e) number) field) (sym (ap (bytes_eq name) named ∙ is)))
    by named count after rest longer false is =
        ap (λ (b : Bool). word_at whole (field_address (cond b (Some (placed_tag t (length before))) (there (length before + words_of_tag t))) field)) is
        ∙ ((λ j. word_at (sym (append_assoc before e.1 (flat_map (λ (d : List ℕ × List ℤ). d.1) env)) j) (field_address (there (sym longer j)) field))
        ∙ (rest
        ∙ ap (λ (b : Bool). number_in (cond b (Some e) number) field) (sym (ap (bytes_eq name) named ∙ is))))

pub stands : (tags : List Tag) (env : Environment) (words : List ℤ) → Laid tags env words
    → (name : List ℕ) (field : ℕ) → word_at words (address_of tags name field) ≡ number_of env name field
unfolding placed_named laid_words
stands tags env words laid name field =
    (λ j. word_at (laid.1 j) (field_address (find (λ (p : PlacedTag). bytes_eq name p.name) (from_0 tags j)) field))
    ∙ stands_from [] tags env name field laid.0

-- ---- how many

counts_from : (tags : List Tag) (env : Environment) → map name_and_count env ≡ map name_and_words tags → length (flat_map (λ (e : List ℕ × List ℤ). e.1) env) ≡ total_words tags
counts_from [] [] h = refl
counts_from [] (e ∷ env) h = absurd (cc)
counts_from (t ∷ tags) [] h = absurd (cc)
counts_from (t ∷ tags) (e ∷ env) h =
    let head : name_and_count e ≡ name_and_words t = heads (name_and_count e) (name_and_words t) (map name_and_count env) (map name_and_words tags) h in
    let rest = counts_from tags env (tails (name_and_count e) (name_and_words t) (map name_and_count env) (map name_and_words tags) h) in
    length-append e.1 (flat_map (λ (d : List ℕ × List ℤ). d.1) env)
    ∙ ((λ j. (head j).1 + rest j) ∙ sym (sum_by-cons words_of_tag t tags))

pub counts : (tags : List Tag) (env : Environment) (words : List ℤ) → Laid tags env words → length words ≡ total_words tags
unfolding laid_words
counts tags env words laid = ap length laid.1 ∙ counts_from tags env laid.0
