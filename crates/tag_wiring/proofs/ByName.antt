-- What is looked up anew, one element further and at the end.
use Rattle.std.proofs.Common.{◌≡◌, ◌≢◌, ℕ, suc, ◌<◌, ◌≤◌, ◌+◌, ℤ, pos, Bool, true, false, ◌==◌, cond, if◌then◌else◌, List, [], ◌∷◌, ◌++◌, length, get_or, map, take, drop, Some, None, arith, refl, sym, ap, ◌∙◌, ne_eqb, append-nil, append_assoc, add-one, drop-cons, drop-drop, length-append, length-drop}
use Rattle.std.specs.Prelude.{fold, slice_index_or, slice_set}
use Rattle.std.specs.List.{All, AllPairs}
use Rattle.std.proofs.lemmas.Option.{none-some}
use Rattle.std.proofs.lemmas.List.{drop_all}
use Rattle.std.proofs.lemmas.List.Elements.{filter-append, All-head, All-tail}
use Rattle.tri_base.specs.declared.point.Point.{Point}
use Rattle.tri_base.specs.Noted.{number_before}
use Rattle.tri_base.proofs.Places.{noted-first}
use Rattle.chassis.specs.Points.{is_input_kind, inputs_of}
use Rattle.st_tree.specs.declared.tag.Tag.{Tag}
use Rattle.tag_layout.specs.declared.placed.PlacedTag.{PlacedTag}
use Rattle.tag_layout.specs.Layout.{placed_tags, AreApart}
use Rattle.st_meaning.specs.Programs.{is_point_tag}
use Rattle.tag_wiring.specs.PointWords.{tag_address, input_tags, input_stores, input_set}
use Rattle.tag_wiring.specs.Inner.Steps.{HaveWords, told_among, told_at, noted_at, input_words, address_for, word_set}
use Rattle.tag_wiring.proofs.Looping.{told_more, told_whole}
use Rattle.tag_wiring.proofs.Wired.{told_once, stores_are}

-- ---- stores

append_none : (b : ℕ) (p : List (ℕ × ℤ)) (x : ℕ × ℤ) → number_before b p ≡ None → x.0 ≢ b → number_before b (p ++ x ∷ []) ≡ None
append_none b [] x e apart = ap (λ t. if t then Some x.1 else None) (ne_eqb x.0 b apart)
append_none b (y ∷ p) x e apart = by (y.0 == b) e (append_none b p x)
  where
    by : (t : Bool) → (if t then Some y.1 else number_before b p) ≡ None → (number_before b p ≡ None → x.0 ≢ b → number_before b (p ++ x ∷ []) ≡ None)
        → (if t then Some y.1 else number_before b (p ++ x ∷ [])) ≡ None
    by true g more = absurd (none-some y.1 (sym g))
    by false g more = more g apart

-- addresses that differ, and of which none is noted, are noted one behind the other
noted_each : (words : List ℤ) (pairs : List (ℕ × ℤ)) (xs : List ℕ) → AllPairs (λ (a b : ℕ). a ≢ b) xs → All (λ a. number_before a pairs ≡ None) xs
    → fold (noted_at words) pairs xs ≡ pairs ++ map (told_at words) xs
noted_each words pairs [] apart new = sym (append-nil pairs)
noted_each words pairs (x ∷ xs) apart new =
    let v = slice_index_or words x (pos 0) in
    let first = noted-first x v pairs (All-head (λ a. number_before a pairs ≡ None) x xs new) in
    let others : All (λ a. number_before a (pairs ++ (x, v) ∷ []) ≡ None) xs = λ k d within.
    append_none (slice_index_or xs k d) pairs (x, v) (All-tail (λ a. number_before a pairs ≡ None) x xs new k d within)
    (apart 0 (suc k) d (omega arith) (omega (arith, within))) in
    ap (λ ps. fold (noted_at words) ps xs) first
    ∙ (noted_each words (pairs ++ (x, v) ∷ []) xs (λ i j d before within. apart (suc i) (suc j) d (omega (arith, before)) (omega (arith, within))) others
    ∙ append_assoc pairs ((x, v) ∷ []) (map (told_at words) xs))

fold_append : {X A : Type 0} (f : A → X → A) (a : A) (xs ys : List X) → fold f a (xs ++ ys) ≡ fold f (fold f a xs) ys
fold_append f a [] ys = refl
fold_append f a (x ∷ xs) ys = fold_append f (f a x) xs ys

-- the names told so far
abbrev names_in : List PlacedTag → List (List ℕ)
names_in ps = map (λ (p : PlacedTag). p.name) ps

pub note_more : (points : List Point) (tags : List Tag) (words : List ℤ) (ps : List PlacedTag) (i : ℕ) (x : PlacedTag) (here now : List (ℕ × ℤ)) → i < length ps → x ≡ get_or ps i x
    → here ≡ fold (noted_at words) [] (told_among points tags (names_in (take i ps)))
    → now ≡ fold (noted_at words) here (told_among points tags (x.name ∷ []))
    → now ≡ fold (noted_at words) [] (told_among points tags (names_in (take (i + 1) ps)))
note_more points tags words ps i x here now within is h n =
    let before = told_among points tags (names_in (take i ps)) in
    let one = told_among points tags (x.name ∷ []) in
    n ∙ (ap (λ a. fold (noted_at words) a one) h
    ∙ (sym (fold_append (noted_at words) [] before one)
    ∙ ap (fold (noted_at words) []) (told_more points tags ps i x before (before ++ one) within is refl refl)))

pub note_whole : (points : List Point) (tags : List Tag) (words : List ℤ) (ps : List PlacedTag) (i : ℕ) (here : List (ℕ × ℤ)) → HaveWords tags → AreApart tags → length ps ≤ i → ps ≡ placed_tags tags
    → here ≡ fold (noted_at words) [] (told_among points tags (names_in (take i ps)))
    → here ≡ input_stores points tags words
note_whole points tags words ps i here have apart past all h =
    let told = told_among points tags (names_in (take i ps)) in
    let is = told_whole points tags ps i told past all refl in
    h ∙ (noted_each words [] told (told_once points tags told is have apart) (λ k d within. refl)
    ∙ stores_are tags (input_tags points tags) told words words is refl)

-- ---- inputs

opened : {X : Type 0} (xs : List X) (i : ℕ) (x : X) → i < length xs → x ≡ get_or xs i x → drop i xs ≡ x ∷ drop (i + 1) xs
opened xs i x here is = rw (add-one, drop-cons xs i x here) (λ j. sym is j ∷ drop (suc i) xs)

set_is_one : (tags : List Tag) (words : List ℤ) (p : Point) (v : ℤ) → word_set words (address_for tags p.name) v ≡ input_set tags words (p, v)
set_is_one tags words p v = by (is_point_tag tags p.name)
  where
    by : (b : Bool) → word_set words (if b then Some (tag_address tags p.name) else None) v ≡ (if b then slice_set words (tag_address tags p.name) v else words)
    by true = refl
    by false = refl

set_both : (tags : List Tag) (ps qs : List Point) (vs : List ℤ) (words : List ℤ) → length ps ≤ length vs
    → input_words tags (ps ++ qs) vs words ≡ input_words tags qs (drop (length ps) vs) (input_words tags ps vs words)
unfolding input_words
set_both tags [] qs vs words h = refl
set_both tags (p ∷ ps) qs [] words h = absurd (omega (arith, h))
set_both tags (p ∷ ps) qs (v ∷ vs) words h = set_both tags ps qs vs (input_set tags words (p, v)) (omega (arith, h))

pub set_none : (tags : List Tag) (vs words : List ℤ) → input_words tags [] vs words ≡ words
unfolding input_words
set_none tags vs words = refl

set_one : (tags : List Tag) (p : Point) (v : ℤ) (vs words : List ℤ) → input_words tags (p ∷ []) (v ∷ vs) words ≡ input_set tags words (p, v)
unfolding input_words
set_one tags p v vs words = refl

-- an output is passed over
pub output_passed : (tags : List Tag) (p : Point) (vs words : List ℤ) → is_input_kind p.kind ≡ false → words ≡ input_words tags (inputs_of (p ∷ [])) vs words
output_passed tags p vs words e = sym (ap (λ (b : Bool). input_words tags (cond b (p ∷ []) []) vs words) e ∙ set_none tags vs words)

opened_at : (xs : List ℤ) (i : ℕ) → i < length xs → drop i xs ≡ get_or xs i (pos 0) ∷ drop (i + 1) xs
opened_at xs i here =
    let next : suc i ≡ i + 1 = omega arith in
    drop-cons xs i (pos 0) here ∙ ap (λ n. get_or xs i (pos 0) ∷ drop n xs) next

here_within : (p : Point) (place n : ℕ) → is_input_kind p.kind ≡ true → place + length (inputs_of (p ∷ [])) ≤ n → place < n
here_within p place n e h =
    let one : length (inputs_of (p ∷ [])) ≡ 1 = ap (λ (b : Bool). length (cond b (p ∷ []) [])) e in
    omega (arith, h, one)

-- an input is set
pub input_done : (tags : List Tag) (p : Point) (inputs words new : List ℤ) (place : ℕ) → is_input_kind p.kind ≡ true → place + length (inputs_of (p ∷ [])) ≤ length inputs
    → new ≡ word_set words (address_for tags p.name) (get_or inputs place (pos 0)) → new ≡ input_words tags (inputs_of (p ∷ [])) (drop place inputs) words
input_done tags p inputs words new place e here n =
    let v = get_or inputs place (pos 0) in
    n ∙ (set_is_one tags words p v
    ∙ (sym (set_one tags p v (drop (place + 1) inputs) words)
    ∙ (ap (λ vs. input_words tags (p ∷ []) vs words) (sym (opened_at inputs place (here_within p place (length inputs) e here)))
    ∙ ap (λ (b : Bool). input_words tags (cond b (p ∷ []) []) (drop place inputs) words) (sym e))))

-- what is left to be set, one point further
set_more : (tags : List Tag) (p : Point) (rest : List Point) (vs words whole new : List ℤ) → length (inputs_of (p ∷ [])) ≤ length vs
    → input_words tags (inputs_of (p ∷ rest)) vs words ≡ whole
    → new ≡ input_words tags (inputs_of (p ∷ [])) vs words
    → input_words tags (inputs_of rest) (drop (length (inputs_of (p ∷ []))) vs) new ≡ whole
set_more tags p rest vs words whole new few h n =
    ap (λ ws. input_words tags (inputs_of rest) (drop (length (inputs_of (p ∷ []))) vs) ws) n
    ∙ (sym (set_both tags (inputs_of (p ∷ [])) (inputs_of rest) vs words few)
    ∙ (ap (λ ps. input_words tags ps vs words) (sym (filter-append (λ (p : Point). is_input_kind p.kind) (p ∷ []) rest)) ∙ h))

inputs_both : (p : Point) (rest : List Point) → length (inputs_of (p ∷ rest)) ≡ length (inputs_of (p ∷ [])) + length (inputs_of rest)
inputs_both p rest =
    ap length (filter-append (λ (p : Point). is_input_kind p.kind) (p ∷ []) rest) ∙ length-append (inputs_of (p ∷ [])) (inputs_of rest)

pub left_more : (points : List Point) (i : ℕ) (p : Point) (place after count : ℕ) → i < length points → p ≡ get_or points i p
    → place + length (inputs_of (drop i points)) ≡ count → after ≡ place + length (inputs_of (p ∷ [])) → after + length (inputs_of (drop (i + 1) points)) ≡ count
left_more points i p place after count here is left next =
    let rest = drop (i + 1) points in
    let same = ap (λ ps. length (inputs_of ps)) (opened points i p here is) in
    omega (arith, left, next, same, inputs_both p rest)

pub further : (tags : List Tag) (points : List Point) (i : ℕ) (p : Point) (inputs words whole new : List ℤ) (place after : ℕ) → i < length points → p ≡ get_or points i p
    → place + length (inputs_of (drop i points)) ≡ length inputs → input_words tags (inputs_of (drop i points)) (drop place inputs) words ≡ whole
    → after ≡ place + length (inputs_of (p ∷ [])) → new ≡ input_words tags (inputs_of (p ∷ [])) (drop place inputs) words
    → input_words tags (inputs_of (drop (i + 1) points)) (drop after inputs) new ≡ whole
further tags points i p inputs words whole new place after here is left h next n =
    let rest = drop (i + 1) points in
    let same = opened points i p here is in
    let count = ap (λ ps. length (inputs_of ps)) same in
    let few : length (inputs_of (p ∷ [])) ≤ length (drop place inputs) = omega (arith, left, count, inputs_both p rest, length-drop place inputs) in
    ap (λ vs. input_words tags (inputs_of rest) vs new) (ap (λ n. drop n inputs) next ∙ sym (drop-drop (length (inputs_of (p ∷ []))) place inputs))
    ∙ set_more tags p rest (drop place inputs) words whole new few (ap (λ ps. input_words tags (inputs_of ps) (drop place inputs) words) (sym same) ∙ h) n

pub none_left : (tags : List Tag) (points : List Point) (i : ℕ) (vs words whole : List ℤ) → length points ≤ i → input_words tags (inputs_of (drop i points)) vs words ≡ whole → words ≡ whole
none_left tags points i vs words whole past h =
    sym (ap (λ ps. input_words tags (inputs_of ps) vs words) (drop_all i points past) ∙ set_none tags vs words) ∙ h
