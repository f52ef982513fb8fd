-- The loops of a wiring, one element further and at their end.
use Rattle.std.proofs.Common.{◌≡◌, ◌≢◌, ℕ, ◌<◌, ◌≤◌, ◌+◌, ℤ, pos, Bool, true, false, cond, if◌then◌else◌, List, [], ◌∷◌, ◌++◌, length, get_or, map, take, Some, None, arith, refl, sym, ap, ◌∙◌, subst, ne_eqb, length-take-le}
use Rattle.std.specs.Prelude.{filter, slice_index_or}
use Rattle.std.specs.List.{All, AllPairs}
use Rattle.std.proofs.lemmas.List.{take_more, take_all, map-append, get_or-take}
use Rattle.std.proofs.lemmas.List.Elements.{filter-append, All-head, All-tail, All-from_get_or}
use Rattle.tri_base.specs.declared.point.Point.{Point}
use Rattle.tri_base.specs.Noted.{number_before, noted}
use Rattle.tri_base.proofs.Places.{noted-first}
use Rattle.st_tree.specs.declared.tag.Tag.{Tag}
use Rattle.tag_layout.specs.declared.placed.PlacedTag.{PlacedTag}
use Rattle.tag_layout.specs.Layout.{placed_tags}
use Rattle.tag_layout.proofs.Naming.{placed_names}
use Rattle.tag_wiring.specs.PointWords.{tag_address, is_input_tag, input_tags}
use Rattle.tag_wiring.specs.Inner.Steps.{is_input_name, told_among, told_at}

next : {X : Type 0} (xs : List X) (i : ℕ) (x : X) → i < length xs → x ≡ get_or xs i x → take (i + 1) xs ≡ take i xs ++ x ∷ []
next xs i x here is = take_more xs i x here ∙ ap (λ y. take i xs ++ y ∷ []) (sym is)

-- ---- what is made of the elements that pass

kept_both : {X Y : Type 0} (f : X → Y) (p : X → Bool) (xs ys : List X) → map f (filter p (xs ++ ys)) ≡ map f (filter p xs) ++ map f (filter p ys)
kept_both f p xs ys = ap (map f) (filter-append p xs ys) ∙ map-append f (filter p xs) (filter p ys)

pub kept_more : {X Y : Type 0} (f : X → Y) (p : X → Bool) (xs : List X) (i : ℕ) (x : X) (here now : List Y) → i < length xs → x ≡ get_or xs i x
    → here ≡ map f (filter p (take i xs)) → now ≡ here ++ map f (filter p (x ∷ [])) → now ≡ map f (filter p (take (i + 1) xs))
kept_more f p xs i x here now within is h n =
    n ∙ (ap (λ l. l ++ map f (filter p (x ∷ []))) h
    ∙ (sym (kept_both f p (take i xs) (x ∷ [])) ∙ ap (λ ys. map f (filter p ys)) (sym (next xs i x within is))))

pub kept_whole : {X Y : Type 0} (f : X → Y) (p : X → Bool) (xs : List X) (i : ℕ) (here : List Y) → length xs ≤ i
    → here ≡ map f (filter p (take i xs)) → here ≡ map f (filter p xs)
kept_whole f p xs i here past h = h ∙ ap (λ ys. map f (filter p ys)) (take_all i xs past)

-- ---- the addresses of the declared input tags

abbrev names_in : List PlacedTag → List (List ℕ)
names_in ps = map (λ (p : PlacedTag). p.name) ps

pub told_more : (points : List Point) (tags : List Tag) (ps : List PlacedTag) (i : ℕ) (x : PlacedTag) (here now : List ℕ) → i < length ps → x ≡ get_or ps i x
    → here ≡ told_among points tags (names_in (take i ps)) → now ≡ here ++ told_among points tags (x.name ∷ []) → now ≡ told_among points tags (names_in (take (i + 1) ps))
told_more points tags ps i x here now within is h n =
    n ∙ (ap (λ l. l ++ told_among points tags (x.name ∷ [])) h
    ∙ (sym (kept_both (tag_address tags) (is_input_name points tags) (names_in (take i ps)) (x.name ∷ []))
    ∙ ap (told_among points tags) (sym (map-append (λ (p : PlacedTag). p.name) (take i ps) (x ∷ [])) ∙ ap names_in (sym (next ps i x within is)))))

told_names : (points : List Point) (tags ts : List Tag) → told_among points tags (map (λ (t : Tag). t.name) ts) ≡ map (λ (t : Tag). tag_address tags t.name) (filter (is_input_tag points tags) ts)
told_names points tags [] = refl
told_names points tags (t ∷ ts) = by (is_input_tag points tags t) (told_names points tags ts)
  where
    names : List (List ℕ)
    names = filter (is_input_name points tags) (map (λ (t : Tag). t.name) ts)

    kept : List Tag
    kept = filter (is_input_tag points tags) ts

    by : (b : Bool) → map (tag_address tags) names ≡ map (λ (t : Tag). tag_address tags t.name) kept
        → map (tag_address tags) (cond b (t.name ∷ names) names) ≡ map (λ (t : Tag). tag_address tags t.name) (cond b (t ∷ kept) kept)
    by true h = ap (λ l. tag_address tags t.name ∷ l) h
    by false h = h

pub told_whole : (points : List Point) (tags : List Tag) (ps : List PlacedTag) (i : ℕ) (here : List ℕ) → length ps ≤ i → ps ≡ placed_tags tags
    → here ≡ told_among points tags (names_in (take i ps)) → here ≡ map (λ (t : Tag). tag_address tags t.name) (input_tags points tags)
told_whole points tags ps i here past all h =
    h ∙ (ap (λ qs. told_among points tags (names_in qs)) (take_all i ps past ∙ all)
    ∙ (ap (told_among points tags) (placed_names tags) ∙ told_names points tags tags))

-- ---- words that are told

none_before : (words : List ℤ) (xs : List ℕ) (a : ℕ) → All (λ b. b ≢ a) xs → number_before a (map (told_at words) xs) ≡ None
none_before words [] a h = refl
none_before words (b ∷ bs) a h =
    ap (λ t. if t then Some (slice_index_or words b (pos 0)) else number_before a (map (told_at words) bs)) (ne_eqb b a (All-head (λ b. b ≢ a) b bs h))
    ∙ none_before words bs a (All-tail (λ b. b ≢ a) b bs h)

others_before : (xs : List ℕ) (i a : ℕ) → i < length xs → a ≡ get_or xs i 0 → AllPairs (λ a b. a ≢ b) xs → All (λ b. b ≢ a) (take i xs)
others_before xs i a within is apart =
    All-from_get_or (λ b. b ≢ a) (take i xs) 0
    (λ k w. let short = first_part xs i k w within in
    subst (λ (b : ℕ). b ≢ a) (sym (get_or-take i xs k 0 short)) (λ same. apart k i 0 short within (same ∙ is)))
  where
    first_part : (xs : List ℕ) (i k : ℕ) → k < length (take i xs) → i < length xs → k < i
    first_part xs i k w within = omega (arith, w, within, length-take-le i xs (omega (arith, within)))

-- one address more is told, which isn't told yet
pub note_more : (words : List ℤ) (xs : List ℕ) (i a : ℕ) (v : ℤ) (pairs now : List (ℕ × ℤ)) → i < length xs → a ≡ get_or xs i 0 → v ≡ slice_index_or words a (pos 0)
    → AllPairs (λ a b. a ≢ b) xs → pairs ≡ map (told_at words) (take i xs) → now ≡ noted a v pairs → now ≡ map (told_at words) (take (i + 1) xs)
note_more words xs i a v pairs now within is number apart h n =
    n ∙ (ap (noted a v) h
    ∙ (noted-first a v (map (told_at words) (take i xs)) (none_before words (take i xs) a (others_before xs i a within is apart))
    ∙ (ap (λ x. map (told_at words) (take i xs) ++ (a, x) ∷ []) number
    ∙ (sym (map-append (told_at words) (take i xs) (a ∷ []))
    ∙ ap (map (told_at words)) (ap (λ y. take i xs ++ y ∷ []) is ∙ sym (take_more xs i 0 within))))))
