-- What a download goes on with, part by part: each part has its tag's words, and holds the tag's numbers.
use Rattle.std.proofs.Common.{◌≡◌, ℕ, ◌<◌, ◌≤◌, ◌+◌, ℤ, List, [], ◌∷◌, ◌++◌, length, get_or, map, drop, slice_get, Option, Some, None, refl, sym, ap, ◌∙◌, subst, arith, length-append, length-drop}
use Rattle.std.specs.Prelude.{IfSome}
use Rattle.std.specs.List.{All, find, flat_map, sum_by}
use Rattle.std.specs.Option.{option_map, option_and_then}
use Rattle.std.specs.Str.{bytes_eq}
use Rattle.std.proofs.lemmas.Slice.Eq.{bytes_eq-Decides}
use Rattle.std.proofs.lemmas.List.{length-take}
use Rattle.std.proofs.lemmas.List.Elements.{All-head, All-tail, All-weaker}
use Rattle.std.proofs.lemmas.List.Sums.{sum_by-cons}
use Rattle.st_tree.specs.declared.tag.Tag.{Tag}
use Rattle.st_tree.specs.declared.tag_type.TagType.{TagType}
use Rattle.tag_layout.specs.declared.placed.PlacedTag.{PlacedTag}
use Rattle.tag_layout.specs.Layout.{words_of, words_of_tag, total_words, placed_tags, placed_named, address_of, word_at, Environment, name_and_words, name_and_count, laid_words, Laid, number_in, number_of, AreApart}
use Rattle.tag_layout.proofs.Lying.{lies_below}
use Rattle.tag_layout.proofs.Standing.{counts, stands}
use Rattle.download_change.specs.Renames.{Rename, heir_of, renames_fault_of}
use Rattle.download_change.specs.Kept.{of_type, origin_of, kept_for, numbers_in, numbers_named, carried_numbers, carried_of, words_at, carried_part, carried_words, IsKeptAs}
use Rattle.download_change.specs.Inner.Origins.{part_of}
use Rattle.download_change.proofs.Walks.{found_all, find_mapped, find_passes}
use Rattle.download_change.proofs.OneHeir.{Apart, apart_of, heir_back, origin_is}
use Rattle.download_change.proofs.SameTypes.{of_that_type, of_own_type}
use Rattle.download_change.proofs.Reading.{heads, tails, numbers_read, found_by_name, names_and_words}

-- ---- what is known of a kept tag

-- a tag that is kept: what holds of all old tags holds of it, and it has the new tag's type
record IsKept (P : PlacedTag → Type 0) (of : TagType) (o : PlacedTag) : Type 0 where
  holds : P o
  typed : o.of ≡ of

kept_has : (P : PlacedTag → Type 0) (old : List Tag) (renames : List Rename) (t : PlacedTag) → All P (placed_tags old) → (o : PlacedTag) → kept_for old renames t ≡ Some o → IsKept P t.of o
kept_has P old renames t h o e =
    let parts = of_that_type t.of (origin_of old renames t.name) o e in
    record { holds = subst (λ x. IfSome x P) parts.0 (found_all P _ (placed_tags old) h); typed = parts.1 }

-- ---- how many words

-- a part within the words has its whole length
pub part_length : (words : List ℤ) (p : PlacedTag) → p.address + words_of p.of ≤ length words → length (words_at words p) ≡ words_of p.of
part_length words p h =
    let all = length-take (words_of p.of) (drop p.address words) in
    let left = length-drop p.address words in
    omega (arith, all, left, h)

pub carried_length : (old : List Tag) (renames : List Rename) (words first : List ℤ) (t : PlacedTag) → length words ≡ total_words old → t.address + words_of t.of ≤ length first
    → length (carried_part words first (kept_for old renames t) t) ≡ words_of t.of
carried_length old renames words first t n h = by (kept_for old renames t) refl
  where
    by : (k : Option PlacedTag) → kept_for old renames t ≡ k → length (carried_part words first k t) ≡ words_of t.of
    by None e = part_length first t h
    by (Some o) e =
        let kept = kept_has (λ (p : PlacedTag). p.address + words_of p.of ≤ total_words old) old renames t (lies_below old) o e in
        part_length words o (rw n kept.holds) ∙ ap words_of kept.typed

abbrev words_of_placed : PlacedTag → ℕ
words_of_placed p = words_of p.of

flat_length : (f : PlacedTag → List ℤ) (ps : List PlacedTag) → All (λ (p : PlacedTag). length (f p) ≡ words_of p.of) ps → length (flat_map f ps) ≡ sum_by words_of_placed ps
flat_length f [] h = refl
flat_length f (p ∷ ps) h =
    length-append (f p) (flat_map f ps)
    ∙ ((λ i. All-head (λ (q : PlacedTag). length (f q) ≡ words_of q.of) p ps h i + flat_length f ps (All-tail (λ (q : PlacedTag). length (f q) ≡ words_of q.of) p ps h) i)
    ∙ sym (sum_by-cons words_of_placed p ps))

second_sum : (ps : List PlacedTag) (tags : List Tag) → map (λ (p : PlacedTag). (p.name, words_of p.of)) ps ≡ map name_and_words tags → sum_by words_of_placed ps ≡ total_words tags
second_sum [] [] h = refl
second_sum [] (t ∷ ts) h = absurd (cc)
second_sum (p ∷ ps) [] h = absurd (cc)
second_sum (p ∷ ps) (t ∷ ts) h =
    let first = heads (p.name, words_of p.of) (name_and_words t) (map (λ (q : PlacedTag). (q.name, words_of q.of)) ps) (map name_and_words ts) h in
    let rest = second_sum ps ts (tails (p.name, words_of p.of) (name_and_words t) (map (λ (q : PlacedTag). (q.name, words_of q.of)) ps) (map name_and_words ts) h) in
    sum_by-cons words_of_placed p ps ∙ ((λ i. (first i).1 + rest i) ∙ sym (sum_by-cons words_of_tag t ts))

-- the words that are carried are as many as the new tags have
pub carried_count : (old new : List Tag) (renames : List Rename) (first words : List ℤ) → length first ≡ total_words new → length words ≡ total_words old
    → length (carried_words old new renames first words) ≡ total_words new
unfolding carried_words
carried_count old new renames first words f w =
    flat_length (λ (t : PlacedTag). carried_part words first (kept_for old renames t) t) (placed_tags new)
    (All-weaker (λ (t : PlacedTag). t.address + words_of t.of ≤ total_words new) (λ (t : PlacedTag). length (carried_part words first (kept_for old renames t) t) ≡ words_of t.of)
    (λ t h. carried_length old renames words first t w (rw f h)) (placed_tags new) (lies_below new))
    ∙ second_sum (placed_tags new) new (names_and_words new)

-- a kept tag lies in the old words
pub kept_within : (old : List Tag) (renames : List Rename) (t : PlacedTag) (k : Option PlacedTag) (n : ℕ) → k ≡ kept_for old renames t → n ≡ total_words old → IfSome k (λ (o : PlacedTag). o.address + words_of o.of ≤ n)
kept_within old renames t None n is so = tt
kept_within old renames t (Some o) n is so =
    rw so (kept_has (λ (p : PlacedTag). p.address + words_of p.of ≤ total_words old) old renames t (lies_below old) o (sym is)).holds

-- a new tag lies in the first words
pub tag_within : (new : List Tag) (ps : List PlacedTag) (i : ℕ) (t : PlacedTag) (n : ℕ) → ps ≡ placed_tags new → i < length ps → t ≡ get_or ps i t → n ≡ total_words new → t.address + words_of t.of ≤ n
tag_within new ps i t n all within is so =
    rw so (subst (λ (p : PlacedTag). p.address + words_of p.of ≤ total_words new) (sym is)
    (subst (λ (l : List PlacedTag). All (λ (p : PlacedTag). p.address + words_of p.of ≤ total_words new) l) (sym all) (lies_below new) i t within))

-- ---- words that hold an environment

-- what a download reads: the old program's environment and the new one's first values, as words
record Read (old new : List Tag) (env first : Environment) (words first_words : List ℤ) : Type 0 where
  old_apart : AreApart old
  new_apart : AreApart new
  old_laid : Laid old env words
  new_laid : Laid new first first_words

part_is : (old new : List Tag) (renames : List Rename) (env first : Environment) (words first_words : List ℤ) → Read old new env first words first_words
    → All (λ (t : PlacedTag). carried_numbers env first (kept_for old renames t) t ≡ carried_part words first_words (kept_for old renames t) t) (placed_tags new)
part_is old new renames env first words first_words r =
    All-weaker (λ (t : PlacedTag). placed_named new t.name ≡ Some t) (λ (t : PlacedTag). carried_numbers env first (kept_for old renames t) t ≡ carried_part words first_words (kept_for old renames t) t)
    (λ t own. by t own (kept_for old renames t) refl) (placed_tags new) (found_by_name new r.new_apart)
  where
    by : (t : PlacedTag) → placed_named new t.name ≡ Some t → (k : Option PlacedTag) → kept_for old renames t ≡ k → carried_numbers env first k t ≡ carried_part words first_words k t
    by t own None e = numbers_read new first first_words r.new_laid t.name ∙ ap (part_of first_words) own
    by t own (Some o) e =
        let kept = kept_has (λ (p : PlacedTag). placed_named old p.name ≡ Some p) old renames t (found_by_name old r.old_apart) o e in
        numbers_read old env words r.old_laid o.name ∙ ap (part_of words) kept.holds

named_counts : (f : PlacedTag → List ℤ) (ps : List PlacedTag) → All (λ (p : PlacedTag). length (f p) ≡ words_of p.of) ps
    → map name_and_count (map (λ (p : PlacedTag). (p.name, f p)) ps) ≡ map (λ (p : PlacedTag). (p.name, words_of p.of)) ps
named_counts f [] h = refl
named_counts f (p ∷ ps) h =
    λ i. (p.name, All-head (λ (q : PlacedTag). length (f q) ≡ words_of q.of) p ps h i) ∷ named_counts f ps (All-tail (λ (q : PlacedTag). length (f q) ≡ words_of q.of) p ps h) i

laid_parts : (f g : PlacedTag → List ℤ) (ps : List PlacedTag) → All (λ (p : PlacedTag). f p ≡ g p) ps
    → flat_map g ps ≡ flat_map (λ (e : List ℕ × List ℤ). e.1) (map (λ (p : PlacedTag). (p.name, f p)) ps)
laid_parts f g [] h = refl
laid_parts f g (p ∷ ps) h =
    λ i. sym (All-head (λ (q : PlacedTag). f q ≡ g q) p ps h) i ++ laid_parts f g ps (All-tail (λ (q : PlacedTag). f q ≡ g q) p ps h) i

-- an equation of each of two lists
both_all : {X : Type 0} (P Q R : X → Type 0) → ((x : X) → P x → Q x → R x) → (xs : List X) → All P xs → All Q xs → All R xs
both_all P Q R f xs p q k d w = f (get_or xs k d) (p k d w) (q k d w)

pub carried_laid : (old new : List Tag) (renames : List Rename) (env first : Environment) (words first_words : List ℤ)
    → AreApart old → AreApart new → Laid old env words → Laid new first first_words
    → Laid new (carried_of old new renames env first) (carried_words old new renames first_words words)
unfolding carried_of carried_words laid_words
carried_laid old new renames env first words first_words oa na ol nl =
    let r : Read old new env first words first_words = record { old_apart = oa; new_apart = na; old_laid = ol; new_laid = nl } in
    let numbers = λ (t : PlacedTag). carried_numbers env first (kept_for old renames t) t in
    let part = λ (t : PlacedTag). carried_part words first_words (kept_for old renames t) t in
    let same : All (λ (t : PlacedTag). numbers t ≡ part t) (placed_tags new) = part_is old new renames env first words first_words r in
    let lengths : All (λ (t : PlacedTag). length (numbers t) ≡ words_of t.of) (placed_tags new) =
    both_all (λ (t : PlacedTag). numbers t ≡ part t) (λ (t : PlacedTag). t.address + words_of t.of ≤ total_words new) (λ (t : PlacedTag). length (numbers t) ≡ words_of t.of)
    (λ t e h. ap length e ∙ carried_length old renames words first_words t (counts old env words ol) (rw (counts new first first_words nl) h)) (placed_tags new) same (lies_below new) in
    (named_counts numbers (placed_tags new) lengths ∙ names_and_words new, laid_parts numbers part (placed_tags new) same)

-- ---- kept tags

number_found : (o : Option (List ℕ × List ℤ)) (field : ℕ) → number_in o field ≡ slice_get (numbers_in o) field
number_found None field = refl
number_found (Some e) field = refl

new_type : (of : TagType) (o : Option PlacedTag) (p : PlacedTag) → o ≡ Some p → option_map (λ (x : PlacedTag). x.of) o ≡ Some of → of ≡ p.of
new_type of o p e h = let same : Some p.of ≡ Some of = ap (option_map (λ (x : PlacedTag). x.of)) (sym e) ∙ h in cc

-- the old tag is the one that is kept as its heir
kept_there : (old : List Tag) (renames : List Rename) → Apart renames → (t u : PlacedTag) → placed_named old t.name ≡ Some t → heir_of renames t.name ≡ Some u.name → t.of ≡ u.of → kept_for old renames u ≡ Some t
kept_there old renames a t u own heir same =
    ap (of_type u.of) (origin_is old renames a u.name ∙ (ap (option_and_then (placed_named old)) (heir_back renames a t.name u.name heir) ∙ own))
    ∙ of_own_type u.of t same

number_carried : (old new : List Tag) (renames : List Rename) (env first : Environment) → Apart renames → (t : PlacedTag) → placed_named old t.name ≡ Some t
    → (heir : List ℕ) → IsKeptAs new renames t heir → numbers_named (carried_of old new renames env first) heir ≡ numbers_named env t.name
unfolding carried_of placed_named
number_carried old new renames env first a t own heir kept =
    ap numbers_in (find_mapped f (λ (e : List ℕ × List ℤ). bytes_eq heir e.0) (placed_tags new)) ∙ by (placed_named new heir) refl kept.1
  where
    f : PlacedTag → List ℕ × List ℤ
    f u = (u.name, carried_numbers env first (kept_for old renames u) u)

    by : (o : Option PlacedTag) → placed_named new heir ≡ o → option_map (λ (p : PlacedTag). p.of) o ≡ Some t.of → numbers_in (option_map f o) ≡ numbers_named env t.name
    by None e h = absurd (cc)
    by (Some u) e h =
        let named : heir ≡ u.name = (bytes_eq-Decides heir u.name).0 (find_passes (λ (p : PlacedTag). bytes_eq heir p.name) (placed_tags new) u e) in
        let typed : t.of ≡ u.of = cc in
        ap (λ k. carried_numbers env first k u) (kept_there old renames a t u own (kept.0 ∙ ap Some named) typed)

pub kept_number : (old new : List Tag) (renames : List Rename) (env first : Environment) → AreApart old → renames_fault_of old new renames ≡ None
    → All (λ (t : PlacedTag). (heir : List ℕ) → IsKeptAs new renames t heir → (field : ℕ) → number_of (carried_of old new renames env first) heir field ≡ number_of env t.name field) (placed_tags old)
kept_number old new renames env first apart known k d within heir kept field =
    let t = get_or (placed_tags old) k d in
    number_found (find (λ (e : List ℕ × List ℤ). bytes_eq heir e.0) (carried_of old new renames env first)) field
    ∙ (ap (λ (l : List ℤ). slice_get l field) (number_carried old new renames env first (apart_of old new renames known) t (found_by_name old apart k d within) heir kept)
    ∙ sym (number_found (find (λ (e : List ℕ × List ℤ). bytes_eq t.name e.0) env) field))

pub kept_word : (old new : List Tag) (renames : List Rename) (env first : Environment) (words first_words : List ℤ)
    → AreApart old → AreApart new → renames_fault_of old new renames ≡ None → Laid old env words → Laid new first first_words
    → All (λ (t : PlacedTag). (heir : List ℕ) → IsKeptAs new renames t heir → (field : ℕ)
    → word_at (carried_words old new renames first_words words) (address_of new heir field) ≡ word_at words (address_of old t.name field)) (placed_tags old)
kept_word old new renames env first words first_words oa na known ol nl k d within heir kept field =
    stands new (carried_of old new renames env first) (carried_words old new renames first_words words) (carried_laid old new renames env first words first_words oa na ol nl) heir field
    ∙ (kept_number old new renames env first oa known k d within heir kept field
    ∙ sym (stands old env words ol (get_or (placed_tags old) k d).name field))

-- ---- the other tags

pub first_number : (old new : List Tag) (renames : List Rename) (env first : Environment) → AreApart new
    → All (λ (t : PlacedTag). kept_for old renames t ≡ None → (field : ℕ) → number_of (carried_of old new renames env first) t.name field ≡ number_of first t.name field) (placed_tags new)
unfolding carried_of placed_named
first_number old new renames env first apart k d within none field =
    number_found (find (λ (e : List ℕ × List ℤ). bytes_eq t.name e.0) (carried_of old new renames env first)) field
    ∙ (ap (λ (l : List ℤ). slice_get l field) numbers
    ∙ sym (number_found (find (λ (e : List ℕ × List ℤ). bytes_eq t.name e.0) first) field))
  where
    t : PlacedTag
    t = get_or (placed_tags new) k d

    f : PlacedTag → List ℕ × List ℤ
    f u = (u.name, carried_numbers env first (kept_for old renames u) u)

    numbers : numbers_named (carried_of old new renames env first) t.name ≡ numbers_named first t.name
    numbers =
        ap numbers_in (find_mapped f (λ (e : List ℕ × List ℤ). bytes_eq t.name e.0) (placed_tags new))
        ∙ (ap (λ o. numbers_in (option_map f o)) (found_by_name new apart k d within)
        ∙ ap (λ o. carried_numbers env first o t) none)
