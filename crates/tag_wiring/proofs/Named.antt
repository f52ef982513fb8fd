-- What a name stands for.
use Rattle.std.proofs.Common.{◌≡◌, ℕ, zero, suc, ◌+◌, ◌<◌, Bool, true, false, not, List, [], ◌∷◌, length, get_or, take, drop, map, cond, nat_lt, Option, Some, None, arith, refl, sym, ap, ◌∙◌}
use Rattle.std.specs.Prelude.{if◌then◌else◌}
use Rattle.std.specs.List.{find, enumerate_from}
use Rattle.std.specs.Str.{bytes_eq}
use Rattle.std.proofs.lemmas.Bool.Decides.{nat_tests}
use Rattle.tri_base.specs.declared.point.PointKind.{PointKind}
use Rattle.chassis.specs.Points as chassis
use Rattle.st_tree.specs.declared.tag.Tag.{Tag}
use Rattle.st_tree.specs.Tags.{tag_named}
use Rattle.st_tree.specs.Typing.Points.{is_input_kind}
use Rattle.st_types.proofs.Named.{input_kind_is}
use Rattle.tag_layout.specs.declared.placed.PlacedTag.{PlacedTag}
use Rattle.tag_layout.specs.Layout as layout
use Rattle.tag_layout.specs.Layout.{words_of, words_of_tag, total_words, placed_tags, placed_named, field_address}
use Rattle.tag_layout.proofs.Placing.{placed_in, total_more}
use Rattle.st_core.specs.Memory.{address_of, count_of}
use Rattle.st_meaning.specs.Programs.{is_external, is_point_tag}
use Rattle.st_sound.specs.Shapes.{shape_in}
use Rattle.tag_wiring.specs.PointWords.{tag_address}
use Rattle.tag_wiring.specs.Inner.Steps.{HaveWords, address_for}

-- which points are inputs is said twice, with one meaning
pub same_kinds : (kind : PointKind) → chassis.is_input_kind kind ≡ is_input_kind kind
same_kinds kind = input_kind_is kind

-- ---- the address of a tag that is found

-- a list from a place on
record Opened {X : Type 0} (all : List X) (k : ℕ) (x : X) (xs : List X) : Type 0 where
  less : k < length all
  is : x ≡ get_or all k x
  rest : drop (k + 1) all ≡ xs

head_or : {X : Type 0} → X → List X → X
head_or d [] = d
head_or d (x ∷ xs) = x

tail_of : {X : Type 0} → List X → List X
tail_of [] = []
tail_of (x ∷ xs) = xs

opened : {X : Type 0} (all : List X) (k : ℕ) (x : X) (xs : List X) → drop k all ≡ x ∷ xs → Opened all k x xs
unfolding head_or tail_of
opened [] zero x xs e = absurd (cc)
opened [] (suc k) x xs e = absurd (cc)
opened (y ∷ ys) zero x xs e = record { less = omega arith; is = sym (ap (head_or x) e); rest = ap tail_of e }
opened (y ∷ ys) (suc k) x xs e =
    let o = opened ys k x xs e in
    let n : suc k + 1 ≡ suc (k + 1) = omega arith in
    record { less = omega (arith, o.less); is = o.is; rest = ap (λ m. drop m (y ∷ ys)) n ∙ o.rest }

-- what is found of a name, where the first of the tags has this address
abbrev Looked : List ℕ → ℕ → List Tag → Option PlacedTag → Type 0
Looked n at ts None = count_of n (shape_in ts) ≡ 0
Looked n at ts (Some p) = (words_of p.of ≡ count_of n (shape_in ts)) × (p.address ≡ at + address_of n (shape_in ts))

looked_past : (n : List ℕ) (at : ℕ) (t : Tag) (ts : List Tag) (o : Option PlacedTag) → bytes_eq n t.name ≡ false → Looked n (at + words_of_tag t) ts o → Looked n at (t ∷ ts) o
unfolding address_of count_of
looked_past n at t ts None e h = ap (λ (b : Bool). if b then words_of_tag t else count_of n (shape_in ts)) e ∙ h
looked_past n at t ts (Some p) e h =
    let a = ap (λ (b : Bool). if b then 0 else words_of_tag t + address_of n (shape_in ts)) e in
    let c = ap (λ (b : Bool). if b then words_of_tag t else count_of n (shape_in ts)) e in
    (h.0 ∙ sym c, omega (arith, h.1, a))

looked_step : (n : List ℕ) (at : ℕ) (t : Tag) (ts : List Tag) (p : PlacedTag) (o : Option PlacedTag) (b : Bool) → bytes_eq n t.name ≡ b → words_of p.of ≡ words_of_tag t → p.address ≡ at
    → Looked n (at + words_of_tag t) ts o → Looked n at (t ∷ ts) (cond b (Some p) o)
unfolding address_of count_of
looked_step n at t ts p o true e of address h =
    let a = ap (λ (b : Bool). if b then 0 else words_of_tag t + address_of n (shape_in ts)) e in
    let c = ap (λ (b : Bool). if b then words_of_tag t else count_of n (shape_in ts)) e in
    (of ∙ sym c, omega (arith, address, a))
looked_step n at t ts p o false e of address h = looked_past n at t ts o e h

looked_from : (n : List ℕ) (all : List Tag) (k at : ℕ) (ts : List Tag) → drop k all ≡ ts → at ≡ total_words (take k all)
    → Looked n at ts (find (λ (p : PlacedTag). bytes_eq n p.name) (map (placed_in all) (enumerate_from k ts)))
unfolding address_of count_of
looked_from n all k at [] e a = refl
looked_from n all k at (t ∷ ts) e a =
    let o = opened all k t ts e in
    let more = total_more all k t o.less o.is in
    looked_step n at t ts (placed_in all (k, t)) _ (bytes_eq n t.name) refl refl (sym a)
    (looked_from n all (k + 1) (at + words_of_tag t) ts o.rest (omega (arith, a, more)))

looked : (n : List ℕ) (tags : List Tag) → Looked n 0 tags (placed_named tags n)
unfolding placed_named placed_tags
looked n tags = looked_from n tags 0 0 tags refl refl

some_words : (count words : ℕ) → 0 < count → words ≡ count → nat_lt 0 words ≡ true
some_words count words h e = grind (arith, nat_tests)

-- the first word of a tag that has one
pub first_address : (tags : List Tag) (n : List ℕ) → 0 < count_of n (shape_in tags) → layout.address_of tags n 0 ≡ Some (tag_address tags n)
first_address tags n some = by (placed_named tags n) (looked n tags)
  where
    by : (o : Option PlacedTag) → Looked n 0 tags o → field_address o 0 ≡ Some (tag_address tags n)
    by None h = absurd (omega (arith, some, h))
    by (Some p) h =
        ap (λ (b : Bool). if b then Some (p.address + 0) else None) (some_words (count_of n (shape_in tags)) (words_of p.of) some h.0)
        ∙ ap Some (omega (arith, h.1))

-- ---- the tag of a point

turned : (b : Bool) → not b ≡ false → b ≡ true
turned true e = refl
turned false e = sym e

pub declared_point : (tags : List Tag) (n : List ℕ) (t : Tag) (r : Option ℕ) → HaveWords tags → Some t ≡ tag_named tags n → not t.external ≡ false → r ≡ layout.address_of tags n 0 → r ≡ address_for tags n
declared_point tags n t r have found external is =
    let point : is_point_tag tags n ≡ true = ap is_external (sym found) ∙ turned t.external external in
    is ∙ (first_address tags n (have n point) ∙ ap (λ (b : Bool). if b then Some (tag_address tags n) else None) (sym point))
