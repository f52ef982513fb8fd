-- The tag of a name, among the tags with their addresses and among the declared ones.
use Rattle.std.proofs.Common.{◌≡◌, ℕ, zero, suc, ◌+◌, ◌<◌, Bool, true, false, List, [], ◌∷◌, length, get_or, take, drop, map, cond, Option, Some, None, arith, refl, sym, ap, ◌∙◌, subst}
use Rattle.std.proofs.lemmas.List.Sums.{sum_by-cons}
use Rattle.std.specs.Prelude.{if◌then◌else◌}
use Rattle.std.specs.List.{find, enumerate_from}
use Rattle.std.specs.Str.{bytes_eq}
use Rattle.std.specs.Option.{option_map}
use Rattle.function_blocks.specs.declared.kinds.Kind.TheVariants as kind
use Rattle.function_blocks.specs.declared.blocks.BlockKind.TheVariants as block
use Rattle.st_tree.specs.declared.declaration.DeclaredType.{DeclaredType}
use Rattle.st_tree.specs.declared.declaration.DeclaredType.TheVariants as declared
use Rattle.st_tree.specs.declared.tag.Tag.{Tag}
use Rattle.st_tree.specs.declared.tag_type.TagType.TheVariants as type
use Rattle.st_tree.specs.Tags.{tag_named}
use Rattle.st_core.specs.Core.{Name}
use Rattle.st_core.specs.Memory.{address_of, total_of}
use Rattle.st_meaning.specs.Types.{type_of, word_type, element_type, low_bound, high_bound, block_of}
use Rattle.tag_layout.specs.declared.placed.PlacedTag.{PlacedTag}
use Rattle.tag_layout.specs.Layout as layout
use Rattle.tag_layout.specs.Layout.{words_of_tag, total_words, placed_tags, placed_named}
use Rattle.tag_layout.proofs.Placing.{placed_in, total_more}
use Rattle.st_sound.specs.Shapes.{shape_in}
use Rattle.scan_code.specs.Inner.Found.{word_type_of, element_type_of, low_of, high_of, block_of_tag, IsFound}

-- a list from a place on
record Opened {X : Type 0} (all : List X) (k : ℕ) (x : X) (xs : List X) : Type 0 where
  less : k < length all
  is : x ≡ get_or all k x
  rest : drop (k + 1) all ≡ xs

abbrev head_or : {X : Type 0} → X → List X → X
head_or d [] = d
head_or d (x ∷ xs) = x

abbrev tail_of : {X : Type 0} → List X → List X
tail_of [] = []
tail_of (x ∷ xs) = xs

opened : {X : Type 0} (all : List X) (k : ℕ) (x : X) (xs : List X) → drop k all ≡ x ∷ xs → Opened all k x xs
opened [] zero x xs e = absurd (cc)
opened [] (suc k) x xs e = absurd (cc)
opened (y ∷ ys) zero x xs e = record { less = omega arith; is = sym (ap (head_or x) e); rest = ap tail_of e }
opened (y ∷ ys) (suc k) x xs e =
    let o = opened ys k x xs e in
    let n : suc k + 1 ≡ suc (k + 1) = omega arith in
    record { less = omega (arith, o.less); is = o.is; rest = ap (λ m. drop m (y ∷ ys)) n ∙ o.rest }

-- what is found of a name, where the first of the tags has this address
abbrev Looked : Name → ℕ → List Tag → Option PlacedTag → Type 0
Looked n at ts None = (find (λ t. bytes_eq n t.name) ts ≡ None) × (address_of n (shape_in ts) ≡ total_words ts)
Looked n at ts (Some p) = (t : Tag) × (find (λ t. bytes_eq n t.name) ts ≡ Some t) × (p.of ≡ layout.type_of t.declared) × (p.address ≡ at + address_of n (shape_in ts))

looked_past : (n : Name) (at : ℕ) (t : Tag) (ts : List Tag) (o : Option PlacedTag) → bytes_eq n t.name ≡ false → Looked n (at + words_of_tag t) ts o → Looked n at (t ∷ ts) o
unfolding address_of
looked_past n at t ts None e h = (
  ap (λ b. cond b (Some t) (find (λ (t : Tag). bytes_eq n t.name) ts)) e ∙ h.0,
  ap (λ (b : Bool). if b then 0 else words_of_tag t + address_of n (shape_in ts)) e ∙ (ap (λ k. words_of_tag t + k) h.1 ∙ sym (sum_by-cons words_of_tag t ts)),
)
looked_past n at t ts (Some p) e h =
    let a = ap (λ (b : Bool). if b then 0 else words_of_tag t + address_of n (shape_in ts)) e in
    (h.0, ap (λ b. cond b (Some t) (find (λ (t : Tag). bytes_eq n t.name) ts)) e ∙ h.1, h.2, omega (arith, h.3, a))

looked_step : (n : Name) (at : ℕ) (t : Tag) (ts : List Tag) (p : PlacedTag) (o : Option PlacedTag) (b : Bool) → bytes_eq n t.name ≡ b → p.of ≡ layout.type_of t.declared → p.address ≡ at
    → Looked n (at + words_of_tag t) ts o → Looked n at (t ∷ ts) (cond b (Some p) o)
unfolding address_of
looked_step n at t ts p o true e of address h =
    let a = ap (λ (b : Bool). if b then 0 else words_of_tag t + address_of n (shape_in ts)) e in
    (t, ap (λ b. cond b (Some t) (find (λ (t : Tag). bytes_eq n t.name) ts)) e, of, omega (arith, address, a))
looked_step n at t ts p o false e of address h = looked_past n at t ts o e h

looked_from : (n : Name) (all : List Tag) (k at : ℕ) (ts : List Tag) → drop k all ≡ ts → at ≡ total_words (take k all)
    → Looked n at ts (find (λ (p : PlacedTag). bytes_eq n p.name) (map (placed_in all) (enumerate_from k ts)))
unfolding address_of
looked_from n all k at [] e a = (refl, refl)
looked_from n all k at (t ∷ ts) e a =
    let o = opened all k t ts e in
    let more = total_more all k t o.less o.is in
    looked_step n at t ts (placed_in all (k, t)) _ (bytes_eq n t.name) refl refl (sym a)
    (looked_from n all (k + 1) (at + words_of_tag t) ts o.rest (omega (arith, a, more)))

looked : (n : Name) (tags : List Tag) → Looked n 0 tags (placed_named tags n)
unfolding placed_named placed_tags
looked n tags = looked_from n tags 0 0 tags refl refl

-- ---- the types of tags

word_same : (d : DeclaredType) → word_type_of (layout.type_of d) ≡ word_type (Some d)
word_same (declared.Simple kind.Bool) = refl
word_same (declared.Simple kind.Int) = refl
word_same (declared.Simple kind.Dint) = refl
word_same (declared.Array low high element) = refl
word_same (declared.Block block.RTrig) = refl
word_same (declared.Block block.FTrig) = refl
word_same (declared.Block block.Sr) = refl
word_same (declared.Block block.Rs) = refl
word_same (declared.Block block.Ctu) = refl
word_same (declared.Block block.Ctd) = refl
word_same (declared.Block block.Ton) = refl
word_same (declared.Block block.Tof) = refl
word_same (declared.Block block.Tp) = refl

element_same : (d : DeclaredType) → element_type_of (layout.type_of d) ≡ element_type (Some d)
element_same (declared.Simple kind.Bool) = refl
element_same (declared.Simple kind.Int) = refl
element_same (declared.Simple kind.Dint) = refl
element_same (declared.Array low high element) = refl
element_same (declared.Block block.RTrig) = refl
element_same (declared.Block block.FTrig) = refl
element_same (declared.Block block.Sr) = refl
element_same (declared.Block block.Rs) = refl
element_same (declared.Block block.Ctu) = refl
element_same (declared.Block block.Ctd) = refl
element_same (declared.Block block.Ton) = refl
element_same (declared.Block block.Tof) = refl
element_same (declared.Block block.Tp) = refl

low_same : (d : DeclaredType) → low_of (layout.type_of d) ≡ low_bound (Some d)
low_same (declared.Simple kind.Bool) = refl
low_same (declared.Simple kind.Int) = refl
low_same (declared.Simple kind.Dint) = refl
low_same (declared.Array low high element) = refl
low_same (declared.Block block.RTrig) = refl
low_same (declared.Block block.FTrig) = refl
low_same (declared.Block block.Sr) = refl
low_same (declared.Block block.Rs) = refl
low_same (declared.Block block.Ctu) = refl
low_same (declared.Block block.Ctd) = refl
low_same (declared.Block block.Ton) = refl
low_same (declared.Block block.Tof) = refl
low_same (declared.Block block.Tp) = refl

high_same : (d : DeclaredType) → high_of (layout.type_of d) ≡ high_bound (Some d)
high_same (declared.Simple kind.Bool) = refl
high_same (declared.Simple kind.Int) = refl
high_same (declared.Simple kind.Dint) = refl
high_same (declared.Array low high element) = refl
high_same (declared.Block block.RTrig) = refl
high_same (declared.Block block.FTrig) = refl
high_same (declared.Block block.Sr) = refl
high_same (declared.Block block.Rs) = refl
high_same (declared.Block block.Ctu) = refl
high_same (declared.Block block.Ctd) = refl
high_same (declared.Block block.Ton) = refl
high_same (declared.Block block.Tof) = refl
high_same (declared.Block block.Tp) = refl

block_same : (d : DeclaredType) → block_of_tag (layout.type_of d) ≡ block_of (Some d)
block_same (declared.Simple kind.Bool) = refl
block_same (declared.Simple kind.Int) = refl
block_same (declared.Simple kind.Dint) = refl
block_same (declared.Array low high element) = refl
block_same (declared.Block block.RTrig) = refl
block_same (declared.Block block.FTrig) = refl
block_same (declared.Block block.Sr) = refl
block_same (declared.Block block.Rs) = refl
block_same (declared.Block block.Ctu) = refl
block_same (declared.Block block.Ctd) = refl
block_same (declared.Block block.Ton) = refl
block_same (declared.Block block.Tof) = refl
block_same (declared.Block block.Tp) = refl

-- ---- what the look-up answers

pub found_some : (tags : List Tag) (n : Name) (p : PlacedTag) → Some p ≡ placed_named tags n → IsFound tags n (record { of = p.of; address = p.address })
unfolding tag_named
found_some tags n p is =
    let h : Looked n 0 tags (Some p) = subst (Looked n 0 tags) (sym is) (looked n tags) in
    let d = h.0.declared in
    let own : type_of tags n ≡ Some d = ap (option_map (λ (t : Tag). t.declared)) h.1 in
    record {
      word = ap word_type_of h.2 ∙ (word_same d ∙ ap word_type (sym own));
      element = ap element_type_of h.2 ∙ (element_same d ∙ ap element_type (sym own));
      low = ap low_of h.2 ∙ (low_same d ∙ ap low_bound (sym own));
      high = ap high_of h.2 ∙ (high_same d ∙ ap high_bound (sym own));
      block = ap block_of_tag h.2 ∙ (block_same d ∙ ap block_of (sym own));
      address = omega (arith, h.3);
    }

pub found_none : (tags : List Tag) (n : Name) (address : ℕ) → None ≡ placed_named tags n → address ≡ total_words tags → IsFound tags n (record { of = type.Dint; address = address })
unfolding tag_named
found_none tags n address is all =
    let h : Looked n 0 tags None = subst (Looked n 0 tags) (sym is) (looked n tags) in
    let own : type_of tags n ≡ None = ap (option_map (λ (t : Tag). t.declared)) h.0 in
    record {
      word = ap word_type (sym own);
      element = ap element_type (sym own);
      low = ap low_bound (sym own);
      high = ap high_bound (sym own);
      block = ap block_of (sym own);
      address = all ∙ sym h.1;
    }

-- all words
pub total_same : (tags : List Tag) → total_of (shape_in tags) ≡ total_words tags
unfolding total_of
total_same [] = refl
total_same (t ∷ tags) = ap (λ n. words_of_tag t + n) (total_same tags) ∙ sym (sum_by-cons words_of_tag t tags)
