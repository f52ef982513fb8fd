-- The words of declared tags.
use Rattle.std.proofs.Common.{◌≡◌, ◌<◌, ◌+◌, Bool, true, false, cond, if◌then◌else◌, List, [], ◌∷◌, ◌++◌, map, Option, Some, None, arith, refl, sym, ap, ◌∙◌, subst, true≢false}
use Rattle.std.specs.List.{flat_map}
use Rattle.std.specs.Str.{bytes_eq}
use Rattle.std.proofs.lemmas.List.Sums.{sum_by-cons}
use Rattle.function_blocks.specs.declared.kinds.Kind.{Kind}
use Rattle.function_blocks.specs.declared.kinds.Kind.TheVariants as kind
use Rattle.st_tree.specs.declared.declaration.DeclaredType.{DeclaredType}
use Rattle.st_tree.specs.declared.declaration.DeclaredType.TheVariants as declared
use Rattle.st_tree.specs.declared.declaration.Constant.{Constant}
use Rattle.st_tree.specs.declared.declaration.Declaration.{Declaration}
use Rattle.st_tree.specs.declared.declaration.ExternalDeclaration.{ExternalDeclaration}
use Rattle.st_tree.specs.declared.declaration.PlacedName.{PlacedName}
use Rattle.st_tree.specs.declared.declaration.Block.{Block}
use Rattle.st_tree.specs.declared.declaration.Block.TheVariants as part
use Rattle.st_tree.specs.declared.program.Tree.{Tree}
use Rattle.st_tree.specs.declared.tag.Tag.{Tag}
use Rattle.st_tree.specs.Listed.{names_of}
use Rattle.st_tree.specs.Tags.{tag_named, tag_of, tags_of, tags_of_declaration, tags_of_external, tags_of_block}
use Rattle.tag_layout.specs.Layout.{type_of_kind, words_of, words_of_tag, total_words}
use Rattle.st_core.specs.Memory.{count_of, total_of}
use Rattle.st_meaning.specs.Programs.{is_external, is_point_tag}
use Rattle.st_sound.specs.Shapes.{shape_in}
use Rattle.tag_wiring.specs.PointWords.{AreDeclared}
use Rattle.tag_wiring.specs.Inner.Steps.{HaveWords}

-- each of these tags has a word, if it is one of VAR_EXTERNAL
unfoldable pub PointsHaveWords : List Tag → Type 0
PointsHaveWords [] = Unit {0}
PointsHaveWords (t ∷ tags) = (t.external ≡ true → 0 < words_of_tag t) × PointsHaveWords tags

have_both : (ts us : List Tag) → PointsHaveWords ts → PointsHaveWords us → PointsHaveWords (ts ++ us)
unfolding PointsHaveWords
have_both [] us h g = g
have_both (t ∷ ts) us h g = (h.0, have_both ts us h.1 g)

have_plain : (d : DeclaredType) (c : Option Constant) (ns : List PlacedName) → PointsHaveWords (map (tag_of false d c) ns)
unfolding PointsHaveWords
have_plain d c [] = tt
have_plain d c (n ∷ ns) = ((λ e. absurd (true≢false (sym e))), have_plain d c ns)

one_word : (k : Kind) → 0 < words_of (type_of_kind k)
one_word kind.Bool = omega arith
one_word kind.Int = omega arith
one_word kind.Dint = omega arith

have_external : (k : Kind) (c : Option Constant) (ns : List PlacedName) → PointsHaveWords (map (tag_of true (declared.Simple k) c) ns)
unfolding PointsHaveWords
have_external k c [] = tt
have_external k c (n ∷ ns) = ((λ e. one_word k), have_external k c ns)

plain_declarations : (ds : List Declaration) → PointsHaveWords (flat_map tags_of_declaration ds)
unfolding PointsHaveWords
plain_declarations [] = tt
plain_declarations (d ∷ ds) =
    have_both (tags_of_declaration d) (flat_map tags_of_declaration ds) (have_plain d.declared d.constant (names_of d.names)) (plain_declarations ds)

external_declarations : (ds : List ExternalDeclaration) → PointsHaveWords (flat_map tags_of_external ds)
unfolding PointsHaveWords
external_declarations [] = tt
external_declarations (d ∷ ds) =
    have_both (tags_of_external d) (flat_map tags_of_external ds) (have_external d.declared None (names_of d.names)) (external_declarations ds)

in_block : (b : Block) → PointsHaveWords (tags_of_block b)
in_block (part.Plain ds) = plain_declarations ds
in_block (part.External ds) = external_declarations ds

in_blocks : (bs : List Block) → PointsHaveWords (flat_map tags_of_block bs)
unfolding PointsHaveWords
in_blocks [] = tt
in_blocks (b ∷ bs) = have_both (tags_of_block b) (flat_map tags_of_block bs) (in_block b) (in_blocks bs)

in_tree : (tree : Tree) → PointsHaveWords (tags_of tree)
unfolding tags_of
in_tree tree = in_blocks tree.blocks

by_name : (tags : List Tag) → PointsHaveWords tags → HaveWords tags
unfolding tag_named count_of PointsHaveWords
by_name [] all n h = absurd (true≢false (sym h))
by_name (t ∷ ts) all n h = by (bytes_eq n t.name) h (by_name ts all.1 n)
  where
    by : (b : Bool) → is_external (cond b (Some t) (tag_named ts n)) ≡ true → (is_point_tag ts n ≡ true → 0 < count_of n (shape_in ts))
        → 0 < (if b then words_of_tag t else count_of n (shape_in ts))
    by true e rest = all.0 e
    by false e rest = rest e

-- the tag of a point has a word
pub have_words : (tags : List Tag) → AreDeclared tags → HaveWords tags
have_words tags h = subst HaveWords (sym h.1) (by_name (tags_of h.0) (in_tree h.0))

-- how many words there are is said twice, with one meaning
pub total_same : (tags : List Tag) → total_of (shape_in tags) ≡ total_words tags
unfolding total_of
total_same [] = refl
total_same (t ∷ tags) =
    ap (λ n. words_of_tag t + n) (total_same tags) ∙ sym (sum_by-cons words_of_tag t tags)
