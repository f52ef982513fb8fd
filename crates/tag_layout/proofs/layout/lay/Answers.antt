use Rattle.std.proofs.Common.{◌≡◌, min, sym, ap, subst, ◌∙◌}
use Rattle.st_tree.specs.Tags.{tags_of}
use Rattle.st_types.specs.Inner.Places.{place_of}
use Rattle.tag_layout.specs.Layout.{total_words, placed_tags, greatest_told, AreApart}
use Rattle.tag_layout.proofs.Apart.{apart_of}
use Rattle.tag_layout.proofs.Placing.{few_told}
use Rattle.tag_layout.proofs.layout.lay.Goals as goal

pub invariant_of-result : goal.invariant_of-result
invariant_of-result c =
    let tags = c.in-Ok.tags.items in
    let told : c.total_words-words.result ≡ min (total_words tags) greatest_told =
    c.total_words-words.ensures ∙ ap (λ ts. min (total_words ts) greatest_told) c.as_slice.ensures.value in
    let counted = few_told c.total_words-words.result (total_words tags) told c.if-words-gt-WORD_LIMIT.false in
    let declared : tags ≡ tags_of c.args.typed.now.tree = c.in-Ok.ensures ∙ ap tags_of c.tree.ensures.value in
    record {
      placed = c.in-Ok-place_tags.ensures ∙ ap placed_tags c.as_slice-2.ensures.value;
      places = λ n. c.in-Ok-first_places.ensures n ∙ ap (λ ts. place_of ts n) c.as_slice-3.ensures.value;
      words = counted.0;
      few = counted.1;
      apart = subst AreApart (sym declared) (apart_of c.args.typed.now.points c.args.typed.now.tree c.tree.ensures.well_typed);
    }
