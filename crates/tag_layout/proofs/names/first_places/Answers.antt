use Rattle.std.proofs.Common.{◌≡◌, take, length, sym, ap, ◌∙◌, take_all}
use Rattle.std.specs.Map.{lookup}
use Rattle.tri_base.specs.Inner.NameFields.{same_name}
use Rattle.st_types.specs.Inner.Places.{place_of, with_first}
use Rattle.st_types.proofs.Placed.{placed}
use Rattle.tag_layout.proofs.Placing.{tags_next, counted}
use Rattle.tag_layout.proofs.names.first_places.Goals as goal

pub loop-place-preserved : goal.loop-place-preserved
loop-place-preserved c =
    let tags = c.args.tags.now in
    let i = c.loop-place.place in
    let t = c.index-tags-place.result in
    let before = c.loop-place.places.entries in
    let noted : c.note_first.new.places.entries ≡ with_first before t.name (length (take i tags)) = c.in_ok-note_first.ensures.noted ∙ ap (with_first before t.name) (sym (counted tags i c.loop-place-test.true)) in
    λ n. ap (lookup (same_name n)) noted
    ∙ (placed (take i tags) t before c.loop-place.invariant n ∙ ap (λ ts. place_of ts n) (sym (tags_next tags i t c.loop-place-test.true c.index-tags-place.is)))

pub returns : goal.returns
returns c = λ n. c.loop-place.invariant n ∙ ap (λ ts. place_of ts n) (take_all c.loop-place.place c.args.tags.now c.loop-place-test.false)
