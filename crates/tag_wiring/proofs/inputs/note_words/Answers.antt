use Rattle.std.proofs.Common.{FitsSigned, w64, to_z, of_z, pos, get_or, slice_index_or, rules, refl, ap, ◌∙◌}
use Rattle.std.proofs.lemmas.Int.{to_z-of_z}
use Rattle.tag_wiring.proofs.Looping.{note_more}
use Rattle.tag_wiring.proofs.inputs.note_words.Goals as goal

pub loop-address-preserved : goal.loop-address-preserved
loop-address-preserved c =
    let words = c.args.words.now in
    let addresses = c.args.addresses.now in
    let i = c.loop-address.address-index in
    let a = get_or addresses i 0 in
    let v = slice_index_or words a (pos 0) in
    let fits : FitsSigned w64 v = search rules in (
      note_more words addresses i a (to_z w64 (of_z w64 v)) c.loop-address.touched.pairs c.note.new.self.pairs c.loop-address-test.true refl (to_z-of_z w64 v fits)
          c.requires.once c.loop-address.invariant.0 (ap (λ t. t.pairs) c.note.ensures),
      ap (λ t. t.size) c.note.ensures ∙ c.loop-address.invariant.1,
    )
