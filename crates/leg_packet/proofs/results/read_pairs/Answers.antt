use Rattle.std.proofs.Common.{sym, ap, ◌∙◌, option_map, refl, arith, w64}
use Rattle.std.proofs.lemmas.Int.{to_z_pos}
use Rattle.leg_packet.proofs.Tails.{behind_least, pairs_shown, no_pairs_shown}
use Rattle.leg_packet.proofs.results.read_pairs.Goals as goal

pub slice_bounds-result-count : goal.slice_bounds-result-count
slice_bounds-result-count c = behind_least c.args.count 0 c.args.heads.word_length c.args.words.now c.in-Some.outputs.now (sym c.behind_pairs.ensures ∙ ap (option_map (λ r. r.now)) c.in-Some.is)

pub returns-in-Some : goal.returns-in-Some
returns-in-Some c =
    let h = c.args.heads in
    pairs_shown h.epoch h.turn h.text_length h.word_length c.args.count c.args.window.now c.args.words.now c.in-Some.outputs.now _
    (sym c.behind_pairs.ensures ∙ ap (option_map (λ r. r.now)) c.in-Some.is)
    (record {
      epoch = to_z_pos w64 h.epoch (omega (arith, c.requires.epoch));
      turn = to_z_pos w64 h.turn (omega (arith, c.requires.turn));
      text_length = to_z_pos w64 h.text_length (omega (arith, c.requires.text));
      word_length = to_z_pos w64 h.word_length (omega (arith, c.requires.words));
      window_is = refl;
      pairs_are = refl;
      outputs_are = refl;
    })

pub returns-in-None : goal.returns-in-None
returns-in-None c =
    let h = c.args.heads in
    no_pairs_shown h.epoch h.turn h.text_length h.word_length c.args.count c.args.window.now c.args.words.now (sym c.behind_pairs.ensures ∙ ap (option_map (λ r. r.now)) c.in-None.is)
