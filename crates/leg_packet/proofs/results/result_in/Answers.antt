use Rattle.std.proofs.Common.{subst, ◌∙◌, arith, ◌∷◌, drop, ◌-◌, length, pos}
use Rattle.std.proofs.lemmas.List.{take_all, length-drop}
use Rattle.leg_packet.specs.Sheets.{sheet_of}
use Rattle.leg_packet.specs.Views.{IsViewOf}
use Rattle.leg_packet.proofs.Tails.{five_words}
use Rattle.leg_packet.proofs.results.result_in.Goals as goal

pub returns : goal.returns
returns c =
    let f = c.front_of.ensures in let xs = c.args.words.now in
    subst (λ ys. IsViewOf (sheet_of ys) c.read_front.result)
    ((λ i. f.kind i ∷ f.epoch i ∷ f.turn i ∷ f.text_length i ∷ f.word_length i ∷ take_all (length xs - 5) (drop 5 xs) (omega (arith, length-drop 5 xs)) i) ∙ five_words xs (pos 0) (omega arith)) c.read_front.ensures
