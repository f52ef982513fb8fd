use Rattle.std.proofs.Common.{sym, ◌∙◌, nat_abs}
use Rattle.leg_packet.specs.Inner.Heads.{are_heads}
use Rattle.leg_packet.specs.Sheets.{sheet_behind}
use Rattle.leg_packet.proofs.Tails.{heads_lead, no_heads}
use Rattle.leg_packet.proofs.results.read_front.Goals as goal

pub returns-in-Some : goal.returns-in-Some
returns-in-Some c =
    let a = c.args.front in
    heads_lead (are_heads a.kind a.epoch a.turn a.text_length a.word_length) (nat_abs a.epoch) (nat_abs a.turn) (nat_abs a.text_length) (nat_abs a.word_length) c.in-Some.heads c.args.rest.now c.read_behind.result (sym c.in-Some.is ∙ c.heads_of.ensures.heads) c.read_behind.ensures

pub returns-in-None : goal.returns-in-None
returns-in-None c =
    let a = c.args.front in
    no_heads (are_heads a.kind a.epoch a.turn a.text_length a.word_length) (record { epoch = nat_abs a.epoch; turn = nat_abs a.turn; text_length = nat_abs a.text_length; word_length = nat_abs a.word_length })
    (sheet_behind (nat_abs a.epoch) (nat_abs a.turn) (nat_abs a.text_length) (nat_abs a.word_length) c.args.rest.now) (sym c.in-None.is ∙ c.heads_of.ensures.heads)
