use Rattle.std.proofs.Common.{sym, ◌∙◌, pos}
use Rattle.leg_packet.proofs.Tails.{after_step, behind_stop, behind_short}
use Rattle.leg_packet.proofs.pairs.after_pair.Goals as goal

pub returns-then-is_between : goal.returns-then-is_between
returns-then-is_between c = λ n. let l = c.args.left in
    after_step n l.from c.args.below c.natural.result l.words.now (pos 0) c.in-len2-up.len_at_least (sym c.is_between.ensures ∙ c.if-is_between.true) c.natural.ensures

pub returns-in_default : goal.returns-in_default
returns-in_default c = λ n. let l = c.args.left in behind_short n l.from c.args.below l.words.now c.in_default.len_below

pub returns-else-is_between : goal.returns-else-is_between
returns-else-is_between c = λ n. let l = c.args.left in
    behind_stop n l.from c.args.below l.words.now (pos 0) (sym c.is_between.ensures ∙ c.if-is_between.false)
