use Rattle.std.proofs.Common.{[], ◌∷◌, length, pos, arith}
use Rattle.leg_packet.specs.Sheets.{paired}
use Rattle.leg_packet.proofs.Paired.{extend_keeps, length_paired}
use Rattle.leg_packet.proofs.packet.Packet.write_sheet.Goals as goal

pub invariant_of-self : goal.invariant_of-self
invariant_of-self c =
    let s = c.args.sheet.now in
    let n = length_paired s.addresses.list s.values.list c.requires.paired in
    let a = extend_keeps c.clear.new.self c.add_heads.new.words (pos 2 ∷ s.epoch ∷ s.turn ∷ s.text_length ∷ s.word_length ∷ []) c.add_heads.ensures.list c.add_heads.ensures.room in
    let b = extend_keeps c.add_heads.new.words c.extend.new.self c.items.result.now c.extend.ensures.list c.extend.ensures.room in
    let d = extend_keeps c.extend.new.self c.add_changes.new.words (pos (length s.addresses.list) ∷ paired s.addresses.list s.values.list) c.add_changes.ensures.list (omega (arith, n, c.add_changes.ensures.room)) in
    let e = extend_keeps c.add_changes.new.words c.extend-2.new.self c.items-2.result.now c.extend-2.ensures.list c.extend-2.ensures.room in
    omega (arith, a, b, d, e, c.self.invariant, c.clear.ensures.room)
