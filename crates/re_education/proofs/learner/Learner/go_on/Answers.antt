use Rattle.std.proofs.Common.{◌∙◌, ap, length, arith}
use Rattle.re_education.specs.Inner.Shown.{sheet_in}
use Rattle.re_education.specs.Learning.{taught}
use Rattle.re_education.proofs.Kept.{room_after, held_with, next_kept, after_is, kept_after}
use Rattle.re_education.proofs.learner.Learner.go_on.Goals as goal

pub teach-requires-clause-size : goal.teach-requires-clause-size
teach-requires-clause-size c =
    let r = c.self.inside in
    let so = held_with r.image.list r.header r.room c.args.self.now (sheet_in c.args.shown.now) c.args.known c.self.view_is c.self.invariant.0 c.requires.known in
    ap length c.in_ok-hold.ensures.list ∙ so.image_length

pub invariant_of-self-2 : goal.invariant_of-self-2
invariant_of-self-2 c =
    let r = c.self.inside in let s = sheet_in c.args.shown.now in let v = c.args.self.now in
    let so = held_with r.image.list r.header r.room v s c.args.known c.self.view_is c.self.invariant.0 c.requires.known in
    let is = after_is v.lesson s c.args.known r.image.list c.teach.new.image.list c.next_header-self-inside.result c.args.count so
    (c.teach.ensures.list ∙ ap (taught s) c.in_ok-hold.ensures.list) c.next_header-self-inside.ensures c.requires.count in (
      kept_after c.teach.new.image.list c.next_header-self-inside.result _ is (next_kept v.lesson s c.args.known r.image.list c.requires.sound.canonical so (omega (arith, c.requires.count, c.requires.few))),
      room_after s c.teach.new.image.list c.hold.new.image.list c.hold.new.image.spare c.teach.new.image.spare c.hold.new.room c.requires.sound.canonical (ap length c.in_ok-hold.ensures.list ∙ so.image_length) c.teach.ensures.list c.teach.ensures.room c.hold.ensures.kept,
    )

pub returns-clause-kept : goal.returns-clause-kept
returns-clause-kept c =
    let r = c.self.inside in let s = sheet_in c.args.shown.now in let v = c.args.self.now in
    let so = held_with r.image.list r.header r.room v s c.args.known c.self.view_is c.self.invariant.0 c.requires.known in
    let is = after_is v.lesson s c.args.known r.image.list c.teach.new.image.list c.next_header-self-inside.result c.args.count so
    (c.teach.ensures.list ∙ ap (taught s) c.in_ok-hold.ensures.list) c.next_header-self-inside.ensures c.requires.count in
    kept_after c.teach.new.image.list c.next_header-self-inside.result _ is
    (next_kept v.lesson s c.args.known r.image.list c.requires.sound.canonical so (omega (arith, c.requires.count, c.requires.few)))
