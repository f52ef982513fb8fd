use Rattle.std.proofs.Common.{◌∙◌, ap, length, take, nat_abs, arith}
use Rattle.std.proofs.lemmas.Int.{ints}
use Rattle.std.proofs.lemmas.List.{length-map, length-take-le, length-drop}
use Rattle.re_education.specs.Inner.Shown.{sheet_in}
use Rattle.re_education.specs.Learning.{taught}
use Rattle.re_education.proofs.Kept.{room_after, held_with, filled}
use Rattle.re_education.proofs.learner.Learner.end_rotation.Goals as goal

pub fill-requires-clause-bytes : goal.fill-requires-clause-bytes
fill-requires-clause-bytes c =
    let r = c.self.inside in let s = sheet_in c.args.shown.now in let v = c.args.self.now in
    let so = held_with r.image.list r.header r.room v s c.args.known c.self.view_is c.self.invariant.0 c.requires.known in
    (filled v.lesson s c.args.known r.image.list c.teach.new.image.list c.requires.sound.canonical so (c.teach.ensures.list ∙ ap (taught s) c.in_ok-hold.ensures.list)).bytes

pub fill-requires-clause-within : goal.fill-requires-clause-within
fill-requires-clause-within c =
    let r = c.self.inside in let s = sheet_in c.args.shown.now in let v = c.args.self.now in
    let so = held_with r.image.list r.header r.room v s c.args.known c.self.view_is c.self.invariant.0 c.requires.known in
    let f = filled v.lesson s c.args.known r.image.list c.teach.new.image.list c.requires.sound.canonical so (c.teach.ensures.list ∙ ap (taught s) c.in_ok-hold.ensures.list) in
    omega (arith, f.image_length)

pub fill-requires-clause-words_room : goal.fill-requires-clause-words_room
fill-requires-clause-words_room c =
    let r = c.self.inside in let s = sheet_in c.args.shown.now in let v = c.args.self.now in
    let so = held_with r.image.list r.header r.room v s c.args.known c.self.view_is c.self.invariant.0 c.requires.known in
    let f = filled v.lesson s c.args.known r.image.list c.teach.new.image.list c.requires.sound.canonical so (c.teach.ensures.list ∙ ap (taught s) c.in_ok-hold.ensures.list) in
    omega (arith, f.image_length, c.in_ok-reserve-2.ensures.room)

pub invariant_of-self-2 : goal.invariant_of-self-2
invariant_of-self-2 c =
    let r = c.self.inside in let s = sheet_in c.args.shown.now in let v = c.args.self.now in
    let so = held_with r.image.list r.header r.room v s c.args.known c.self.view_is c.self.invariant.0 c.requires.known in
    (tt, room_after s c.teach.new.image.list c.hold.new.image.list c.hold.new.image.spare c.teach.new.image.spare c.hold.new.room c.requires.sound.canonical (ap length c.in_ok-hold.ensures.list ∙ so.image_length) c.teach.ensures.list c.teach.ensures.room c.hold.ensures.kept)

pub returns-clause-image : goal.returns-clause-image
returns-clause-image c =
    let r = c.self.inside in let s = sheet_in c.args.shown.now in let v = c.args.self.now in let i = c.image_of.ensures in
    let so = held_with r.image.list r.header r.room v s c.args.known c.self.view_is c.self.invariant.0 c.requires.known in
    let f = filled v.lesson s c.args.known r.image.list c.teach.new.image.list c.requires.sound.canonical so (c.teach.ensures.list ∙ ap (taught s) c.in_ok-hold.ensures.list) in
    let k = c.requires.sound.canonical in
    record {
      epoch = omega (arith, ints, i.epoch, k.epoch);
      turn = i.turn_bound;
      text = omega (arith, ap (λ t. length t.list) i.text, ap length c.fill.ensures.text, length-map (take s.text_length c.teach.new.image.list) nat_abs, length-take-le s.text_length c.teach.new.image.list (omega (arith, f.image_length)), k.text_length);
      words = omega (arith, ap (λ w. length w.list) i.words, ap length c.fill.ensures.words, length-drop s.text_length c.teach.new.image.list, f.image_length, k.word_length);
    }
