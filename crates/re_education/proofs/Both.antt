-- What two packets show, as what is learned.
use Rattle.std.proofs.Common.{◌≡◌, ◌+◌, Option, Some, None, refl, ap}
use Rattle.leg_packet.specs.Sheets.{Sheet}
use Rattle.re_education.specs.declared.shown.Shown.{Shown}
use Rattle.re_education.specs.Inner.Shown.{sheet_in, IsSound, TellsOf}
use Rattle.re_education.specs.Learning.{Lesson, Waits, with_result}
use Rattle.re_education.specs.Lessons.{size_in}

pub told_sound : (o : Option Sheet) (v : Shown) → TellsOf o (Some v) → IsSound v
told_sound None v h = absurd h
told_sound (Some s) v h = h.sound

pub told : (lesson : Option Lesson) (o : Option Sheet) (v : Shown) → TellsOf o (Some v) → with_result lesson (Some (sheet_in v)) ≡ with_result lesson o
told lesson None v h = absurd h
told None (Some s) v h = ap (λ (x : Sheet). with_result None (Some x)) h.same
told (Some z) (Some s) v h = ap (λ (x : Sheet). with_result (Some z) (Some x)) h.same

pub nothing_told : (lesson : Option Lesson) (o : Option Sheet) → TellsOf o None → with_result lesson o ≡ Waits
nothing_told lesson None h = refl
nothing_told lesson (Some s) h = absurd h

pub size_told : (o : Option Sheet) (v : Shown) → TellsOf o (Some v) → v.text_length + v.word_length ≡ size_in o
size_told None v h = absurd h
size_told (Some s) v h = ap (λ (x : Sheet). x.text_length + x.word_length) h.same
