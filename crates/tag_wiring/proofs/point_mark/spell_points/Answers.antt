use Rattle.std.proofs.lemmas.List.Elements.{All-nil}
use Rattle.tag_wiring.specs.Inner.Spelling.{IsPlain, spelled}
use Rattle.tag_wiring.proofs.Spelled.{text_more, plain_more}
use Rattle.tag_wiring.proofs.point_mark.spell_points.Goals as goal

pub loop-point-init : goal.loop-point-init
unfolding spelled
loop-point-init c = record { text = c.new-text.ensures.bytes; plain = All-nil IsPlain }

pub loop-point-preserved : goal.loop-point-preserved
loop-point-preserved c =
    let points = c.args.points.now in
    let i = c.loop-point.point-index in
    let p = c.point-item.result in
    let within = c.loop-point-test.true in
    let is = c.point-item.is in
    record {
      text = text_more points i p _ _ within is c.loop-point.invariant.text c.in_ok-push_point.ensures.text;
      plain = plain_more points i p within is c.loop-point.invariant.plain c.push_point.ensures.plain;
    }
