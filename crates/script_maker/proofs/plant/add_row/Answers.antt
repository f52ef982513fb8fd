use Rattle.std.proofs.Common.{◌≡◌, ◌++◌, [], ◌∷◌, arith, ap, ◌∙◌, pos}
use Rattle.tri_base.specs.declared.point.Point.{Point}
use Rattle.script_maker.specs.Plants.{row_point}
use Rattle.script_maker.proofs.Rows.{row_more}
use Rattle.script_maker.proofs.Plants.{row_whole, point_is}
use Rattle.script_maker.proofs.plant.add_row.Goals as goal

pub loop-number-preserved : goal.loop-number-preserved
loop-number-preserved c =
    let n = c.loop-number.number in
    let made = row_point c.args.kind c.args.letter.now (pos c.args.high) (pos c.args.tolerance) in
    let point = c.make_point-point.ensures ∙ point_is c.args.kind c.args.letter.now (pos c.args.high) (pos c.args.tolerance) n c.in_ok-name.name c.in_ok-name.ensures in
    let added : c.add.new.self ≡ c.loop-number.chassis ++ made n ∷ [] =
    c.in-Ok.ensures.added ∙ ap (λ (p : Point). c.loop-number.chassis ++ p ∷ []) point in
    row_more made n c.args.chassis.now c.loop-number.chassis c.add.new.self c.loop-number.invariant added

pub returns : goal.returns
returns c =
    let e : c.loop-number.number ≡ 128 = omega (arith, c.loop-number.auto.number-end, c.loop-number-test.false) in
    row_whole c.args.kind c.args.letter.now (pos c.args.high) (pos c.args.tolerance) c.loop-number.number c.args.chassis.now c.loop-number.chassis e c.loop-number.invariant
