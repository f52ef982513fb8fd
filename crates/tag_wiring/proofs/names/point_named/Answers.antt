use Rattle.std.proofs.Common.{◌≡◌, slice_get, ap, ◌∙◌}
use Rattle.std.specs.Str.{bytes_eq}
use Rattle.tri_base.specs.declared.point.Point.{Point}
use Rattle.st_types.proofs.Positions.{got_at, some_there, none_there}
use Rattle.tag_wiring.proofs.names.point_named.Goals as goal

pub returns-in-Some : goal.returns-in-Some
returns-in-Some c =
    let got : c.copied.result ≡ slice_get c.points.result.now c.in-Some.place = c.copied.ensures ∙ got_at c.get.result c.points.result.now c.in-Some.place c.get.ensures.lookup.3 in
    got
    ∙ (ap (λ ps. slice_get ps c.in-Some.place) c.points.ensures.value
    ∙ some_there (λ (p : Point). bytes_eq c.args.name.now p.name) c.args.chassis.now c.in-Some.place c.in-Some.ensures.place)

pub returns-in-None : goal.returns-in-None
returns-in-None c = none_there (λ (p : Point). bytes_eq c.args.name.now p.name) c.args.chassis.now c.in-None.ensures.place
