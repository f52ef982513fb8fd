use Rattle.std.proofs.Common.{List, ◌∙◌, ap}
use Rattle.std.specs.List.{position}
use Rattle.tri_base.specs.Inner.NameFields.{same_name}
use Rattle.tri_base.specs.declared.point.Point.{Point}
use Rattle.chassis.specs.Points.{place_of}
use Rattle.chassis.proofs.Places.{place_same, found_where, absent_where}
use Rattle.chassis.proofs.table.Chassis.find.Goals as goal

pub returns-clause-place : goal.returns-clause-place
returns-clause-place c =
    c.get_index_of.ensures.index ∙ (ap (λ ks. position (same_name c.args.name.now) ks) c.self.invariant.names ∙ (place_same c.args.name.now c.self.inside.points.items ∙ ap (λ (ps : List Point). place_of ps c.args.name.now) c.self.view_is))

pub returns-clause-found : goal.returns-clause-found
returns-clause-found c = found_where c.args.self.now c.args.name.now c.get_index_of.result (returns-clause-place c)

pub returns-clause-absent : goal.returns-clause-absent
returns-clause-absent c = absent_where c.args.self.now c.args.name.now c.get_index_of.result (returns-clause-place c)
