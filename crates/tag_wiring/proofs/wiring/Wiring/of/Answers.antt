use Rattle.std.proofs.Common.{map, sym, ◌∙◌, subst}
use Rattle.tri_base.specs.declared.point.Point.{Point}
use Rattle.chassis.specs.Points.{inputs_of, outputs_of}
use Rattle.st_tree.specs.declared.tag.Tag.{Tag}
use Rattle.tag_layout.specs.Layout.{AreApart}
use Rattle.tag_wiring.specs.PointWords.{tag_address, input_tags}
use Rattle.tag_wiring.specs.Inner.Steps.{HaveWords, address_for}
use Rattle.tag_wiring.specs.Inner.Wires.{wire_of}
use Rattle.tag_wiring.proofs.Declaring.{have_words}
use Rattle.tag_wiring.proofs.wiring.Wiring.of.Goals as goal

pub input_addresses-requires : goal.input_addresses-requires
input_addresses-requires c = have_words c.args.layout.now c.requires

pub told_addresses-requires : goal.told_addresses-requires
told_addresses-requires c = have_words c.args.layout.now c.requires

pub output_wires-requires : goal.output_wires-requires
output_wires-requires c = have_words c.args.layout.now c.requires

pub invariant_of-result : goal.invariant_of-result
invariant_of-result c =
    let points = sym c.in_ok-mark.ensures in
    let lent = c.points-points.ensures.value ∙ points in
    let tags = sym c.of-2.ensures in
    record {
      inputs = c.in_ok-inputs.ensures ∙ (λ i. map (λ (p : Point). address_for (tags i) p.name) (inputs_of (lent i)));
      told = c.in_ok-told.ensures.told ∙ (λ i. map (λ (t : Tag). tag_address (tags i) t.name) (input_tags (points i) (tags i)));
      outputs = c.in_ok-outputs.ensures ∙ (λ i. map (wire_of (tags i)) (outputs_of (lent i)));
      words = subst HaveWords tags (have_words c.args.layout.now c.requires);
      apart = subst AreApart tags c.told_addresses.ensures.apart;
    }
