-- Nobody has to believe what stands here: it serves private fields alone.
-- How a wiring is kept: the addresses of the words, looked up once.
use Rattle.std.specs.Prelude.{◌≡◌, map}
use Rattle.tri_base.specs.declared.point.Point.{Point}
use Rattle.chassis.specs.Points.{inputs_of, outputs_of}
use Rattle.st_tree.specs.declared.tag.Tag.{Tag}
use Rattle.tag_layout.specs.Layout.{AreApart}
use Rattle.tag_wiring.specs.PointWords.{tag_address, input_tags}
use Rattle.tag_wiring.specs.Inner.Steps.{HaveWords, address_for}
use Rattle.tag_wiring.specs.Inner.Wires.{wire_of}
use Rattle.tag_wiring.specs.declared.wiring.Wiring.TheInside.{Inside}

-- The addresses are those of the points' tags.
pub record IsKept (s : Inside) : Type 0 where
  pub inputs : s.inputs.items ≡ map (λ (p : Point). address_for s.tags.value p.name) (inputs_of s.mark)
  pub told : s.told.items ≡ map (λ (t : Tag). tag_address s.tags.value t.name) (input_tags s.mark s.tags.value)
  pub outputs : s.outputs.items ≡ map (wire_of s.tags.value) (outputs_of s.mark)
  pub words : HaveWords s.tags.value
  pub apart : AreApart s.tags.value
