-- The points of one direction. Nobody has to believe what stands here: it serves private functions alone.
use Rattle.std.specs.Prelude.{ℤ, List, [], ◌∷◌, Bool, not, Option, Some, None, if◌then◌else◌}
use Rattle.tri_base.specs.declared.point.Point.{Point}
use Rattle.tri_base.specs.declared.point.PointKind.{PointKind}
use Rattle.chassis.specs.Points.{is_input_kind, inputs_of, outputs_of}
use Rattle.modbus_face.specs.Reads.{same_kind, values_at}

-- Two kinds are of inputs both, or of outputs both.
abbrev pub same_side : PointKind → PointKind → Bool
same_side a b = if is_input_kind a then is_input_kind b else not (is_input_kind b)

-- The inputs, where the kind is one of inputs; else the outputs.
abbrev pub side_of : PointKind → List Point → List Point
side_of kind points = if is_input_kind kind then inputs_of points else outputs_of points

-- The values at the points of a kind, of values that stand beside the points of its direction.
abbrev pub side_values : PointKind → List Point → List ℤ → List ℤ
side_values kind points values = values_at kind (side_of kind points) values

-- The value at a point of the kind.
abbrev pub value_at : PointKind → Point → Option ℤ → List ℤ
value_at kind point None = []
value_at kind point (Some value) = if same_kind kind point.kind then value ∷ [] else []
