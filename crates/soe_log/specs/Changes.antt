-- The discrete points of a chassis, their values in a scan, and which of them changed. Own rule.
use Rattle.std.specs.Prelude.{ℕ, ℤ, Bool, true, false, not, List, length, map, filter, take, slice_get, if◌then◌else◌}
use Rattle.std.specs.List.{enumerate_from, zip}
use Rattle.std.specs.Option.{option_map_or}
use Rattle.tri_base.specs.declared.point.Point.{Point}
use Rattle.tri_base.specs.declared.point.PointKind.{PointKind}
use Rattle.tri_base.specs.declared.point.PointKind.TheVariants.{Di, Ai, Do, Ao}
use Rattle.chassis.specs.Points.{inputs_of, is_input_kind, outputs_of}
use Rattle.vote_discrete.specs.Truths.{is_on}
use Rattle.soe_log.specs.declared.discrete.DiscretePoint.{DiscretePoint}
use Rattle.soe_log.specs.declared.event.Event.{Event}

-- Discrete points are FALSE or TRUE; analogue ones have counts.
abbrev pub is_discrete_kind : PointKind → Bool
is_discrete_kind Di = true
is_discrete_kind Ai = false
is_discrete_kind Do = true
is_discrete_kind Ao = false

-- The inputs of a chassis, or its outputs.
abbrev pub points_on : Bool → List Point → List Point
points_on input points = if input then inputs_of points else outputs_of points

-- A point at its place among all points of a chassis. Its word stands among those of the inputs, or of the outputs, and
-- before it stand the words of the inputs, or outputs, that come before the point.
abbrev pub discrete_point : List Point → ℕ × Point → DiscretePoint
discrete_point points s =
    let input = is_input_kind s.1.kind in
    record { place = s.0; input = input; word = length (points_on input (take s.0 points)) }

-- The discrete points of a chassis, in its order.
abbrev pub discrete_points : List Point → List DiscretePoint
discrete_points points =
    map (discrete_point points) (filter (λ s. is_discrete_kind s.1.kind) (enumerate_from 0 points))

-- The value of a discrete point, from the words of the inputs and of the outputs: FALSE where its word is 0, else TRUE.
-- A point that has no word counts as FALSE.
abbrev pub value_of : (inputs outputs : List ℤ) → DiscretePoint → Bool
value_of inputs outputs point =
    option_map_or is_on (slice_get (if point.input then inputs else outputs) point.word) false

-- The values of all discrete points, in the order of the chassis.
abbrev pub values_of : List Point → (inputs outputs : List ℤ) → List Bool
values_of points inputs outputs = map (value_of inputs outputs) (discrete_points points)

-- Each discrete point beside two values of it, an older and a newer.
abbrev pub pairs_of : List Point → (older newer : List Bool) → List (DiscretePoint × (Bool × Bool))
pairs_of points older newer = zip (discrete_points points) (zip older newer)

-- The newer value is not the older one.
abbrev pub has_changed : DiscretePoint × (Bool × Bool) → Bool
has_changed s = if s.1.0 then not s.1.1 else s.1.1

-- That a point has its newer value, in this scan at this time.
abbrev pub event_at : (scan : ℕ) (time : ℤ) → DiscretePoint × (Bool × Bool) → Event
event_at scan time s = record { scan = scan; time = time; point = s.0.place; value = s.1.1 }

-- The changes of a scan: an event for each discrete point whose value differs from its last one, in the order of the
-- chassis.
abbrev pub changed_of : List Point → (last : List Bool) → (scan : ℕ) (time : ℤ) → (values : List Bool) → List Event
changed_of points last scan time values =
    map (event_at scan time) (filter has_changed (pairs_of points last values))
