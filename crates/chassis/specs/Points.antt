-- The points of a chassis: discrete and analogue inputs and outputs, each with a name and a range. Own rule.
use Rattle.std.specs.Prelude.{◌≢◌, ℕ, ◌≤◌, nat_le, Bool, true, false, not, List, length, filter, Option, Some, None, if◌then◌else◌}
use Rattle.std.specs.List.{position, All, AllPairs}
use Rattle.std.specs.Str.{bytes_eq}
use Rattle.tri_base.specs.declared.point.Point.{Point}
use Rattle.tri_base.specs.declared.point.PointKind.{PointKind}
use Rattle.tri_base.specs.declared.point.PointKind.TheVariants.{Di, Ai, Do, Ao}
use Rattle.chassis.specs.declared.points.ChassisFault.{ChassisFault}
use Rattle.chassis.specs.declared.points.ChassisFault.TheVariants.{BadRange, Twice, Full}
use Rattle.chassis.specs.Ranges.{Fits, fits_range}

-- How many inputs there may be, and how many outputs.
abbrev pub point_limit : ℕ
point_limit = 256

-- Inputs are read, outputs are driven.
abbrev pub is_input_kind : PointKind → Bool
is_input_kind Di = true
is_input_kind Ai = true
is_input_kind Do = false
is_input_kind Ao = false

-- The inputs of a chassis, in order of adding.
abbrev pub inputs_of : List Point → List Point
inputs_of points = filter (λ p. is_input_kind p.kind) points

-- The outputs of a chassis, in order of adding.
abbrev pub outputs_of : List Point → List Point
outputs_of points = filter (λ p. not (is_input_kind p.kind)) points

-- The place of the first point with a name.
abbrev pub place_of : List Point → List ℕ → Option ℕ
place_of points name = position (λ p. bytes_eq name p.name) points

-- There are 256 inputs, for an input, or 256 outputs, for an output.
abbrev pub is_full : List Point → PointKind → Bool
is_full points kind = nat_le point_limit (length (if is_input_kind kind then inputs_of points else outputs_of points))

-- The first fault of: a range that doesn't fit, a name that is there, a full chassis.
abbrev pub first_fault : (fits : Bool) (there : Option ℕ) (full : Bool) (name : List ℕ) → Option ChassisFault
first_fault false there full name = Some BadRange
first_fault true (Some place) full name = Some (Twice name)
first_fault true None true name = Some Full
first_fault true None false name = None

-- What forbids to add a point; None where it may be added.
abbrev pub refusal_of : List Point → Point → Option ChassisFault
refusal_of points p = first_fault (fits_range p) (place_of points p.name) (is_full points p.kind) p.name

-- What holds of the points of every chassis.
pub record IsChassis (points : List Point) : Type 0 where
  -- no two have one name
  pub apart : AllPairs (λ (p q : Point). p.name ≢ q.name) points
  -- each has a range of its kind
  pub fit : All Fits points
  pub few_inputs : length (inputs_of points) ≤ point_limit
  pub few_outputs : length (outputs_of points) ≤ point_limit
