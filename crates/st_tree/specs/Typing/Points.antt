-- The points that the tags of VAR_EXTERNAL stand for (IEC 61131-3:2013, 6.5.2). What a point's type is: own rule.
use Rattle.std.specs.Prelude.{ℕ, Bool, true, false, List, Option, Some, None}
use Rattle.std.specs.List.{find}
use Rattle.std.specs.Str.{bytes_eq}
use Rattle.tri_base.specs.declared.point.Point.{Point}
use Rattle.tri_base.specs.declared.point.PointKind.{PointKind}
use Rattle.tri_base.specs.declared.point.PointKind.TheVariants.{Di, Ai, Do, Ao}
use Rattle.function_blocks.specs.declared.kinds.Kind.{Kind}
use Rattle.function_blocks.specs.declared.kinds.Kind.TheVariants as kind

-- the point with a name: the first that has it
abbrev pub point_named : List Point → List ℕ → Option Point
point_named points name = find (λ p. bytes_eq name p.name) points

-- a discrete point is a BOOL, an analogue one an INT
abbrev pub kind_of_point : PointKind → Kind
kind_of_point Di = kind.Bool
kind_of_point Do = kind.Bool
kind_of_point Ai = kind.Int
kind_of_point Ao = kind.Int

-- inputs are read, outputs are driven
abbrev pub is_input_kind : PointKind → Bool
is_input_kind Di = true
is_input_kind Ai = true
is_input_kind Do = false
is_input_kind Ao = false

-- the point is an input; none is none
abbrev pub is_input : Option Point → Bool
is_input None = false
is_input (Some p) = is_input_kind p.kind

-- the name is that of an input point
abbrev pub is_input_point : List Point → List ℕ → Bool
is_input_point points name = is_input (point_named points name)
