-- What a program does in a scan, and what a scan costs at most.
use Rattle.std.specs.Prelude.{ℕ, ℤ, pos, Bool, true, false, if◌then◌else◌, List, map, zip, fold, Option, None, Some}
use Rattle.std.specs.Int.{int_max, int_min}
use Rattle.tri_base.specs.declared.point.Point.{Point}
use Rattle.function_blocks.specs.Values.{clamped}
use Rattle.chassis.specs.Points.{inputs_of, outputs_of}
use Rattle.st_tree.specs.declared.program.Tree.{Tree}
use Rattle.st_tree.specs.declared.tag.Tag.{Tag}
use Rattle.st_tree.specs.Tags.{tags_of, tag_named}
use Rattle.st_core.specs.Core.{Act}
use Rattle.st_core.specs.Environments.{Env, number_of, with_number}
use Rattle.st_core.specs.Effects.{effect_of}
use Rattle.st_core.specs.Costs.{cost_of}
use Rattle.st_meaning.specs.Types.{type_of, word_type}
use Rattle.st_meaning.specs.Statements.{acts_of}

-- The statements of a program, as one act.
abbrev pub body_of : Tree → Act
body_of tree = acts_of (tags_of tree) tree.statements

-- What a scan of the program costs at most (own rule).
abbrev pub program_cost : Tree → ℕ
program_cost tree = cost_of (body_of tree)

-- ---- points (IEC 61131-3:2013, 6.5.2)

-- The tag is declared in VAR_EXTERNAL.
abbrev pub is_external : Option Tag → Bool
is_external None = false
is_external (Some tag) = tag.external

-- The name is declared as that of a point. A tag of VAR with the name of a point is another thing (own rule).
abbrev pub is_point_tag : List Tag → List ℕ → Bool
is_point_tag tags n = is_external (tag_named tags n)

-- The tag of an input point is set to its value, where it is declared.
abbrev pub with_input : List Tag → Env → Point × ℤ → Env
with_input tags env input =
    if is_point_tag tags input.0.name then with_number env input.0.name 0 input.1 else env

-- The tags of all input points are set to these values, which are in the order of the points.
abbrev pub with_inputs : List Point → List Tag → List ℤ → Env → Env
with_inputs points tags values env = fold (with_input tags) env (zip (inputs_of points) values)

-- The value of an output point: that of its tag, clamped to the range of the point without a flag; 0 where the tag
-- isn't declared (own rule). The tag keeps its own value.
abbrev pub output_of : List Tag → Env → Point → ℤ
output_of tags env p =
    if is_point_tag tags p.name
    then int_max p.low (int_min (clamped (word_type (type_of tags p.name)) (number_of env p.name 0)) p.high)
    else pos 0

-- ---- a scan (own rule)

-- What a scan leaves: the values of the tags, whether a computed number or an index was clamped in it or a divisor was
-- 0, and the values of the output points, in their order.
pub record Scanned : Type 0 where
  pub env : Env
  pub flag : Bool
  pub outputs : List ℤ

-- A scan of `dt` milliseconds, with these values of the input points: their tags are set, the statements are done, and
-- the outputs taken.
unfoldable pub scan_of : List Point → Tree → Env → (inputs : List ℤ) → (dt : ℤ) → Scanned
scan_of points tree env inputs dt =
    let tags = tags_of tree in
    let e = effect_of dt (body_of tree) (with_inputs points tags inputs env) in
    record { env = e.env; flag = e.flag; outputs = map (output_of tags e.env) (outputs_of points) }
