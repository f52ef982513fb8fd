-- Which words of a program's memory stand for the points of a chassis: those of the tags that the program declares in
-- VAR_EXTERNAL (IEC 61131-3:2013, 6.5.2). Where a tag's words lie: own rule.
use Rattle.std.specs.Prelude.{◌≡◌, ℕ, ℤ, pos, Bool, ◌&&◌, if◌then◌else◌, List, map, filter, fold, zip, slice_index_or, slice_set}
use Rattle.std.specs.Int.{int_max, int_min}
use Rattle.tri_base.specs.declared.point.Point.{Point}
use Rattle.function_blocks.specs.Values.{clamped}
use Rattle.chassis.specs.Points.{inputs_of, outputs_of}
use Rattle.st_tree.specs.declared.program.Tree.{Tree}
use Rattle.st_tree.specs.declared.tag.Tag.{Tag}
use Rattle.st_tree.specs.Tags.{tags_of}
use Rattle.st_tree.specs.Typing.Points.{is_input_point}
use Rattle.st_core.specs.Memory.{address_of}
use Rattle.st_meaning.specs.Types.{type_of, word_type}
use Rattle.st_meaning.specs.Programs.{is_point_tag}
use Rattle.st_sound.specs.Shapes.{shape_in}

-- The points of a chassis, and the tags that a program declares.
pub record PointsAndTags : Type 0 where
  pub points : List Point
  pub tags : List Tag

-- The tags are those of some program.
abbrev pub AreDeclared : List Tag → Type 0
AreDeclared tags = (tree : Tree) × (tags ≡ tags_of tree)

-- The address of a tag's first word. The tag of a point has no other.
abbrev pub tag_address : List Tag → List ℕ → ℕ
tag_address tags n = address_of n (shape_in tags)

-- The number in that word.
abbrev pub tag_word : List Tag → List ℤ → List ℕ → ℤ
tag_word tags words n = slice_index_or words (tag_address tags n) (pos 0)

-- ---- inputs

-- The words, with that of an input point's tag set to the point's value; as they are where the tag isn't declared.
abbrev pub input_set : List Tag → List ℤ → Point × ℤ → List ℤ
input_set tags words input =
    if is_point_tag tags input.0.name then slice_set words (tag_address tags input.0.name) input.1 else words

-- The words, with those of all declared input tags set. The values are in the order of the input points.
abbrev pub inputs_set : List Point → List Tag → (inputs words : List ℤ) → List ℤ
inputs_set points tags inputs words = fold (input_set tags) words (zip (inputs_of points) inputs)

-- The tag is declared as that of an input point.
abbrev pub is_input_tag : List Point → List Tag → Tag → Bool
is_input_tag points tags t = is_point_tag tags t.name && is_input_point points t.name

-- The declared input tags, in order of declaration.
abbrev pub input_tags : List Point → List Tag → List Tag
input_tags points tags = filter (is_input_tag points tags) tags

-- The stores by which the inputs are set: the address of each declared input tag, in order of declaration, with the
-- number that stood there. One whose number stays is told too.
abbrev pub input_stores : List Point → List Tag → List ℤ → List (ℕ × ℤ)
input_stores points tags words =
    map (λ t. (tag_address tags t.name, tag_word tags words t.name)) (input_tags points tags)

-- ---- outputs

-- The value of an output point: the number in its tag's word, clamped to the tag's type and then to the point's range;
-- 0 where the tag isn't declared.
abbrev pub output_in : List Tag → List ℤ → Point → ℤ
output_in tags words p =
    if is_point_tag tags p.name
    then int_max p.low (int_min (clamped (word_type (type_of tags p.name)) (tag_word tags words p.name)) p.high)
    else pos 0

-- The values of all output points, in their order.
abbrev pub outputs_from : List Point → List Tag → List ℤ → List ℤ
outputs_from points tags words = map (output_in tags words) (outputs_of points)
