-- The words of a program's tags, as the core counts them. Own rule.
use Rattle.std.specs.Prelude.{List, map}
use Rattle.st_tree.specs.declared.tag.Tag.{Tag}
use Rattle.tag_layout.specs.Layout.{name_and_words}
use Rattle.st_core.specs.Memory.{Shape}

-- Each tag's name with the number of its words, in order of declaration.
abbrev pub shape_in : List Tag → Shape
shape_in tags = map name_and_words tags
