-- What holds of the words that stand for points: they are what a scan's meaning says of the environment that the words
-- hold.
use Rattle.std.specs.Prelude.{◌≡◌, ◌≢◌, ℤ, List, length, map}
use Rattle.std.specs.List.{All, AllPairs, AllZip}
use Rattle.tri_base.specs.declared.point.Point.{Point}
use Rattle.chassis.specs.Points.{outputs_of}
use Rattle.chassis.specs.Ranges.{HoldsZero, IsWithin}
use Rattle.engine_face.specs.Laws.{TellStores}
use Rattle.st_tree.specs.declared.tag.Tag.{Tag}
use Rattle.tag_layout.specs.Layout.{total_words, AreApart}
use Rattle.st_core.specs.Environments.{Env}
use Rattle.st_core.specs.Memory.{Shape, shape_of, words_of, total_of}
use Rattle.st_meaning.specs.Programs.{with_inputs, output_of}
use Rattle.st_sound.specs.Shapes.{shape_in}
use Rattle.tag_wiring.specs.HeldEnvironments.{env_in}
use Rattle.tag_wiring.specs.PointWords.{AreDeclared, inputs_set, input_stores, outputs_from}

-- The environment in these words has this shape, and its numbers are the words.
pub record IsHeld (counts : Shape) (numbers : List ℤ) : Type 0 where
  pub shape : shape_of (env_in counts numbers) ≡ counts
  pub words : words_of (env_in counts numbers) ≡ numbers

-- So it is where there are as many words as the shape has.
abbrev pub WordsHold : Type 0
WordsHold = (shape : Shape) (words : List ℤ) → length words ≡ total_of shape → IsHeld shape words

-- The words of an environment hold just that environment.
abbrev pub EnvironmentComesBack : Type 0
EnvironmentComesBack = (env : Env) → env_in (shape_of env) (words_of env) ≡ env

-- The words after the inputs were set are as many as before, and those of the environment after they were set, which
-- keeps its shape.
pub record SetsInputs (points : List Point) (tags : List Tag) (inputs before : List ℤ) (env : Env) : Type 0 where
  pub count : length (inputs_set points tags inputs before) ≡ length before
  pub words : inputs_set points tags inputs before ≡ words_of (with_inputs points tags inputs env)
  pub shape : shape_of (with_inputs points tags inputs env) ≡ shape_in tags

-- So it is in every memory of a program's words.
abbrev pub InputsAreSet : Type 0
InputsAreSet =
    (points : List Point) (tags : List Tag) (inputs words : List ℤ) → AreDeclared tags
    → length words ≡ total_words tags → SetsInputs points tags inputs words (env_in (shape_in tags) words)

-- The outputs from the words are those of the environment that they hold.
abbrev pub OutputsAreTaken : Type 0
OutputsAreTaken =
    (points : List Point) (tags : List Tag) (words : List ℤ) → AreDeclared tags → length words ≡ total_words tags
    → outputs_from points tags words ≡ map (output_of tags (env_in (shape_in tags) words)) (outputs_of points)

-- Each output lies in its point's range.
abbrev pub OutputsLieWithin : Type 0
OutputsLieWithin =
    (points : List Point) (tags : List Tag) (words : List ℤ) → All HoldsZero points
    → AllZip IsWithin (outputs_of points) (outputs_from points tags words)

-- Where no two points and no two tags have one name, the stores tell what setting the inputs did to the words.
abbrev pub StoresTellInputs : Type 0
StoresTellInputs =
    (points : List Point) (tags : List Tag) (inputs words : List ℤ) → AreDeclared tags → AreApart tags
    → AllPairs (λ (p q : Point). p.name ≢ q.name) points → length words ≡ total_words tags
    → TellStores words (inputs_set points tags inputs words) (input_stores points tags words)
