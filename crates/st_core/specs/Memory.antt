-- Where the numbers of an environment lie in the words of the machine: tags in order of declaration from the word 0 on,
-- one word for each field (own rule).
use Rattle.std.specs.Prelude.{ℕ, ◌+◌, ℤ, if◌then◌else◌, List, [], ◌∷◌, ◌++◌, length}
use Rattle.std.specs.Str.{bytes_eq}
use Rattle.st_core.specs.Core.{Name}
use Rattle.st_core.specs.Environments.{Env}

-- Each tag with its number of words, in order of declaration.
abbrev pub Shape : Type 0
Shape = List (Name × ℕ)

-- The first word of a tag.
unfoldable pub address_of : Name → Shape → ℕ
address_of n [] = 0
address_of n (tag ∷ tags) = if bytes_eq n tag.0 then 0 else tag.1 + address_of n tags

-- How many words a tag has: none where it isn't declared.
unfoldable pub count_of : Name → Shape → ℕ
count_of n [] = 0
count_of n (tag ∷ tags) = if bytes_eq n tag.0 then tag.1 else count_of n tags

-- How many words all tags have.
unfoldable pub total_of : Shape → ℕ
total_of [] = 0
total_of (tag ∷ tags) = tag.1 + total_of tags

-- The shape of an environment: each tag with how many numbers it has.
unfoldable pub shape_of : Env → Shape
shape_of [] = []
shape_of (tag ∷ tags) = (tag.0, length tag.1) ∷ shape_of tags

-- The words of an environment: the numbers of all its tags in a row.
unfoldable pub words_of : Env → List ℤ
words_of [] = []
words_of (tag ∷ tags) = tag.1 ++ words_of tags
