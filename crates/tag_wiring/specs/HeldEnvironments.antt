-- The environment that the words of the machine hold: the tags in order of declaration from the word 0 on, one word for
-- each field (own rule).
use Rattle.std.specs.Prelude.{ℤ, List, [], ◌∷◌, take, drop}
use Rattle.st_core.specs.Environments.{Env}
use Rattle.st_core.specs.Memory.{Shape}

-- Each tag has as many of the words as it has fields, from the first words on.
unfoldable pub env_in : Shape → List ℤ → Env
env_in [] words = []
env_in (tag ∷ tags) words = (tag.0, take tag.1 words) ∷ env_in tags (drop tag.1 words)
