-- What a download hands to a controller.
use Rattle.std.specs.Prelude.{ℕ, List}

-- The text to change to, and the tags that it renames, each with its old and its new name.
pub record Download : Type 0 where
  pub text : List ℕ
  pub renames : List (List ℕ × List ℕ)
