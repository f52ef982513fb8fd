-- What a link adds to the line of an effect. It serves private functions alone: nobody has to believe it.
use Rattle.std.specs.Prelude.{ℕ, List, [], if◌then◌else◌}
use Rattle.std.specs.Str.{bytes_eq}
use Rattle.cause_effect.specs.declared.matrix.Link.{Link}
use Rattle.cause_effect.specs.Matrices.{MatrixValue, level_of}
use Rattle.cause_effect.specs.Programs.{cause_term}

-- The cause of a link that leads to the effect.
abbrev pub link_term : MatrixValue → List ℕ → Link → List ℕ
link_term m effect l = if bytes_eq l.effect effect then cause_term (level_of m l.cause) l.cause else []
