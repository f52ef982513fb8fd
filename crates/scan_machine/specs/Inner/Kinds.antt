-- Nobody has to believe what stands here: it serves private functions alone.
-- The order of the kinds in a table.
use Rattle.std.specs.Prelude.{ℕ}
use Rattle.function_blocks.specs.declared.kinds.Kind.{Kind}
use Rattle.function_blocks.specs.declared.kinds.Kind.TheVariants as kind

-- the place of a kind
abbrev pub place_of : Kind → ℕ
place_of kind.Bool = 0
place_of kind.Int = 1
place_of kind.Dint = 2
