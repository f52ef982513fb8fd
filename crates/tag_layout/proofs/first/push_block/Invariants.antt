use Rattle.std.proofs.Common.{◌≡◌, ◌++◌, take}
use Rattle.function_blocks.specs.Fields.{first_values}
use Rattle.tag_layout.proofs.first.push_block.Given as goal

abbrev pub invariant-loop-place : goal.invariant-loop-place
invariant-loop-place l = l.words.list ≡ l.fn.words.list ++ take l.place (first_values l.block)
