use Rattle.std.proofs.Common.{◌≡◌, length}
use Rattle.st_tree.specs.Words.{word_among}
use Rattle.cause_effect.specs.Inner.Entries.{entries}
use Rattle.cause_effect.proofs.words.word_among.Given as goal

abbrev pub invariant-loop-table : goal.invariant-loop-table
invariant-loop-table l = word_among (entries l.table) l.text ≡ word_among (entries l.initial.table) l.text

abbrev pub decreases-loop-table : goal.decreases-loop-table
decreases-loop-table l = length l.table
