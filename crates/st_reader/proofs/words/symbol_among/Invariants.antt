use Rattle.std.proofs.Common.{◌≡◌, length, true}
use Rattle.std.specs.List.{list_all}
use Rattle.st_tree.specs.Words.{symbol_among}
use Rattle.st_reader.specs.Inner.Entries.{entries, is_written}
use Rattle.st_reader.proofs.words.symbol_among.Given as goal

abbrev pub invariant-loop-table : goal.invariant-loop-table
invariant-loop-table l = record {
  rest : symbol_among (entries l.table) l.text ≡ symbol_among (entries l.initial.table) l.text;
  written : list_all is_written (entries l.table) ≡ true;
}

abbrev pub decreases-loop-table : goal.decreases-loop-table
decreases-loop-table l = length l.table
