use Rattle.std.proofs.Common.{◌≡◌, ◌+◌, ◌≤◌, ◌++◌, length, take, map, nat_abs}
use Rattle.re_education.proofs.filling.add_bytes.Given as goal

abbrev pub invariant-loop-word : goal.invariant-loop-word
invariant-loop-word l = record {
  list : l.text.list ≡ l.fn.text.list ++ map nat_abs (take l.word-index l.words);
  room : length l.words ≤ l.text.spare + l.word-index;
}
