use Rattle.std.proofs.Common.{◌-◌, ◌≤◌, length}
use Rattle.st_reader.proofs.Lexing.{SoFar}
use Rattle.st_reader.proofs.lexer.lex.Given as goal

abbrev pub invariant-loop-place : goal.invariant-loop-place
invariant-loop-place l = record {
  so_far : SoFar l.bytes l.place l.tokens;
  within : l.place ≤ length l.bytes;
}

abbrev pub decreases-loop-place : goal.decreases-loop-place
decreases-loop-place l = length l.bytes - l.place
