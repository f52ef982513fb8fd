use Rattle.std.proofs.Common.{◌≡◌, ◌+◌, length, replicate, pos}
use Rattle.re_education.proofs.rooms.clear_image.Given as goal

abbrev pub invariant-loop-place : goal.invariant-loop-place
invariant-loop-place l = record {
  list : l.image.list ≡ replicate l._place (pos 0);
  room : l.image.spare + length l.image.list ≡ l.fn.image.spare + length l.fn.image.list;
  count : length l.image.list ≡ l._place;
}
