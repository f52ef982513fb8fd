use Rattle.leg_laws.proofs.Pieces.{does_lines, judges_or_learns, takes_downloads, votes_and_runs}
use Rattle.leg_laws.proofs.laws.pieces_go_by_cases.Goals as goal

pub returns : goal.returns
returns c = record {
  lines = does_lines;
  change_point = takes_downloads;
  first_half = votes_and_runs;
  second_half = judges_or_learns;
}
