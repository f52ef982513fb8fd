-- The pieces of a leg's scan, opened once.
use Rattle.std.proofs.Common.{List, refl, ap}
use Rattle.std.proofs.lemmas.List.Sums.{fold_push}
use Rattle.tri_base.specs.declared.point.Point.{Point}
use Rattle.engine_face.specs.Meaning.{Meaning}
use Rattle.input_legs.specs.VotedSheets.{vote_sheet_of}
use Rattle.leg_laws.specs.FaultLines.{acted, acted_all}
use Rattle.leg_laws.specs.ChangePoint.{change_point, prepared}
use Rattle.leg_laws.specs.HalfScans.{half_of, half_scan, voted_packets}
use Rattle.leg_laws.specs.Closing.{closed, closed_of, judged_of, learned_of}
use Rattle.leg_laws.specs.Pieces.{DoesLines, JudgesOrLearns, TakesDownloads, VotesAndRuns}

pub does_lines : (m : Meaning) → DoesLines m
unfolding acted_all
does_lines m = record {
  none = λ state. refl;
  first = λ state act acts. refl;
  last = λ state acts act. fold_push (acted m) state acts act;
}

pub takes_downloads : (m : Meaning) → TakesDownloads m
unfolding change_point prepared
takes_downloads m = record {
  none = λ state. refl;
  running = λ d run. refl;
  learning = λ d lesson. refl;
  behind = λ l state. refl;
}

pub votes_and_runs : (m : Meaning) (points : List Point) → VotesAndRuns m points
unfolding half_scan
votes_and_runs m points = record {
  running = λ leg l ready left right run e.
      ap (half_of m (vote_sheet_of points (voted_packets leg l left right)) ready.verdict) e;
  learning = λ leg l ready left right lesson e.
      ap (half_of m (vote_sheet_of points (voted_packets leg l left right)) ready.verdict) e;
}

pub judges_or_learns : (m : Meaning) → JudgesOrLearns m
unfolding closed judged_of learned_of
judges_or_learns m = record {
  running = λ leg l half left right run e. ap (closed_of m leg l half left right) e;
  learning = λ leg l half left right lesson e. ap (closed_of m leg l half left right) e;
}
