-- The sources and the sink in memory, whose answers are determined.
use Rattle.std.specs.Prelude.{ℕ, ◌+◌, ◌-◌, min, Bool, List, ◌++◌, length, take, drop, ◌==◌, nat_le, ◌||◌, Option, Some, None, if◌then◌else◌}
use Rattle.std.specs.List.{list_any}
use Rattle.tri_io.specs.FaultCounts.{one_more}

-- A source in memory: the bytes left, how many of them a read moves at most, the numbers of the calls that are to
-- fail, how many calls and how many failures there were.
pub record SourceValue : Type 0 where
  pub left : List ℕ
  pub piece : ℕ
  pub failing : List ℕ
  pub calls : ℕ
  pub faults : ℕ

-- Whether a call is one of those that are to fail; calls count from 1.
abbrev pub is_listed : List ℕ → ℕ → Bool
is_listed failing call = list_any (λ number. number == call) failing

-- How many bytes a read into a buffer of so many moves, or none where it is a call that is to fail.
abbrev pub moved_by_read : SourceValue → ℕ → Option ℕ
moved_by_read s room =
    if is_listed s.failing (one_more s.calls) then None else Some (min (min room s.piece) (length s.left))

-- The source after a read that moves so many.
abbrev pub after_read : SourceValue → Option ℕ → SourceValue
after_read s None = record s { calls = one_more s.calls; faults = one_more s.faults }
after_read s (Some n) = record s { left = drop n s.left; calls = one_more s.calls }

-- A sink in memory: the bytes taken, for how many more there is room, how many a put takes at most, the numbers of
-- the calls that are to fail, how many calls and how many failures there were.
pub record SinkValue : Type 0 where
  pub taken : List ℕ
  pub spare : ℕ
  pub piece : ℕ
  pub failing : List ℕ
  pub calls : ℕ
  pub faults : ℕ

-- How many of so many bytes a put takes, or none where it is a call that is to fail or the room doesn't hold them.
abbrev pub moved_by_put : SinkValue → ℕ → Option ℕ
moved_by_put s offered =
    if is_listed s.failing (one_more s.calls) || nat_le (s.spare + 1) (min offered s.piece) then None
    else Some (min offered s.piece)

-- The sink after a put that takes so many of these bytes.
abbrev pub after_put : SinkValue → Option ℕ → List ℕ → SinkValue
after_put s None bytes = record s { calls = one_more s.calls; faults = one_more s.faults }
after_put s (Some n) bytes =
    record s { taken = s.taken ++ take n bytes; spare = s.spare - n; calls = one_more s.calls }
