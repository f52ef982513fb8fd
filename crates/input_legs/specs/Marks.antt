-- Consecutive disagreements of each leg at each input (own rule). Five in a row are a mark, which stays.
use Rattle.std.specs.Prelude.{ℕ, ℤ, ◌+◌, ◌==◌, ◌||◌, Bool, List, [], ◌∷◌, length, replicate, Option, if◌then◌else◌}
use Rattle.std.specs.List.{list_any}
use Rattle.tri_base.specs.declared.leg.Triple.{Triple}
use Rattle.tri_base.specs.declared.point.Point.{Point}
use Rattle.tri_base.specs.declared.point.PointKind.{PointKind}
use Rattle.tri_base.specs.declared.point.PointKind.TheVariants.{Di, Ai, Do, Ao}
use Rattle.chassis.specs.Points.{inputs_of}
use Rattle.leg_packet.specs.Readings.{Readings}
use Rattle.vote_discrete.specs.Majority.{dissent_of}
use Rattle.vote_discrete.specs.Truths.{truths}
use Rattle.vote_analog.specs.Middle.{deviates_of}
use Rattle.input_legs.specs.VotedSheets.{column, read_three}

-- So many disagreements in a row are a mark.
abbrev pub mark_count : ℕ
mark_count = 5

-- Which legs disagree at a point: at a discrete one those that dissent from the majority, at an analogue one those that
-- differ from the middle by more than the point's tolerance. An absent leg disagrees.
abbrev pub disagreements : PointKind → (tolerance : ℤ) → Triple (Option ℤ) → Triple Bool
disagreements Di tolerance words = dissent_of (truths words)
disagreements Do tolerance words = dissent_of (truths words)
disagreements Ai tolerance counts = deviates_of counts tolerance
disagreements Ao tolerance counts = deviates_of counts tolerance

-- A count of disagreements after one scan more: a mark stays, and an agreement begins anew.
abbrev pub counted_on : ℕ → Bool → ℕ
counted_on count disagrees = if count == mark_count then mark_count else (if disagrees then count + 1 else 0)

-- The same of the three legs at an input.
abbrev pub counted_row : Triple ℕ → Triple Bool → Triple ℕ
counted_row row disagrees =
    record { a = counted_on row.a disagrees.a; b = counted_on row.b disagrees.b; c = counted_on row.c disagrees.c }

-- The same at inputs of which the first stands at a place.
abbrev pub counted_from : List Point → ℕ → Triple (Option Readings) → List (Triple ℕ) → List (Triple ℕ)
counted_from [] input rs rows = []
counted_from (point ∷ points) input rs [] = []
counted_from (point ∷ points) input rs (row ∷ rows) =
    counted_row row (disagreements point.kind point.tolerance (column rs input))
    ∷ counted_from points (input + 1) rs rows

-- All counts after one scan more, in which the legs showed three packets.
abbrev pub note_of : List Point → Triple (List ℤ) → List (Triple ℕ) → List (Triple ℕ)
note_of points packets rows = counted_from (inputs_of points) 0 (read_three points packets) rows

-- No disagreements.
abbrev pub no_row : Triple ℕ
no_row = record { a = 0; b = 0; c = 0 }

-- No disagreements at any input.
abbrev pub no_marks : List Point → List (Triple ℕ)
no_marks points = replicate (length (inputs_of points)) no_row

-- A mark of some leg at an input.
abbrev pub row_has_mark : Triple ℕ → Bool
row_has_mark row = row.a == mark_count || row.b == mark_count || row.c == mark_count

-- A mark of some leg at some input.
abbrev pub has_mark : List (Triple ℕ) → Bool
has_mark rows = list_any row_has_mark rows
