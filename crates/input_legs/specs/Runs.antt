-- What a mark means: five disagreements in a row.
use Rattle.std.specs.Prelude.{◌≡◌, ℕ, ℤ, Bool, true, List, [], ◌∷◌, ◌++◌, map, replicate}
use Rattle.std.specs.List.{fold}
use Rattle.tri_base.specs.Legs.{leg_part}
use Rattle.tri_base.specs.declared.leg.Leg.{Leg}
use Rattle.tri_base.specs.declared.leg.Triple.{Triple}
use Rattle.tri_base.specs.declared.point.Point.{Point}
use Rattle.input_legs.specs.Marks.{counted_on, disagreements, mark_count, no_marks, note_of}
use Rattle.input_legs.specs.VotedSheets.{column, read_three}

-- A leg's count at an input after a history, which says scan by scan whether the leg disagreed there.
abbrev pub count_after : ℕ → (history : List Bool) → ℕ
count_after count [] = count
count_after count (disagrees ∷ more) = count_after (counted_on count disagrees) more

-- Somewhere in a history stand five disagreements in a row.
abbrev pub HasRun : (history : List Bool) → Type 0
HasRun history =
    (before : List Bool) × (behind : List Bool) × (history ≡ before ++ (replicate mark_count true ++ behind))

-- All counts after scans in which the legs showed these packets, from no disagreements on.
abbrev pub marks_after : List Point → (scans : List (Triple (List ℤ))) → List (Triple ℕ)
marks_after points scans = fold (λ rows packets. note_of points packets rows) (no_marks points) scans

-- Which legs disagree at the input at a place, in a scan in which they showed three packets.
abbrev pub disagreements_at : List Point → (input : ℕ) (point : Point) → Triple (List ℤ) → Triple Bool
disagreements_at points input point packets =
    disagreements point.kind point.tolerance (column (read_three points packets) input)

-- A leg's history at the input at a place: scan by scan, whether it disagreed there.
abbrev pub history_of : List Point → (input : ℕ) (point : Point) → List (Triple (List ℤ)) → Leg → List Bool
history_of points input point scans leg =
    map (λ packets. leg_part (disagreements_at points input point packets) leg) scans
