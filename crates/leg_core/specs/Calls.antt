-- What the calls of a leg do, beside its puts and takes. Own rule.
use Rattle.std.specs.Prelude.{◌≡◌, ℕ, ◌+◌, nat_lt, List, [], ◌∷◌, length, Option, Some, None, if◌then◌else◌}
use Rattle.std.specs.List.{All}
use Rattle.tri_base.specs.declared.point.Point.{Point}
use Rattle.chassis.specs.Points.{inputs_of}
use Rattle.fault_history.specs.Notes.{NoteData}
use Rattle.script_text.specs.LegScans.{TapeValue}
use Rattle.leg_laws.specs.declared.place.Place.{Place}
use Rattle.leg_laws.specs.declared.place.Place.TheVariants as p
use Rattle.leg_laws.specs.Configs.{LegValue, place_of}

-- The first note is taken away, where there is one.
abbrev pub TakesNote : LegValue → Option NoteData → LegValue → Type 0
TakesNote v None v' = (v.notes ≡ []) × (v' ≡ v)
TakesNote v (Some note) v' =
    (v.notes ≡ note ∷ v'.notes) × (v' ≡ record v { given = v.given + 1; notes = v'.notes })

-- Each scan of a tape has a reading for each input.
abbrev pub ReadsInputs : List Point → TapeValue → Type 0
ReadsInputs points tape = All (λ l. length l.readings ≡ length (inputs_of points)) tape.scans

-- The scan that a place begins: the first place of a scan does.
abbrev pub begun_at : Place → (scan : ℕ) → Option ℕ
begun_at p.PutLeftReadings scan = Some scan
begun_at place scan = None

-- The scan that a leg begins with its next need; none within a scan, and none behind the last one.
abbrev pub scan_begun : LegValue → Option ℕ
scan_begun v =
    if nat_lt v.finished (length v.tape.scans) then begun_at (place_of v.config) (v.finished + 1) else None
