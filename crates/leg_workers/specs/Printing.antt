-- Three legs that play over a bus while a printer is handed their notes, scan by scan. Own rule.
use Rattle.std.specs.Prelude.{◌≡◌, ℕ, zero, suc, ◌-◌, ◌≤◌, List, [], slice_index_or}
use Rattle.tri_base.specs.declared.leg.Leg.{Leg}
use Rattle.tri_base.specs.declared.leg.Leg.TheVariants.{A, B, C}
use Rattle.tri_base.specs.declared.leg.Triple.{Triple}
use Rattle.tri_base.specs.declared.point.Point.{Point}
use Rattle.tri_base.specs.Legs.{leg_part}
use Rattle.engine_face.specs.Meaning.{Meaning}
use Rattle.fault_history.specs.Notes.{NoteData, no_note}
use Rattle.leg_laws.specs.Configs.{LegValue, noted}
use Rattle.leg_laws.specs.InStep.{NotedByAll, NoneStarved}
use Rattle.leg_laws.specs.Plays.{HaveEqualScans, Play, scans_of}
use Rattle.leg_laws.specs.Rounds.{after_scans}
use Rattle.tribus.specs.Settling.{SettledPost}
use Rattle.leg_workers.specs.Playing.{AreAtStart, HavePlayedOver}

-- The note that one of three legs in step makes of a scan, counted from 1: the last of its notes after that scan.
abbrev pub note_in_step : Meaning → Play → (scan : ℕ) → Leg → NoteData
note_in_step m play scan leg = slice_index_or (after_scans m play leg scan).notes (scan - 1) no_note

-- The notes that three legs in step make of a scan.
abbrev pub notes_in_step : Meaning → Play → (scan : ℕ) → Triple NoteData
notes_in_step m play scan = record {
  a = note_in_step m play scan A;
  b = note_in_step m play scan B;
  c = note_in_step m play scan C;
}

-- A printer was handed the notes of the first scans, so many, in order and each once. `After` says how the notes of a
-- scan change it.
unfoldable pub IsPrinted : {P : Type 0} → (After : P → (scan : ℕ) → Triple NoteData → P → Type 0)
    → (notes : ℕ → Triple NoteData) → (scans : ℕ) → (old new : P) → Type 0
IsPrinted After notes zero old new = new ≡ old
IsPrinted {P = P} After notes (suc n) old new =
    (mid : P) × IsPrinted After notes n old mid × After mid (suc n) (notes (suc n)) new

-- The least number of scans that one of three legs made a note of.
pub record IsLeastNoted (n : ℕ) (legs : Leg → LegValue) : Type 0 where
  pub by_all : NotedByAll legs n
  pub by_one : (leg : Leg) × (noted (legs leg) ≡ n)

-- The printer was handed the notes of three legs in step, of each scan of which all three legs made a note. They are
-- scans of the play, and while no leg is starved all of them.
pub record HavePrinted {P : Type 0} (After : P → (scan : ℕ) → Triple NoteData → P → Type 0) (m : Meaning)
    (play : Play) (legs : Triple LegValue) (old new : P) : Type 0 where
  pub number : ℕ
  pub least : IsLeastNoted number (leg_part legs)
  pub printed : IsPrinted After (notes_in_step m play) number old new
  pub within : (leg : Leg) → number ≤ scans_of play leg
  pub all : NoneStarved (leg_part legs) → (leg : Leg) → number ≡ scans_of play leg

-- Whatever play the three legs stood at the start of, they have played it to its end over the bus, and the printer was
-- handed the notes of its scans; and no note is left with a leg.
pub record PrintsOver {P : Type 0} (After : P → (scan : ℕ) → Triple NoteData → P → Type 0)
    (m : List Point → Meaning) (was now : Triple LegValue) (bus : Triple SettledPost) (old new : P) : Type 0 where
  pub played : (play : Play) → HaveEqualScans play → AreAtStart (m play.points) play was
      → HavePlayedOver (m play.points) play now bus
  pub printed : (play : Play) → HaveEqualScans play → AreAtStart (m play.points) play was
      → HavePrinted After (m play.points) play now old new
  pub notes : (leg : Leg) → (leg_part now leg).notes ≡ []
