-- A run that goes on, and a leg that comes back to it, worked by hand, to hold the definitions against. Own rule.
use Rattle.std.specs.Prelude.{◌≡◌, ℕ, ℤ, pos, List, [], ◌∷◌, None}
use Rattle.tri_base.specs.declared.leg.Leg.{Leg}
use Rattle.tri_base.specs.declared.leg.Leg.TheVariants.{A, B, C}
use Rattle.script_text.specs.LegScans.{LegScan, reading_only}
use Rattle.leg_laws.specs.States.{Learning, Run, Running, State}
use Rattle.leg_laws.specs.WorkedPlays.{programs, text_of, two_points}
use Rattle.majority_laws.specs.Recovering.{going_on, played_from}
use Rattle.majority_laws.specs.WorkedPlay.{counter}

-- Scans without lines, in which A and C read 1 at the input START, and B reads 0.
abbrev pub two_read_one : ℕ → Leg → LegScan
two_read_one k A = reading_only (pos 10) (pos 1 ∷ [])
two_read_one k B = reading_only (pos 10) (pos 0 ∷ [])
two_read_one k C = reading_only (pos 10) (pos 1 ∷ [])

-- A run of the program of 78 bytes, which moves its input to its output; with its two words it has two windows.
abbrev pub moving : (words : List ℤ) (turn : ℕ) → Run
moving words turn = record { text = text_of 78; words = words; epoch = 4; turn = turn }

-- A run of a program of one window, which counts its scans.
abbrev pub counted_to : ℤ → Run
counted_to count = record { text = 65 ∷ 10 ∷ []; words = count ∷ []; epoch = 2; turn = 0 }

-- A and B have counted to 7, and C to 3.
abbrev pub stray : Leg → State
stray A = Running (counted_to (pos 7))
stray B = Running (counted_to (pos 7))
stray C = Running (counted_to (pos 3))

-- The states of the counting legs after so many scans.
abbrev pub stray_after : (scans : ℕ) → Leg → State
stray_after scans = played_from counter two_points two_read_one stray scans

-- What is computed.
pub record StrayLeg : Type 0 where
  -- a run moves what two legs read, and turns to its second window, the first, and the second again
  pub moves : going_on programs two_points two_read_one (moving (pos 0 ∷ pos 0 ∷ []) 0) 3
      ≡ moving (pos 1 ∷ pos 1 ∷ []) 1
  -- a run counts a scan a scan
  pub counts : going_on counter two_points two_read_one (counted_to (pos 7)) 2 ≡ counted_to (pos 9)
  -- C is outvoted in the first scan, and learns; after the second it has the run of the others
  pub outvoted : stray_after 1 C ≡ Learning None
  pub beside : stray_after 1 A ≡ Running (counted_to (pos 8))
  pub back : stray_after 2 C ≡ Running (counted_to (pos 9))
