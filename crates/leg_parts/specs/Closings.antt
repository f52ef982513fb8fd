-- How a scan ends for a leg, without the script's DRIVE and MUTE lines. Own rule.
use Rattle.std.specs.Prelude.{◌≡◌, ℤ, Bool, true, false, List, Option, Some}
use Rattle.std.specs.Option.{option_or}
use Rattle.tri_base.specs.declared.leg.Leg.{Leg}
use Rattle.engine_face.specs.Meaning.{Meaning}
use Rattle.script_text.specs.LegScans.{LegScan}
use Rattle.leg_laws.specs.States.{State}
use Rattle.leg_laws.specs.HalfScans.{HalfScan}
use Rattle.leg_laws.specs.Closing.{Closed, closed_of}
use Rattle.leg_parts.specs.declared.leg_state.Closing.{Closing}

-- What is driven: the words of a line, else the outputs where the leg drives them.
abbrev pub drive_with : (line : Option (List ℤ)) (outputs : List ℤ) (drives : Bool) → Option (List ℤ)
drive_with line outputs true = option_or line (Some outputs)
drive_with line outputs false = line

-- The end of a scan, from the state behind it and what was made of the results.
abbrev pub closed_with : LegScan → (outputs : List ℤ) → State → Closing → Closed
closed_with l outputs state c =
    record { state = state; judged = c.judged; drive = drive_with l.drive outputs c.drives }

-- A state, an own result and two results lead to such an end.
abbrev pub Closes : Meaning → Leg → (own left right : List ℤ) → (before after : State) → Closing → Type 0
Closes m leg own left right before after c =
    (l : LegScan) (half : HalfScan) → half.own ≡ own
    → closed_of m leg l half left right before ≡ closed_with l half.outputs after c
