-- What three legs play. Own rule.
use Rattle.std.specs.Prelude.{◌≡◌, ℕ, ◌+◌, ◌<◌, List, length, None}
use Rattle.std.specs.List.{All}
use Rattle.tri_base.specs.declared.leg.Leg.{Leg}
use Rattle.tri_base.specs.declared.leg.Leg.TheVariants.{A, B, C}
use Rattle.tri_base.specs.declared.leg.Triple.{Triple}
use Rattle.tri_base.specs.declared.point.Point.{Point}
use Rattle.tri_base.specs.Legs.{leg_part}
use Rattle.script_text.specs.ScriptValue.{ScriptValue}
use Rattle.engine_face.specs.Meaning.{Meaning}
use Rattle.script_text.specs.LegScans.{LegAct, LegScan, LoadsBytes, Poke, Replace, Swap, SwapsBytes, TapeValue, scan_at, tape_of}

-- The points, the text that each leg starts with, and what each leg sees of each scan.
pub record Play : Type 0 where
  pub points : List Point
  pub text : List ℕ
  pub tapes : Triple TapeValue

-- The play of a script.
abbrev pub play_of : ScriptValue → Play
play_of v = record {
  points = v.points;
  text = v.text;
  tapes = record { a = tape_of v A; b = tape_of v B; c = tape_of v C };
}

-- How many scans a leg has.
abbrev pub scans_of : Play → Leg → ℕ
scans_of play leg = length (leg_part play.tapes leg).scans

-- The three legs have equal numbers of scans.
abbrev pub HaveEqualScans : Play → Type 0
HaveEqualScans play = (scans_of play B ≡ scans_of play A) × (scans_of play C ≡ scans_of play A)

-- What a leg sees of the scan that it plays with so many behind it.
abbrev pub scan_behind : Play → Leg → (finished : ℕ) → LegScan
scan_behind play leg finished = scan_at (leg_part play.tapes leg) (finished + 1)

-- The text of a SWAP line builds.
abbrev pub SwapBuilds : Meaning → LegAct → Type 0
SwapBuilds m (Poke address value) = Unit {0}
SwapBuilds m Replace = Unit {0}
SwapBuilds m (Swap text) = m.builds text ≡ None

-- The text of a play and each SWAP text build, and all texts are bytes.
pub record IsPlayable (m : Meaning) (play : Play) : Type 0 where
  pub builds : m.builds play.text ≡ None
  pub bytes : All (λ byte. byte < 256) play.text
  pub swaps : (leg : Leg) (finished : ℕ) → All (SwapBuilds m) (scan_behind play leg finished).acts
  pub swap_bytes : (leg : Leg) (finished : ℕ) → All SwapsBytes (scan_behind play leg finished).acts
  pub downloads : (leg : Leg) (finished : ℕ) → LoadsBytes (scan_behind play leg finished).download
