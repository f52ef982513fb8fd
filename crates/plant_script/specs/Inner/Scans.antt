-- Nobody has to believe what stands here: it serves private functions alone.
-- How a play stands behind a scan, and what a calm scan asks of it.
use Rattle.std.specs.Prelude.{◌≡◌, ◌⊎◌, ℕ, Bool, List, None}
use Rattle.tri_base.specs.declared.leg.Leg.TheVariants.{A, B, C}
use Rattle.tri_base.specs.declared.leg.Triple.{Triple}
use Rattle.tri_base.specs.declared.leg.Side.TheVariants.{Left, Right}
use Rattle.engine_face.specs.Meaning.{Meaning}
use Rattle.script_text.specs.ScriptValue.{ScriptValue}
use Rattle.script_text.specs.LegScans.{LegScan, TapeValue, tape_of}
use Rattle.plant_script.specs.Faces.{face}
use Rattle.plant_script.specs.SingleTexts.{text_after}
use Rattle.plant_script.specs.Countdown.{counted_down, is_quiet, recovery_countdown}

-- The tapes of the three legs.
abbrev pub tapes_of : ScriptValue → Triple TapeValue
tapes_of v = record { a = tape_of v A; b = tape_of v B; c = tape_of v C }

-- The countdowns behind a scan, from what each leg sees of it.
abbrev pub counts_behind : (a b c : LegScan) → (accepted : Bool) → (span : ℕ) → Triple ℕ → Triple ℕ
counts_behind a b c accepted span counts = record {
  a = counted_down (is_quiet a) accepted span counts.a;
  b = counted_down (is_quiet b) accepted span counts.b;
  c = counted_down (is_quiet c) accepted span counts.c;
}

-- The countdowns after so many scans.
abbrev pub countdowns : Meaning → ScriptValue → ℕ → Triple ℕ
countdowns m v scans = record {
  a = recovery_countdown m v A scans;
  b = recovery_countdown m v B scans;
  c = recovery_countdown m v C scans;
}

-- The one controller's text after so many scans, which builds, and the countdowns.
pub record Stands (m : Meaning) (v : ScriptValue) (scans : ℕ) (text : List ℕ) (counts : Triple ℕ) : Type 0 where
  pub text_is : text ≡ text_after m v scans
  pub builds : m.builds text ≡ None
  pub counts_are : counts ≡ countdowns m v scans

-- A leg shows both sides the same.
abbrev pub ShowsBoth : LegScan → Type 0
ShowsBoth l = face Left l ≡ face Right l

-- Two countdowns don't run, and each leg shows both sides the same.
pub record IsQuietThere (counts : Triple ℕ) (a b c : LegScan) : Type 0 where
  pub few : ((counts.a ≡ 0) × (counts.b ≡ 0)) ⊎ (((counts.b ≡ 0) × (counts.c ≡ 0)) ⊎ ((counts.c ≡ 0) × (counts.a ≡ 0)))
  pub face_a : ShowsBoth a
  pub face_b : ShowsBoth b
  pub face_c : ShowsBoth c
