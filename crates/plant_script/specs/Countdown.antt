-- How long a leg counts as suspect after a fault: of the script and the one controller's texts alone. Own rule.
use Rattle.std.specs.Prelude.{◌≡◌, ℕ, zero, suc, ◌+◌, ◌*◌, ◌<◌, Bool, true, false, ◌&&◌, List, [], ◌∷◌, is_none}
use Rattle.tri_base.specs.declared.leg.Leg.{Leg}
use Rattle.engine_face.specs.Meaning.{Meaning}
use Rattle.script_text.specs.ScriptValue.{ScriptValue}
use Rattle.script_text.specs.LegScans.{LegAct, LegScan, scan_of}
use Rattle.plant_script.specs.SingleTexts.{accepts, download_at, program_windows, text_after}

-- Whether there is no line on the leg's state.
abbrev pub no_acts : List LegAct → Bool
no_acts [] = true
no_acts (act ∷ acts) = false

-- Whether no fault line of a scan names the leg: none on its state, its packets or its drive.
abbrev pub is_quiet : LegScan → Bool
is_quiet l =
    no_acts l.acts && is_none l.shown_left && is_none l.shown_right
    && is_none l.result_left && is_none l.result_right && is_none l.drive

-- How many scans a leg has to come back, where the program has so many windows.
abbrev pub recovery_span : ℕ → ℕ
recovery_span windows = 3 * windows + 3

-- The countdown behind a scan, from the one before: the span where a fault line names the leg, and where a countdown
-- runs and the one controller accepts a download; else one less, and not below 0.
abbrev pub counted_down : (quiet accepted : Bool) → (span count : ℕ) → ℕ
counted_down false accepted span count = span
counted_down true accepted span zero = zero
counted_down true true span (suc count) = span
counted_down true false span (suc count) = count

-- A leg's countdown after so many scans. The span is that of the program behind the last one's change point.
unfoldable pub recovery_countdown : Meaning → ScriptValue → Leg → ℕ → ℕ
recovery_countdown m v leg zero = 0
recovery_countdown m v leg (suc scans) =
    counted_down (is_quiet (scan_of v leg (suc scans)))
    (accepts m (download_at v (suc scans)) (text_after m v scans))
    (recovery_span (program_windows m (text_after m v (suc scans))))
    (recovery_countdown m v leg scans)

-- A leg is suspect at a scan while its countdown runs.
abbrev pub IsSuspect : Meaning → ScriptValue → Leg → ℕ → Type 0
IsSuspect m v leg scan = 0 < recovery_countdown m v leg scan

-- Else it is sound.
abbrev pub IsSound : Meaning → ScriptValue → Leg → ℕ → Type 0
IsSound m v leg scan = recovery_countdown m v leg scan ≡ 0
