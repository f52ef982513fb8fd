-- The text that the one controller has after each scan: that of the TEXT block, and of each download that its engine
-- accepts. Own rule.
use Rattle.std.specs.Prelude.{ℕ, zero, suc, ◌+◌, Bool, false, List, length, Option, Some, None, is_none}
use Rattle.tri_base.specs.declared.leg.Leg.TheVariants.{A}
use Rattle.tri_base.specs.Downloads.{Download}
use Rattle.engine_face.specs.declared.refusal.Refusal.{Refusal}
use Rattle.engine_face.specs.Meaning.{Meaning, changes}
use Rattle.leg_packet.specs.Sheets.{windows_of}
use Rattle.script_text.specs.ScriptValue.{ScriptValue}
use Rattle.script_text.specs.LegScans.{scan_of}

-- The download of a scan, which is the same for each leg.
abbrev pub download_at : ScriptValue → ℕ → Option Download
download_at v scan = (scan_of v A scan).download

-- The new text where nothing refuses the download, else the old one.
abbrev pub text_by : Download → List ℕ → Option Refusal → List ℕ
text_by d text None = d.text
text_by d text (Some refusal) = text

-- The text behind a scan's change point.
abbrev pub text_changed : Meaning → Option Download → List ℕ → List ℕ
text_changed m None text = text
text_changed m (Some d) text = text_by d text (changes m text d)

-- The text after so many scans.
unfoldable pub text_after : Meaning → ScriptValue → ℕ → List ℕ
text_after m v zero = v.text
text_after m v (suc scans) = text_changed m (download_at v (suc scans)) (text_after m v scans)

-- Whether there is a download, and it is accepted.
abbrev pub accepts : Meaning → Option Download → List ℕ → Bool
accepts m None text = false
accepts m (Some d) text = is_none (changes m text d)

-- How many windows a program's text and words have.
abbrev pub program_windows : Meaning → List ℕ → ℕ
program_windows m text = windows_of (length text + m.word_count text)
