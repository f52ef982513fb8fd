-- The lines of a scan in a script (own rules).
use Rattle.std.specs.Prelude.{ℕ, ◌==◌, List, [], ◌∷◌, Option, Some, None, if◌then◌else◌}
use Rattle.script_text.specs.declared.moment.ScanLine.{ScanLine}
use Rattle.script_text.specs.declared.moment.ScanLine.TheVariants.{Download}
use Rattle.script_text.specs.MomentValue.{MomentValue}
use Rattle.script_text.specs.Standing.{new_moment}

-- What stands below the AT line of a scan: nothing where there is no such line.
abbrev pub moment_at : ℕ → List MomentValue → MomentValue
moment_at scan [] = new_moment scan
moment_at scan (m ∷ moments) = if m.scan == scan then m else moment_at scan moments

-- The text of the first download among lines.
abbrev pub download_in : List ScanLine → Option (List ℕ)
download_in [] = None
download_in (Download text ∷ lines) = Some text
download_in (line ∷ lines) = download_in lines
