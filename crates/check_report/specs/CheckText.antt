-- What `check` tells: the sizes of the program, and of each download whether it is accepted by the one controller that
-- stands there, with its sizes, or why it is refused. Own rule.
use Rattle.std.specs.Prelude.{ℕ, ℤ, pos, ◌-◌, List, [], ◌∷◌, ◌++◌, length, Option, Some, None, codes}
use Rattle.std.specs.List.{flat_map, range_with_len}
use Rattle.tri_base.specs.Downloads.{Download}
use Rattle.engine_face.specs.declared.refusal.Refusal.{Refusal}
use Rattle.engine_face.specs.Meaning.{Meaning, changes}
use Rattle.script_text.specs.ScriptValue.{ScriptValue}
use Rattle.plant_script.specs.SingleTexts.{download_at, program_windows, text_after}
use Rattle.plant_script.specs.Countdown.{recovery_span}
use Rattle.report_lines.specs.Lines.{line, spaced, two_words}
use Rattle.report_lines.specs.Refusals.{named, refusal_text}

-- A program's bytes, words, windows and recovery span.
abbrev pub sizes_of : Meaning → List ℕ → List ℤ
sizes_of m text =
    pos (length text) ∷ pos (m.word_count text) ∷ pos (program_windows m text)
    ∷ pos (recovery_span (program_windows m text)) ∷ []

-- The scan of a download.
abbrev pub at_scan : ℕ → List ℕ
at_scan scan = codes "AT" ++ spaced (pos scan)

-- An accepted download with its sizes, or a refused one with the reason.
abbrev pub download_line : Meaning → ℕ → Download → Option Refusal → List ℕ
download_line m scan d None = line (named (at_scan scan) (codes "ACCEPTED")) (sizes_of m d.text)
download_line m scan d (Some refusal) = two_words (at_scan scan) (named (codes "REFUSED") (refusal_text refusal))

-- The line of a scan's download, judged against the program that stands there.
abbrev pub download_lines : Meaning → ℕ → Option Download → List ℕ → List ℕ
download_lines m scan None text = []
download_lines m scan (Some d) text = download_line m scan d (changes m text d)

-- The whole text.
abbrev pub check_text : Meaning → ScriptValue → List ℕ
check_text m v =
    line (codes "TRICON CHECK") (pos 1 ∷ [])
    ++ (line (codes "PROGRAM") (sizes_of m v.text)
    ++ (flat_map (λ scan. download_lines m scan (download_at v scan) (text_after m v (scan - 1)))
    (range_with_len 1 v.scans)
    ++ line (codes "END") []))
