-- How a script is written: its lines in the order of scripts, each with a line feed, one space between words, shortest
-- numbers, one SCHEDULE line or none, and the short SET or TIME where all legs read the same (own rules).
use Rattle.std.specs.Prelude.{ℕ, ℤ, ◌/◌, ◌%◌, ◌&&◌, ◌+◌, List, [], ◌∷◌, ◌++◌, length, map, flat_map, slice_index_or, Option, Some, None, decimal, slice_get, codes, if◌then◌else◌}
use Rattle.std.specs.Fmt.{signed_decimal}
use Rattle.std.specs.Ordering.{int_eq}
use Rattle.tri_base.specs.Bytes.{space}
use Rattle.tri_base.specs.declared.leg.Leg.{Leg}
use Rattle.tri_base.specs.declared.leg.Leg.TheVariants.{A, B, C}
use Rattle.tri_base.specs.declared.leg.Side.{Side}
use Rattle.tri_base.specs.declared.leg.Side.TheVariants.{Left, Right}
use Rattle.tri_base.specs.declared.leg.Triple.{Triple}
use Rattle.tri_base.specs.declared.point.Point.{Point}
use Rattle.tri_base.specs.declared.point.PointKind.{PointKind}
use Rattle.tri_base.specs.declared.point.PointKind.TheVariants.{Di, Ai, Do, Ao}
use Rattle.script_lines.specs.Lines.{lines_of, ended}
use Rattle.script_text.specs.declared.moment.ScanLine.{ScanLine}
use Rattle.script_text.specs.declared.moment.ScanLine.TheVariants.{Set, Time, Download, Mute, Poke, Replace, Swap, Read, Result, Drive}
use Rattle.script_text.specs.MomentValue.{MomentValue}
use Rattle.script_text.specs.ScriptValue.{ScriptValue, ReadScript}

-- A word with the space before it.
abbrev pub behind_space : List ℕ → List ℕ
behind_space word = space ∷ word

-- Words with one space between them.
abbrev pub spaced : List (List ℕ) → List ℕ
spaced [] = []
spaced (word ∷ words) = word ++ flat_map behind_space words

-- What stands behind the word POINT.
abbrev pub point_tail : PointKind → Point → List (List ℕ)
point_tail Di p = codes "DI" ∷ p.name ∷ []
point_tail Do p = codes "DO" ∷ p.name ∷ []
point_tail Ai p =
    codes "AI" ∷ p.name ∷ signed_decimal p.low ∷ signed_decimal p.high ∷ signed_decimal p.tolerance ∷ []
point_tail Ao p = codes "AO" ∷ p.name ∷ signed_decimal p.low ∷ signed_decimal p.high ∷ []

-- The words of a point's line.
abbrev pub point_words : Point → List (List ℕ)
point_words p = codes "POINT" ∷ point_tail p.kind p

-- One number where all three are equal.
abbrev pub triple_words : Triple ℤ → List (List ℕ)
triple_words t =
    if int_eq t.a t.b && int_eq t.a t.c then signed_decimal t.a ∷ []
    else signed_decimal t.a ∷ signed_decimal t.b ∷ signed_decimal t.c ∷ []

-- A leg's letter.
abbrev pub leg_word : Leg → List ℕ
leg_word A = codes "A"
leg_word B = codes "B"
leg_word C = codes "C"

-- A side's word, where one is named.
abbrev pub side_words : Option Side → List (List ℕ)
side_words None = []
side_words (Some Left) = codes "LEFT" ∷ []
side_words (Some Right) = codes "RIGHT" ∷ []

-- The words behind READ and RESULT.
abbrev pub sided_words : Leg → Option Side → List ℤ → List (List ℕ)
sided_words leg side numbers = leg_word leg ∷ side_words side ++ map signed_decimal numbers

-- The name of the point at a place.
abbrev pub name_at : Option Point → List ℕ
name_at (Some p) = p.name
name_at None = []

-- A block's first line, its lines, and its end.
abbrev pub block_lines : List ℕ → List ℕ → List (List ℕ)
block_lines first text = first ∷ lines_of text ++ codes "ENDTEXT" ∷ []

-- The capital digit of a value below 16.
abbrev pub digit_of : ℕ → ℕ
digit_of value = slice_index_or (codes "0123456789ABCDEF") value 0

-- A byte's two hexadecimal digits.
abbrev pub hex_of : ℕ → List ℕ
hex_of byte = digit_of (byte / 16) ∷ digit_of (byte % 16) ∷ []

-- `RENAME`.
abbrev pub rename_line : List ℕ × List ℕ → List ℕ
rename_line names = spaced (codes "RENAME" ∷ names.0 ∷ names.1 ∷ [])

-- `ASK`.
abbrev pub ask_line : List ℕ → List ℕ
ask_line bytes = spaced (codes "ASK" ∷ flat_map hex_of bytes ∷ [])

-- The lines that a line of a scan is written as. The renames stand directly behind their download.
abbrev pub line_lines : List Point → List (List ℕ × List ℕ) → ScanLine → List (List ℕ)
line_lines points renames (Set setting) =
    spaced (codes "SET" ∷ name_at (slice_get points setting.point) ∷ triple_words setting.reads) ∷ []
line_lines points renames (Time reads) = spaced (codes "TIME" ∷ triple_words reads) ∷ []
line_lines points renames (Download text) = block_lines (codes "DOWNLOAD") text ++ map rename_line renames
line_lines points renames (Mute leg) = spaced (codes "MUTE" ∷ leg_word leg ∷ []) ∷ []
line_lines points renames (Poke leg address value) =
    spaced (codes "POKE" ∷ leg_word leg ∷ decimal address ∷ signed_decimal value ∷ []) ∷ []
line_lines points renames (Replace leg) = spaced (codes "REPLACE" ∷ leg_word leg ∷ []) ∷ []
line_lines points renames (Swap leg text) = block_lines (spaced (codes "SWAP" ∷ leg_word leg ∷ [])) text
line_lines points renames (Read leg side numbers) = spaced (codes "READ" ∷ sided_words leg side numbers) ∷ []
line_lines points renames (Result leg side numbers) = spaced (codes "RESULT" ∷ sided_words leg side numbers) ∷ []
line_lines points renames (Drive leg numbers) =
    spaced (codes "DRIVE" ∷ leg_word leg ∷ map signed_decimal numbers) ∷ []

-- An AT line with what stands below it, the requests last.
abbrev pub moment_lines : List Point → MomentValue → List (List ℕ)
moment_lines points m =
    spaced (codes "AT" ∷ decimal m.scan ∷ []) ∷ (flat_map (line_lines points m.renames) m.lines ++ map ask_line m.asks)

-- One SCHEDULE line, or none.
abbrev pub schedule_lines : List Leg → List (List ℕ)
schedule_lines [] = []
schedule_lines (leg ∷ legs) = spaced (codes "SCHEDULE" ∷ flat_map leg_word (leg ∷ legs) ∷ []) ∷ []

-- All lines of a script.
abbrev pub canonical_lines : ScriptValue → List (List ℕ)
canonical_lines v =
    codes "TRICON 1" ∷ (map (λ p. spaced (point_words p)) v.points
    ++ (block_lines (codes "TEXT") v.text
    ++ (schedule_lines v.schedule
    ++ (spaced (codes "SCANS" ∷ decimal v.scans ∷ [])
    ∷ (flat_map (moment_lines v.points) v.moments
    ++ (codes "END" ∷ []))))))

-- The text of a script.
abbrev pub canonical_text : ScriptValue → List ℕ
canonical_text v = flat_map ended (canonical_lines v)

-- What is read of the text of a script: the word TEXT stands behind the points.
abbrev pub read_back : ScriptValue → List ℕ → ReadScript
read_back v swaps = record { value = v; text_line = 2 + length v.points; swap_lines = swaps }
