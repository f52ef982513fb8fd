-- What a line says by itself: its shape, by its keyword and the words behind it (own rules).
use Rattle.std.specs.Prelude.{ℕ, ℤ, pos, ◌+◌, ◌*◌, nat_le, ◌&&◌, Bool, false, List, [], ◌∷◌, length, Option, Some, None, ◌==◌, codes, if◌then◌else◌, option_map, option_and_then}
use Rattle.std.specs.Char.{to_ascii_uppercase}
use Rattle.std.specs.List.{position}
use Rattle.std.specs.Str.{bytes_eq}
use Rattle.tri_base.specs.Names.{name_of}
use Rattle.tri_base.specs.Numbers.{number_of}
use Rattle.tri_base.specs.declared.leg.Leg.{Leg}
use Rattle.tri_base.specs.declared.leg.Leg.TheVariants.{A, B, C}
use Rattle.tri_base.specs.declared.leg.Triple.{Triple}
use Rattle.tri_base.specs.declared.leg.Side.{Side}
use Rattle.tri_base.specs.declared.leg.Side.TheVariants.{Left, Right}
use Rattle.tri_base.specs.declared.point.Point.{Point}
use Rattle.tri_base.specs.declared.point.PointKind.{PointKind}
use Rattle.tri_base.specs.declared.point.PointKind.TheVariants.{Di, Ai, Do, Ao}
use Rattle.tri_base.specs.Bytes.{number_sign}
use Rattle.script_lines.specs.declared.keyword.Keyword.{Keyword}
use Rattle.script_lines.specs.declared.keyword.Keyword.TheVariants.{Tricon, Point as PointWord, Text as TextWord, Schedule as ScheduleWord, Time as TimeWord, Mute as MuteWord, Poke as PokeWord, Replace as ReplaceWord, Swap as SwapWord, Result as ResultWord, Drive as DriveWord, Rename as RenameWord, Ask as AskWord, Scans as ScansWord, At as AtWord, Set as SetWord, Download as DownloadWord, Read as ReadWord, End as EndWord}
use Rattle.script_lines.specs.declared.statement.Statement.{Statement}
use Rattle.script_lines.specs.declared.statement.Statement.TheVariants.{Heading, Point as PointLine, Text, Schedule, Scans, At, Set, Time, Download, Mute, Poke, Replace, Swap, Read, Result, Drive, Rename, Ask, End}

-- Whether a line with this first word is passed over: it begins with `#`
abbrev pub begins_comment : List ℕ → Bool
begins_comment [] = false
begins_comment (b ∷ bs) = b == number_sign

-- Nothing stands behind the keyword.
abbrev pub alone : Statement → List (List ℕ) → Option Statement
alone statement [] = Some statement
alone statement (word ∷ words) = None

-- `TRICON 1`
abbrev pub heading : List (List ℕ) → Option Statement
heading (version ∷ []) = if bytes_eq version (codes "1") then Some Heading else None
heading words = None

-- One number, and nothing behind it.
abbrev pub single_number : List (List ℕ) → Option ℤ
single_number (number ∷ []) = number_of number
single_number words = None

-- A discrete point.
abbrev pub discrete_point : PointKind → List ℕ → Point
discrete_point kind name = record { name = name; kind = kind; low = pos 0; high = pos 1; tolerance = pos 0 }

-- `POINT DI name`, `POINT DO name`
abbrev pub discrete : PointKind → List (List ℕ) → Option Point
discrete kind (name ∷ []) = option_map (λ name. discrete_point kind name) (name_of name)
discrete kind words = None

-- An analogue input.
abbrev pub input_point : List ℕ → ℤ → ℤ → ℤ → Point
input_point name low high tolerance = record { name = name; kind = Ai; low = low; high = high; tolerance = tolerance }

-- `POINT AI name low high tolerance`
abbrev pub analogue_input : List (List ℕ) → Option Point
analogue_input (name ∷ low ∷ high ∷ tolerance ∷ []) =
    option_and_then (λ name. option_and_then (λ low. option_and_then (λ high.
    option_map (λ tolerance. input_point name low high tolerance)
    (number_of tolerance)) (number_of high)) (number_of low)) (name_of name)
analogue_input words = None

-- An analogue output, whose tolerance is 0.
abbrev pub output_point : List ℕ → ℤ → ℤ → Point
output_point name low high = record { name = name; kind = Ao; low = low; high = high; tolerance = pos 0 }

-- `POINT AO name low high`
abbrev pub analogue_output : List (List ℕ) → Option Point
analogue_output (name ∷ low ∷ high ∷ []) =
    option_and_then (λ name. option_and_then (λ low.
    option_map (λ high. output_point name low high) (number_of high)) (number_of low)) (name_of name)
analogue_output words = None

-- `POINT` and what stands behind it, by the kind of the point.
abbrev pub point : List (List ℕ) → Option Point
point [] = None
point (kind ∷ words) =
    if bytes_eq kind (codes "DI") then discrete Di words
    else if bytes_eq kind (codes "AI") then analogue_input words
    else if bytes_eq kind (codes "DO") then discrete Do words
    else if bytes_eq kind (codes "AO") then analogue_output words
    else None

-- One number for all legs, or one for each of A, B and C.
abbrev pub triple : List (List ℕ) → Option (Triple ℤ)
triple (v ∷ []) = option_map (λ v. record { a = v; b = v; c = v }) (number_of v)
triple (a ∷ b ∷ c ∷ []) =
    option_and_then (λ a. option_and_then (λ b.
    option_map (λ c. record { a = a; b = b; c = c }) (number_of c)) (number_of b)) (number_of a)
triple words = None

-- `SET point v`, `SET point a b c`
abbrev pub setting : List (List ℕ) → Option Statement
setting [] = None
setting (name ∷ words) = option_and_then (λ name. option_map (λ reads. Set name reads) (triple words)) (name_of name)

-- Words that are all numbers.
abbrev pub numbers_of : List (List ℕ) → Option (List ℤ)
numbers_of [] = Some []
numbers_of (word ∷ words) =
    option_and_then (λ number. option_map (λ numbers. number ∷ numbers) (numbers_of words)) (number_of word)

-- The leg that a word names.
abbrev pub leg_of : List ℕ → Option Leg
leg_of word =
    if bytes_eq word (codes "A") then Some A
    else if bytes_eq word (codes "B") then Some B
    else if bytes_eq word (codes "C") then Some C
    else None

-- The side that a word names.
abbrev pub side_of : List ℕ → Option Side
side_of word =
    if bytes_eq word (codes "LEFT") then Some Left
    else if bytes_eq word (codes "RIGHT") then Some Right
    else None

-- A side where the first word is one, and the numbers that the other words are.
abbrev pub sided : Leg → List ℕ → List (List ℕ) → Option Side → Option (Leg × Option Side × List ℤ)
sided leg word words (Some side) = option_map (λ numbers. (leg, Some side, numbers)) (numbers_of words)
sided leg word words None = option_map (λ numbers. (leg, None, numbers)) (numbers_of (word ∷ words))

-- `[side] words`
abbrev pub sided_leg : Leg → List (List ℕ) → Option (Leg × Option Side × List ℤ)
sided_leg leg [] = Some (leg, None, [])
sided_leg leg (word ∷ words) = sided leg word words (side_of word)

-- `leg [side] words`
abbrev pub sided_of : List (List ℕ) → Option (Leg × Option Side × List ℤ)
sided_of [] = None
sided_of (leg ∷ words) = option_and_then (λ leg. sided_leg leg words) (leg_of leg)

-- `READ leg [side] words`
abbrev pub reading_of : List (List ℕ) → Option Statement
reading_of words = option_map (λ t. Read t.0 t.1 t.2) (sided_of words)

-- `RESULT leg [side] words`
abbrev pub result_of : List (List ℕ) → Option Statement
result_of words = option_map (λ t. Result t.0 t.1 t.2) (sided_of words)

-- `DRIVE leg words`
abbrev pub drive_of : List (List ℕ) → Option Statement
drive_of [] = None
drive_of (leg ∷ words) =
    option_and_then (λ leg. option_map (λ numbers. Drive leg numbers) (numbers_of words)) (leg_of leg)

-- One leg, and nothing behind it.
abbrev pub single_leg : List (List ℕ) → Option Leg
single_leg (leg ∷ []) = leg_of leg
single_leg words = None

-- `POKE leg address value`
abbrev pub poke : List (List ℕ) → Option Statement
poke (leg ∷ address ∷ value ∷ []) =
    option_and_then (λ leg. option_and_then (λ address.
    option_map (λ value. Poke leg address value) (number_of value)) (number_of address)) (leg_of leg)
poke words = None

-- `RENAME old new`
abbrev pub rename : List (List ℕ) → Option Statement
rename (old ∷ new ∷ []) = option_and_then (λ old. option_map (λ new. Rename old new) (name_of new)) (name_of old)
rename words = None

-- The legs that a word's letters are, in their order.
abbrev pub legs_of : List ℕ → Option (List Leg)
legs_of [] = Some []
legs_of (b ∷ word) = option_and_then (λ leg. option_map (λ legs. leg ∷ legs) (legs_of word)) (leg_of (b ∷ []))

-- `SCHEDULE letters`
abbrev pub schedule_of : List (List ℕ) → Option Statement
schedule_of (letters ∷ []) = option_map (λ legs. Schedule legs) (legs_of letters)
schedule_of words = None

-- The value of a hexadecimal digit in either case: its place among the digits.
abbrev pub hex_digit : ℕ → Option ℕ
hex_digit b = position (λ digit. digit == to_ascii_uppercase b) (codes "0123456789ABCDEF")

-- The byte that two hexadecimal digits spell, the high one first.
abbrev pub hex_byte : ℕ → ℕ → Option ℕ
hex_byte high low = option_and_then (λ high. option_map (λ low. 16 * high + low) (hex_digit low)) (hex_digit high)

-- The bytes that hexadecimal digits spell, two for each.
abbrev pub hex_bytes : List ℕ → Option (List ℕ)
hex_bytes [] = Some []
hex_bytes (high ∷ []) = None
hex_bytes (high ∷ low ∷ digits) =
    option_and_then (λ byte. option_map (λ bytes. byte ∷ bytes) (hex_bytes digits)) (hex_byte high low)

-- The most digits of a request.
abbrev pub ask_digits : ℕ
ask_digits = 520

-- `ASK hex`: 2 to 520 hexadecimal digits, an even number of them.
abbrev pub ask : List (List ℕ) → Option Statement
ask (digits ∷ []) =
    if nat_le 2 (length digits) && nat_le (length digits) ask_digits
    then option_map (λ bytes. Ask bytes) (hex_bytes digits)
    else None
ask words = None

-- None: the words behind the keyword haven't the line's shape.
abbrev pub statement_of : Keyword → List (List ℕ) → Option Statement
statement_of Tricon words = heading words
statement_of PointWord words = option_map (λ point. PointLine point) (point words)
statement_of TextWord words = alone Text words
statement_of ScheduleWord words = schedule_of words
statement_of ScansWord words = option_map (λ number. Scans number) (single_number words)
statement_of AtWord words = option_map (λ number. At number) (single_number words)
statement_of SetWord words = setting words
statement_of TimeWord words = option_map (λ reads. Time reads) (triple words)
statement_of DownloadWord words = alone Download words
statement_of MuteWord words = option_map (λ leg. Mute leg) (single_leg words)
statement_of PokeWord words = poke words
statement_of ReplaceWord words = option_map (λ leg. Replace leg) (single_leg words)
statement_of SwapWord words = option_map (λ leg. Swap leg) (single_leg words)
statement_of ReadWord words = reading_of words
statement_of ResultWord words = result_of words
statement_of DriveWord words = drive_of words
statement_of RenameWord words = rename words
statement_of AskWord words = ask words
statement_of EndWord words = alone End words
