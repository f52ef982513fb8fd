-- What lines come to: what each line adds to those before it, or why it may not stand behind them (own rules).
use Rattle.std.specs.Prelude.{ℕ, ℤ, pos, negsuc, ◌+◌, Bool, true, false, List, [], ◌∷◌, ◌++◌, Option, Some, None, Result, Ok, Err, slice_get, int_le, nat_le, ◌&&◌, codes, if◌then◌else◌}
use Rattle.std.specs.Str.{bytes_eq}
use Rattle.tri_base.specs.declared.leg.Triple.{Triple}
use Rattle.tri_base.specs.declared.point.Point.{Point}
use Rattle.chassis.specs.declared.points.ChassisFault.{ChassisFault}
use Rattle.chassis.specs.Points.{refusal_of, place_of, is_input_kind}
use Rattle.chassis.specs.Ranges.{is_within}
use Rattle.script_text.specs.declared.fault.ScriptCause.{ScriptCause}
use Rattle.script_text.specs.declared.fault.ScriptCause.TheVariants.{Word, Form, Chassis, Order, Point as PointCause, Range, Second}
use Rattle.tri_base.specs.declared.leg.Leg.{Leg}
use Rattle.script_lines.specs.declared.keyword.Keyword.{Keyword}
use Rattle.script_lines.specs.declared.keyword.Keyword.TheVariants.{Rename as RenameWord}
use Rattle.script_lines.specs.declared.keyword.Part.{Part}
use Rattle.script_lines.specs.declared.keyword.Part.TheVariants.{Nothing, Heading as HeadingPart, Plant, Program as ProgramPart, Order as OrderPart, Count, Moment as MomentPart, Inside, Ended}
use Rattle.script_text.specs.declared.moment.Opener.{Opener}
use Rattle.script_text.specs.declared.moment.Opener.TheVariants.{Program, Download as DownloadBlock, Swap as SwapBlock}
use Rattle.script_text.specs.declared.moment.ScanLine.{ScanLine}
use Rattle.script_text.specs.declared.moment.ScanLine.TheVariants.{Set as SetLine, Time as TimeLine, Download as DownloadLine, Mute as MuteLine, Poke as PokeLine, Replace as ReplaceLine, Swap as SwapLine, Read as ReadLine, Result as ResultLine, Drive as DriveLine}
use Rattle.script_lines.specs.declared.statement.Statement.{Statement}
use Rattle.script_lines.specs.declared.statement.Statement.TheVariants.{Heading, Point as PointLine, Text, Schedule, Scans, At, Set, Time, Download, Mute, Poke, Replace, Swap, Read, Result as ResultWord, Drive, Rename, Ask, End}
use Rattle.script_lines.specs.Order.{keyword_of, part_of, may_follow}
use Rattle.script_lines.specs.Statements.{statement_of, begins_comment}
use Rattle.script_lines.specs.Lines.{ended}
use Rattle.script_lines.specs.Words.{words_of}
use Rattle.script_text.specs.MomentValue.{MomentValue}
use Rattle.tri_base.specs.Limits.{scan_limit, scan_time_limit}

-- What lines come to.
pub record Standing : Type 0 where
  -- how many lines there were
  pub line : ℕ
  -- the part of the last line that wasn't passed over
  pub part : Part
  -- the block that isn't ended yet, and its text so far
  pub opened : Option Opener
  pub block : List ℕ
  pub points : List Point
  -- the text of the program, and the line of the word TEXT
  pub text : List ℕ
  pub text_line : ℕ
  -- the lines of the words SWAP
  pub swap_lines : List ℕ
  pub schedule : List Leg
  pub scans : ℕ
  -- the scan of the last AT line, or 0, and whether a DOWNLOAD stands behind it
  pub last : ℕ
  pub downloaded : Bool
  pub moments : List MomentValue

-- No line comes to this.
abbrev pub beginning : Standing
beginning = record {
  line = 0;
  part = Nothing;
  opened = None;
  block = [];
  points = [];
  text = [];
  text_line = 0;
  swap_lines = [];
  schedule = [];
  scans = 0;
  last = 0;
  downloaded = false;
  moments = [];
}

-- The greatest address of a word.
abbrev pub address_limit : ℕ
address_limit = 4095

-- The last of some moments is changed.
abbrev pub with_last : (MomentValue → MomentValue) → List MomentValue → List MomentValue
with_last change [] = []
with_last change (m ∷ []) = change m ∷ []
with_last change (m ∷ n ∷ moments) = m ∷ with_last change (n ∷ moments)

-- A moment with a line more.
abbrev pub with_line : ScanLine → MomentValue → MomentValue
with_line line m = record m { lines = m.lines ++ line ∷ [] }

-- A moment with a rename more.
abbrev pub with_rename : List ℕ × List ℕ → MomentValue → MomentValue
with_rename names m = record m { renames = m.renames ++ names ∷ [] }

-- A moment with a request more.
abbrev pub with_ask : List ℕ → MomentValue → MomentValue
with_ask bytes m = record m { asks = m.asks ++ bytes ∷ [] }

-- The last moment is changed by a line of the scan.
abbrev pub inside : Standing → (MomentValue → MomentValue) → Standing
inside s change = record s { part = Inside; moments = with_last change s.moments }

-- The scan has a line more.
abbrev pub line_added : Standing → ScanLine → Standing
line_added s line = inside s (with_line line)

-- A block begins.
abbrev pub opening : Standing → Part → Opener → Standing
opening s part opener = record s { part = part; opened = Some opener; block = [] }

-- A number that lies from `low` to `high`.
abbrev pub count_within : ℕ → ℕ → ℤ → Option ℕ
count_within low high (pos n) = if nat_le low n && nat_le n high then Some n else None
count_within low high (negsuc n) = None

-- Whether the readings of all legs lie in their point's range.
abbrev pub all_within : Point → Triple ℤ → Bool
all_within point reads = is_within point reads.a && is_within point reads.b && is_within point reads.c

-- `POINT`: where the chassis may have it.
abbrev pub pointed : Standing → Point → Option ChassisFault → Result Standing ScriptCause
pointed s point None = Ok (record s { part = Plant; points = s.points ++ point ∷ [] })
pointed s point (Some fault) = Err (Chassis fault)

-- `SCANS n`: from 1 to 2,000.
abbrev pub scans_to : Standing → Option ℕ → Result Standing ScriptCause
scans_to s (Some n) = Ok (record s { part = Count; scans = n })
scans_to s None = Err Range

-- The lines of a scan, before there is any.
abbrev pub new_moment : ℕ → MomentValue
new_moment scan = record { scan = scan; lines = []; renames = []; asks = [] }

-- `AT k`: above the scan of the AT before it, and at most the number of scans.
abbrev pub at_scan : Standing → Option ℕ → Result Standing ScriptCause
at_scan s (Some k) =
    Ok (record s { part = MomentPart; last = k; downloaded = false; moments = s.moments ++ new_moment k ∷ [] })
at_scan s None = Err Order

-- `SET`: for an input, with readings in its range.
abbrev pub set_input : Standing → ℕ → Triple ℤ → Option Point → Result Standing ScriptCause
set_input s place reads None = Err PointCause
set_input s place reads (Some point) =
    if is_input_kind point.kind
    then (if all_within point reads
    then Ok (line_added s (SetLine (record { point = place; reads = reads })))
    else Err Range)
    else Err PointCause

-- `SET`: for a point that is there.
abbrev pub set_point : Standing → Triple ℤ → Option ℕ → Result Standing ScriptCause
set_point s reads (Some place) = set_input s place reads (slice_get s.points place)
set_point s reads None = Err PointCause

-- A scan time.
abbrev pub is_time : ℤ → Bool
is_time t = int_le (pos 1) t && int_le t (scan_time_limit)

-- `TIME`: each from 1 to 10,000.
abbrev pub timed : Standing → Triple ℤ → Result Standing ScriptCause
timed s reads =
    if is_time reads.a && is_time reads.b && is_time reads.c then Ok (line_added s (TimeLine reads)) else Err Range

-- `POKE`: at an address from 0 to 4,095.
abbrev pub poked : Standing → Leg → ℤ → Option ℕ → Result Standing ScriptCause
poked s leg value (Some address) = Ok (line_added s (PokeLine leg address value))
poked s leg value None = Err Range

-- `DOWNLOAD`: at most one a scan.
abbrev pub download : Standing → Result Standing ScriptCause
download s = if s.downloaded then Err Second else Ok (opening (record s { downloaded = true }) Inside DownloadBlock)

-- A line of the right shape, by what it says.
abbrev pub stated : Standing → Statement → Result Standing ScriptCause
stated s Heading = Ok (record s { part = HeadingPart })
stated s (PointLine point) = pointed s point (refusal_of s.points point)
stated s Text = Ok (opening (record s { text_line = s.line }) ProgramPart Program)
stated s (Schedule legs) = Ok (record s { part = OrderPart; schedule = s.schedule ++ legs })
stated s (Scans n) = scans_to s (count_within 1 scan_limit n)
stated s (At n) = at_scan s (count_within (s.last + 1) s.scans n)
stated s (Set name reads) = set_point s reads (place_of s.points name)
stated s (Time reads) = timed s reads
stated s Download = download s
stated s (Mute leg) = Ok (line_added s (MuteLine leg))
stated s (Poke leg address value) = poked s leg value (count_within 0 address_limit address)
stated s (Replace leg) = Ok (line_added s (ReplaceLine leg))
stated s (Swap leg) = Ok (opening (record s { swap_lines = s.swap_lines ++ s.line ∷ [] }) Inside (SwapBlock leg))
stated s (Read leg side numbers) = Ok (line_added s (ReadLine leg side numbers))
stated s (ResultWord leg side numbers) = Ok (line_added s (ResultLine leg side numbers))
stated s (Drive leg numbers) = Ok (line_added s (DriveLine leg numbers))
stated s (Rename old new) = Ok (inside s (with_rename (old, new)))
stated s (Ask bytes) = Ok (inside s (with_ask bytes))
stated s End = Ok (record s { part = Ended })

-- A line whose rest hasn't its shape is a fault.
abbrev pub shaped : Standing → Option Statement → Result Standing ScriptCause
shaped s (Some statement) = stated s statement
shaped s None = Err Form

-- A RENAME needs a DOWNLOAD of its scan before it.
abbrev pub is_prepared : Standing → Keyword → Bool
is_prepared s RenameWord = s.downloaded
is_prepared s keyword = true

-- Whether a line with this keyword may stand here.
abbrev pub may_stand : Standing → Keyword → Bool
may_stand s keyword = may_follow s.part (part_of keyword) && is_prepared s keyword

-- A line by its keyword and the words behind it.
abbrev pub worded : Standing → Option Keyword → List (List ℕ) → Result Standing ScriptCause
worded s (Some keyword) words = if may_stand s keyword then shaped s (statement_of keyword words) else Err Word
worded s None words = Err Word

-- A line outside blocks: empty lines and comments are passed over.
abbrev pub outside : Standing → List (List ℕ) → Result Standing ScriptCause
outside s [] = Ok s
outside s (word ∷ words) = if begins_comment word then Ok s else worded s (keyword_of word) words

-- The block stands where its first line says.
abbrev pub closed : Standing → Opener → Standing
closed s Program = record s { opened = None; text = s.block; block = [] }
closed s (SwapBlock leg) =
    record s { opened = None; moments = with_last (with_line (SwapLine leg s.block)) s.moments; block = [] }
closed s DownloadBlock =
    record s { opened = None; moments = with_last (with_line (DownloadLine s.block)) s.moments; block = [] }

-- A line of a block: ENDTEXT ends it, any other is text.
abbrev pub blocked : Standing → Opener → List ℕ → Standing
blocked s opener content =
    if bytes_eq content (codes "ENDTEXT") then closed s opener
    else record s { block = s.block ++ ended content }

-- A line inside a block, or outside.
abbrev pub placed : Standing → Option Opener → List ℕ → Result Standing ScriptCause
placed s (Some opener) content = Ok (blocked s opener content)
placed s None content = outside s (words_of content)

-- The next line's number.
abbrev pub numbered : Standing → Standing
numbered s = record s { line = s.line + 1 }

-- What lines come to with one more, or why that one may not stand behind them.
abbrev pub after : Standing → List ℕ → Result Standing ScriptCause
after s content = placed (numbered s) s.opened content
