-- What holds of every script, said of its value alone (own rules).
use Rattle.std.specs.Prelude.{◌≡◌, ℕ, ℤ, pos, negsuc, ◌+◌, ◌<◌, ◌≤◌, ◌^◌, Bool, true, false, not, ◌||◌, ◌==◌, nat_lt, List, [], ◌∷◌, ◌++◌, length, flat_map, Some, None, slice_get, codes}
use Rattle.std.specs.List.{list_all}
use Rattle.std.specs.Str.{bytes_eq}
use Rattle.chassis.specs.Points.{refusal_of, place_of, is_input_kind}
use Rattle.tri_base.specs.Bytes.{line_feed}
use Rattle.tri_base.specs.Names.{name_of}
use Rattle.tri_base.specs.declared.leg.Triple.{Triple}
use Rattle.tri_base.specs.declared.point.Point.{Point}
use Rattle.tri_base.specs.declared.point.PointKind.{PointKind}
use Rattle.tri_base.specs.declared.point.PointKind.TheVariants.{Di, Ai, Do, Ao}
use Rattle.script_lines.specs.Lines.{content_of, ended}
use Rattle.script_text.specs.declared.moment.ScanLine.{ScanLine}
use Rattle.script_text.specs.declared.moment.ScanLine.TheVariants.{Set, Time, Download, Mute, Poke, Replace, Swap, Read, Result, Drive}
use Rattle.script_text.specs.declared.moment.Setting.{Setting}
use Rattle.script_text.specs.MomentValue.{MomentValue}
use Rattle.script_text.specs.ScriptValue.{ScriptValue}
use Rattle.script_text.specs.Standing.{all_within, is_time, address_limit}
use Rattle.tri_base.specs.Limits.{scan_limit}

-- A number has at most 18 digits.
abbrev pub IsShort : ℤ → Type 0
IsShort (pos n) = n < 10 ^ 18
IsShort (negsuc n) = n + 1 < 10 ^ 18

-- So have all of some numbers.
abbrev pub AllShort : List ℤ → Type 0
AllShort [] = Unit {0}
AllShort (n ∷ ns) = IsShort n × AllShort ns

-- So have the numbers of all legs.
abbrev pub IsShortTriple : Triple ℤ → Type 0
IsShortTriple t = IsShort t.a × IsShort t.b × IsShort t.c

-- A point's line can say its range and tolerance.
abbrev pub Writable : PointKind → Point → Type 0
Writable Di p = (p.low ≡ pos 0) × (p.high ≡ pos 1) × (p.tolerance ≡ pos 0)
Writable Do p = (p.low ≡ pos 0) × (p.high ≡ pos 1) × (p.tolerance ≡ pos 0)
Writable Ai p = IsShort p.low × IsShort p.high × IsShort p.tolerance
Writable Ao p = IsShort p.low × IsShort p.high × (p.tolerance ≡ pos 0)

-- Each of some points could be added behind those before it, and stands in a line.
abbrev pub IsPlant : List Point → List Point → Type 0
IsPlant before [] = Unit {0}
IsPlant before (p ∷ points) =
    (refusal_of before p ≡ None) × (name_of p.name ≡ Some p.name) × Writable p.kind p
    × IsPlant (before ++ p ∷ []) points

-- Lines of a block have no line feeds, no carriage returns at their ends, and aren't ENDTEXT.
abbrev pub AreBlockLines : List (List ℕ) → Type 0
AreBlockLines [] = Unit {0}
AreBlockLines (line ∷ lines) =
    (list_all (λ b. not (b == line_feed)) line ≡ true) × (content_of line ≡ line)
    × (bytes_eq line (codes "ENDTEXT") ≡ false) × AreBlockLines lines

-- A byte is below 256.
abbrev pub is_byte : ℕ → Bool
is_byte b = nat_lt b 256

-- A text can stand in a block: it is lines, each with its line feed, and all of it is bytes.
abbrev pub IsBlock : List ℕ → Type 0
IsBlock text =
    (lines : List (List ℕ)) × (text ≡ flat_map ended lines) × AreBlockLines lines × (list_all is_byte text ≡ true)

-- A setting is for an input, found by its name, and its readings lie in the input's range.
pub record IsSetting (points : List Point) (setting : Setting) : Type 0 where
  pub point : Point
  pub there : slice_get points setting.point ≡ Some point
  pub named : name_of point.name ≡ Some point.name
  pub place : place_of points point.name ≡ Some setting.point
  pub input : is_input_kind point.kind ≡ true
  pub within : all_within point setting.reads ≡ true
  pub short : IsShortTriple setting.reads

-- Whether a line holds the download.
abbrev pub is_download : ScanLine → Bool
is_download (Download text) = true
is_download line = false

-- Whether a download is among lines, or was before.
abbrev pub downloads : Bool → List ScanLine → Bool
downloads before [] = before
downloads before (line ∷ lines) = downloads (before || is_download line) lines

-- A line may stand in its scan, behind a download or before it.
abbrev pub IsLine : List Point → Bool → ScanLine → Type 0
IsLine points downloaded (Set setting) = IsSetting points setting
IsLine points downloaded (Time reads) = (is_time reads.a ≡ true) × (is_time reads.b ≡ true) × (is_time reads.c ≡ true)
IsLine points downloaded (Download text) = (downloaded ≡ false) × IsBlock text
IsLine points downloaded (Mute leg) = Unit {0}
IsLine points downloaded (Poke leg address value) = (address ≤ address_limit) × IsShort value
IsLine points downloaded (Replace leg) = Unit {0}
IsLine points downloaded (Swap leg text) = IsBlock text
IsLine points downloaded (Read leg side numbers) = AllShort numbers
IsLine points downloaded (Result leg side numbers) = AllShort numbers
IsLine points downloaded (Drive leg numbers) = AllShort numbers

-- Each of some lines may stand behind those before it.
abbrev pub AreLines : List Point → Bool → List ScanLine → Type 0
AreLines points downloaded [] = Unit {0}
AreLines points downloaded (line ∷ lines) =
    IsLine points downloaded line × AreLines points (downloaded || is_download line) lines

-- Pairs of names, in capitals.
abbrev pub AreRenames : List (List ℕ × List ℕ) → Type 0
AreRenames [] = Unit {0}
AreRenames (r ∷ renames) = (name_of r.0 ≡ Some r.0) × (name_of r.1 ≡ Some r.1) × AreRenames renames

-- Renames stand with a download.
abbrev pub HaveDownload : List (List ℕ × List ℕ) → Bool → Type 0
HaveDownload [] downloaded = Unit {0}
HaveDownload (r ∷ renames) downloaded = downloaded ≡ true

-- A request has 1 to 260 bytes.
pub record IsRequest (bytes : List ℕ) : Type 0 where
  pub some : 1 ≤ length bytes
  pub few : length bytes ≤ 260
  pub small : list_all is_byte bytes ≡ true

-- So have all of some requests.
abbrev pub AreRequests : List (List ℕ) → Type 0
AreRequests [] = Unit {0}
AreRequests (ask ∷ asks) = IsRequest ask × AreRequests asks

-- The lines of one scan, whose renames have a download.
pub record IsMoment (points : List Point) (m : MomentValue) : Type 0 where
  pub lines : AreLines points false m.lines
  pub renames : AreRenames m.renames
  pub prepared : HaveDownload m.renames (downloads false m.lines)
  pub asks : AreRequests m.asks

-- The scans of moments rise from above `last`, and are at most `scans`.
abbrev pub AreMoments : List Point → ℕ → ℕ → List MomentValue → Type 0
AreMoments points last scans [] = Unit {0}
AreMoments points last scans (m ∷ moments) =
    (last < m.scan) × (m.scan ≤ scans) × IsMoment points m × AreMoments points m.scan scans moments

-- A value is a script.
pub record IsScript (v : ScriptValue) : Type 0 where
  pub plant : IsPlant [] v.points
  pub text : IsBlock v.text
  pub least : 1 ≤ v.scans
  pub most : v.scans ≤ scan_limit
  pub moments : AreMoments v.points 0 v.scans v.moments
