-- The first words of a script's lines, and the order of the lines (own rules).
use Rattle.std.specs.Prelude.{ℕ, Bool, true, false, List, Option, Some, None, codes, if◌then◌else◌}
use Rattle.std.specs.Str.{bytes_eq}
use Rattle.script_lines.specs.declared.keyword.Keyword.{Keyword}
use Rattle.script_lines.specs.declared.keyword.Keyword.TheVariants.{Tricon, Point, Text, Schedule, Scans, At, Set, Time, Download, Mute, Poke, Replace, Swap, Read, Result, Drive, Rename, Ask, End}
use Rattle.script_lines.specs.declared.keyword.Part.{Part}
use Rattle.script_lines.specs.declared.keyword.Part.TheVariants.{Nothing, Heading, Plant, Program, Order, Count, Moment, Inside, Ended}

-- The keyword that a line's first word is, capitals alone.
abbrev pub keyword_of : List ℕ → Option Keyword
keyword_of word =
    if bytes_eq word (codes "SET") then Some Set
    else if bytes_eq word (codes "AT") then Some At
    else if bytes_eq word (codes "TRICON") then Some Tricon
    else if bytes_eq word (codes "POINT") then Some Point
    else if bytes_eq word (codes "TEXT") then Some Text
    else if bytes_eq word (codes "SCANS") then Some Scans
    else if bytes_eq word (codes "DOWNLOAD") then Some Download
    else if bytes_eq word (codes "READ") then Some Read
    else if bytes_eq word (codes "TIME") then Some Time
    else if bytes_eq word (codes "SCHEDULE") then Some Schedule
    else if bytes_eq word (codes "MUTE") then Some Mute
    else if bytes_eq word (codes "POKE") then Some Poke
    else if bytes_eq word (codes "REPLACE") then Some Replace
    else if bytes_eq word (codes "SWAP") then Some Swap
    else if bytes_eq word (codes "RESULT") then Some Result
    else if bytes_eq word (codes "DRIVE") then Some Drive
    else if bytes_eq word (codes "RENAME") then Some Rename
    else if bytes_eq word (codes "ASK") then Some Ask
    else if bytes_eq word (codes "END") then Some End
    else None

-- The part of a script that a line stands in, by its keyword.
abbrev pub part_of : Keyword → Part
part_of Tricon = Heading
part_of Point = Plant
part_of Text = Program
part_of Schedule = Order
part_of Scans = Count
part_of At = Moment
part_of Set = Inside
part_of Download = Inside
part_of Read = Inside
part_of Time = Inside
part_of Mute = Inside
part_of Poke = Inside
part_of Replace = Inside
part_of Swap = Inside
part_of Result = Inside
part_of Drive = Inside
part_of Rename = Inside
part_of Ask = Inside
part_of End = Ended

-- Whether a line of the second part may stand behind one of the first, with nothing between them but a block and lines
-- that are passed over.
abbrev pub may_follow : Part → Part → Bool
may_follow Nothing Heading = true
may_follow Heading Plant = true
may_follow Heading Program = true
may_follow Plant Plant = true
may_follow Plant Program = true
may_follow Program Order = true
may_follow Program Count = true
may_follow Order Order = true
may_follow Order Count = true
may_follow Count Moment = true
may_follow Count Ended = true
may_follow Moment Inside = true
may_follow Moment Moment = true
may_follow Moment Ended = true
may_follow Inside Inside = true
may_follow Inside Moment = true
may_follow Inside Ended = true
may_follow last next = false
