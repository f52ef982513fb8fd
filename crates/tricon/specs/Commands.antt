-- The commands: a table of the words that the program takes. `desk` takes those that need no threads, `station` takes
-- all. Own rule.
use Rattle.std.specs.Prelude.{ℕ, List, [], ◌∷◌, Option, Some, None, map, nat_le, ◌&&◌, if◌then◌else◌, codes}
use Rattle.std.specs.Str.{bytes_eq}
use Rattle.tri_base.specs.Limits.{scan_limit}
use Rattle.tri_base.specs.Numbers.{size_of}
use Rattle.tri_base.specs.Rows.{TextValue}
use Rattle.script_commands.specs.declared.script_command.ScriptCommand.TheVariants.{Single, Step, Play}
use Rattle.script_commands.specs.declared.script_command.SingleCommand.TheVariants.{Solo, SoloSummary, Check}
use Rattle.script_commands.specs.declared.script_command.PlayCommand.{PlayCommand}
use Rattle.script_commands.specs.declared.script_command.PlayCommand.TheVariants.{Report, Summary, Events, Modbus}
use Rattle.tricon.specs.declared.command.Command.{Command}
use Rattle.tricon.specs.declared.command.Command.TheVariants.{Script, Matrix, Make}

-- The bytes of words.
abbrev pub bytes_of : List TextValue → List (List ℕ)
bytes_of words = map (λ (word : TextValue). word.list) words

-- The greatest number of a generated script, which has 32 bits.
abbrev pub number_limit : ℕ
number_limit = 4294967295

-- `solo`, `check`, `step` and `matrix`.
abbrev pub one_word : List ℕ → Option Command
one_word word =
    if bytes_eq word (codes "solo") then Some (Script (Single Solo))
    else if bytes_eq word (codes "check") then Some (Script (Single Check))
    else if bytes_eq word (codes "step") then Some (Script Step)
    else if bytes_eq word (codes "matrix") then Some Matrix
    else None

-- `solo summary`.
abbrev pub two_words : List ℕ → List ℕ → Option Command
two_words word second =
    if bytes_eq word (codes "solo") && bytes_eq second (codes "summary")
    then Some (Script (Single SoloSummary))
    else None

-- A number where it lies from `least` to `most`.
abbrev pub within : (least most : ℕ) → Option ℕ → Option ℕ
within least most None = None
within least most (Some number) = if nat_le least number && nat_le number most then Some number else None

-- The number from `least` to `most` that a word of 1 to 18 decimal digits spells.
abbrev pub number_within : (least most : ℕ) → List ℕ → Option ℕ
number_within least most word = within least most (size_of word)

-- `make` with a number and a number of scans, where both are there.
abbrev pub made_of : Option ℕ → Option ℕ → Option Command
made_of (Some number) (Some scans) = Some (Make number scans)
made_of (Some number) None = None
made_of None scans = None

-- `make`, a number of 32 bits, and 1 to 2,000 scans.
abbrev pub make_of : List ℕ → List ℕ → List ℕ → Option Command
make_of word number scans =
    if bytes_eq word (codes "make")
    then made_of (number_within 0 number_limit number) (number_within 1 scan_limit scans)
    else None

-- The command that words are for `desk`. All other words are none.
abbrev pub command_of : List (List ℕ) → Option Command
command_of [] = None
command_of (word ∷ []) = one_word word
command_of (word ∷ second ∷ []) = two_words word second
command_of (word ∷ number ∷ scans ∷ []) = make_of word number scans
command_of (word ∷ second ∷ third ∷ fourth ∷ more) = None

-- The second word behind `play`.
abbrev pub play_word : List ℕ → Option PlayCommand
play_word word =
    if bytes_eq word (codes "summary") then Some Summary
    else if bytes_eq word (codes "events") then Some Events
    else if bytes_eq word (codes "modbus") then Some Modbus
    else None

-- `play`, `play summary`, `play events` and `play modbus`.
abbrev pub play_of : List (List ℕ) → Option PlayCommand
play_of [] = None
play_of (word ∷ []) = if bytes_eq word (codes "play") then Some Report else None
play_of (word ∷ second ∷ []) = if bytes_eq word (codes "play") then play_word second else None
play_of (word ∷ second ∷ third ∷ more) = None

-- The play that was asked for, or else what the desk is asked.
abbrev pub played_or : Option PlayCommand → Option Command → Option Command
played_or (Some play) other = Some (Script (Play play))
played_or None other = other

-- The command that words are for `station`.
abbrev pub station_command_of : List (List ℕ) → Option Command
station_command_of words = played_or (play_of words) (command_of words)
