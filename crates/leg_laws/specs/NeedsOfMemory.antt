-- At which needs a leg may find no memory: where it builds a program. Own rule.
use Rattle.std.specs.Prelude.{ℤ, Bool, true, false, ◌||◌, List, is_some}
use Rattle.std.specs.List.{list_any}
use Rattle.re_education.specs.Learning.{does_end, learn_of}
use Rattle.script_text.specs.LegScans.{LegAct, LegScan, Poke, Replace, Swap}
use Rattle.leg_laws.specs.States.{State, Running, Learning}
use Rattle.leg_laws.specs.Configs.{Config, PutLeftReadings, TakeRightResult, Starved}

-- Whether a line is a SWAP.
abbrev pub is_swap : LegAct → Bool
is_swap (Poke address value) = false
is_swap Replace = false
is_swap (Swap text) = true

-- Whether a scan has a download or a SWAP for the leg.
abbrev pub builds_program : LegScan → Bool
builds_program l = is_some l.download || list_any is_swap l.acts

-- A put may find no memory at the start of such a scan, or where none was found before.
abbrev pub put_builds : LegScan → Config → Bool
put_builds l (PutLeftReadings state) = builds_program l
put_builds l (Starved place) = true
put_builds l config = false

-- Whether a leg that learns comes to its last window.
abbrev pub ends_learning : State → (left right : List ℤ) → Bool
ends_learning (Running run) left right = false
ends_learning (Learning lesson) left right = does_end (learn_of lesson left right)

-- A take may find no memory where a leg comes to its last window, or where none was found before.
abbrev pub take_builds : (packet : List ℤ) → Config → Bool
take_builds packet (TakeRightResult half left) = ends_learning half.state left packet
take_builds packet (Starved place) = true
take_builds packet config = false
