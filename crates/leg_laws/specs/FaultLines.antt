-- The fault lines on a leg's state: POKE, REPLACE and SWAP. Own rule.
use Rattle.std.specs.Prelude.{ℕ, ℤ, List, None, slice_set}
use Rattle.std.specs.List.{fold}
use Rattle.engine_face.specs.Meaning.{Meaning}
use Rattle.script_text.specs.LegScans.{LegAct, Poke, Replace, Swap}
use Rattle.leg_laws.specs.States.{State, Running, Learning}

-- A word of a leg that runs is set, where it has a word there. A leg that learns has no words.
abbrev pub poked : (address : ℕ) (value : ℤ) → State → State
poked address value (Running run) = Running (record run { words = slice_set run.words address value })
poked address value (Learning lesson) = Learning lesson

-- A leg runs another text, with its first words. One that runs keeps its epoch and turn, one that learns gets 0 and 0.
abbrev pub swapped : Meaning → (text : List ℕ) → State → State
swapped m text (Running run) =
    Running (record { text = text; words = m.first text; epoch = run.epoch; turn = run.turn })
swapped m text (Learning lesson) = Running (record { text = text; words = m.first text; epoch = 0; turn = 0 })

-- One line. After REPLACE a leg learns, and has no windows.
abbrev pub acted : Meaning → State → LegAct → State
acted m state (Poke address value) = poked address value state
acted m state Replace = Learning None
acted m state (Swap text) = swapped m text state

-- The lines of a scan, one after the other.
unfoldable pub acted_all : Meaning → State → List LegAct → State
acted_all m state acts = fold (acted m) state acts
