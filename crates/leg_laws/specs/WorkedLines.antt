-- Fault lines in their order, worked by hand, to hold the definitions against. Own rule.
use Rattle.std.specs.Prelude.{◌≡◌, ℕ, ℤ, pos, List, [], ◌∷◌, None}
use Rattle.script_text.specs.LegScans.{LegAct, Poke, Replace, Swap}
use Rattle.leg_packet.specs.Sheets.{epoch_limit}
use Rattle.leg_laws.specs.States.{State, Running, Learning}
use Rattle.leg_laws.specs.FaultLines.{acted_all}
use Rattle.leg_laws.specs.ChangePoint.{next_epoch}
use Rattle.leg_laws.specs.WorkedPlays.{programs, text_of}

-- A run of a text of 104 bytes.
abbrev pub run_of : (words : List ℤ) (epoch turn : ℕ) → State
run_of words epoch turn = Running (record { text = text_of 104; words = words; epoch = epoch; turn = turn })

-- What lines make of a run with the words 1, 1, 7, three downloads, and the second window next.
abbrev pub after_lines : List LegAct → State
after_lines acts = acted_all programs (run_of (pos 1 ∷ pos 1 ∷ pos 7 ∷ []) 3 1) acts

-- A POKE past the words changes nothing, and behind a REPLACE there are none. A SWAP undoes a POKE before it, and one
-- behind it pokes the new words. It keeps epoch and turn, but behind a REPLACE they are 0.
pub record LinesInOrder : Type 0 where
  pub poke : after_lines (Poke 2 (pos 99) ∷ []) ≡ run_of (pos 1 ∷ pos 1 ∷ pos 99 ∷ []) 3 1
  pub past : after_lines (Poke 3 (pos 99) ∷ []) ≡ run_of (pos 1 ∷ pos 1 ∷ pos 7 ∷ []) 3 1
  pub no_words : after_lines (Replace ∷ Poke 2 (pos 99) ∷ []) ≡ Learning None
  pub undone : after_lines (Poke 2 (pos 99) ∷ Swap (text_of 104) ∷ []) ≡ run_of (pos 0 ∷ pos 0 ∷ pos 7 ∷ []) 3 1
  pub behind : after_lines (Swap (text_of 104) ∷ Poke 2 (pos 99) ∷ []) ≡ run_of (pos 0 ∷ pos 0 ∷ pos 99 ∷ []) 3 1
  pub anew : after_lines (Replace ∷ Swap (text_of 104) ∷ []) ≡ run_of (pos 0 ∷ pos 0 ∷ pos 7 ∷ []) 0 0
  -- the count of downloads stops at its limit
  pub counted : next_epoch 3 ≡ 4
  pub full : next_epoch epoch_limit ≡ epoch_limit
