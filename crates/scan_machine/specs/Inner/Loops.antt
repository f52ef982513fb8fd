-- Nobody has to believe what stands here: it serves private functions alone.
-- The rule Loop as it is asked of one Next: only of the instructions from `back` on.
use Rattle.std.specs.Prelude.{◌≡◌, ℕ, ◌<◌, ◌≤◌, List, Some, slice_get}
use Rattle.scan_machine.specs.declared.instructions.Instr.{Instr}
use Rattle.scan_machine.specs.declared.instructions.Instr.TheVariants as i
use Rattle.scan_machine.specs.Rules.{StoresTo}

-- a Next goes back no further than to `back`
abbrev pub StartsFrom : ℕ → Instr → Type 0
StartsFrom back (i.Next address kind step last start) = back ≤ start
StartsFrom back _ = Unit {0}

-- from `back` on no instruction before the place stores to the word or goes back further
abbrev pub IsAlone : List Instr → ℕ → ℕ → ℕ → Type 0
IsAlone code address back place =
    (at : ℕ) → (instr : Instr) → back ≤ at → at < place → slice_get code at ≡ Some instr
    → (StoresTo instr address → ⊥) × StartsFrom back instr
