-- Nobody has to believe what stands here: it serves private functions alone.
-- The operands that wait, as they stand at their places.
use Rattle.std.specs.Prelude.{◌≡◌, ℕ, zero, suc, ℤ, pos, Bool, List, [], ◌∷◌, Option, None, Some, length, slice_index_or}
use Rattle.std.specs.List.{All}
use Rattle.tri_base.specs.Noted.{TouchedValue}
use Rattle.function_blocks.specs.Values.{IsOperand}
use Rattle.scan_machine.specs.declared.instructions.Instr.{Instr}
use Rattle.scan_machine.specs.Machine.{State, operate}

-- the places of the operands: so many, with numbers in the range of a constant
pub record ArePlaces (places : List ℤ) : Type 0 where
  pub count : length places ≡ 1024
  pub operands : All IsOperand places

-- so many operands wait, the last one first
unfoldable pub waiting : List ℤ → ℕ → List ℤ
waiting places zero = []
waiting places (suc n) = slice_index_or places n (pos 0) ∷ waiting places n

-- where the machine stands, of what its functions work on
abbrev pub here : ℕ → List ℤ → ℕ → List ℤ → Bool → TouchedValue → State
here index places depth words flag touched =
    record { index = index; stack = waiting places depth; words = words; flag = flag; stores = touched.pairs }

-- the instruction that comes next: the one behind, or the one that is jumped to
abbrev pub landed : ℕ → Option ℕ → ℕ
landed behind None = behind
landed behind (Some target) = target

-- an instruction that works on operands alone leaves such places, and says whether a number was clamped
abbrev pub Operates : Instr → List ℤ → ℕ → List ℤ → ℕ → Bool → Type 0
Operates instr places depth places' depth' flag =
    operate instr (waiting places depth) ≡ Some (record { stack = waiting places' depth'; flag = flag })
