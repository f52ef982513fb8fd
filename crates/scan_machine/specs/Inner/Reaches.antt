-- Nobody has to believe what stands here: it serves private functions alone.
-- The words that an instruction can touch, as the first one and how many more.
use Rattle.std.specs.Prelude.{ℕ, ◌+◌, ◌-◌, ◌≤◌, ℤ, ◌-ℤ◌, Option, None, Some, unsigned_abs, if◌then◌else◌}
use Rattle.std.specs.Int.RustNames.{int_le}
use Rattle.scan_machine.specs.declared.instructions.Instr.{Instr}
use Rattle.scan_machine.specs.declared.instructions.Instr.TheVariants as i
use Rattle.function_blocks.specs.Fields.{field_count}

-- the words from the first to the last index of an array, where there are any
abbrev pub array_reach : ℕ → ℤ → ℤ → Option (ℕ × ℕ)
array_reach address low high = if int_le low high then Some (address, unsigned_abs (high -ℤ low)) else None

-- the first word that an instruction can touch, and how many more it can touch behind it
abbrev pub reach : Instr → Option (ℕ × ℕ)
reach (i.Load address kind) = Some (address, 0)
reach (i.Store address kind) = Some (address, 0)
reach (i.LoadAt address kind low high) = array_reach address low high
reach (i.StoreAt address kind low high) = array_reach address low high
reach (i.Next address kind step last back) = Some (address, 0)
reach (i.Call kind address) = Some (address, field_count kind - 1)
reach _ = None

-- the same of the words that it can store to
abbrev pub store_reach : Instr → Option (ℕ × ℕ)
store_reach (i.Store address kind) = Some (address, 0)
store_reach (i.StoreAt address kind low high) = array_reach address low high
store_reach (i.Next address kind step last back) = Some (address, 0)
store_reach (i.Call kind address) = Some (address, field_count kind - 1)
store_reach _ = None

-- a word lies in a reach
abbrev pub Lies : ℕ → Option (ℕ × ℕ) → Type 0
Lies word None = ⊥
Lies word (Some r) = (r.0 ≤ word) × (word ≤ r.0 + r.1)
