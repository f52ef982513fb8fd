-- Nobody has to believe what stands here: it serves private functions alone.
-- The instructions that a function of the machine is for.
use Rattle.scan_machine.specs.declared.instructions.Instr.{Instr}
use Rattle.scan_machine.specs.declared.instructions.Instr.TheVariants as i

-- a LoadAt
abbrev pub IsLoadAt : Instr → Type 0
IsLoadAt (i.LoadAt address kind low high) = Unit {0}
IsLoadAt _ = ⊥

-- a StoreAt
abbrev pub IsStoreAt : Instr → Type 0
IsStoreAt (i.StoreAt address kind low high) = Unit {0}
IsStoreAt _ = ⊥

-- a Next
abbrev pub IsNext : Instr → Type 0
IsNext (i.Next address kind step last back) = Unit {0}
IsNext _ = ⊥
