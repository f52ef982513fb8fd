-- Nobody has to believe what stands here: it serves private functions alone.
-- What the checker answers of a part of a program, if memory doesn't fail.
use Rattle.std.specs.Prelude.{◌≡◌, List, Option, Result, IfOk}
use Rattle.tri_base.specs.declared.faults.TypeFault.{TypeFault}
use Rattle.tri_base.specs.declared.memory.NoMemory.{NoMemory}
use Rattle.st_tree.specs.Typing.Faults.{first_of}

-- the first of these faults
abbrev pub Finds : List TypeFault → Result (Option TypeFault) NoMemory → Type 0
Finds faults result = IfOk result (λ found. found ≡ first_of faults)
