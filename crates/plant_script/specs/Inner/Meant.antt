-- Nobody has to believe what stands here: it serves private functions alone.
-- Which refusals tell of memory alone.
use Rattle.std.specs.Prelude.{Bool, true, false}
use Rattle.engine_face.specs.declared.refusal.Refusal.{Refusal}
use Rattle.engine_face.specs.declared.refusal.Refusal.TheVariants.{NoMemory}

-- The refusal is want of memory.
abbrev pub is_no_memory : Refusal → Bool
is_no_memory NoMemory = true
is_no_memory refusal = false
