-- What holds of all runs.
use Rattle.std.specs.Prelude.{◌≡◌, ◌≢◌, ◌<◌, ◌++◌, ℕ, ℤ, pos, List, None, length, slice_index_or}
use Rattle.std.specs.List.{All, AllPairs}
use Rattle.tri_base.specs.Noted.{number_before}
use Rattle.scan_machine.specs.declared.instructions.Instr.{Instr}
use Rattle.scan_machine.specs.Rules.{IsVerified}
use Rattle.scan_machine.specs.Machine.{Memory, Ran, Runs}

-- from one memory, code has one run at most
abbrev pub HasOneRun : Type 0
HasOneRun =
    (code : List Instr) → (dt : ℤ) → (before : Memory) → (ran ran' : Ran)
    → Runs code dt before ran → Runs code dt before ran' → ran ≡ ran'

-- the stores that were noted between two memories tell what became of the words
pub record NotesStores (before after : Memory) : Type 0 where
  -- the pairs of an address and a number that are new stand behind those from before
  pub new : List (ℕ × ℤ)
  pub added : after.stores ≡ before.stores ++ new
  -- each new address is that of a word
  pub within : All (λ pair. pair.0 < length before.words) new
  -- it wasn't noted before, and no two new ones are equal
  pub unnoted : All (λ pair. number_before pair.0 before.stores ≡ None) new
  pub once : AllPairs (λ pair other. pair.0 ≢ other.0) new
  -- each new number stood at its address before
  pub numbers : All (λ pair. pair.1 ≡ slice_index_or before.words pair.0 (pos 0)) new
  -- a word that isn't noted is as before
  pub others : (address : ℕ) → number_before address after.stores ≡ None
      → slice_index_or after.words address (pos 0) ≡ slice_index_or before.words address (pos 0)

-- each run of verified code notes its stores
abbrev pub HasNotedStores : Type 0
HasNotedStores =
    (code : List Instr) → (dt : ℤ) → (before : Memory) → (ran : Ran)
    → IsVerified code (length before.words) → Runs code dt before ran → NotesStores before ran.memory
