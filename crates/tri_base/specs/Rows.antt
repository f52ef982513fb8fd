-- What a caller sees of a list with room: what is in it, and for how much more there is room.
use Rattle.std.specs.Prelude.{ℕ, ℤ, ◌+◌, ◌≤◌, List, length}

-- What is in it, in order, and how many more it takes without asking for memory.
pub record Row (T : Type 0) : Type 0 where
  pub list : List T
  pub spare : ℕ

-- Whole numbers of 64 bits with room.
abbrev pub WordsValue : Type 0
WordsValue = Row ℤ

-- Bytes with room.
abbrev pub TextValue : Type 0
TextValue = Row ℕ

-- A list takes so many once it is emptied.
abbrev pub HasRoom : {T : Type 0} → ℕ → Row T → Type 0
HasRoom count row = count ≤ row.spare + length row.list

-- What is in a list and its room are together no less than they were.
abbrev pub KeepsRoom : {T : Type 0} → Row T → Row T → Type 0
KeepsRoom old new = old.spare + length old.list ≤ new.spare + length new.list
