-- What is taken of a source that is read to its end, and what is put of bytes that are written whole, in all calls.
use Rattle.std.specs.Prelude.{◌≡◌, ℕ, ◌+◌, ◌<◌, ◌≤◌, List, [], ◌++◌, length, take, drop, Option}
use Rattle.tri_io.specs.SingleCalls.{WhereTold}

-- These bytes are all that were left, and nothing is left now.
abbrev pub TakesAll : Option (List ℕ) → Option (List ℕ) → List ℕ → Type 0
TakesAll before after bytes = WhereTold (λ b a. (bytes ≡ b) × (a ≡ [])) before after

-- More bytes than the limit were left, and one more than the limit were taken.
abbrev pub TakesPast : ℕ → Option (List ℕ) → Option (List ℕ) → Type 0
TakesPast limit before after = WhereTold (λ b a. (limit < length b) × (a ≡ drop (limit + 1) b)) before after

-- Some bytes were taken from the front of those that were left, at most so many.
abbrev pub TakesFront : ℕ → Option (List ℕ) → Option (List ℕ) → Type 0
TakesFront limit before after =
    WhereTold (λ b a. (n : ℕ) × (n ≤ limit) × (n ≤ length b) × (a ≡ drop n b)) before after

-- All the bytes were put behind those taken before.
abbrev pub PutsAll : Option (List ℕ) → Option (List ℕ) → List ℕ → Type 0
PutsAll before after bytes = WhereTold (λ b a. a ≡ b ++ bytes) before after

-- Some bytes from the front were put behind those taken before, but not all.
abbrev pub PutsSome : Option (List ℕ) → Option (List ℕ) → List ℕ → Type 0
PutsSome before after bytes = WhereTold (λ b a. (n : ℕ) × (n < length bytes) × (a ≡ b ++ take n bytes)) before after
