-- A source or a sink counts the failures that it answers, in a u64 that stays at its last value.
use Rattle.std.specs.Prelude.{◌≡◌, ℕ, ◌+◌, ◌-◌, ◌^◌, ◌<◌, ◌≤◌, min, Result, Ok, Err, OnOk, OnErr}

-- The last value of a count, 18,446,744,073,709,551,615.
abbrev pub last_count : ℕ
last_count = 2 ^ 64 - 1

-- The count one failure later.
abbrev pub one_more : ℕ → ℕ
one_more count = min (count + 1) last_count

-- The count after an answer of a source or a sink that counts nothing else.
abbrev pub count_after : {T E : Type 0} → ℕ → Result T E → ℕ
count_after count (Ok x) = count
count_after count (Err e) = one_more count

-- The count rose, unless it stands at its last value.
abbrev pub Rose : ℕ → ℕ → Type 0
Rose before now = now < last_count → before < now

-- The count never falls; it rose where a failure is answered, and stayed where none is.
pub record HasCause {T E : Type 0} (before now : ℕ) (result : Result T E) : Type 0 where
  pub never_falls : before ≤ now
  pub rises : OnErr result (Rose before now)
  pub steady : OnOk result (now ≡ before)
