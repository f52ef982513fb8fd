-- The rule of a link: what the threads at its box know.
use Rattle.std.specs.Prelude.{◌≡◌, ℕ, Bool, true, List, ◌++◌}
use mathlib.Core.Option.{some}
use lib.ListN.{get_elem?}
use Rattle.tribus.specs.declared.rule.Log.{Log}

module _ {T : Type 0} where
  -- What the holder of a pass may do, and what it did.
  abbrev pub log : (puts takes : Bool) → (sent taken left : List T) → Log T
  log puts takes sent taken left = record { puts = puts; takes = takes; sent = sent; taken = taken; left = left }

  -- One pass at most may put, and it knows what was put; one at most may take, and it knows what was taken.
  abbrev pub Knows : (sender taker : ℕ) → (sent taken left : List T) → ℕ → Log T → Type 0
  Knows sender taker sent taken left port v =
      (v.puts ≡ true → (port ≡ sender) × (v.sent ≡ sent))
      × (v.takes ≡ true → (port ≡ taker) × (v.taken ≡ taken) × (v.left ≡ left))

  -- What was put is what was taken, then what was taken out at the end, then what the box holds.
  abbrev pub KeepsOrder : List T → List (Log T) → Type 0
  KeepsOrder items views =
      (sender : ℕ) × (taker : ℕ) × (sent : List T) × (taken : List T) × (left : List T)
      × (sent ≡ (taken ++ left) ++ items)
      × ((port : ℕ) (v : Log T) → get_elem? views port ≡ some v → Knows sender taker sent taken left port v)
