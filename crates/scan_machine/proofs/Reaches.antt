-- The words that an instruction can touch.
use Rattle.std.proofs.Common.{◌≡◌, ℕ, ◌+◌, ◌-◌, ◌<◌, ◌≤◌, ◌↔◌, ℤ, pos, ◌+ℤ◌, ◌-ℤ◌, ◌≤ℤ◌, Bool, true, false, IsTrue, if◌then◌else◌, Option, Some, None, arith, ap, sym, subst, ◌∙◌}
use Rattle.std.specs.Prelude.{unsigned_abs}
use Rattle.std.specs.Int.RustNames.{int_le}
use Rattle.std.proofs.lemmas.Int.{ints, by_lt_z}
use Rattle.scan_machine.specs.declared.instructions.Instr.{Instr}
use Rattle.scan_machine.specs.declared.instructions.Instr.TheVariants as i
use Rattle.scan_machine.specs.Inner.Reaches.{array_reach, reach, store_reach, Lies}
use Rattle.scan_machine.specs.Rules.{Touches, StoresTo, HasWords}
use Rattle.scan_machine.specs.Elements.{IsElement}
use Rattle.scan_machine.proofs.Calling.{fields_some}

-- ---- the relations and the reach

element_lies : (address : ℕ) (low high : ℤ) (word : ℕ) → IsElement address low high word → Lies word (array_reach address low high)
element_lies address low high word (index, from, to, is) =
    let e : int_le low high ≡ true = grind (arith, ints) in
    let near : unsigned_abs (index -ℤ low) ≤ unsigned_abs (high -ℤ low) = omega (arith, ints) in
    subst (λ (b : Bool). Lies word (if b then Some (address, unsigned_abs (high -ℤ low)) else None)) (sym e) (omega arith, omega arith)

lies_element : (address : ℕ) (low high : ℤ) (word : ℕ) → Lies word (array_reach address low high) → IsElement address low high word
lies_element address low high word h =
    by_lt_z high low
    (λ down. let e : int_le low high ≡ false = grind (arith, ints) in
    absurd (subst (λ (b : Bool). Lies word (if b then Some (address, unsigned_abs (high -ℤ low)) else None)) e h))
    (λ up. let e : int_le low high ≡ true = grind (arith, ints) in
    let l = subst (λ (b : Bool). Lies word (if b then Some (address, unsigned_abs (high -ℤ low)) else None)) e h in
    (low +ℤ pos (word - address), omega (arith, ints), omega (arith, ints, l.0, l.1), omega (arith, ints, l.0, l.1)))

pub touches_lies : (instr : Instr) (word : ℕ) → Touches instr word → Lies word (reach instr)
touches_lies (i.Load address kind) word h = (omega arith, omega arith)
touches_lies (i.Store address kind) word h = (omega arith, omega arith)
touches_lies (i.Next address kind step last back) word h = (omega arith, omega arith)
touches_lies (i.LoadAt address kind low high) word h = element_lies address low high word h
touches_lies (i.StoreAt address kind low high) word h = element_lies address low high word h
touches_lies (i.Call kind address) word h = (h.0, omega (arith, h.0, h.1))
touches_lies _ word h = absurd h

pub lies_touches : (instr : Instr) (word : ℕ) → Lies word (reach instr) → Touches instr word
lies_touches (i.Load address kind) word h = omega arith
lies_touches (i.Store address kind) word h = omega arith
lies_touches (i.Next address kind step last back) word h = omega arith
lies_touches (i.LoadAt address kind low high) word h = lies_element address low high word h
lies_touches (i.StoreAt address kind low high) word h = lies_element address low high word h
lies_touches (i.Call kind address) word h = let some = fields_some kind in (h.0, omega (arith, h.0, h.1, some))
lies_touches _ word h = absurd h

pub stores_lies : (instr : Instr) (word : ℕ) → StoresTo instr word → Lies word (store_reach instr)
stores_lies (i.Store address kind) word h = (omega arith, omega arith)
stores_lies (i.Next address kind step last back) word h = (omega arith, omega arith)
stores_lies (i.StoreAt address kind low high) word h = element_lies address low high word h
stores_lies (i.Call kind address) word h = (h.0, omega (arith, h.0, h.1))
stores_lies _ word h = absurd h

pub lies_stores : (instr : Instr) (word : ℕ) → Lies word (store_reach instr) → StoresTo instr word
lies_stores (i.Store address kind) word h = omega arith
lies_stores (i.Next address kind step last back) word h = omega arith
lies_stores (i.StoreAt address kind low high) word h = lies_element address low high word h
lies_stores (i.Call kind address) word h = let some = fields_some kind in (h.0, omega (arith, h.0, h.1, some))
lies_stores _ word h = absurd h

-- ---- all words of a reach are there where its last one is

all_there : (words first more : ℕ) → first + more < words → (word : ℕ) → Lies word (Some (first, more)) → word < words
all_there words first more fits word h = omega arith

last_there : (words first more : ℕ) → ((word : ℕ) → Lies word (Some (first, more)) → word < words) → first + more < words
last_there words first more h = h (first + more) (omega arith, omega arith)

reach_words : (words : ℕ) (instr : Instr) (r : Option (ℕ × ℕ)) → r ≡ reach instr → ((word : ℕ) → Lies word r → word < words) → HasWords words instr
reach_words words instr r is h word t = h word (subst (λ r. Lies word r) (sym is) (touches_lies instr word t))

words_reach : (words : ℕ) (instr : Instr) (r : Option (ℕ × ℕ)) → r ≡ reach instr → HasWords words instr → (word : ℕ) → Lies word r → word < words
words_reach words instr r is h word l = h word (lies_touches instr word (subst (λ r. Lies word r) is l))

pub words_there : (b : Bool) (words first more : ℕ) (instr : Instr) → Some (first, more) ≡ reach instr → (IsTrue b ↔ (first + more < words)) → (IsTrue b ↔ HasWords words instr)
words_there b words first more instr is h = (
  (λ t. reach_words words instr (Some (first, more)) is (all_there words first more (h.0 t))),
  (λ all. h.1 (last_there words first more (words_reach words instr (Some (first, more)) is all))),
)

pub no_words_there : (words : ℕ) (instr : Instr) → None ≡ reach instr → HasWords words instr
no_words_there words instr is = reach_words words instr None is (λ word l. absurd l)

-- the last word of a reach is there
pub reach_there : (words first more : ℕ) (instr : Instr) → reach instr ≡ Some (first, more) → HasWords words instr → first + more < words
reach_there words first more instr is h =
    last_there words first more (words_reach words instr (Some (first, more)) (sym is) h)

pub array_there : (words address : ℕ) (low high : ℤ) (instr : Instr) → low ≤ℤ high → reach instr ≡ array_reach address low high → HasWords words instr
    → address + unsigned_abs (high -ℤ low) < words
array_there words address low high instr up is h =
    let e : int_le low high ≡ true = grind (arith, ints) in
    reach_there words address (unsigned_abs (high -ℤ low)) instr (is ∙ ap (λ (b : Bool). if b then Some (address, unsigned_abs (high -ℤ low)) else None) e) h

-- whether a word is stored to, by the reach
pub stored_to : (b : Bool) (instr : Instr) (word : ℕ) (r : Option (ℕ × ℕ)) → r ≡ store_reach instr → (IsTrue b ↔ Lies word r) → (IsTrue b ↔ StoresTo instr word)
stored_to b instr word r is h =
    ((λ t. lies_stores instr word (subst (λ r. Lies word r) is (h.0 t))), (λ s. h.1 (subst (λ r. Lies word r) (sym is) (stores_lies instr word s))))
