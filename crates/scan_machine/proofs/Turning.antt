-- A loop's Next and a store at an element, as the code does them.
use Rattle.std.proofs.Common.{◌≡◌, ℕ, ◌+◌, ℤ, pos, ◌+ℤ◌, Bool, true, false, ◌||◌, if◌then◌else◌, List, ◌∷◌, Option, Some, sym, ap, ◌∙◌}
use Rattle.std.specs.Prelude.{slice_index_or, slice_set}
use Rattle.tri_base.specs.Noted.{noted}
use Rattle.function_blocks.specs.declared.kinds.Kind.{Kind}
use Rattle.function_blocks.specs.declared.arithmetic.Computed.{Computed}
use Rattle.scan_machine.specs.declared.instructions.Instr.TheVariants as i
use Rattle.function_blocks.specs.Values.{clamped}
use Rattle.function_blocks.specs.Arithmetic.{bounded}
use Rattle.scan_machine.specs.Elements.{element}
use Rattle.scan_machine.specs.Machine.{is_past}
use Rattle.scan_machine.specs.Machine.{State, onward, store, read, does, stored_at}

past_of : (b : Bool) (step step' last last' sum sum' : ℤ) → b ≡ is_past step' last' sum' → step' ≡ step → last' ≡ last → sum' ≡ sum → b ≡ is_past step last sum
past_of b step step' last last' sum sum' is e f g =
    is ∙ (ap (λ v. is_past v last' sum') e ∙ (ap (λ v. is_past step v sum') f ∙ ap (λ v. is_past step last v) g))

module _ (dt : ℤ) (index : ℕ) (stack words : List ℤ) (flag : Bool) (stores : List (ℕ × ℤ)) (address : ℕ) (kind : Kind) (step last : ℤ) (back : ℕ)
    (b : Bool) (step' last' sum' : ℤ) (is : b ≡ is_past step' last' sum') (e : step' ≡ step) (f : last' ≡ last) (g : sum' ≡ read words address kind +ℤ step) where
  abbrev here : State
  here = record { index = index; stack = stack; words = words; flag = flag; stores = stores }

  pub next_left : b ≡ true → does dt (i.Next address kind step last back) here ≡ Some (record { index = index + 1; stack = stack; words = words; flag = flag; stores = stores })
  next_left past =
      let sum = read words address kind +ℤ step in
      ap (λ (b : Bool). Some (if b then onward here stack else record (store here address sum) { index = back }))
      (sym (past_of b step step' last last' sum sum' is e f g) ∙ past)

  pub next_back : (words' : List ℤ) (stores' : List (ℕ × ℤ)) → b ≡ false → words' ≡ slice_set words address sum' → stores' ≡ noted address (slice_index_or words address (pos 0)) stores
      → does dt (i.Next address kind step last back) here ≡ Some (record { index = back; stack = stack; words = words'; flag = flag; stores = stores' })
  next_back words' stores' go w t =
      let sum = read words address kind +ℤ step in
      ap (λ (b : Bool). Some (if b then onward here stack else record (store here address sum) { index = back }))
      (sym (past_of b step step' last last' sum sum' is e f g) ∙ go)
      ∙ (ap (λ (l : List ℤ). let s : State = record { index = back; stack = stack; words = l; flag = flag; stores = noted address (slice_index_or words address (pos 0)) stores } in Some s)
      (ap (slice_set words address) (sym g) ∙ sym w)
      ∙ ap (λ (l : List (ℕ × ℤ)). let s : State = record { index = back; stack = stack; words = words'; flag = flag; stores = l } in Some s) (sym t))

-- what a store at an element does, whatever the flag and the place were
abbrev pub StoresAt : ℕ → Kind → ℤ → ℤ → List ℤ → List ℤ → List (ℕ × ℤ) → List ℤ → List ℤ → Bool → List (ℕ × ℤ) → Type 0
StoresAt address kind low high stack words stores stack' words' flag stores' =
    (index : ℕ) → (before : Bool)
    → stored_at (record { index = index; stack = stack; words = words; flag = before; stores = stores }) address kind low high stack
    ≡ Some (record { index = index + 1; stack = stack'; words = words'; flag = before || flag; stores = stores' })

-- a store at an element
module _ (address : ℕ) (kind : Kind) (low high : ℤ) (stack mid rest words words' : List ℤ) (stores stores' : List (ℕ × ℤ)) (v x : ℤ) where
  pub stores_at : (v' x' low' high' i' d' : ℤ) (value : ℤ) (index : Computed) (place : ℕ) → stack ≡ v ∷ mid → mid ≡ x ∷ rest
      → v' ≡ v → x' ≡ x → low' ≡ low → high' ≡ high → i' ≡ index.value → d' ≡ value
      → value ≡ clamped kind v' → index ≡ bounded low' high' x' → place ≡ element address low' i'
      → words' ≡ slice_set words place d' → stores' ≡ noted place (slice_index_or words place (pos 0)) stores
      → StoresAt address kind low high stack words stores rest words' index.flag stores'
  stores_at v' x' low' high' i' d' value index place top under ev ex el eh ei ed is_value is_index is_place w t at before =
      let start : List ℤ → State = λ l. record { index = at; stack = l; words = words; flag = before; stores = stores } in
      let bound = bounded low high x in
      let same : index ≡ bound = is_index ∙ (ap (λ z. bounded z high' x') el ∙ (ap (λ z. bounded low z x') eh ∙ ap (λ z. bounded low high z) ex)) in
      let spot : place ≡ element address low bound.value =
      is_place ∙ (ap (λ z. element address z i') el ∙ ap (λ z. element address low z) (ei ∙ ap (λ (c : Computed). c.value) same)) in
      let put : d' ≡ clamped kind v = ed ∙ (is_value ∙ ap (clamped kind) ev) in
      let done : List ℤ → Bool → List (ℕ × ℤ) → Option State =
      λ l f p. let s : State = record { index = at + 1; stack = rest; words = l; flag = f; stores = p } in Some s in
      ap (λ l. stored_at (start l) address kind low high l) (top ∙ ap (λ l. v ∷ l) under)
      ∙ (ap (λ l. done l (before || bound.flag) (noted (element address low bound.value) (slice_index_or words (element address low bound.value) (pos 0)) stores))
      (ap (slice_set words (element address low bound.value)) (sym put) ∙ (ap (λ p. slice_set words p d') (sym spot) ∙ sym w))
      ∙ (ap (λ p. done words' (before || bound.flag) p) (ap (λ p. noted p (slice_index_or words p (pos 0)) stores) (sym spot) ∙ sym t)
      ∙ ap (λ (c : Computed). done words' (before || c.flag) stores') (sym same)))

  -- the same with the machine's flag
  pub stored_element : (dt : ℤ) (at : ℕ) (flag flag' raised : Bool) (low' high' : ℤ) → low' ≡ low → high' ≡ high
      → StoresAt address kind low' high' stack words stores rest words' raised stores' → flag' ≡ flag || raised
      → does dt (i.StoreAt address kind low high) (record { index = at; stack = stack; words = words; flag = flag; stores = stores })
      ≡ Some (record { index = at + 1; stack = rest; words = words'; flag = flag'; stores = stores' })
  stored_element dt at flag flag' raised low' high' el eh h raise =
      let s : State = record { index = at; stack = stack; words = words; flag = flag; stores = stores } in
      ap (λ z. stored_at s address kind z high stack) (sym el) ∙ (ap (λ z. stored_at s address kind low' z stack) (sym eh)
      ∙ (h at flag ∙ ap (λ (f : Bool). let s : State = record { index = at + 1; stack = rest; words = words'; flag = f; stores = stores' } in Some s) (sym raise)))
