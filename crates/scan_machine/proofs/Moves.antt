-- What one instruction leaves as it was, and where it leads.
use Rattle.std.proofs.Common.{◌≡◌, ℕ, ◌+◌, ◌-◌, ◌<◌, ◌≤◌, ◌⊎◌, ℤ, pos, ◌+ℤ◌, ◌≤ℤ◌, Bool, true, false, ◌||◌, if◌then◌else◌, Option, Some, None, List, [], ◌∷◌, ◌++◌, length, take, drop, get_or, arith, sym, subst, ap, ◌∙◌, refl, inl, inr, length-take}
use Rattle.std.specs.Prelude.{slice_index_or, slice_set}
use Rattle.std.proofs.lemmas.Int.{ints, clamps}
use Rattle.std.proofs.lemmas.Bool.{cases_lt}
use Rattle.std.proofs.lemmas.List.{get_or-set_other, get_or-drop, get_or-take}
use Rattle.std.proofs.Math.Seq.{get_or-append_right}
use Rattle.std.proofs.Math.ListN.{get_or-append}
use Rattle.std.proofs.lemmas.Option.{same_Some, none-some}
use Rattle.function_blocks.specs.declared.kinds.Kind.{Kind}
use Rattle.function_blocks.specs.declared.blocks.BlockKind.{BlockKind}
use Rattle.scan_machine.specs.declared.instructions.Instr.{Instr}
use Rattle.scan_machine.specs.declared.instructions.Instr.TheVariants as i
use Rattle.function_blocks.specs.Values.{is_on, clamped}
use Rattle.function_blocks.specs.Fields.{field_count}
use Rattle.function_blocks.specs.Blocks.{step_block}
use Rattle.function_blocks.specs.Arithmetic.{bounded}
use Rattle.scan_machine.specs.Elements.{element, IsElement}
use Rattle.scan_machine.specs.Machine.{is_past}
use Rattle.scan_machine.specs.Rules.{HasWords, HasConstants, StoresTo}
use Rattle.scan_machine.specs.Machine.{State, Operated, onward, store, operated, operate, load_at, stored, stored_at, chosen, called, read, with_words, words_at, does}
use Rattle.scan_machine.proofs.Calling.{length-step_block, fields_some}
use Rattle.scan_machine.proofs.Reaches.{reach_there}
use Rattle.scan_machine.proofs.Turns.{Unchanged}

-- where an instruction leads, and that it leaves all words that it can't store to
abbrev pub Leads : Instr → State → State → Type 0
Leads (i.Jump target) s s' = s'.index ≡ target
Leads (i.JumpFalse target) s s' = (s'.index ≡ s.index + 1) ⊎ (s'.index ≡ target)
Leads (i.Next address kind step last back) s s' =
    (s'.index ≡ s.index + 1) ⊎ ((s'.index ≡ back) × (is_past step last (read s.words address kind +ℤ step) ≡ false) × (s'.words ≡ slice_set s.words address (read s.words address kind +ℤ step)))
Leads _ s s' = s'.index ≡ s.index + 1

pub record Went (instr : Instr) (s s' : State) : Type 0 where
  pub leads : Leads instr s s'
  pub same : Unchanged s.words s'.words instr

-- ---- a store leaves the others

pub set_other : (words : List ℤ) (address word : ℕ) (v : ℤ) → (address ≡ word → ⊥) → slice_index_or (slice_set words address v) word (pos 0) ≡ slice_index_or words word (pos 0)
set_other words address word v differ = get_or-set_other words address word v (pos 0) (λ e. differ (sym e))

other_word : (address word : ℕ) → (word ≡ address → ⊥) → address ≡ word → ⊥
other_word address word apart e = apart (sym e)

pub within_bounds : (address : ℕ) (low high x : ℤ) → low ≤ℤ high → IsElement address low high (element address low (bounded low high x).value)
within_bounds address low high x up = ((bounded low high x).value, omega (arith, ints, clamps), omega (arith, ints, clamps), refl)

pub words_other : (words new : List ℤ) (address word : ℕ) → address + length new ≤ length words → (word < address) ⊎ (address + length new ≤ word)
    → slice_index_or (with_words words address new) word (pos 0) ≡ slice_index_or words word (pos 0)
words_other words new address word within (inl below) =
    let there : length (take address words) ≡ address = omega (arith, length-take address words) in
    get_or-append (take address words) (new ++ drop (length new) (drop address words)) (pos 0) word (omega arith) ∙ get_or-take address words word (pos 0) below
words_other words new address word within (inr above) =
    let there : length (take address words) ≡ address = omega (arith, length-take address words) in
    let left = word - address - length new in
    let e : word - length (take address words) ≡ word - address = ap (λ n. word - n) there in
    let f : address + (length new + left) ≡ word = omega arith in
    get_or-append_right (take address words) (new ++ drop (length new) (drop address words)) word (pos 0) (omega arith)
    ∙ (ap (λ n. get_or (new ++ drop (length new) (drop address words)) n (pos 0)) e
    ∙ (get_or-append_right new (drop (length new) (drop address words)) (word - address) (pos 0) (omega arith)
    ∙ (get_or-drop (length new) (drop address words) left (pos 0)
    ∙ (get_or-drop address words (length new + left) (pos 0)
    ∙ ap (λ n. get_or words n (pos 0)) f))))

-- ---- each instruction

moved : (instr : Instr) (s t s' : State) → Some t ≡ Some s' → Went instr s t → Went instr s s'
moved instr s t s' e h = subst (λ z. Went instr s z) (same_Some t s' e) h

went_operated : (s s' : State) (o : Option Operated) → operated s o ≡ Some s' → (s'.index ≡ s.index + 1) × (s'.words ≡ s.words)
went_operated s s' None e = absurd (none-some s' e)
went_operated s s' (Some l) e =
    let t : State = record (onward s l.stack) { flag = s.flag || l.flag } in
    let is : t ≡ s' = same_Some t s' e in
    (sym (ap (λ (z : State). z.index) is), sym (ap (λ (z : State). z.words) is))

went_stored : (s s' : State) (address : ℕ) (kind : Kind) (stack : List ℤ) → stored s address kind stack ≡ Some s' → Went (i.Store address kind) s s'
went_stored s s' address kind [] e = absurd (none-some s' e)
went_stored s s' address kind (x ∷ below) e =
    moved (i.Store address kind) s (store (onward s below) address (clamped kind x)) s' e
    (record { leads = refl; same = λ word apart. set_other s.words address word (clamped kind x) (other_word address word apart) })

went_stored_at : (s s' : State) (address : ℕ) (kind : Kind) (low high : ℤ) (stack : List ℤ) → low ≤ℤ high → stored_at s address kind low high stack ≡ Some s'
    → Went (i.StoreAt address kind low high) s s'
went_stored_at s s' address kind low high [] up e = absurd (none-some s' e)
went_stored_at s s' address kind low high (v ∷ []) up e = absurd (none-some s' e)
went_stored_at s s' address kind low high (v ∷ x ∷ below) up e =
    let index = bounded low high x in let place = element address low index.value in
    moved (i.StoreAt address kind low high) s (record (store (onward s below) place (clamped kind v)) { flag = s.flag || index.flag }) s' e
    (record {
      leads = refl;
      same = λ word apart. set_other s.words place word (clamped kind v)
          (λ e. apart (subst (λ w. IsElement address low high w) e (within_bounds address low high x up)));
    })

either : (b : Bool) (m n : ℕ) → ((if b then m else n) ≡ m) ⊎ ((if b then m else n) ≡ n)
either true m n = inl refl
either false m n = inr refl

went_chosen : (s s' : State) (target : ℕ) (stack : List ℤ) → chosen s target stack ≡ Some s' → Went (i.JumpFalse target) s s'
went_chosen s s' target [] e = absurd (none-some s' e)
went_chosen s s' target (x ∷ below) e =
    moved (i.JumpFalse target) s (record s { index = if is_on x then s.index + 1 else target; stack = below }) s' e
    (record { leads = either (is_on x) (s.index + 1) target; same = λ word apart. refl })

module _ (s s' : State) (address : ℕ) (kind : Kind) (step last : ℤ) (back : ℕ) where
  abbrev sum : ℤ
  sum = read s.words address kind +ℤ step

  went_turned : (b : Bool) → is_past step last sum ≡ b → Some (if b then onward s s.stack else record (store s address sum) { index = back }) ≡ Some s'
      → Went (i.Next address kind step last back) s s'
  went_turned true is e = moved (i.Next address kind step last back) s (onward s s.stack) s' e (record { leads = inl refl; same = λ word apart. refl })
  went_turned false is e =
      moved (i.Next address kind step last back) s (record (store s address sum) { index = back }) s' e
      (record { leads = inr (refl, is, refl); same = λ word apart. set_other s.words address word sum (other_word address word apart) })

went_called : (s s' : State) (kind : BlockKind) (address : ℕ) (dt : ℤ) → HasWords (length s.words) (i.Call kind address) → Some (called s kind address dt) ≡ Some s'
    → Went (i.Call kind address) s s'
went_called s s' kind address dt there e =
    let new = step_block kind dt (words_at s.words address (field_count kind)) in
    let size = length-step_block kind dt (words_at s.words address (field_count kind)) in
    let some = fields_some kind in
    let within = reach_there (length s.words) address (field_count kind - 1) (i.Call kind address) refl there in
    let aside : (word : ℕ) → (StoresTo (i.Call kind address) word → ⊥) → (word < address) ⊎ (address + length new ≤ word) =
    λ word apart. elim (cases_lt word address) as (λ _. (word < address) ⊎ (address + length new ≤ word)) [
      | inl h ↦ inl h
      | inr h ↦ elim (cases_lt word (address + length new)) as (λ _. (word < address) ⊎ (address + length new ≤ word)) [
        | inl k ↦ absurd (apart (h, omega arith))
        | inr k ↦ inr k
      ]
    ] in
    moved (i.Call kind address) s (called s kind address dt) s' e
    (record { leads = refl; same = λ word apart. words_other s.words new address word (omega arith) (aside word apart) })

pub went : (dt : ℤ) (instr : Instr) (s s' : State) → HasWords (length s.words) instr → HasConstants instr → does dt instr s ≡ Some s' → Went instr s s'
went dt (i.Push v) s s' w c e = moved (i.Push v) s (onward s (v ∷ s.stack)) s' e (record { leads = refl; same = λ word apart. refl })
went dt (i.Load address kind) s s' w c e =
    moved (i.Load address kind) s (onward s (read s.words address kind ∷ s.stack)) s' e (record { leads = refl; same = λ word apart. refl })
went dt (i.Store address kind) s s' w c e = went_stored s s' address kind s.stack e
went dt (i.LoadAt address kind low high) s s' w c e =
    let r = went_operated s s' (load_at s.words address kind low high s.stack) e in
    record { leads = r.0; same = λ word apart. ap (λ l. slice_index_or l word (pos 0)) r.1 }
went dt (i.StoreAt address kind low high) s s' w c e = went_stored_at s s' address kind low high s.stack c.0 e
went dt (i.Jump target) s s' w c e = moved (i.Jump target) s (record s { index = target }) s' e (record { leads = refl; same = λ word apart. refl })
went dt (i.JumpFalse target) s s' w c e = went_chosen s s' target s.stack e
went dt (i.Next address kind step last back) s s' w c e =
    went_turned s s' address kind step last back (is_past step last (read s.words address kind +ℤ step)) refl e
went dt (i.Call kind address) s s' w c e = went_called s s' kind address dt w e
went dt instr s s' w c e =
    let r = went_operated s s' (operate instr s.stack) e in
    record { leads = r.0; same = λ word apart. ap (λ l. slice_index_or l word (pos 0)) r.1 }
