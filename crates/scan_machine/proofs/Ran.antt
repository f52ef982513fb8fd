-- The states of a run, one after the other.
use Rattle.std.proofs.Common.{◌≡◌, ℕ, suc, ◌+◌, ◌≤◌, ℤ, false, Some, List, [], ◌∷◌, length, slice_get, arith, sym, subst, ap, ◌∙◌, refl}
use Rattle.std.specs.Option.{option_and_then}
use Rattle.scan_machine.specs.declared.instructions.Instr.{Instr}
use Rattle.scan_machine.specs.declared.verified.CodeRule.TheVariants as rule
use Rattle.scan_machine.specs.Rules.{depth_at, IsVerified}
use Rattle.scan_machine.specs.Inner.FirstFault.{HaveDepths}
use Rattle.scan_machine.specs.Machine.{State, Memory, does, next, after, at_start, Runs}
use Rattle.scan_machine.proofs.Waiting.{depth_bound}

nil_of : (l : List ℤ) → length l ≡ 0 → l ≡ []
nil_of [] e = refl
nil_of (x ∷ l) e = absurd (omega (arith, e))

pub begun : (code : List Instr) (dt : ℤ) (before : Memory) (stack : List ℤ) → stack ≡ []
    → after code dt 0 (at_start before) ≡ Some (record { index = 0; stack = stack; words = before.words; flag = false; stores = before.stores })
unfolding after
begun code dt before stack e =
    ap (λ (l : List ℤ). let s : State = record { index = 0; stack = l; words = before.words; flag = false; stores = before.stores } in Some s) (sym e)

one_more : (code : List Instr) (dt : ℤ) (count : ℕ) (start s s' : State) (instr : Instr) → after code dt count start ≡ Some s → slice_get code s.index ≡ Some instr
    → does dt instr s ≡ Some s' → after code dt (suc count) start ≡ Some s'
unfolding after
one_more code dt count start s s' instr e is h =
    ap (option_and_then (next code dt)) e ∙ (ap (option_and_then (λ (instr : Instr). does dt instr s)) is ∙ h)

pub ran_more : (code : List Instr) (dt : ℤ) (count : ℕ) (start s s' : State) (instr : Instr) → after code dt count start ≡ Some s → slice_get code s.index ≡ Some instr
    → does dt instr s ≡ Some s' → after code dt (count + 1) start ≡ Some s'
ran_more code dt count start s s' instr e is h =
    let n : suc count ≡ count + 1 = omega arith in
    subst (λ n. after code dt n start ≡ Some s') n (one_more code dt count start s s' instr e is h)

module _ (code : List Instr) (total : ℕ) (kept : IsVerified code total) where
  pub held : (at : ℕ) (d : Instr) → at ≤ length code → depth_at code at ≤ 1024
  held at d within =
      let depths : HaveDepths code at = λ k below. (kept k (omega arith) rule.Depth).here in
      depth_bound code at at d depths within (omega arith)

  pub ended : (dt dt' : ℤ) (before : Memory) (count : ℕ) (s : State) → dt' ≡ dt → s.index ≤ length code → length code ≤ s.index
      → length s.stack ≡ depth_at code s.index → after code dt' count (at_start before) ≡ Some s
      → Runs code dt before (record { memory = record { words = s.words; stores = s.stores }; flag = s.flag; count = count })
  ended dt dt' before count s same within over depth ran =
      let e : s.index ≡ length code = omega arith in
      let none : length s.stack ≡ 0 = depth ∙ (ap (depth_at code) e ∙ (kept (length code) (omega arith) rule.Depth).finish refl) in
      ap (λ t. after code t count (at_start before)) (sym same) ∙ (ran
      ∙ (ap (λ (n : ℕ). let t : State = record s { index = n } in Some t) e
      ∙ ap (λ (l : List ℤ). let t : State = record s { index = length code; stack = l } in Some t) (nil_of s.stack none)))
