-- A run from given words and stores is the only one.
use Rattle.std.proofs.Common.{◌≡◌, ℕ, zero, suc, ◌+◌, ◌-◌, ◌<◌, ℤ, Some, None, List, length, slice_get, arith, sym, ap, ◌∙◌, refl, inl, inr}
use Rattle.std.specs.Option.{option_and_then}
use Rattle.std.proofs.lemmas.Option.{slice_get_past, same_Some, none-some}
use Rattle.std.proofs.lemmas.Bool.{cases_lt}
use Rattle.scan_machine.specs.declared.instructions.Instr.{Instr}
use Rattle.scan_machine.specs.Machine.{State, does, next, after, at_start, at_end}
use Rattle.scan_machine.specs.Laws.{HasOneRun}

-- nothing comes after the end
past_end : (code : List Instr) (dt : ℤ) (n k : ℕ) (s e : State) → after code dt n s ≡ Some e → e.index ≡ length code → after code dt (suc (k + n)) s ≡ None
unfolding after
past_end code dt n zero s e ran is =
    let at : 0 + n ≡ n = omega arith in
    let past : slice_get code e.index ≡ None = slice_get_past code e.index (omega arith) in
    ap (λ m. option_and_then (next code dt) (after code dt m s)) at ∙ (ap (option_and_then (next code dt)) ran
    ∙ ap (option_and_then (λ (instr : Instr). does dt instr e)) past)
past_end code dt n (suc k) s e ran is =
    let at : suc k + n ≡ suc (k + n) = omega arith in
    ap (λ m. option_and_then (next code dt) (after code dt m s)) at ∙ ap (option_and_then (next code dt)) (past_end code dt n k s e ran is)

longer : (code : List Instr) (dt : ℤ) (n m : ℕ) (s e e' : State) → n < m → after code dt n s ≡ Some e → after code dt m s ≡ Some e' → e.index ≡ length code → ⊥
longer code dt n m s e e' less ran ran' is =
    let k = m - n - 1 in
    let at : suc (k + n) ≡ m = omega arith in
    none-some e' (sym (past_end code dt n k s e ran is) ∙ (ap (λ n. after code dt n s) at ∙ ran'))

pub one_run : HasOneRun
one_run code dt before x y ran ran' =
    let s = at_start before in let e = at_end code x in let e' = at_end code y in
    let same : x.count ≡ y.count =
    elim (cases_lt x.count y.count) as (λ _. x.count ≡ y.count) [
      | inl h ↦ absurd (longer code dt x.count y.count s e e' h ran ran' refl)
      | inr h ↦ elim (cases_lt y.count x.count) as (λ _. x.count ≡ y.count) [
        | inl k ↦ absurd (longer code dt y.count x.count s e' e k ran' ran refl)
        | inr k ↦ omega arith
      ]
    ] in
    let is : e ≡ e' = same_Some e e' (sym ran ∙ (ap (λ k. after code dt k s) same ∙ ran')) in
    λ i. record { memory = record { words = (is i).words; stores = (is i).stores }; flag = (is i).flag; count = same i }
