-- Nobody has to believe what stands here: it serves the implementation of a trait alone.
-- Where the machine stands once its run has ended.
use Rattle.std.proofs.Common.{◌≡◌, ℕ, zero, suc, ◌+◌, ◌-◌, ◌≤◌, nat_lt, ℤ, Bool, true, false, Some, None, List, length, slice_get, unwrap_or, arith, refl, sym, ap, ◌∙◌}
use Rattle.std.specs.Option.{option_and_then}
use Rattle.std.proofs.lemmas.Bool.{ltb-true, ltb-false}
use Rattle.std.proofs.lemmas.Option.{slice_get_past, same_Some}
use Rattle.scan_machine.specs.declared.instructions.Instr.{Instr}
use Rattle.scan_machine.specs.Machine.{State, does, next, after}
use Rattle.st_build.specs.Running.{stands}

-- nothing comes after the end
past_end : (code : List Instr) (dt : ℤ) (n k : ℕ) (s e : State) → after code dt n s ≡ Some e → e.index ≡ length code → after code dt (suc (k + n)) s ≡ None
unfolding after
past_end code dt n zero s e ran is =
    let at : 0 + n ≡ n = omega arith in
    let past : slice_get code e.index ≡ None = slice_get_past code e.index (omega (arith, is)) in
    ap (λ m. option_and_then (next code dt) (after code dt m s)) at ∙ (ap (option_and_then (next code dt)) ran
    ∙ ap (option_and_then (λ (instr : Instr). does dt instr e)) past)
past_end code dt n (suc k) s e ran is =
    let at : suc k + n ≡ suc (k + n) = omega arith in
    ap (λ m. option_and_then (next code dt) (after code dt m s)) at ∙ ap (option_and_then (next code dt)) (past_end code dt n k s e ran is)

pub stands_there : (code : List Instr) (dt : ℤ) (n k : ℕ) (s e : State) → k ≤ n → after code dt k s ≡ Some e → e.index ≡ length code → stands code dt n s ≡ e
unfolding stands after
stands_there code dt zero zero s e few ran is = same_Some s e ran
stands_there code dt zero (suc k) s e few ran is = absurd (omega (arith, few))
stands_there code dt (suc n) k s e few ran is = by (nat_lt n k) refl (λ within. stands_there code dt n k s e within ran is)
  where
    by : (b : Bool) → nat_lt n k ≡ b → (k ≤ n → stands code dt n s ≡ e) → unwrap_or (after code dt (suc n) s) (stands code dt n s) ≡ e
    by true h earlier =
        let less = ltb-true n k h in
        let same : k ≡ suc n = omega (arith, few, less) in
        ap (λ o. unwrap_or o (stands code dt n s)) (ap (λ m. after code dt m s) (sym same) ∙ ran)
    by false h earlier =
        let within = ltb-false n k h in
        let at : suc ((n - k) + k) ≡ suc n = omega (arith, within) in
        let none = ap (λ m. after code dt m s) (sym at) ∙ past_end code dt k (n - k) s e ran is in
        ap (λ o. unwrap_or o (stands code dt n s)) none ∙ earlier within
