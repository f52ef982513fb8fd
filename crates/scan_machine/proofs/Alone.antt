-- The rule on loops, as it is asked of one Next.
use Rattle.std.proofs.Common.{◌≡◌, ℕ, ◌+◌, ◌<◌, ◌≤◌, ◌↔◌, ℤ, Bool, IsTrue, Some, IfSome, List, length, get_or, slice_get, arith, sym, subst, inl, inr, refl}
use Rattle.std.proofs.lemmas.Option.{get_or_from_slice_get, slice_get-get_or}
use Rattle.std.proofs.lemmas.Bool.{cases_lt}
use borrow.Author.Count.{below_more}
use Rattle.function_blocks.specs.declared.kinds.Kind.{Kind}
use Rattle.scan_machine.specs.declared.instructions.Instr.{Instr}
use Rattle.scan_machine.specs.declared.instructions.Instr.TheVariants as i
use Rattle.scan_machine.specs.Rules.{HasTarget, HasLoop, Nest, NestsWith, StoresTo}
use Rattle.scan_machine.specs.Inner.Loops.{StartsFrom, IsAlone}
use Rattle.scan_machine.specs.Inner.FirstFault.{HaveTargets}

-- one more instruction that leaves the loop alone
pub alone_more : (code : List Instr) (address back at : ℕ) (d : Instr) → IsAlone code address back at
    → (StoresTo (get_or code at d) address → ⊥) → StartsFrom back (get_or code at d) → IsAlone code address back (at + 1)
alone_more code address back at d before stores starts k instr from below is =
    let P : ℕ → Type 0 = λ k. (instr : Instr) → back ≤ k → slice_get code k ≡ Some instr → (StoresTo instr address → ⊥) × StartsFrom back instr in
    let here : P at = λ instr from is.
    subst (λ instr. (StoresTo instr address → ⊥) × StartsFrom back instr) (get_or_from_slice_get code at instr d is) (stores, starts) in
    below_more P at (λ k below instr from is. before k instr from below is) here k below instr from is

-- the loop of an earlier Next
nests : (back place at : ℕ) (instr : Instr) → at < place → (back ≤ at → StartsFrom back instr) → NestsWith back place at instr
nests back place at (i.Next address kind step last start) below starts =
    let P : Type 0 = Nest start at back place in
    let within : back ≤ at → P = λ h. inr (inr (inr (starts h, omega arith))) in
    elim (cases_lt at back) as (λ _. P) [ inl h ↦ inl h | inr h ↦ within h ]
nests back place at _ below starts = tt

pub starts_from : (count back place at : ℕ) (instr : Instr) → at < place → back ≤ at → HasTarget count at instr → NestsWith back place at instr → StartsFrom back instr
starts_from count back place at (i.Next address kind step last start) below from target (inl h) = absurd (omega arith)
starts_from count back place at (i.Next address kind step last start) below from target (inr (inl h)) = absurd (omega arith)
starts_from count back place at (i.Next address kind step last start) below from target (inr (inr (inl h))) = absurd (omega arith)
starts_from count back place at (i.Next address kind step last start) below from target (inr (inr (inr h))) = h.0
starts_from count back place at _ below from target nest = tt

module _ (code : List Instr) (place address : ℕ) (kind : Kind) (step last : ℤ) (back : ℕ) where
  loop_from_alone : IsAlone code address back place → HasLoop code place (i.Next address kind step last back)
  loop_from_alone alone at instr below is =
      ((λ from. (alone at instr from below is).0), nests back place at instr below (λ from. (alone at instr from below is).1))

  alone_from_loop : HaveTargets code place → HasLoop code place (i.Next address kind step last back) → IsAlone code address back place
  alone_from_loop targets loop at instr from below is =
      let target : HasTarget (length code) at instr = subst (λ o. IfSome o (HasTarget (length code) at)) is (targets at below) in
      ((loop at instr below is).0 from, starts_from (length code) back place at instr below from target (loop at instr below is).1)

  pub loop_alone : (b : Bool) (d : Instr) → place < length code → get_or code place d ≡ i.Next address kind step last back → HaveTargets code place
      → (IsTrue b ↔ IsAlone code address back place) → (IsTrue b ↔ IfSome (slice_get code place) (HasLoop code place))
  loop_alone b d within is targets h =
      let here : slice_get code place ≡ Some (i.Next address kind step last back) =
      subst (λ x. slice_get code place ≡ Some x) is (slice_get-get_or code place d within) in
      subst (λ o. (IsTrue b ↔ IfSome o (HasLoop code place))) (sym here)
      ((λ t. loop_from_alone (h.0 t)), (λ loop. h.1 (alone_from_loop targets loop)))

-- an instruction that is no Next has no loop
no_loop : (code : List Instr) (place : ℕ) (instr : Instr)
    → ((address : ℕ) → (kind : Kind) → (step last : ℤ) → (back : ℕ) → instr ≡ i.Next address kind step last back → ⊥) → HasLoop code place instr
no_loop code place (i.Next address kind step last back) other = absurd (other address kind step last back refl)
no_loop code place _ other = tt

pub other_loop : (code : List Instr) (place : ℕ) (d : Instr) → place < length code
    → ((address : ℕ) → (kind : Kind) → (step last : ℤ) → (back : ℕ) → get_or code place d ≡ i.Next address kind step last back → ⊥)
    → IfSome (slice_get code place) (HasLoop code place)
other_loop code place d within other =
    subst (λ o. IfSome o (HasLoop code place)) (sym (slice_get-get_or code place d within)) (no_loop code place (get_or code place d) other)
