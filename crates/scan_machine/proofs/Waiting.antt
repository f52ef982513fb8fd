-- The depth before a place, one instruction at a time.
use Rattle.std.proofs.Common.{◌≡◌, ℕ, zero, suc, ◌+◌, ◌-◌, ◌<◌, ◌≤◌, IfSome, List, length, get_or, arith, sym, subst, ◌∙◌, refl, inl, inr}
use Rattle.std.proofs.lemmas.Option.{slice_get-get_or, slice_get_within}
use Rattle.std.proofs.lemmas.List.Sums.{fold_more}
use Rattle.std.proofs.lemmas.Bool.{cases_lt}
use borrow.Author.Count.{below_more}
use Rattle.scan_machine.specs.declared.instructions.Instr.{Instr}
use Rattle.scan_machine.specs.declared.instructions.Instr.TheVariants as i
use Rattle.scan_machine.specs.Rules.{depth_after, depth_at, EmptiesStack, HasDepth}
use Rattle.scan_machine.specs.Inner.FirstFault.{HaveDepths, NamesEmpty, HaveEmptyTargets, IsLoaded}

pub depth_more : (code : List Instr) (at : ℕ) (d : Instr) → at < length code → depth_at code (at + 1) ≡ depth_after (depth_at code at) (get_or code at d)
depth_more code at d within = fold_more depth_after 0 code at d within

pub depth_here : (code : List Instr) (place at : ℕ) (d : Instr) → HaveDepths code place → at < place → place ≤ length code → HasDepth (depth_at code at) (get_or code at d)
depth_here code place at d depths below within =
    subst (λ o. IfSome o (HasDepth (depth_at code at))) (slice_get-get_or code at d (omega arith)) (depths at below)

after_bound : (depth : ℕ) (instr : Instr) → HasDepth depth instr → depth_after depth instr ≤ 1024
after_bound depth (i.Jump target) h = omega arith
after_bound depth _ h = h.room

bound_at : (code : List Instr) (place at : ℕ) (d : Instr) → HaveDepths code place → at < place → place ≤ length code → depth_at code (at + 1) ≤ 1024
bound_at code place at d depths below within =
    subst (λ n. n ≤ 1024) (sym (depth_more code at d (omega arith)))
    (after_bound (depth_at code at) (get_or code at d) (depth_here code place at d depths below within))

-- at most 1,024 operands wait as far as each instruction has its depth
pub depth_bound : (code : List Instr) (place at : ℕ) (d : Instr) → HaveDepths code place → place ≤ length code → at ≤ place → depth_at code at ≤ 1024
depth_bound code place zero d depths within below = omega arith
depth_bound code place (suc k) d depths within below =
    let e : k + 1 ≡ suc k = omega arith in
    subst (λ n. depth_at code n ≤ 1024) e (bound_at code place k d depths (omega arith) within)

pub emptied : (depth : ℕ) (instr : Instr) → HasDepth depth instr → EmptiesStack instr → depth_after depth instr ≡ 0
emptied depth (i.Jump target) h e = refl
emptied depth (i.JumpFalse target) h e = let k : depth ≡ 1 = h.emptied tt in omega arith
emptied depth (i.Next address kind step last back) h e = let k : depth ≡ 0 = h.emptied tt in omega arith
emptied depth _ h e = absurd e

-- no operand waits behind a jump or a Next
pub behind_jump : (code : List Instr) (place start : ℕ) (d : Instr) → HaveDepths code place → place ≤ length code → 0 < start → start ≤ place
    → EmptiesStack (get_or code (start - 1) d) → depth_at code start ≡ 0
behind_jump code place start d depths within some below e =
    let k : start - 1 + 1 ≡ start = omega arith in
    subst (λ n. depth_at code n ≡ 0) k
    (depth_more code (start - 1) d (omega arith) ∙ emptied (depth_at code (start - 1)) (get_or code (start - 1) d) (depth_here code place (start - 1) d depths (omega arith) within) e)

-- ---- targets

pub names_more : (code : List Instr) (at first sooner : ℕ) → sooner ≤ first → ((k : ℕ) → k < at → NamesEmpty code first k) → NamesEmpty code sooner at
    → (k : ℕ) → k < at + 1 → NamesEmpty code sooner k
names_more code at first sooner less before here =
    let P : ℕ → Type 0 = λ k. NamesEmpty code sooner k in
    below_more P at (λ k below target under names. before k below target (omega arith) names) here

pub loaded_more : (code : List Instr) (bound first sooner : ℕ) → sooner ≤ first → (first < bound → IsLoaded code first) → (sooner < first → IsLoaded code sooner)
    → sooner < bound → IsLoaded code sooner
loaded_more code bound first sooner less before here below =
    elim (cases_lt sooner first) as (λ _. IsLoaded code sooner) [
      | inl h ↦ here h
      | inr h ↦ let e : first ≡ sooner = omega arith in subst (λ n. IsLoaded code n) e (before (omega arith))
    ]

pub no_target : (code : List Instr) (at first : ℕ) → length code ≤ at → ((k : ℕ) → k < at → NamesEmpty code first k) → HaveEmptyTargets code first
no_target code at first over before target below is =
    before is.0 (omega (arith, slice_get_within code is.0 is.1.0 is.1.1)) target below is.1
