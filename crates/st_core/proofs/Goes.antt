-- Stretches of a run, with a bound on the number of instructions. What was stored is left open.
use Rattle.std.proofs.Common.{◌≡◌, ℕ, zero, suc, ◌+◌, ◌≤◌, ℤ, Bool, Some, List, slice_get, arith, ap, ◌∙◌, refl}
use Rattle.std.specs.Option.{option_and_then}
use Rattle.scan_machine.specs.declared.instructions.Instr.{Instr}
use Rattle.scan_machine.specs.Machine.{State, does, next, after}

-- where the machine stands
abbrev pub here : ℕ → List ℤ → List ℤ → Bool → List (ℕ × ℤ) → State
here at stack words flag stores = record { index = at; stack = stack; words = words; flag = flag; stores = stores }

module _ (code : List Instr) (dt : ℤ) where
  -- from one place to another in so many instructions at most
  pub record Goes (limit : ℕ) (at : ℕ) (stack words : List ℤ) (flag : Bool) (at' : ℕ) (stack' words' : List ℤ) (flag' : Bool) : Type 0 where
    pub by : (stores : List (ℕ × ℤ)) → (count : ℕ) × (count ≤ limit) × (stores' : List (ℕ × ℤ)) × (after code dt count (here at stack words flag stores) ≡ Some (here at' stack' words' flag' stores'))

  -- a run goes on from where it came to
  pub after_from : (n m : ℕ) (s t : State) → after code dt n s ≡ Some t → after code dt (m + n) s ≡ after code dt m t
  unfolding after
  after_from n zero s t h = let e : 0 + n ≡ n = omega arith in ap (λ x. after code dt x s) e ∙ h
  after_from n (suc m) s t h =
      let e : suc m + n ≡ suc (m + n) = omega arith in
      ap (λ x. after code dt x s) e ∙ ap (option_and_then (next code dt)) (after_from n m s t h)

  pub goes_none : {at : ℕ} {stack words : List ℤ} {flag : Bool} → Goes 0 at stack words flag at stack words flag
  unfolding after
  goes_none = record { by = λ stores. (0, omega arith, stores, refl) }

  pub goes_then : {l m : ℕ} {at at1 at2 : ℕ} {s s1 s2 w w1 w2 : List ℤ} {f f1 f2 : Bool} → Goes l at s w f at1 s1 w1 f1 → Goes m at1 s1 w1 f1 at2 s2 w2 f2 → Goes (l + m) at s w f at2 s2 w2 f2
  goes_then g h = record {
    by = λ stores.
        let a = g.by stores in let b = h.by a.2 in
        (b.0 + a.0, omega (arith, a.1, b.1), b.2, after_from a.0 b.0 _ _ a.3 ∙ b.3);
  }

  pub goes_more : {l m : ℕ} {at at1 : ℕ} {s s1 w w1 : List ℤ} {f f1 : Bool} → l ≤ m → Goes l at s w f at1 s1 w1 f1 → Goes m at s w f at1 s1 w1 f1
  goes_more le g = record { by = λ stores. let a = g.by stores in (a.0, omega (arith, a.1, le), a.2, a.3) }

  -- it comes to the same state under other names
  pub goes_to : {l : ℕ} {at at1 at2 : ℕ} {s s1 s2 w w1 w2 : List ℤ} {f f1 f2 : Bool} → at1 ≡ at2 → s1 ≡ s2 → w1 ≡ w2 → f1 ≡ f2 → Goes l at s w f at1 s1 w1 f1 → Goes l at s w f at2 s2 w2 f2
  goes_to {l} {at} {at1} {at2} {s} {s1} {s2} {w} {w1} {w2} {f} {f1} {f2} p q r t g =
      record {
        by = λ stores. let a = g.by stores in
            (a.0, a.1, a.2, a.3 ∙ (λ i. Some (here (p i) (q i) (r i) (t i) a.2)));
      }

  -- one instruction
  pub goes_one : {at at1 : ℕ} {s s1 w w1 : List ℤ} {f f1 : Bool} (x : Instr) → slice_get code at ≡ Some x → ((stores : List (ℕ × ℤ)) → (stores' : List (ℕ × ℤ)) × (does dt x (here at s w f stores) ≡ Some (here at1 s1 w1 f1 stores'))) → Goes 1 at s w f at1 s1 w1 f1
  unfolding after
  goes_one {at} {at1} {s} {s1} {w} {w1} {f} {f1} x is h = record {
    by = λ stores.
        let b = h stores in
        (1, omega arith, b.0, ap (option_and_then (λ (y : Instr). does dt y (here at s w f stores))) is ∙ b.1);
  }
