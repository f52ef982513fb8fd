-- Going over a list from the left: the code so far, and that of what is left.
use Rattle.std.proofs.Common.{◌≡◌, ℕ, ◌+◌, ◌<◌, ◌≤◌, List, [], ◌∷◌, ◌++◌, length, get_or, drop, arith, refl, ap, sym, ◌∙◌, drop_of_length-le, append_assoc, length-append}
use Rattle.scan_machine.specs.declared.instructions.Instr.{Instr}
use Rattle.scan_machine.specs.declared.instructions.Instr.TheVariants as i
use Rattle.st_core.specs.Core.{Act}
use Rattle.st_core.specs.Costs.{term_cost}
use Rattle.st_core.specs.Memory.{Shape}
use Rattle.st_core.specs.Codes.{Spot, moved, term_code, act_code, size_of}
use Rattle.st_core.proofs.Runs.{act_length}
use Rattle.st_core.proofs.Terms.{term_length}
use Rattle.st_meaning.specs.Statements.{Guarded, in_order, choice}
use Rattle.code_size.specs.Inner.Guards.{guard_size, guards_size}
use Rattle.code_size.proofs.Countings.{split}
use Rattle.scan_code.specs.Inner.Emits.{spot_at}
use Rattle.scan_code.specs.Inner.GuardCodes.{guard_code, guards_code}

-- the code so far, which with that of the rest makes the total
abbrev pub Codes : {X : Type 0} → (List X → ℕ → List Instr) → List X → ℕ → List Instr → List Instr → Type 0
Codes rest xs k total here = here ++ rest (drop k xs) (length here) ≡ total

module _ {X : Type 0} (rest : List X → ℕ → List Instr) where
  pub codes_more : (xs : List X) (k : ℕ) (total here own new : List Instr) (x : X) → k < length xs → x ≡ get_or xs k x → Codes rest xs k total here → rest (x ∷ drop (k + 1) xs) (length here) ≡ own ++ rest (drop (k + 1) xs) (length here + length own) → new ≡ here ++ own → Codes rest xs (k + 1) total new
  codes_more xs k total here own new x less is h law w =
      let len : length new ≡ length here + length own = ap length w ∙ length-append here own in
      ap (λ n. new ++ rest (drop (k + 1) xs) n) len
      ∙ (ap (λ l. l ++ rest (drop (k + 1) xs) (length here + length own)) w
      ∙ (append_assoc here own (rest (drop (k + 1) xs) (length here + length own))
      ∙ (ap (λ l. here ++ l) (sym law) ∙ (ap (λ l. here ++ rest l (length here)) (sym (split xs k x less is)) ∙ h))))

  pub codes_all : (xs : List X) (k : ℕ) (total here : List Instr) → length xs ≤ k → Codes rest xs k total here → here ++ rest [] (length here) ≡ total
  codes_all xs k total here le h = ap (λ l. here ++ rest l (length here)) (sym (drop_of_length-le xs le)) ∙ h

-- ---- acts in a row

pub order_code : (shape : Shape) (a : Act) (acts : List Act) (n exit finish : ℕ)
    → act_code shape (in_order (a ∷ acts)) (spot_at n exit finish) ≡ act_code shape a (spot_at n exit finish) ++ act_code shape (in_order acts) (spot_at (n + length (act_code shape a (spot_at n exit finish))) exit finish)
unfolding in_order act_code
order_code shape a acts n exit finish =
    ap (λ k. act_code shape a (spot_at n exit finish) ++ act_code shape (in_order acts) (spot_at (n + k) exit finish)) (sym (act_length shape a (spot_at n exit finish)))

-- ---- choices

pub guard_length : (shape : Shape) (g : Guarded) (spot : Spot) (end : ℕ) → length (guard_code shape g spot end) ≡ guard_size g
guard_length shape g spot end =
    let first = spot.at + term_cost g.condition + 1 in let second = first + size_of g.body + 1 in
    let body = act_code shape g.body (moved spot first) in
    omega (arith, length-append (term_code shape g.condition) (i.JumpFalse second ∷ (body ++ i.Jump end ∷ [])), length-append body (i.Jump end ∷ []), term_length shape g.condition, act_length shape g.body (moved spot first))

pub choice_code : (shape : Shape) (gs : List Guarded) (other : Act) (n exit finish end : ℕ) → n + size_of (choice gs other) ≡ end
    → act_code shape (choice gs other) (spot_at n exit finish) ≡ guards_code shape gs n exit finish end ++ act_code shape other (spot_at (n + guards_size gs) exit finish)
unfolding choice act_code size_of guards_size guards_code
choice_code shape [] other n exit finish end e = let z : n ≡ n + 0 = omega arith in ap (λ k. act_code shape other (spot_at k exit finish)) z
choice_code shape (g ∷ gs) other n exit finish end e =
    let first = n + term_cost g.condition + 1 in let second = first + size_of g.body + 1 in
    let body = act_code shape g.body (spot_at first exit finish) in
    let to : second + size_of (choice gs other) ≡ end = omega (arith, e) in
    let next : second ≡ n + guard_size g = omega arith in
    let more : n + guard_size g + size_of (choice gs other) ≡ end = omega (arith, e) in
    let far : n + guard_size g + guards_size gs ≡ n + (guard_size g + guards_size gs) = omega arith in
    let rest = λ (k : ℕ). act_code shape (choice gs other) (spot_at k exit finish) in
    let guard = guard_code shape g (spot_at n exit finish) end in
    ap (λ k. term_code shape g.condition ++ (i.JumpFalse second ∷ (body ++ (i.Jump k ∷ rest second)))) to
    ∙ (ap (λ l. term_code shape g.condition ++ (i.JumpFalse second ∷ l)) (sym (append_assoc body (i.Jump end ∷ []) (rest second)))
    ∙ (sym (append_assoc (term_code shape g.condition) (i.JumpFalse second ∷ (body ++ i.Jump end ∷ [])) (rest second))
    ∙ (ap (λ k. guard ++ rest k) next
    ∙ (ap (λ l. guard ++ l) (choice_code shape gs other (n + guard_size g) exit finish end more)
    ∙ (sym (append_assoc guard (guards_code shape gs (n + guard_size g) exit finish end) (act_code shape other (spot_at (n + guard_size g + guards_size gs) exit finish)))
    ∙ ap (λ k. (guard ++ guards_code shape gs (n + guard_size g) exit finish end) ++ act_code shape other (spot_at k exit finish)) far)))))

pub guards_code_more : (shape : Shape) (g : Guarded) (gs : List Guarded) (n exit finish end : ℕ)
    → guards_code shape (g ∷ gs) n exit finish end ≡ guard_code shape g (spot_at n exit finish) end ++ guards_code shape gs (n + length (guard_code shape g (spot_at n exit finish) end)) exit finish end
unfolding guards_code
guards_code_more shape g gs n exit finish end = ap (λ k. guard_code shape g (spot_at n exit finish) end ++ guards_code shape gs (n + k) exit finish end) (sym (guard_length shape g (spot_at n exit finish) end))

pub no_guards_code : (shape : Shape) (n exit finish end : ℕ) → guards_code shape [] n exit finish end ≡ []
unfolding guards_code
no_guards_code shape n exit finish end = refl

pub guards_length : (shape : Shape) (gs : List Guarded) (n exit finish end : ℕ) → length (guards_code shape gs n exit finish end) ≡ guards_size gs
unfolding guards_code guards_size
guards_length shape [] n exit finish end = refl
guards_length shape (g ∷ gs) n exit finish end =
    omega (arith, length-append (guard_code shape g (spot_at n exit finish) end) (guards_code shape gs (n + guard_size g) exit finish end), guard_length shape g (spot_at n exit finish) end, guards_length shape gs (n + guard_size g) exit finish end)
