-- The code of statements, as it is put piece by piece.
use Rattle.std.proofs.Common.{◌≡◌, ℕ, ℤ, ◌+◌, ◌-ℤ◌, unsigned_abs, true, false, suc, List, [], ◌∷◌, ◌++◌, length, arith, ap, sym, ◌∙◌, append_assoc, append-nil, length-append}
use Rattle.function_blocks.specs.declared.kinds.Kind.{Kind}
use Rattle.scan_machine.specs.declared.instructions.Instr.{Instr}
use Rattle.scan_machine.specs.declared.instructions.Instr.TheVariants as i
use Rattle.st_tree.specs.declared.tag.Tag.{Tag}
use Rattle.st_core.specs.Core.{Name, Term, Act}
use Rattle.st_core.specs.Core as c
use Rattle.st_core.specs.Effects.{is_past}
use Rattle.st_core.specs.Costs.{term_cost}
use Rattle.st_core.specs.Memory.{Shape, address_of}
use Rattle.st_core.specs.Codes.{inner, term_code, act_code, size_of, loop_code}
use Rattle.st_core.proofs.Terms.{term_length}
use Rattle.st_core.proofs.Loops.{written_past, written_more}
use Rattle.st_meaning.specs.Types.{type_of, word_type, element_type, low_bound, high_bound}
use Rattle.st_meaning.specs.Statements.{Guarded, in_order, choice}
use Rattle.st_sound.specs.Shapes.{shape_in}
use Rattle.code_size.specs.Inner.Guards.{guards_size}
use Rattle.code_size.proofs.ActSizes.{guards_more}
use Rattle.scan_code.specs.declared.found.Found.{Found}
use Rattle.scan_code.specs.Inner.Found.{word_type_of, element_type_of, IsFound, store_at}
use Rattle.scan_code.specs.Inner.Emits.{spot_at, behind}
use Rattle.scan_code.specs.Inner.GuardCodes.{tail_code, guard_code, guards_code}
use Rattle.scan_code.proofs.ListCodes.{choice_code, guards_code_more, guards_length, guard_length}

-- what stands behind a condition
pub tail_put : (shape : Shape) (a : Act) (old c2 c3 c4 : List Instr) (first jump second end exit finish : ℕ)
    → first ≡ length old + 1 → jump ≡ first + size_of a → second ≡ jump + 1
    → c2 ≡ old ++ i.JumpFalse second ∷ [] → c3 ≡ c2 ++ act_code shape a (behind c2 exit finish) → c4 ≡ c3 ++ i.Jump end ∷ []
    → c4 ≡ old ++ tail_code shape a (length old) exit finish end
tail_put shape a old c2 c3 c4 first jump second end exit finish f j s e2 e3 e4 =
    let at = length old in
    let l2 : length c2 ≡ at + 1 = ap length e2 ∙ length-append old (i.JumpFalse second ∷ []) in
    let to : second ≡ at + 1 + size_of a + 1 = omega (arith, f, j, s) in
    let body = λ (n : ℕ). act_code shape a (spot_at n exit finish) in
    let all : c4 ≡ ((old ++ i.JumpFalse second ∷ []) ++ body (length c2)) ++ i.Jump end ∷ [] = e4 ∙ ap (λ l. l ++ i.Jump end ∷ []) (e3 ∙ ap (λ l. l ++ body (length c2)) e2) in
    let flat : ((old ++ i.JumpFalse second ∷ []) ++ body (length c2)) ++ i.Jump end ∷ [] ≡ old ++ (i.JumpFalse second ∷ (body (length c2) ++ i.Jump end ∷ [])) = simp append_assoc in
    all ∙ (flat ∙ (λ x. old ++ (i.JumpFalse (to x) ∷ (body (l2 x) ++ i.Jump end ∷ []))))

-- a condition, and what stands behind it
pub guard_put : (shape : Shape) (g : Guarded) (old c1 c2 : List Instr) (end exit finish : ℕ) → c1 ≡ old ++ term_code shape g.condition → c2 ≡ c1 ++ tail_code shape g.body (length c1) exit finish end → c2 ≡ old ++ guard_code shape g (behind old exit finish) end
guard_put shape g old c1 c2 end exit finish e1 e2 =
    let t = term_code shape g.condition in
    let l1 : length c1 ≡ length old + term_cost g.condition = ap length e1 ∙ (length-append old t ∙ ap (λ n. length old + n) (term_length shape g.condition)) in
    e2 ∙ ((λ x. e1 x ++ tail_code shape g.body (l1 x) exit finish end) ∙ append_assoc old t (tail_code shape g.body (length old + term_cost g.condition) exit finish end))

-- several branches, and what is done where none of their conditions holds
pub choice_put : (shape : Shape) (g : Guarded) (gs : List Guarded) (other act : Act) (old c1 c2 c3 : List Instr) (end exit finish : ℕ)
    → act ≡ choice (g ∷ gs) other → end ≡ length old + size_of act
    → c1 ≡ old ++ guard_code shape g (behind old exit finish) end → c2 ≡ c1 ++ guards_code shape gs (length c1) exit finish end → c3 ≡ c2 ++ act_code shape other (behind c2 exit finish)
    → c3 ≡ old ++ act_code shape act (behind old exit finish)
choice_put shape g gs other act old c1 c2 c3 end exit finish is e e1 e2 e3 =
    let guard = guard_code shape g (behind old exit finish) end in
    let n = length old in
    let l1 : length c1 ≡ n + length guard = ap length e1 ∙ length-append old guard in
    let rest = λ (k : ℕ). guards_code shape gs k exit finish end in
    let l2 : length c2 ≡ n + guards_size (g ∷ gs) =
    omega (arith, ap length e2 ∙ length-append c1 (rest (length c1)), guards_length shape gs (length c1) exit finish end, l1, guard_length shape g (behind old exit finish) end, guards_more g gs) in
    let tail = λ (k : ℕ). act_code shape other (spot_at k exit finish) in
    let to : n + size_of (choice (g ∷ gs) other) ≡ end = sym (e ∙ ap (λ a. n + size_of a) is) in
    let all : c3 ≡ ((old ++ guard) ++ rest (length c1)) ++ tail (length c2) = e3 ∙ ap (λ l. l ++ tail (length c2)) (e2 ∙ ap (λ l. l ++ rest (length c1)) e1) in
    let flat : ((old ++ guard) ++ rest (length c1)) ++ tail (length c2) ≡ old ++ ((guard ++ rest (length c1)) ++ tail (length c2)) = simp append_assoc in
    all ∙ (flat ∙ ((λ x. old ++ ((guard ++ rest (l1 x)) ++ tail (l2 x)))
    ∙ (ap (λ l. old ++ (l ++ tail (n + guards_size (g ∷ gs)))) (sym (guards_code_more shape g gs n exit finish end))
    ∙ (ap (λ l. old ++ l) (sym (choice_code shape (g ∷ gs) other n exit finish end to))
    ∙ ap (λ a. old ++ act_code shape a (spot_at n exit finish)) (sym is)))))

-- a loop with a turn
pub loop_put : (shape : Shape) (n : Name) (kind : Kind) (first last step : ℤ) (a : Act) (old c1 c2 c3 c4 : List Instr) (back next leave exit finish address : ℕ)
    → is_past step last first ≡ false → address ≡ address_of n shape → back ≡ length old + 2 → next ≡ back + size_of a → leave ≡ next + 1
    → c1 ≡ old ++ i.Push first ∷ [] → c2 ≡ c1 ++ i.Store address kind ∷ [] → c3 ≡ c2 ++ act_code shape a (behind c2 leave finish) → c4 ≡ c3 ++ i.Next address kind step last back ∷ []
    → c4 ≡ old ++ act_code shape (c.For n kind first last step a) (behind old exit finish)
unfolding act_code
loop_put shape n kind first last step a old c1 c2 c3 c4 back next leave exit finish address past is b m l e1 e2 e3 e4 =
    let at = length old + 2 in
    let l2 : length c2 ≡ at = omega (arith, ap length e2 ∙ length-append c1 (i.Store address kind ∷ []), ap length e1 ∙ length-append old (i.Push first ∷ [])) in
    let out : leave ≡ at + size_of a + 1 = omega (arith, b, m, l) in
    let body = λ (k j : ℕ). act_code shape a (spot_at k j finish) in
    let all : c4 ≡ (((old ++ i.Push first ∷ []) ++ i.Store address kind ∷ []) ++ body (length c2) leave) ++ i.Next address kind step last back ∷ [] =
    e4 ∙ ap (λ l. l ++ i.Next address kind step last back ∷ []) (e3 ∙ ap (λ l. l ++ body (length c2) leave) (e2 ∙ ap (λ l. l ++ i.Store address kind ∷ []) e1)) in
    let flat : (((old ++ i.Push first ∷ []) ++ i.Store address kind ∷ []) ++ body (length c2) leave) ++ i.Next address kind step last back ∷ [] ≡ old ++ (i.Push first ∷ (i.Store address kind ∷ (body (length c2) leave ++ i.Next address kind step last back ∷ []))) = simp append_assoc in
    all ∙ (flat ∙ ((λ x. old ++ (i.Push first ∷ (i.Store (is x) kind ∷ (body (l2 x) (out x) ++ i.Next (is x) kind step last (b x) ∷ []))))
    ∙ ap (λ vs. old ++ loop_code vs (i.Push first) (i.Store (address_of n shape) kind) (body at (at + size_of a + 1)) (i.Next (address_of n shape) kind step last at)) (sym (written_more (unsigned_abs (last -ℤ first)) step last first past))))

-- a loop without one
pub no_loop_put : (shape : Shape) (n : Name) (kind : Kind) (first last step : ℤ) (a : Act) (old : List Instr) (exit finish : ℕ) → is_past step last first ≡ true → old ≡ old ++ act_code shape (c.For n kind first last step a) (behind old exit finish)
unfolding act_code
no_loop_put shape n kind first last step a old exit finish past =
    sym (append-nil old) ∙ ap (λ vs. old ++ loop_code vs (i.Push first) (i.Store (address_of n shape) kind) (act_code shape a (inner (behind old exit finish) (size_of a))) (i.Next (address_of n shape) kind step last (length old + 2))) (sym (written_past (suc (unsigned_abs (last -ℤ first))) step last first past))

pub skip_put : (shape : Shape) (old : List Instr) (exit finish : ℕ) → old ≡ old ++ act_code shape c.Skip (behind old exit finish)
unfolding act_code
skip_put shape old exit finish = sym (append-nil old)

pub none_put : (shape : Shape) (old : List Instr) (exit finish : ℕ) → old ≡ old ++ act_code shape (in_order []) (behind old exit finish)
unfolding in_order act_code
none_put shape old exit finish = sym (append-nil old)

pub exit_put : (shape : Shape) (old new : List Instr) (exit finish : ℕ) → new ≡ old ++ i.Jump exit ∷ [] → new ≡ old ++ act_code shape c.Exit (behind old exit finish)
unfolding act_code
exit_put shape old new exit finish h = h

pub return_put : (shape : Shape) (old new : List Instr) (exit finish : ℕ) → new ≡ old ++ i.Jump finish ∷ [] → new ≡ old ++ act_code shape c.Return (behind old exit finish)
unfolding act_code
return_put shape old new exit finish h = h

-- assignments
pub assign_put : (tags : List Tag) (n : Name) (found : Found) (t : Kind → Term) (kind : Kind) (store : Instr) (old here new : List Instr) (exit finish : ℕ) → IsFound tags n found → kind ≡ word_type_of found.of → store ≡ i.Store found.address (word_type_of found.of)
    → here ≡ old ++ term_code (shape_in tags) (t kind) → new ≡ here ++ store ∷ [] → new ≡ old ++ act_code (shape_in tags) (c.Assign n 0 (word_type (type_of tags n)) (t (word_type (type_of tags n)))) (behind old exit finish)
unfolding act_code
assign_put tags n found t kind store old here new exit finish is k s h w =
    let shape = shape_in tags in
    let address : found.address ≡ address_of n shape + 0 = omega (arith, is.address) in
    let own : kind ≡ word_type (type_of tags n) = k ∙ is.word in
    w ∙ (ap (λ x. here ++ x ∷ []) s ∙ (ap (λ l. l ++ i.Store found.address (word_type_of found.of) ∷ []) h
    ∙ (append_assoc old (term_code shape (t kind)) (i.Store found.address (word_type_of found.of) ∷ [])
    ∙ (λ x. old ++ (term_code shape (t (own x)) ++ i.Store (address x) (is.word x) ∷ [])))))

pub assign_element_put : (tags : List Tag) (n : Name) (found : Found) (index : Kind → Term) (t : Kind → Term) (at settled kind : Kind) (store : Instr) (old c1 c2 new : List Instr) (exit finish : ℕ) → IsFound tags n found → at ≡ settled → kind ≡ element_type_of found.of → store ≡ store_at found
    → c1 ≡ old ++ term_code (shape_in tags) (index at) → c2 ≡ c1 ++ term_code (shape_in tags) (t kind) → new ≡ c2 ++ store ∷ []
    → let type = type_of tags n in new ≡ old ++ act_code (shape_in tags) (c.AssignElement n (element_type type) (low_bound type) (high_bound type) (index settled) (t (element_type type))) (behind old exit finish)
unfolding act_code
assign_element_put tags n found index t at settled kind store old c1 c2 new exit finish is a k s h1 h2 w =
    let shape = shape_in tags in
    let own : kind ≡ element_type (type_of tags n) = k ∙ is.element in
    let all : new ≡ ((old ++ term_code shape (index at)) ++ term_code shape (t kind)) ++ store_at found ∷ [] = w ∙ (ap (λ x. c2 ++ x ∷ []) s ∙ ap (λ l. l ++ store_at found ∷ []) (h2 ∙ ap (λ l. l ++ term_code shape (t kind)) h1)) in
    let flat : ((old ++ term_code shape (index at)) ++ term_code shape (t kind)) ++ store_at found ∷ [] ≡ old ++ (term_code shape (index at) ++ (term_code shape (t kind) ++ store_at found ∷ [])) = simp append_assoc in
    all ∙ (flat ∙ (λ x. old ++ (term_code shape (index (a x)) ++ (term_code shape (t (own x)) ++ i.StoreAt (is.address x) (is.element x) (is.low x) (is.high x) ∷ []))))
