-- An act's code does what the act does, in as many instructions as it costs at most.
use Rattle.std.proofs.Common.{◌≡◌, ℕ, zero, suc, ◌+◌, ◌*◌, ◌<◌, ◌≤◌, max, ℤ, pos, ◌+ℤ◌, ◌-ℤ◌, Bool, true, false, ◌||◌, if◌then◌else◌, Option, Some, List, [], ◌∷◌, ◌++◌, length, slice_get, unsigned_abs, arith, sym, ap, ◌∙◌, refl, subst, length-append, inl, take, drop, set}
use Rattle.std.specs.Prelude.{slice_index_or, slice_set}
use Rattle.function_blocks.specs.declared.kinds.Kind.{Kind}
use Rattle.function_blocks.specs.declared.blocks.BlockKind.{BlockKind}
use Rattle.function_blocks.specs.Values.{is_on, clamped}
use Rattle.std.proofs.Math.Seq.{take-append_seam, drop-append_seam}
use Rattle.st_core.proofs.Laid.{length-step_block, some_fields}
use Rattle.function_blocks.specs.Fields.{field_count}
use Rattle.function_blocks.specs.Blocks.{step_block}
use Rattle.scan_machine.specs.declared.instructions.Instr.{Instr}
use Rattle.scan_machine.specs.declared.instructions.Instr.TheVariants as i
use Rattle.scan_machine.specs.Machine.{State, noted_all, words_at, with_words, read}
use Rattle.scan_machine.specs.Rules.{IsOf}
use Rattle.tri_base.specs.Noted.{noted}
use Rattle.function_blocks.specs.Arithmetic.{bounded}
use Rattle.st_core.specs.Core.{Name, Term, Act}
use Rattle.st_core.specs.Core as c
use Rattle.st_core.specs.Environments.{Env, number_of, with_number, numbers_of, with_numbers}
use Rattle.st_core.specs.Terms.{value_of}
use Rattle.st_core.specs.Effects.{Ends, Onward, Exits, Returns, Effect, onward, then_by, turn_by, turns, effect_of, written, written_from, is_past}
use Rattle.st_core.specs.Costs.{term_cost, cost_of, loop_cost}
use Rattle.st_core.specs.Memory.{Shape, shape_of, words_of, address_of, count_of}
use Rattle.st_core.specs.Fits.{TermFits, ActFits, LoopFits}
use Rattle.st_core.specs.Codes.{Spot, moved, inner, lands, term_code, act_code, size_of, loop_size, loop_code, IsOpen}
use Rattle.st_core.proofs.Laid.{parts, word_is, word_set, number_shape, number_own, count_is}
use Rattle.st_core.proofs.Places.{HasAt, all_front, all_back, first_at, rest_at}
use Rattle.st_core.proofs.Goes.{here, Goes, goes_none, goes_one, goes_then, goes_to, goes_more}
use Rattle.st_core.proofs.Terms.{or_more, or_none, term_length, term_goes, index_near}
use Rattle.st_core.proofs.Effects.{effect_shape, effect_open}
use Rattle.st_core.proofs.Loops.{clamped_same, nearer, written_past, written_more, one_more_turn}

loop_length : (vs : List ℤ) (push store : Instr) (body : List Instr) (next : Instr) (n : ℕ) → length body ≡ n → length (loop_code vs push store body next) ≡ loop_size vs n
loop_length [] push store body next n is = refl
loop_length (v ∷ vs) push store body next n is = omega (arith, length-append body (next ∷ []), is)

-- the code has the size
pub act_length : (shape : Shape) (a : Act) (spot : Spot) → length (act_code shape a spot) ≡ size_of a
unfolding act_code size_of
act_length shape c.Skip spot = refl
act_length shape (c.Then a b) spot =
    let next = moved spot (spot.at + size_of a) in
    omega (arith, length-append (act_code shape a spot) (act_code shape b next), act_length shape a spot, act_length shape b next)
act_length shape (c.Assign n k kind t) spot = omega (arith, length-append (term_code shape t) (i.Store (address_of n shape + k) kind ∷ []), term_length shape t)
act_length shape (c.AssignElement n kind low high t u) spot =
    let last = i.StoreAt (address_of n shape) kind low high ∷ [] in
    omega (arith, length-append (term_code shape t) (term_code shape u ++ last), length-append (term_code shape u) last, term_length shape t, term_length shape u)
act_length shape (c.Invoke kind n) spot = refl
act_length shape (c.If t a b) spot =
    let first = spot.at + term_cost t + 1 in let second = first + size_of a + 1 in
    let ca = act_code shape a (moved spot first) in let cb = i.Jump (second + size_of b) ∷ act_code shape b (moved spot second) in
    omega (arith, length-append (term_code shape t) (i.JumpFalse second ∷ (ca ++ cb)), length-append ca cb, term_length shape t, act_length shape a (moved spot first), act_length shape b (moved spot second))
act_length shape (c.For n kind first last step a) spot =
    loop_length (written first last step) (i.Push first) (i.Store (address_of n shape) kind) (act_code shape a (inner spot (size_of a))) (i.Next (address_of n shape) kind step last (spot.at + 2)) (size_of a) (act_length shape a (inner spot (size_of a)))
act_length shape c.Exit spot = refl
act_length shape c.Return spot = refl

module _ (code : List Instr) (dt : ℤ) (shape : Shape) where
  -- what a term's code does, where the environment has the shape
  term_at : (t : Term) (env : Env) (at : ℕ) (stack : List ℤ) (flag : Bool) → shape_of env ≡ shape → TermFits shape t → HasAt code at (term_code shape t)
      → Goes code dt (term_cost t) at stack (words_of env) flag (at + term_cost t) ((value_of t env).value ∷ stack) (words_of env) (flag || (value_of t env).flag)
  term_at t env at stack flag is fits h =
      term_goes code dt env t (subst (λ s. TermFits s t) (sym is) fits) at stack flag (subst (λ s. HasAt code at (term_code s t)) (sym is) h)

  -- what an act's code does: a piece from its first place to where the effect leads
  abbrev pub PieceGoes : Spot → ℕ → ℕ → List ℤ → Bool → Effect → Type 0
  PieceGoes spot size limit words flag e = Goes code dt limit spot.at [] words flag (lands spot size e.ends) [] (words_of e.env) (flag || e.flag)

  -- ---- one piece behind another

  then_goes : (x : Ends) (spot : Spot) (m n l k : ℕ) (words : List ℤ) (flag : Bool) (e f : Effect) → e.ends ≡ x
      → PieceGoes spot m l words flag e → PieceGoes (moved spot (spot.at + m)) n k (words_of e.env) (flag || e.flag) f
      → PieceGoes spot (m + n) (l + k) words flag (then_by x e f)
  then_goes Onward spot m n l k words flag e f is g h =
      goes_to code dt (on_to f.ends) refl refl (or_more flag e.flag f.flag)
      (goes_then code dt (goes_to code dt (ap (lands spot m) is) refl refl refl g) h)
    where
      on_to : (y : Ends) → lands (moved spot (spot.at + m)) n y ≡ lands spot (m + n) y
      on_to Onward = omega arith
      on_to Exits = refl
      on_to Returns = refl
  then_goes Exits spot m n l k words flag e f is g h =
      goes_more code dt (omega arith) (goes_to code dt (ap (lands spot m) is ∙ sym (ap (lands spot (m + n)) is)) refl refl refl g)
  then_goes Returns spot m n l k words flag e f is g h =
      goes_more code dt (omega arith) (goes_to code dt (ap (lands spot m) is ∙ sym (ap (lands spot (m + n)) is)) refl refl refl g)

  -- ---- a choice

  -- behind a piece that goes on, a jump over the other one
  over_goes : (x : Ends) (spot : Spot) (m n l target : ℕ) (at : ℕ) (stack words : List ℤ) (flag flag' : Bool) (env : Env) → slice_get code (spot.at + m) ≡ Some (i.Jump target) → target ≡ at + n
      → (old : Spot) → old.at ≡ at → old.exit ≡ spot.exit → old.finish ≡ spot.finish
      → Goes code dt l spot.at stack words flag (lands spot m x) [] (words_of env) flag'
      → Goes code dt (l + 1) spot.at stack words flag (lands old n x) [] (words_of env) flag'
  over_goes Onward spot m n l target at stack words flag flag' env jump is old p q r g =
      goes_to code dt (is ∙ ap (λ k. k + n) (sym p)) refl refl refl (goes_then code dt g (goes_one code dt (i.Jump target) jump (λ stores. (stores, refl))))
  over_goes Exits spot m n l target at stack words flag flag' env jump is old p q r g = goes_more code dt (omega arith) (goes_to code dt (sym q) refl refl refl g)
  over_goes Returns spot m n l target at stack words flag flag' env jump is old p q r g = goes_more code dt (omega arith) (goes_to code dt (sym r) refl refl refl g)

  if_goes : (b : Bool) (x : ℤ) (spot : Spot) (ct m n l k : ℕ) (words : List ℤ) (flag tflag : Bool) (e f : Effect) → is_on x ≡ b
      → Goes code dt ct spot.at [] words flag (spot.at + ct) (x ∷ []) words (flag || tflag)
      → slice_get code (spot.at + ct) ≡ Some (i.JumpFalse (spot.at + ct + 1 + m + 1))
      → slice_get code (spot.at + ct + 1 + m) ≡ Some (i.Jump (spot.at + ct + 1 + m + 1 + n))
      → PieceGoes (moved spot (spot.at + ct + 1)) m l words (flag || tflag) e
      → PieceGoes (moved spot (spot.at + ct + 1 + m + 1)) n k words (flag || tflag) f
      → let g : Effect = if b then e else f in
      Goes code dt (ct + 1 + max (l + 1) k) spot.at [] words flag (lands spot (ct + 1 + m + 1 + n) g.ends) [] (words_of g.env) (flag || (tflag || g.flag))
  if_goes true x spot ct m n l k words flag tflag e f is gt test jump ga gb =
      let go = goes_then code dt gt (goes_one code dt (i.JumpFalse (spot.at + ct + 1 + m + 1)) test (λ stores. (stores, ap (λ (b : Bool). Some (here (if b then spot.at + ct + 1 else spot.at + ct + 1 + m + 1) [] words (flag || tflag) stores)) is))) in
      let over = over_goes e.ends (moved spot (spot.at + ct + 1)) m (ct + 1 + m + 1 + n) l (spot.at + ct + 1 + m + 1 + n) spot.at [] words (flag || tflag) ((flag || tflag) || e.flag) e.env jump (omega arith) spot refl refl refl ga in
      goes_more code dt (omega arith) (goes_to code dt refl refl refl (or_more flag tflag e.flag) (goes_then code dt go over))
  if_goes false x spot ct m n l k words flag tflag e f is gt test jump ga gb =
      let go = goes_then code dt gt (goes_one code dt (i.JumpFalse (spot.at + ct + 1 + m + 1)) test (λ stores. (stores, ap (λ (b : Bool). Some (here (if b then spot.at + ct + 1 else spot.at + ct + 1 + m + 1) [] words (flag || tflag) stores)) is))) in
      goes_more code dt (omega arith) (goes_to code dt (on_to f.ends) refl refl (or_more flag tflag f.flag) (goes_then code dt go gb))
    where
      on_to : (y : Ends) → lands (moved spot (spot.at + ct + 1 + m + 1)) n y ≡ lands spot (ct + 1 + m + 1 + n) y
      on_to Onward = omega arith
      on_to Exits = refl
      on_to Returns = refl

  -- ---- a loop

  module _ (spot : Spot) (n : Name) (kind : Kind) (first last step : ℤ) (a : Act) (loops : List Name) (fits : LoopFits shape n kind first last step) (inside : ActFits shape (n ∷ loops) a)
      (body : (env : Env) (flag : Bool) → shape_of env ≡ shape → PieceGoes (inner spot (size_of a)) (size_of a) (cost_of a) (words_of env) flag (effect_of dt a env))
      (next : slice_get code (spot.at + 2 + size_of a) ≡ Some (i.Next (address_of n shape) kind step last (spot.at + 2))) where
    -- the turns of the loop over these numbers
    abbrev over : List ℤ → Env → Effect
    over vs env = turns n (effect_of dt a) vs env

    -- from the loop's body, with its word set, to the loop's end
    abbrev TurnGoes : List ℤ → ℤ → Env → Bool → Type 0
    TurnGoes vs v env flag =
        let r = over (v ∷ vs) env in
        Goes code dt ((1 + length vs) * (cost_of a + 1)) (spot.at + 2) [] (words_of (with_number env n 0 v)) flag (lands spot (2 + size_of a + 1) r.ends) [] (words_of r.env) (flag || r.flag)

    -- from the loop's Next to the loop's end
    abbrev NextGoes : List ℤ → Env → Bool → Type 0
    NextGoes vs env flag =
        let r = over vs env in
        Goes code dt (1 + length vs * (cost_of a + 1)) (spot.at + 2 + size_of a) [] (words_of env) flag (lands spot (2 + size_of a + 1) r.ends) [] (words_of r.env) (flag || r.flag)

    there : (env : Env) → shape_of env ≡ shape → 0 < count_of n (shape_of env)
    there env is = subst (λ s. 0 < count_of n s) (sym is) fits.there

    at_word : (env : Env) → shape_of env ≡ shape → address_of n shape ≡ address_of n (shape_of env) + 0
    at_word env is = ap (address_of n) (sym is) ∙ omega arith

    reads : (v : ℤ) (env : Env) → shape_of env ≡ shape → number_of env n 0 ≡ v → IsOf kind v → read (words_of env) (address_of n shape) kind ≡ v
    reads v env is own at =
        ap (λ k. clamped kind (slice_index_or (words_of env) k (pos 0))) (at_word env is)
        ∙ (ap (clamped kind) (word_is n env 0 (there env is) ∙ own) ∙ clamped_same kind v at)

    sets : (v : ℤ) (env : Env) → shape_of env ≡ shape → slice_set (words_of env) (address_of n shape) v ≡ words_of (with_number env n 0 v)
    sets v env is = ap (λ k. set (words_of env) k v) (at_word env is) ∙ word_set n env 0 v (there env is)

    next_ends : (v : ℤ) (env : Env) (flag : Bool) → shape_of env ≡ shape → number_of env n 0 ≡ v → IsOf kind v → is_past step last (v +ℤ step) ≡ true → NextGoes [] env flag
    unfolding turns
    next_ends v env flag is own at past =
        goes_more code dt (omega arith) (goes_to code dt (omega arith) refl refl (sym (or_none flag))
        (goes_one code dt (i.Next (address_of n shape) kind step last (spot.at + 2)) next (λ stores. (
          stores,
          ap (λ (x : ℤ). does_next x (is_past step last (x +ℤ step)) stores) (reads v env is own at) ∙ ap (λ (b : Bool). does_next v b stores) past,
        ))))
      where
        does_next : ℤ → Bool → List (ℕ × ℤ) → Option State
        does_next x b stores = Some (if b then here (spot.at + 2 + size_of a + 1) [] (words_of env) flag stores else here (spot.at + 2) [] (slice_set (words_of env) (address_of n shape) (x +ℤ step)) flag (noted (address_of n shape) (slice_index_or (words_of env) (address_of n shape) (pos 0)) stores))

    next_turns : (v : ℤ) (vs : List ℤ) (env : Env) (flag : Bool) → shape_of env ≡ shape → number_of env n 0 ≡ v → IsOf kind v → is_past step last (v +ℤ step) ≡ false → TurnGoes vs (v +ℤ step) env flag → NextGoes ((v +ℤ step) ∷ vs) env flag
    next_turns v vs env flag is own at past more =
        let stored = noted (address_of n shape) (slice_index_or (words_of env) (address_of n shape) (pos 0)) in
        goes_more code dt (omega (arith, ap (λ k. k * (cost_of a + 1)) (one_longer vs)))
        (goes_then code dt
        (goes_to code dt refl refl (sets (v +ℤ step) env is) refl
        (goes_one code dt (i.Next (address_of n shape) kind step last (spot.at + 2)) next (λ stores. (
          stored stores,
          ap (λ (x : ℤ). does_next x (is_past step last (x +ℤ step)) stores) (reads v env is own at) ∙ ap (λ (b : Bool). does_next v b stores) past,
        ))))
        more)
      where
        one_longer : (vs : List ℤ) → 1 + length vs ≡ length ((v +ℤ step) ∷ vs)
        one_longer vs = omega arith

        does_next : ℤ → Bool → List (ℕ × ℤ) → Option State
        does_next x b stores = Some (if b then here (spot.at + 2 + size_of a + 1) [] (words_of env) flag stores else here (spot.at + 2) [] (slice_set (words_of env) (address_of n shape) (x +ℤ step)) flag (noted (address_of n shape) (slice_index_or (words_of env) (address_of n shape) (pos 0)) stores))

    turn_by_goes : (x : Ends) (k : ℕ) (words : List ℤ) (flag : Bool) (e f : Effect) → e.ends ≡ x → PieceGoes (inner spot (size_of a)) (size_of a) (cost_of a) words flag e
        → Goes code dt (1 + k * (cost_of a + 1)) (spot.at + 2 + size_of a) [] (words_of e.env) (flag || e.flag) (lands spot (2 + size_of a + 1) f.ends) [] (words_of f.env) ((flag || e.flag) || f.flag)
        → let r = turn_by x e f in Goes code dt ((1 + k) * (cost_of a + 1)) (spot.at + 2) [] words flag (lands spot (2 + size_of a + 1) r.ends) [] (words_of r.env) (flag || r.flag)
    turn_by_goes Onward k words flag e f is g rest =
        goes_more code dt (omega (arith, one_more_turn k (cost_of a + 1))) (goes_to code dt refl refl refl (or_more flag e.flag f.flag)
        (goes_then code dt (goes_to code dt (ap (lands (inner spot (size_of a)) (size_of a)) is) refl refl refl g) rest))
    turn_by_goes Exits k words flag e f is g rest =
        goes_more code dt (omega (arith, one_more_turn k (cost_of a + 1))) (goes_to code dt (ap (lands (inner spot (size_of a)) (size_of a)) is ∙ omega arith) refl refl refl g)
    turn_by_goes Returns k words flag e f is g rest =
        goes_more code dt (omega (arith, one_more_turn k (cost_of a + 1))) (goes_to code dt (ap (lands (inner spot (size_of a)) (size_of a)) is ∙ sym (ap (lands spot (2 + size_of a + 1)) is)) refl refl refl g)

    -- one turn, and what comes behind it
    turn_step : (vs : List ℤ) (v : ℤ) (env : Env) (flag : Bool) → shape_of env ≡ shape
        → ((env' : Env) (flag' : Bool) → shape_of env' ≡ shape → number_of env' n 0 ≡ v → NextGoes vs env' flag') → TurnGoes vs v env flag
    unfolding turns IsOpen
    turn_step vs v env flag is rest =
        let set = with_number env n 0 v in
        let kept : shape_of set ≡ shape = number_shape n env 0 v ∙ is in
        let e = effect_of dt a set in
        let same = effect_open dt shape (n ∷ loops) n (numbers_of n set) a set inside (inl refl) refl in
        let own : number_of e.env n 0 ≡ v = ap (λ l. slice_index_or l 0 (pos 0)) same ∙ number_own n env 0 v (there env is) in
        turn_by_goes e.ends (length vs) (words_of set) flag e (over vs e.env) refl (body set flag kept)
        (rest e.env (flag || e.flag) (effect_shape dt shape (n ∷ loops) a set inside kept) own)

    turn_last : (m : ℕ) (v : ℤ) (env : Env) (flag : Bool) → shape_of env ≡ shape → IsOf kind v → is_past step last (v +ℤ step) ≡ true → TurnGoes (written_from m step last (v +ℤ step)) v env flag
    turn_last m v env flag is at past =
        subst (λ vs. TurnGoes vs v env flag) (sym (written_past m step last (v +ℤ step) past))
        (turn_step [] v env flag is (λ env' flag' is' own. next_ends v env' flag' is' own at past))

    turn_more : (m : ℕ) (v : ℤ) (env : Env) (flag : Bool) → shape_of env ≡ shape → IsOf kind v → is_past step last (v +ℤ step) ≡ false
        → ((env' : Env) (flag' : Bool) → shape_of env' ≡ shape → TurnGoes (written_from m step last (v +ℤ step +ℤ step)) (v +ℤ step) env' flag')
        → TurnGoes (written_from (suc m) step last (v +ℤ step)) v env flag
    turn_more m v env flag is at past more =
        let rest = written_from m step last (v +ℤ step +ℤ step) in
        subst (λ vs. TurnGoes vs v env flag) (sym (written_more m step last (v +ℤ step) past))
        (turn_step ((v +ℤ step) ∷ rest) v env flag is (λ env' flag' is' own. next_turns v rest env' flag' is' own at past (more env' flag' is')))

    turn_goes : (m : ℕ) (v : ℤ) (env : Env) (flag : Bool) → shape_of env ≡ shape → is_past step last v ≡ false → IsOf kind v → unsigned_abs (last -ℤ v) ≤ m → TurnGoes (written_from m step last (v +ℤ step)) v env flag
    turn_goes zero v env flag is now at le = by (is_past step last (v +ℤ step)) refl
      where
        by : (b : Bool) → is_past step last (v +ℤ step) ≡ b → TurnGoes (written_from zero step last (v +ℤ step)) v env flag
        by true past = turn_last zero v env flag is at past
        by false past = let near = nearer kind step last v zero fits.some now past at fits.last_is le in absurd (omega (arith, near.near))
    turn_goes (suc m) v env flag is now at le = by (is_past step last (v +ℤ step)) refl (λ past. let near = nearer kind step last v (suc m) fits.some now past at fits.last_is le in
        (λ env' flag' is'. turn_goes m (v +ℤ step) env' flag' is' past near.value (omega (arith, near.near))))
      where
        by : (b : Bool) → is_past step last (v +ℤ step) ≡ b
            → (is_past step last (v +ℤ step) ≡ false → (env' : Env) (flag' : Bool) → shape_of env' ≡ shape → TurnGoes (written_from m step last (v +ℤ step +ℤ step)) (v +ℤ step) env' flag')
            → TurnGoes (written_from (suc m) step last (v +ℤ step)) v env flag
        by true past more = turn_last (suc m) v env flag is at past
        by false past more = turn_more m v env flag is at past (more past)

    -- the first number is pushed and stored
    pub begins : (vs : List ℤ) (env : Env) (flag : Bool) → shape_of env ≡ shape → slice_get code spot.at ≡ Some (i.Push first) → slice_get code (spot.at + 1) ≡ Some (i.Store (address_of n shape) kind)
        → TurnGoes vs first env flag → PieceGoes spot (2 + size_of a + 1) (2 + length (first ∷ vs) * (cost_of a + 1)) (words_of env) flag (over (first ∷ vs) env)
    begins vs env flag is push store more =
        let stored = noted (address_of n shape) (slice_index_or (words_of env) (address_of n shape) (pos 0)) in
        let g1 = goes_one code dt {at = spot.at} {at1 = spot.at + 1} {s = []} {s1 = first ∷ []} {w = words_of env} {w1 = words_of env} {f = flag} {f1 = flag} (i.Push first) push (λ stores. (stores, refl)) in
        let g2 = goes_one code dt {at = spot.at + 1} {at1 = spot.at + 1 + 1} {s = first ∷ []} {s1 = []} {w = words_of env} {w1 = slice_set (words_of env) (address_of n shape) (clamped kind first)} {f = flag} {f1 = flag} (i.Store (address_of n shape) kind) store (λ stores. (stored stores, refl)) in
        let same : slice_set (words_of env) (address_of n shape) (clamped kind first) ≡ words_of (with_number env n 0 first) = ap (set (words_of env) (address_of n shape)) (clamped_same kind first fits.first_is) ∙ sets first env is in
        goes_more code dt (omega (arith, one_longer vs, ap (λ k. k * (cost_of a + 1)) (one_longer vs)))
        (goes_then code dt (goes_to code dt (omega arith) refl same refl (goes_then code dt g1 g2)) more)
      where
        one_longer : (vs : List ℤ) → 1 + length vs ≡ length (first ∷ vs)
        one_longer vs = omega arith

  -- the whole loop, where its list is this one
  abbrev LoopGoes : Spot → Name → Kind → (first last step : ℤ) → Act → Env → Bool → List ℤ → Type 0
  LoopGoes spot n kind first last step a env flag vs =
      HasAt code spot.at (loop_code vs (i.Push first) (i.Store (address_of n shape) kind) (act_code shape a (inner spot (size_of a))) (i.Next (address_of n shape) kind step last (spot.at + 2)))
      → PieceGoes spot (loop_size vs (size_of a)) (loop_cost vs (cost_of a)) (words_of env) flag (turns n (effect_of dt a) vs env)

  no_turn : (spot : Spot) (n : Name) (kind : Kind) (first last step : ℤ) (a : Act) (env : Env) (flag : Bool) → LoopGoes spot n kind first last step a env flag []
  unfolding turns
  no_turn spot n kind first last step a env flag h = goes_to code dt (omega arith) refl refl (sym (or_none flag)) (goes_none code dt)

  some_turns : (spot : Spot) (n : Name) (kind : Kind) (first last step : ℤ) (a : Act) (loops : List Name) (env : Env) (flag : Bool) → LoopFits shape n kind first last step → ActFits shape (n ∷ loops) a
      → (HasAt code (spot.at + 2) (act_code shape a (inner spot (size_of a))) → (env : Env) (flag : Bool) → shape_of env ≡ shape → PieceGoes (inner spot (size_of a)) (size_of a) (cost_of a) (words_of env) flag (effect_of dt a env))
      → shape_of env ≡ shape → is_past step last first ≡ false
      → LoopGoes spot n kind first last step a env flag (first ∷ written_from (unsigned_abs (last -ℤ first)) step last (first +ℤ step))
  some_turns spot n kind first last step a loops env flag fits inside body is now h =
      let store = i.Store (address_of n shape) kind in let next = i.Next (address_of n shape) kind step last (spot.at + 2) in
      let ca = act_code shape a (inner spot (size_of a)) in
      let h1 = rest_at _ spot.at (i.Push first) (store ∷ (ca ++ next ∷ [])) h in
      let h2 : HasAt code (spot.at + 2) (ca ++ next ∷ []) = subst (λ k. HasAt code k (ca ++ next ∷ [])) (two spot.at) (rest_at _ (spot.at + 1) store (ca ++ next ∷ []) h1) in
      let goes = body (all_front _ (spot.at + 2) ca (next ∷ []) h2) in
      let last_at = first_at _ _ next [] (all_back _ (spot.at + 2) (size_of a) ca (next ∷ []) (act_length shape a (inner spot (size_of a))) h2) in
      begins spot n kind first last step a loops fits inside goes last_at (written_from (unsigned_abs (last -ℤ first)) step last (first +ℤ step)) env flag is
      (first_at _ spot.at (i.Push first) (store ∷ (ca ++ next ∷ [])) h) (first_at _ (spot.at + 1) store (ca ++ next ∷ []) h1)
      (turn_goes spot n kind first last step a loops fits inside goes last_at (unsigned_abs (last -ℤ first)) first env flag is now fits.first_is (omega arith))
    where
      two : (k : ℕ) → k + 1 + 1 ≡ k + 2
      two k = omega arith

  for_goes : (b : Bool) (spot : Spot) (n : Name) (kind : Kind) (first last step : ℤ) (a : Act) (loops : List Name) (env : Env) (flag : Bool) → LoopFits shape n kind first last step → ActFits shape (n ∷ loops) a
      → (HasAt code (spot.at + 2) (act_code shape a (inner spot (size_of a))) → (env : Env) (flag : Bool) → shape_of env ≡ shape → PieceGoes (inner spot (size_of a)) (size_of a) (cost_of a) (words_of env) flag (effect_of dt a env))
      → shape_of env ≡ shape → is_past step last first ≡ b → LoopGoes spot n kind first last step a env flag (written first last step)
  for_goes true spot n kind first last step a loops env flag fits inside body is now =
      subst (LoopGoes spot n kind first last step a env flag) (sym (written_past (suc (unsigned_abs (last -ℤ first))) step last first now)) (no_turn spot n kind first last step a env flag)
  for_goes false spot n kind first last step a loops env flag fits inside body is now =
      subst (LoopGoes spot n kind first last step a env flag) (sym (written_more (unsigned_abs (last -ℤ first)) step last first now)) (some_turns spot n kind first last step a loops env flag fits inside body is now)

  -- ---- the others

  call_goes : (spot : Spot) (kind : BlockKind) (n : Name) (env : Env) (flag : Bool) → shape_of env ≡ shape → count_of n shape ≡ field_count kind → 0 < field_count kind → slice_get code spot.at ≡ Some (i.Call kind (address_of n shape))
      → PieceGoes spot 1 1 (words_of env) flag (onward (with_numbers n (step_block kind dt (numbers_of n env)) env) false)
  call_goes spot kind n env flag is count some h =
      let p = parts n env (subst (λ s. 0 < count_of n s) (sym is) (subst (λ k. 0 < k) (sym count) some)) in
      let address : address_of n shape ≡ length p.before = ap (address_of n) (sym is) ∙ p.address in
      let size : field_count kind ≡ length (numbers_of n env) = sym count ∙ (ap (count_of n) (sym is) ∙ count_is n env) in
      let behind : drop (address_of n shape) (words_of env) ≡ numbers_of n env ++ p.after = ap (λ l. drop (address_of n shape) l) p.words ∙ (ap (λ k. drop k (p.before ++ (numbers_of n env ++ p.after))) address ∙ drop-append_seam p.before (numbers_of n env ++ p.after)) in
      let before : take (address_of n shape) (words_of env) ≡ p.before = ap (λ l. take (address_of n shape) l) p.words ∙ (ap (λ k. take k (p.before ++ (numbers_of n env ++ p.after))) address ∙ take-append_seam p.before (numbers_of n env ++ p.after)) in
      let own : words_at (words_of env) (address_of n shape) (field_count kind) ≡ numbers_of n env = ap (take (field_count kind)) behind ∙ (ap (λ k. take k (numbers_of n env ++ p.after)) size ∙ take-append_seam (numbers_of n env) p.after) in
      let new = step_block kind dt (numbers_of n env) in
      let long : length new ≡ length (numbers_of n env) = length-step_block kind dt (numbers_of n env) ∙ size in
      let after : drop (length new) (drop (address_of n shape) (words_of env)) ≡ p.after = ap (drop (length new)) behind ∙ (ap (λ k. drop k (numbers_of n env ++ p.after)) long ∙ drop-append_seam (numbers_of n env) p.after) in
      let words : with_words (words_of env) (address_of n shape) new ≡ words_of (with_numbers n new env) = (λ j. before j ++ (new ++ after j)) ∙ sym (p.changed new) in
      goes_to code dt refl refl (ap (λ l. with_words (words_of env) (address_of n shape) (step_block kind dt l)) own ∙ words) (sym (or_none flag))
      (goes_one code dt {at = spot.at} {at1 = spot.at + 1} {s = []} {s1 = []} {w = words_of env} {w1 = with_words (words_of env) (address_of n shape) (step_block kind dt (words_at (words_of env) (address_of n shape) (field_count kind)))} {f = flag} {f1 = flag}
      (i.Call kind (address_of n shape)) h (λ stores. (noted_all (address_of n shape) (words_at (words_of env) (address_of n shape) (field_count kind)) stores, refl)))

  -- each act's code does what the act does
  pub act_goes : (a : Act) (loops : List Name) (spot : Spot) (env : Env) (flag : Bool) → ActFits shape loops a → shape_of env ≡ shape → HasAt code spot.at (act_code shape a spot)
      → PieceGoes spot (size_of a) (cost_of a) (words_of env) flag (effect_of dt a env)
  unfolding act_code size_of cost_of effect_of ActFits
  act_goes c.Skip loops spot env flag fits is h = goes_to code dt (omega arith) refl refl (sym (or_none flag)) (goes_none code dt)
  act_goes (c.Then a b) loops spot env flag fits is h =
      let e = effect_of dt a env in let next = moved spot (spot.at + size_of a) in
      then_goes e.ends spot (size_of a) (size_of b) (cost_of a) (cost_of b) (words_of env) flag e (effect_of dt b e.env) refl
      (act_goes a loops spot env flag fits.0 is (all_front _ spot.at (act_code shape a spot) (act_code shape b next) h))
      (act_goes b loops next e.env (flag || e.flag) fits.1 (effect_shape dt shape loops a env fits.0 is) (all_back _ spot.at (size_of a) (act_code shape a spot) (act_code shape b next) (act_length shape a spot) h))
  act_goes (c.Assign n k kind t) loops spot env flag fits is h =
      let x = value_of t env in let store = i.Store (address_of n shape + k) kind in
      let there : k < count_of n (shape_of env) = subst (λ s. k < count_of n s) (sym is) fits.1 in
      let words : slice_set (words_of env) (address_of n shape + k) (clamped kind x.value) ≡ words_of (with_number env n k (clamped kind x.value)) =
      ap (λ s. set (words_of env) (address_of n s + k) (clamped kind x.value)) (sym is) ∙ word_set n env k (clamped kind x.value) there in
      goes_to code dt (omega arith) refl words refl
      (goes_then code dt (term_at t env spot.at [] flag is fits.2.0 (all_front _ spot.at (term_code shape t) (store ∷ []) h))
      (goes_one code dt store (first_at _ _ store [] (all_back _ spot.at (term_cost t) (term_code shape t) (store ∷ []) (term_length shape t) h)) (λ stores. (noted (address_of n shape + k) (slice_index_or (words_of env) (address_of n shape + k) (pos 0)) stores, refl))))
  act_goes (c.AssignElement n kind low high t u) loops spot env flag fits is h =
      let x = value_of t env in let y = value_of u env in let store = i.StoreAt (address_of n shape) kind low high in
      let index = bounded low high x.value in let k = unsigned_abs (index.value -ℤ low) in
      let near = index_near low high x.value (count_of n shape) fits.1.bounds.0 fits.1.there in
      let there : k < count_of n (shape_of env) = subst (λ s. k < count_of n s) (sym is) near in
      let words : slice_set (words_of env) (address_of n shape + k) (clamped kind y.value) ≡ words_of (with_number env n k (clamped kind y.value)) =
      ap (λ s. set (words_of env) (address_of n s + k) (clamped kind y.value)) (sym is) ∙ word_set n env k (clamped kind y.value) there in
      let hu = all_back _ spot.at (term_cost t) (term_code shape t) (term_code shape u ++ store ∷ []) (term_length shape t) h in
      goes_to code dt (omega arith) refl words (ap (λ f. f || index.flag) (or_more flag x.flag y.flag) ∙ or_more flag (x.flag || y.flag) index.flag)
      (goes_then code dt (goes_then code dt (term_at t env spot.at [] flag is fits.2.0 (all_front _ spot.at (term_code shape t) (term_code shape u ++ store ∷ []) h))
      (term_at u env (spot.at + term_cost t) (x.value ∷ []) (flag || x.flag) is fits.3.0 (all_front _ _ (term_code shape u) (store ∷ []) hu)))
      (goes_one code dt store (first_at _ _ store [] (all_back _ _ (term_cost u) (term_code shape u) (store ∷ []) (term_length shape u) hu)) (λ stores. (noted (address_of n shape + k) (slice_index_or (words_of env) (address_of n shape + k) (pos 0)) stores, refl))))
  act_goes (c.Invoke kind n) loops spot env flag fits is h = call_goes spot kind n env flag is fits.1 (some_fields kind) (first_at _ spot.at (i.Call kind (address_of n shape)) [] h)
  act_goes (c.If t a b) loops spot env flag fits is h =
      let first = spot.at + term_cost t + 1 in let second = first + size_of a + 1 in
      let ca = act_code shape a (moved spot first) in let cb = act_code shape b (moved spot second) in
      let jump = i.Jump (second + size_of b) in let test = i.JumpFalse second in
      let h1 = all_back _ spot.at (term_cost t) (term_code shape t) (test ∷ (ca ++ (jump ∷ cb))) (term_length shape t) h in
      let h2 = rest_at _ (spot.at + term_cost t) test (ca ++ (jump ∷ cb)) h1 in
      let h3 = all_back _ first (size_of a) ca (jump ∷ cb) (act_length shape a (moved spot first)) h2 in
      let x = value_of t env in
      if_goes (is_on x.value) x.value spot (term_cost t) (size_of a) (size_of b) (cost_of a) (cost_of b) (words_of env) flag x.flag (effect_of dt a env) (effect_of dt b env) refl
      (term_at t env spot.at [] flag is fits.0.0 (all_front _ spot.at (term_code shape t) (test ∷ (ca ++ (jump ∷ cb))) h))
      (first_at _ (spot.at + term_cost t) test (ca ++ (jump ∷ cb)) h1) (first_at _ (first + size_of a) jump cb h3)
      (act_goes a loops (moved spot first) env (flag || x.flag) fits.1 is (all_front _ first ca (jump ∷ cb) h2))
      (act_goes b loops (moved spot second) env (flag || x.flag) fits.2 is (rest_at _ (first + size_of a) jump cb h3))
  act_goes (c.For n kind first last step a) loops spot env flag fits is h =
      for_goes (is_past step last first) spot n kind first last step a loops env flag fits.1 fits.2
      (λ there env' flag' is'. act_goes a (n ∷ loops) (inner spot (size_of a)) env' flag' fits.2 is' there) is refl h
  act_goes c.Exit loops spot env flag fits is h =
      goes_to code dt refl refl refl (sym (or_none flag)) (goes_one code dt (i.Jump spot.exit) (first_at _ spot.at (i.Jump spot.exit) [] h) (λ stores. (stores, refl)))
  act_goes c.Return loops spot env flag fits is h =
      goes_to code dt refl refl refl (sym (or_none flag)) (goes_one code dt (i.Jump spot.finish) (first_at _ spot.at (i.Jump spot.finish) [] h) (λ stores. (stores, refl)))
