-- An act's code keeps the rules of verified code.
use Rattle.std.proofs.Common.{◌≡◌, ◌≢◌, ℕ, ◌+◌, ◌-◌, ◌<◌, ◌≤◌, ℤ, ◌-ℤ◌, ◌≤ℤ◌, unsigned_abs, Option, Some, None, IfSome, List, [], ◌∷◌, ◌++◌, length, fold, slice_get, arith, sym, ap, ◌∙◌, refl, subst, inl, inr}
use Rattle.std.proofs.lemmas.Int.{ints}
use Rattle.std.proofs.lemmas.Bool.{cases_lt}
use Rattle.std.proofs.lemmas.Option.{slice_get_within, none-some, same_Some}
use Rattle.function_blocks.specs.declared.kinds.Kind.{Kind}
use Rattle.function_blocks.specs.Values.{IsOperand}
use Rattle.function_blocks.specs.Fields.{field_count}
use Rattle.function_blocks.specs.declared.kinds.Kind.TheVariants as kinds
use Rattle.scan_machine.specs.declared.instructions.Instr.{Instr}
use Rattle.scan_machine.specs.declared.instructions.Instr.TheVariants as i
use Rattle.scan_machine.specs.declared.verified.CodeRule.TheVariants as rule
use Rattle.scan_machine.specs.Rules.{StoresTo, HasWords, HasConstants, HasTarget, HasDepth, HasLoop, EmptiesStack, IsOf, depth_after, depth_at, takes, gives, named, NestsWith, IsVerified}
use Rattle.scan_machine.specs.Elements.{IsElement}
use Rattle.st_core.specs.Core.{Name, UnaryOperator, BinaryOperator, TernaryOperator, Term, Act}
use Rattle.st_core.specs.Core as c
use Rattle.st_core.specs.Effects.{written}
use Rattle.st_core.specs.Costs.{term_cost}
use Rattle.st_core.specs.Memory.{Shape, address_of, count_of, total_of}
use Rattle.st_core.specs.Fits.{OperatorFits, TermFits, ActFits, HasArray, LoopFits, height_of}
use Rattle.st_core.specs.Codes.{Spot, moved, inner, unary_instr, binary_instr, ternary_instr, term_code, act_code, size_of, loop_code, IsOpen}
use Rattle.st_core.proofs.Laid.{address_within, addresses_apart, some_fields}
use Rattle.st_core.proofs.Places.{AllAt, HasAt, all_front, all_back, all_join, first_at, rest_at, none_at, cons_at, all_lookup, has_within, has_all}
use Rattle.st_core.proofs.Terms.{term_length}
use Rattle.st_core.proofs.Effects.{free_apart}
use Rattle.st_core.proofs.Runs.{act_length}
use Rattle.st_core.proofs.Depths.{term_depth, act_depth, depth_next, depth_over}

-- the next instruction in the code always follows
abbrev pub GoesOn : Instr → Type 0
GoesOn (i.Jump target) = ⊥
GoesOn (i.JumpFalse target) = ⊥
GoesOn (i.Next address kind step last back) = ⊥
GoesOn _ = Unit {0}

-- a Next goes back no further than to `from`
abbrev pub StartsFrom : ℕ → Instr → Type 0
StartsFrom from (i.Next address kind step last back) = from ≤ back
StartsFrom from _ = Unit {0}

-- ---- what an instruction keeps at its place

pub record Fine (code : List Instr) (words at : ℕ) (x : Instr) : Type 0 where
  pub there : HasWords words x
  pub constants : HasConstants x
  pub target : HasTarget (length code) at x
  pub depth : HasDepth (depth_at code at) x
  pub empty : (t : ℕ) → named x ≡ Some t → depth_at code t ≡ 0
  pub loop : HasLoop code at x

plain_target : (n at : ℕ) (x : Instr) → GoesOn x → HasTarget n at x
plain_target n at (i.Jump t) g = absurd g
plain_target n at (i.JumpFalse t) g = absurd g
plain_target n at (i.Next a kind step last b) g = absurd g
plain_target n at _ g = tt

plain_emptied : (x : Instr) → GoesOn x → EmptiesStack x → ⊥
plain_emptied (i.Jump t) g = absurd g
plain_emptied (i.JumpFalse t) g = absurd g
plain_emptied (i.Next a kind step last b) g = absurd g
plain_emptied _ g = λ e. e

plain_named : (t : ℕ) (x : Instr) → GoesOn x → named x ≡ Some t → ⊥
plain_named t (i.Jump u) g = absurd g
plain_named t (i.JumpFalse u) g = absurd g
plain_named t (i.Next a kind step last b) g = absurd g
plain_named t _ g = λ e. none-some t e

plain_loop : (code : List Instr) (at : ℕ) (x : Instr) → GoesOn x → HasLoop code at x
plain_loop code at (i.Next a kind step last b) g = absurd g
plain_loop code at _ g = tt

-- an instruction that goes on, with d operands before it
plain_fine : (code : List Instr) (words at d : ℕ) (x : Instr) → GoesOn x → depth_at code at ≡ d → HasWords words x → HasConstants x → takes x ≤ d → d - takes x + gives x ≤ 1024 → Fine code words at x
plain_fine code words at d x g is there constants operands room = record {
  there = there;
  constants = constants;
  target = plain_target (length code) at x g;
  depth = record { operands = subst (λ n. takes x ≤ n) (sym is) operands; room = subst (λ n. n - takes x + gives x ≤ 1024) (sym is) room; emptied = λ e. absurd (plain_emptied x g e) };
  empty = λ t e. absurd (plain_named t x g e);
  loop = plain_loop code at x g;
}

-- ---- the words that it touches

word_there : (n : Name) (k : ℕ) (shape : Shape) → k < count_of n shape → (word : ℕ) → word ≡ address_of n shape + k → word < total_of shape
word_there n k shape h word is = omega (arith, is, address_within n k shape h)

-- an element lies no further than the last
element_near : (low high index : ℤ) (n : ℕ) → low ≤ℤ index → index ≤ℤ high → unsigned_abs (high -ℤ low) < n → unsigned_abs (index -ℤ low) < n
element_near low high index n from to there = omega (arith, ints, from, to, there)

array_there : (n : Name) (shape : Shape) (low high : ℤ) → HasArray shape n low high → (word : ℕ) → IsElement (address_of n shape) low high word → word < total_of shape
array_there n shape low high h word lies =
    omega (arith, lies.3, address_within n (unsigned_abs (lies.0 -ℤ low)) shape (element_near low high lies.0 (count_of n shape) lies.1 lies.2 h.there))

-- ---- operators

module _ (words : ℕ) where
  one_words : (o : UnaryOperator) → HasWords words (unary_instr o)
  one_words (c.Negate kind) = λ w l. absurd l
  one_words (c.Absolute kind) = λ w l. absurd l
  one_words (c.Convert kind) = λ w l. absurd l
  one_words c.Not = λ w l. absurd l
  one_words (c.Within low high) = λ w l. absurd l

  two_words : (o : BinaryOperator) → HasWords words (binary_instr o)
  two_words (c.Add kind) = λ w l. absurd l
  two_words (c.Subtract kind) = λ w l. absurd l
  two_words (c.Multiply kind) = λ w l. absurd l
  two_words (c.Divide kind) = λ w l. absurd l
  two_words (c.Modulo kind) = λ w l. absurd l
  two_words (c.Minimum kind) = λ w l. absurd l
  two_words (c.Maximum kind) = λ w l. absurd l
  two_words c.And = λ w l. absurd l
  two_words c.Or = λ w l. absurd l
  two_words c.Xor = λ w l. absurd l
  two_words c.Equals = λ w l. absurd l
  two_words c.Differs = λ w l. absurd l
  two_words c.IsBelow = λ w l. absurd l
  two_words c.IsAbove = λ w l. absurd l
  two_words c.IsAtMost = λ w l. absurd l
  two_words c.IsAtLeast = λ w l. absurd l

  three_words : (o : TernaryOperator) → HasWords words (ternary_instr o)
  three_words c.Limit = λ w l. absurd l
  three_words c.Select = λ w l. absurd l

-- what an operator asks and gives: it goes on, takes n and gives one
pub record Operates (x : Instr) (n : ℕ) : Type 0 where
  pub on : GoesOn x
  pub takes_n : takes x ≡ n
  pub gives_one : gives x ≡ 1
  pub no_store : (word : ℕ) → StoresTo x word → ⊥
  pub starts : (back : ℕ) → StartsFrom back x

one_operates : (o : UnaryOperator) → Operates (unary_instr o) 1
one_operates (c.Negate kind) = record { on = tt; takes_n = refl; gives_one = refl; no_store = λ w l. l; starts = λ b. tt }
one_operates (c.Absolute kind) = record { on = tt; takes_n = refl; gives_one = refl; no_store = λ w l. l; starts = λ b. tt }
one_operates (c.Convert kind) = record { on = tt; takes_n = refl; gives_one = refl; no_store = λ w l. l; starts = λ b. tt }
one_operates c.Not = record { on = tt; takes_n = refl; gives_one = refl; no_store = λ w l. l; starts = λ b. tt }
one_operates (c.Within low high) = record { on = tt; takes_n = refl; gives_one = refl; no_store = λ w l. l; starts = λ b. tt }

one_constants : (o : UnaryOperator) → OperatorFits o → HasConstants (unary_instr o)
one_constants (c.Negate kind) h = tt
one_constants (c.Absolute kind) h = tt
one_constants (c.Convert kind) h = tt
one_constants c.Not h = tt
one_constants (c.Within low high) h = h

two_operates : (o : BinaryOperator) → Operates (binary_instr o) 2 × HasConstants (binary_instr o)
two_operates (c.Add kind) = (record { on = tt; takes_n = refl; gives_one = refl; no_store = λ w l. l; starts = λ b. tt }, tt)
two_operates (c.Subtract kind) = (record { on = tt; takes_n = refl; gives_one = refl; no_store = λ w l. l; starts = λ b. tt }, tt)
two_operates (c.Multiply kind) = (record { on = tt; takes_n = refl; gives_one = refl; no_store = λ w l. l; starts = λ b. tt }, tt)
two_operates (c.Divide kind) = (record { on = tt; takes_n = refl; gives_one = refl; no_store = λ w l. l; starts = λ b. tt }, tt)
two_operates (c.Modulo kind) = (record { on = tt; takes_n = refl; gives_one = refl; no_store = λ w l. l; starts = λ b. tt }, tt)
two_operates (c.Minimum kind) = (record { on = tt; takes_n = refl; gives_one = refl; no_store = λ w l. l; starts = λ b. tt }, tt)
two_operates (c.Maximum kind) = (record { on = tt; takes_n = refl; gives_one = refl; no_store = λ w l. l; starts = λ b. tt }, tt)
two_operates c.And = (record { on = tt; takes_n = refl; gives_one = refl; no_store = λ w l. l; starts = λ b. tt }, tt)
two_operates c.Or = (record { on = tt; takes_n = refl; gives_one = refl; no_store = λ w l. l; starts = λ b. tt }, tt)
two_operates c.Xor = (record { on = tt; takes_n = refl; gives_one = refl; no_store = λ w l. l; starts = λ b. tt }, tt)
two_operates c.Equals = (record { on = tt; takes_n = refl; gives_one = refl; no_store = λ w l. l; starts = λ b. tt }, tt)
two_operates c.Differs = (record { on = tt; takes_n = refl; gives_one = refl; no_store = λ w l. l; starts = λ b. tt }, tt)
two_operates c.IsBelow = (record { on = tt; takes_n = refl; gives_one = refl; no_store = λ w l. l; starts = λ b. tt }, tt)
two_operates c.IsAbove = (record { on = tt; takes_n = refl; gives_one = refl; no_store = λ w l. l; starts = λ b. tt }, tt)
two_operates c.IsAtMost = (record { on = tt; takes_n = refl; gives_one = refl; no_store = λ w l. l; starts = λ b. tt }, tt)
two_operates c.IsAtLeast = (record { on = tt; takes_n = refl; gives_one = refl; no_store = λ w l. l; starts = λ b. tt }, tt)

three_operates : (o : TernaryOperator) → Operates (ternary_instr o) 3 × HasConstants (ternary_instr o)
three_operates c.Limit = (record { on = tt; takes_n = refl; gives_one = refl; no_store = λ w l. l; starts = λ b. tt }, tt)
three_operates c.Select = (record { on = tt; takes_n = refl; gives_one = refl; no_store = λ w l. l; starts = λ b. tt }, tt)

-- ---- terms

height_some : (t : Term) → 1 ≤ height_of t
unfolding height_of
height_some (c.Literal v) = omega arith
height_some (c.Field n k kind) = omega arith
height_some (c.Element n kind low high t) = height_some t
height_some (c.Unary o t) = height_some t
height_some (c.Binary o t u) = omega (arith, height_some t)
height_some (c.Ternary o t u w) = omega (arith, height_some t)

module _ (code : List Instr) (shape : Shape) where
  abbrev FineAt : ℕ → Instr → Type 0
  FineAt = Fine code (total_of shape)

  operator_fine : (x : Instr) (n at d : ℕ) → Operates x n → depth_at code at ≡ d → HasWords (total_of shape) x → HasConstants x → n ≤ d → d - n + 1 ≤ 1024 → FineAt at x
  operator_fine x n at d o is there constants low room =
      plain_fine code (total_of shape) at d x o.on is there constants (omega (arith, o.takes_n, low)) (omega (arith, o.takes_n, o.gives_one, room))

  -- how many wait behind a term
  behind : (t : Term) (at d : ℕ) → HasAt code at (term_code shape t) → depth_at code at ≡ d → depth_at code (at + term_cost t) ≡ d + 1
  behind t at d h is = depth_over code at (term_cost t) (term_code shape t) (term_length shape t) h ∙ (ap (λ k. fold depth_after k (term_code shape t)) is ∙ term_depth shape t d)

  pub term_fine : (t : Term) (at d : ℕ) → HasAt code at (term_code shape t) → TermFits shape t → depth_at code at ≡ d → d + height_of t ≤ 1024 → AllAt FineAt at (term_code shape t)
  unfolding term_code TermFits height_of term_cost
  term_fine (c.Literal v) at d h fits is room = cons_at _ at (i.Push v) [] (plain_fine code (total_of shape) at d (i.Push v) tt is (λ w l. absurd l) fits (omega arith) (omega arith)) (none_at _ (at + 1))
  term_fine (c.Field n k kind) at d h fits is room =
      cons_at _ at (i.Load (address_of n shape + k) kind) [] (plain_fine code (total_of shape) at d (i.Load (address_of n shape + k) kind) tt is (word_there n k shape fits) tt (omega arith) (omega arith)) (none_at _ (at + 1))
  term_fine (c.Element n kind low high t) at d h fits is room =
      let x = i.LoadAt (address_of n shape) kind low high in
      let ht = all_front _ at (term_code shape t) (x ∷ []) h in
      all_join _ at (term_cost t) (term_code shape t) (x ∷ []) (term_length shape t) (term_fine t at d ht fits.1 is room)
      (cons_at _ (at + term_cost t) x [] (plain_fine code (total_of shape) (at + term_cost t) (d + 1) x tt (behind t at d ht is) (array_there n shape low high fits.0) fits.0.bounds (omega arith) (omega (arith, room, height_some t))) (none_at _ (at + term_cost t + 1)))
  term_fine (c.Unary o t) at d h fits is room =
      let x = unary_instr o in
      let ht = all_front _ at (term_code shape t) (x ∷ []) h in
      all_join _ at (term_cost t) (term_code shape t) (x ∷ []) (term_length shape t) (term_fine t at d ht fits.1 is room)
      (cons_at _ (at + term_cost t) x [] (operator_fine x 1 (at + term_cost t) (d + 1) (one_operates o) (behind t at d ht is) (one_words (total_of shape) o) (one_constants o fits.0) (omega arith) (omega (arith, room, height_some t))) (none_at _ (at + term_cost t + 1)))
  term_fine (c.Binary o t u) at d h fits is room =
      let x = binary_instr o in
      let ht = all_front _ at (term_code shape t) (term_code shape u ++ x ∷ []) h in
      let hb = all_back _ at (term_cost t) (term_code shape t) (term_code shape u ++ x ∷ []) (term_length shape t) h in
      let hu = all_front _ (at + term_cost t) (term_code shape u) (x ∷ []) hb in
      let is1 = behind t at d ht is in let is2 = behind u (at + term_cost t) (d + 1) hu is1 in
      all_join _ at (term_cost t) (term_code shape t) (term_code shape u ++ x ∷ []) (term_length shape t) (term_fine t at d ht fits.0 is (omega (arith, room)))
      (all_join _ (at + term_cost t) (term_cost u) (term_code shape u) (x ∷ []) (term_length shape u) (term_fine u (at + term_cost t) (d + 1) hu fits.1 is1 (omega (arith, room)))
      (cons_at _ (at + term_cost t + term_cost u) x [] (operator_fine x 2 (at + term_cost t + term_cost u) (d + 1 + 1) (two_operates o).0 is2 (two_words (total_of shape) o) (two_operates o).1 (omega arith) (omega (arith, room, height_some t))) (none_at _ (at + term_cost t + term_cost u + 1))))
  term_fine (c.Ternary o t u w) at d h fits is room =
      let x = ternary_instr o in
      let ht = all_front _ at (term_code shape t) (term_code shape u ++ (term_code shape w ++ x ∷ [])) h in
      let hb = all_back _ at (term_cost t) (term_code shape t) (term_code shape u ++ (term_code shape w ++ x ∷ [])) (term_length shape t) h in
      let hu = all_front _ (at + term_cost t) (term_code shape u) (term_code shape w ++ x ∷ []) hb in
      let hd = all_back _ (at + term_cost t) (term_cost u) (term_code shape u) (term_code shape w ++ x ∷ []) (term_length shape u) hb in
      let hw = all_front _ (at + term_cost t + term_cost u) (term_code shape w) (x ∷ []) hd in
      let is1 = behind t at d ht is in let is2 = behind u (at + term_cost t) (d + 1) hu is1 in let is3 = behind w (at + term_cost t + term_cost u) (d + 1 + 1) hw is2 in
      all_join _ at (term_cost t) (term_code shape t) (term_code shape u ++ (term_code shape w ++ x ∷ [])) (term_length shape t) (term_fine t at d ht fits.0 is (omega (arith, room)))
      (all_join _ (at + term_cost t) (term_cost u) (term_code shape u) (term_code shape w ++ x ∷ []) (term_length shape u) (term_fine u (at + term_cost t) (d + 1) hu fits.1 is1 (omega (arith, room)))
      (all_join _ (at + term_cost t + term_cost u) (term_cost w) (term_code shape w) (x ∷ []) (term_length shape w) (term_fine w (at + term_cost t + term_cost u) (d + 1 + 1) hw fits.2 is2 (omega (arith, room)))
      (cons_at _ (at + term_cost t + term_cost u + term_cost w) x [] (operator_fine x 3 (at + term_cost t + term_cost u + term_cost w) (d + 1 + 1 + 1) (three_operates o).0 is3 (three_words (total_of shape) o) (three_operates o).1 (omega arith) (omega (arith, room, height_some t))) (none_at _ (at + term_cost t + term_cost u + term_cost w + 1)))))

-- ---- what acts leave alone

-- it goes back no further than to `from`, and can't store to the word
pub record Inner (from word at : ℕ) (x : Instr) : Type 0 where
  pub starts : StartsFrom from x
  pub spares : StoresTo x word → ⊥

quiet : (from word at : ℕ) (x : Instr) (n : ℕ) → Operates x n → Inner from word at x
quiet from word at x n o = record { starts = o.starts from; spares = o.no_store word }

module _ (shape : Shape) (from word : ℕ) where
  term_inner : (t : Term) (at : ℕ) → AllAt (Inner from word) at (term_code shape t)
  unfolding term_code
  term_inner (c.Literal v) at = cons_at _ at (i.Push v) [] (record { starts = tt; spares = λ l. l }) (none_at _ (at + 1))
  term_inner (c.Field n k kind) at = cons_at _ at (i.Load (address_of n shape + k) kind) [] (record { starts = tt; spares = λ l. l }) (none_at _ (at + 1))
  term_inner (c.Element n kind low high t) at =
      let x = i.LoadAt (address_of n shape) kind low high in
      all_join _ at (term_cost t) (term_code shape t) (x ∷ []) (term_length shape t) (term_inner t at) (cons_at _ (at + term_cost t) x [] (record { starts = tt; spares = λ l. l }) (none_at _ (at + term_cost t + 1)))
  term_inner (c.Unary o t) at =
      all_join _ at (term_cost t) (term_code shape t) (unary_instr o ∷ []) (term_length shape t) (term_inner t at) (cons_at _ (at + term_cost t) (unary_instr o) [] (quiet from word (at + term_cost t) (unary_instr o) 1 (one_operates o)) (none_at _ (at + term_cost t + 1)))
  term_inner (c.Binary o t u) at =
      all_join _ at (term_cost t) (term_code shape t) (term_code shape u ++ binary_instr o ∷ []) (term_length shape t) (term_inner t at)
      (all_join _ (at + term_cost t) (term_cost u) (term_code shape u) (binary_instr o ∷ []) (term_length shape u) (term_inner u (at + term_cost t))
      (cons_at _ (at + term_cost t + term_cost u) (binary_instr o) [] (quiet from word (at + term_cost t + term_cost u) (binary_instr o) 2 (two_operates o).0) (none_at _ (at + term_cost t + term_cost u + 1))))
  term_inner (c.Ternary o t u w) at =
      all_join _ at (term_cost t) (term_code shape t) (term_code shape u ++ (term_code shape w ++ ternary_instr o ∷ [])) (term_length shape t) (term_inner t at)
      (all_join _ (at + term_cost t) (term_cost u) (term_code shape u) (term_code shape w ++ ternary_instr o ∷ []) (term_length shape u) (term_inner u (at + term_cost t))
      (all_join _ (at + term_cost t + term_cost u) (term_cost w) (term_code shape w) (ternary_instr o ∷ []) (term_length shape w) (term_inner w (at + term_cost t + term_cost u))
      (cons_at _ (at + term_cost t + term_cost u + term_cost w) (ternary_instr o) [] (quiet from word (at + term_cost t + term_cost u + term_cost w) (ternary_instr o) 3 (three_operates o).0) (none_at _ (at + term_cost t + term_cost u + term_cost w + 1)))))

-- another tag's word
field_spared : (m n : Name) (k : ℕ) (shape : Shape) → m ≢ n → 0 < count_of m shape → k < count_of n shape → address_of m shape ≡ address_of n shape + k → ⊥
field_spared m n k shape apart some there is = addresses_apart m n 0 k shape apart some there (omega (arith, is))

range_spared : (m n : Name) (more : ℕ) (shape : Shape) → m ≢ n → 0 < count_of m shape → more < count_of n shape → (address_of n shape ≤ address_of m shape) × (address_of m shape < address_of n shape + more + 1) → ⊥
range_spared m n more shape apart some there lies =
    let k = address_of m shape - address_of n shape in
    addresses_apart m n 0 k shape apart some (omega (arith, lies.0, lies.1, there)) (omega (arith, lies.0))

module _ (shape : Shape) (from : ℕ) (m : Name) (some : 0 < count_of m shape) where
  abbrev InnerAt : ℕ → Instr → Type 0
  InnerAt = Inner from (address_of m shape)

  loop_inner : (vs : List ℤ) (first : ℤ) (n : Name) (kind : Kind) (step last : ℤ) (body : List Instr) (at size : ℕ) → m ≢ n → 0 < count_of n shape → from ≤ at → length body ≡ size → AllAt InnerAt (at + 2) body
      → AllAt InnerAt at (loop_code vs (i.Push first) (i.Store (address_of n shape) kind) body (i.Next (address_of n shape) kind step last (at + 2)))
  loop_inner [] first n kind step last body at size apart there le is h = none_at _ at
  loop_inner (v ∷ vs) first n kind step last body at size apart there le is h =
      let store = i.Store (address_of n shape) kind in let next = i.Next (address_of n shape) kind step last (at + 2) in
      let spared : address_of m shape ≡ address_of n shape → ⊥ = λ is. field_spared m n 0 shape apart some there (omega (arith, is)) in
      let two : at + 2 ≡ at + 1 + 1 = omega arith in
      cons_at _ at (i.Push first) (store ∷ (body ++ next ∷ [])) (record { starts = tt; spares = λ l. l })
      (cons_at _ (at + 1) store (body ++ next ∷ []) (record { starts = tt; spares = spared })
      (subst (λ k. AllAt InnerAt k (body ++ next ∷ [])) two
      (all_join _ (at + 2) size body (next ∷ []) is h (cons_at _ (at + 2 + size) next [] (record { starts = omega (arith, le); spares = spared }) (none_at _ (at + 2 + size + 1))))))

  act_inner : (a : Act) (loops : List Name) (spot : Spot) → ActFits shape loops a → IsOpen m loops → from ≤ spot.at → AllAt InnerAt spot.at (act_code shape a spot)
  unfolding act_code ActFits IsOpen
  act_inner c.Skip loops spot fits in_loop le = none_at _ spot.at
  act_inner (c.Then a b) loops spot fits in_loop le =
      let next = moved spot (spot.at + size_of a) in
      all_join _ spot.at (size_of a) (act_code shape a spot) (act_code shape b next) (act_length shape a spot) (act_inner a loops spot fits.0 in_loop le) (act_inner b loops next fits.1 in_loop (omega (arith, le)))
  act_inner (c.Assign n k kind t) loops spot fits in_loop le =
      let store = i.Store (address_of n shape + k) kind in
      all_join _ spot.at (term_cost t) (term_code shape t) (store ∷ []) (term_length shape t) (term_inner shape from (address_of m shape) t spot.at)
      (cons_at _ (spot.at + term_cost t) store [] (record { starts = tt; spares = field_spared m n k shape (free_apart n m loops fits.0 in_loop) some fits.1 }) (none_at _ (spot.at + term_cost t + 1)))
  act_inner (c.AssignElement n kind low high t u) loops spot fits in_loop le =
      let store = i.StoreAt (address_of n shape) kind low high in
      all_join _ spot.at (term_cost t) (term_code shape t) (term_code shape u ++ store ∷ []) (term_length shape t) (term_inner shape from (address_of m shape) t spot.at)
      (all_join _ (spot.at + term_cost t) (term_cost u) (term_code shape u) (store ∷ []) (term_length shape u) (term_inner shape from (address_of m shape) u (spot.at + term_cost t))
      (cons_at _ (spot.at + term_cost t + term_cost u) store [] (record { starts = tt; spares = λ l. field_spared m n (unsigned_abs (l.0 -ℤ low)) shape (free_apart n m loops fits.0 in_loop) some (element_near low high l.0 (count_of n shape) l.1 l.2 fits.1.there) l.3 }) (none_at _ (spot.at + term_cost t + term_cost u + 1))))
  act_inner (c.Invoke kind n) loops spot fits in_loop le =
      cons_at _ spot.at (i.Call kind (address_of n shape)) [] (record { starts = tt; spares = λ l. range_spared m n (field_count kind - 1) shape (free_apart n m loops fits.0 in_loop) some (omega (arith, fits.1, some_fields kind)) (l.0, omega (arith, l.1, some_fields kind)) }) (none_at _ (spot.at + 1))
  act_inner (c.If t a b) loops spot fits in_loop le =
      let first = spot.at + term_cost t + 1 in let second = first + size_of a + 1 in
      let ca = act_code shape a (moved spot first) in let cb = act_code shape b (moved spot second) in
      let jump = i.Jump (second + size_of b) in let test = i.JumpFalse second in
      all_join _ spot.at (term_cost t) (term_code shape t) (test ∷ (ca ++ (jump ∷ cb))) (term_length shape t) (term_inner shape from (address_of m shape) t spot.at)
      (cons_at _ (spot.at + term_cost t) test (ca ++ (jump ∷ cb)) (record { starts = tt; spares = λ l. l })
      (all_join _ first (size_of a) ca (jump ∷ cb) (act_length shape a (moved spot first)) (act_inner a loops (moved spot first) fits.1 in_loop (omega (arith, le)))
      (cons_at _ (first + size_of a) jump cb (record { starts = tt; spares = λ l. l }) (act_inner b loops (moved spot second) fits.2 in_loop (omega (arith, le))))))
  act_inner (c.For n kind first last step a) loops spot fits in_loop le =
      loop_inner (written first last step) first n kind step last (act_code shape a (inner spot (size_of a))) spot.at (size_of a) (free_apart n m loops fits.0 in_loop) fits.1.there le (act_length shape a (inner spot (size_of a)))
      (act_inner a (n ∷ loops) (inner spot (size_of a)) fits.2 (inr in_loop) (omega (arith, le)))
  act_inner c.Exit loops spot fits in_loop le = cons_at _ spot.at (i.Jump spot.exit) [] (record { starts = tt; spares = λ l. l }) (none_at _ (spot.at + 1))
  act_inner c.Return loops spot fits in_loop le = cons_at _ spot.at (i.Jump spot.finish) [] (record { starts = tt; spares = λ l. l }) (none_at _ (spot.at + 1))

-- ---- acts

nests_before : (from to at : ℕ) (x : Instr) → at < from → NestsWith from to at x
nests_before from to at (i.Next a kind step last back) less = inl less
nests_before from to at _ less = tt

nests_within : (from to at : ℕ) (x : Instr) → StartsFrom from x → at ≤ to → NestsWith from to at x
nests_within from to at (i.Next a kind step last back) starts le = inr (inr (inr (starts, le)))
nests_within from to at _ starts le = tt

operand_of : (kind : Kind) (v : ℤ) → IsOf kind v → IsOperand v
operand_of kinds.Bool v h = (omega (arith, ints, h.0), omega (arith, ints, h.1))
operand_of kinds.Int v h = (omega (arith, ints, h.0), omega (arith, ints, h.1))
operand_of kinds.Dint v h = (omega (arith, ints, h.0), omega (arith, ints, h.1))

module _ (code : List Instr) (shape : Shape) (ends : depth_at code (length code) ≡ 0) where
  -- EXIT leads to a later place where no operand waits
  pub record CanExit (spot : Spot) (size : ℕ) : Type 0 where
    pub later : spot.at + size ≤ spot.exit
    pub within : spot.exit ≤ length code
    pub flat : depth_at code spot.exit ≡ 0

  jump_fine : (at t : ℕ) → depth_at code at ≡ 0 → at < t → t ≤ length code → depth_at code t ≡ 0 → Fine code (total_of shape) at (i.Jump t)
  jump_fine at t flat less le flat' = record {
    there = λ w l. absurd l;
    constants = tt;
    target = (less, le);
    depth = record { operands = omega arith; room = omega (arith, flat); emptied = λ _. flat };
    empty = λ u e. subst (λ k. depth_at code k ≡ 0) (same_Some t u e) flat';
    loop = tt;
  }

  test_fine : (at t : ℕ) → depth_at code at ≡ 1 → at < t → t ≤ length code → depth_at code t ≡ 0 → Fine code (total_of shape) at (i.JumpFalse t)
  test_fine at t one less le flat' = record {
    there = λ w l. absurd l;
    constants = tt;
    target = (less, le);
    depth = record { operands = omega (arith, one); room = omega (arith, one); emptied = λ _. one };
    empty = λ u e. subst (λ k. depth_at code k ≡ 0) (same_Some t u e) flat';
    loop = tt;
  }

  -- no operand waits behind an act
  flat_behind : (a : Act) (spot : Spot) → HasAt code spot.at (act_code shape a spot) → depth_at code spot.at ≡ 0 → depth_at code (spot.at + size_of a) ≡ 0
  flat_behind a spot h flat = depth_over code spot.at (size_of a) (act_code shape a spot) (act_length shape a spot) h ∙ (ap (λ d. fold depth_after d (act_code shape a spot)) flat ∙ act_depth shape a spot)

  next_fine : (n : Name) (kind : Kind) (first last step : ℤ) (a : Act) (loops : List Name) (spot : Spot) → LoopFits shape n kind first last step → ActFits shape (n ∷ loops) a
      → HasAt code (spot.at + 2) (act_code shape a (inner spot (size_of a))) → depth_at code (spot.at + 2) ≡ 0
      → Fine code (total_of shape) (spot.at + 2 + size_of a) (i.Next (address_of n shape) kind step last (spot.at + 2))
  unfolding IsOpen
  next_fine n kind first last step a loops spot fits inside h flat =
      let back = spot.at + 2 in let to = spot.at + 2 + size_of a in
      let flat' = flat_behind a (inner spot (size_of a)) h flat in
      let all = act_inner shape back n fits.there a (n ∷ loops) (inner spot (size_of a)) inside (inl refl) (omega arith) in
      let len = act_length shape a (inner spot (size_of a)) in
      record {
        there = λ w is. word_there n 0 shape fits.there w (omega (arith, is));
        constants = (fits.step_is, fits.last_is, fits.some);
        target = omega arith;
        depth = record { operands = omega arith; room = omega (arith, flat'); emptied = λ _. flat' };
        empty = λ u e. subst (λ k. depth_at code k ≡ 0) (same_Some back u e) flat;
        loop = λ k x less is.
            elim (cases_lt k back) as (λ _. (back ≤ k → StoresTo x (address_of n shape) → ⊥) × NestsWith back to k x) [
              | inl before ↦ ((λ le. absurd (omega (arith, before, le))), nests_before back to k x before)
              | inr behind ↦
                  let own = all_lookup (Inner back (address_of n shape)) code back (act_code shape a (inner spot (size_of a))) h all k x behind (omega (arith, less, len)) is in
                  ((λ le. own.spares), nests_within back to k x own.starts (omega (arith, less)))
            ];
      }

  loop_fine : (vs : List ℤ) (n : Name) (kind : Kind) (first last step : ℤ) (a : Act) (loops : List Name) (spot : Spot) → LoopFits shape n kind first last step → ActFits shape (n ∷ loops) a → depth_at code spot.at ≡ 0
      → (HasAt code (spot.at + 2) (act_code shape a (inner spot (size_of a))) → depth_at code (spot.at + 2) ≡ 0 → CanExit (inner spot (size_of a)) (size_of a) → AllAt (Fine code (total_of shape)) (spot.at + 2) (act_code shape a (inner spot (size_of a))))
      → HasAt code spot.at (loop_code vs (i.Push first) (i.Store (address_of n shape) kind) (act_code shape a (inner spot (size_of a))) (i.Next (address_of n shape) kind step last (spot.at + 2)))
      → AllAt (Fine code (total_of shape)) spot.at (loop_code vs (i.Push first) (i.Store (address_of n shape) kind) (act_code shape a (inner spot (size_of a))) (i.Next (address_of n shape) kind step last (spot.at + 2)))
  loop_fine [] n kind first last step a loops spot fits inside flat body h = none_at _ spot.at
  loop_fine (v ∷ vs) n kind first last step a loops spot fits inside flat body h =
      let push = i.Push first in let store = i.Store (address_of n shape) kind in let next = i.Next (address_of n shape) kind step last (spot.at + 2) in
      let ca = act_code shape a (inner spot (size_of a)) in
      let two : spot.at + 2 ≡ spot.at + 1 + 1 = omega arith in
      let h1 = rest_at _ spot.at push (store ∷ (ca ++ next ∷ [])) h in
      let h2 : HasAt code (spot.at + 2) (ca ++ next ∷ []) = subst (λ k. HasAt code k (ca ++ next ∷ [])) (sym two) (rest_at _ (spot.at + 1) store (ca ++ next ∷ []) h1) in
      let one = depth_next code spot.at push (first_at _ spot.at push (store ∷ (ca ++ next ∷ [])) h) ∙ ap (λ d. depth_after d push) flat in
      let flat2 : depth_at code (spot.at + 2) ≡ 0 = ap (depth_at code) two ∙ (depth_next code (spot.at + 1) store (first_at _ (spot.at + 1) store (ca ++ next ∷ []) h1) ∙ ap (λ d. depth_after d store) one) in
      let hb = all_front _ (spot.at + 2) ca (next ∷ []) h2 in
      let hn = first_at _ _ next [] (all_back _ (spot.at + 2) (size_of a) ca (next ∷ []) (act_length shape a (inner spot (size_of a))) h2) in
      let flat3 = flat_behind a (inner spot (size_of a)) hb flat2 in
      let exit : CanExit (inner spot (size_of a)) (size_of a) = record {
        later = omega arith;
        within = omega (arith, slice_get_within code (spot.at + 2 + size_of a) next hn);
        flat = depth_next code (spot.at + 2 + size_of a) next hn ∙ ap (λ d. depth_after d next) flat3;
      } in
      let room : 0 < total_of shape = omega (arith, address_within n 0 shape fits.there) in
      cons_at _ spot.at push (store ∷ (ca ++ next ∷ [])) (plain_fine code (total_of shape) spot.at 0 push tt flat (λ w l. absurd l) (operand_of kind first fits.first_is) (omega arith) (omega arith))
      (cons_at _ (spot.at + 1) store (ca ++ next ∷ []) (plain_fine code (total_of shape) (spot.at + 1) 1 store tt one (λ w is. word_there n 0 shape fits.there w (omega (arith, is))) tt (omega arith) (omega arith))
      (subst (λ k. AllAt (Fine code (total_of shape)) k (ca ++ next ∷ [])) two
      (all_join _ (spot.at + 2) (size_of a) ca (next ∷ []) (act_length shape a (inner spot (size_of a))) (body hb flat2 exit)
      (cons_at _ (spot.at + 2 + size_of a) next [] (next_fine n kind first last step a loops spot fits inside hb flat2) (none_at _ (spot.at + 2 + size_of a + 1))))))

  pub act_fine : (a : Act) (loops : List Name) (spot : Spot) → ActFits shape loops a → HasAt code spot.at (act_code shape a spot) → spot.at ≤ length code → depth_at code spot.at ≡ 0 → spot.finish ≡ length code → (loops ≢ [] → CanExit spot (size_of a))
      → AllAt (Fine code (total_of shape)) spot.at (act_code shape a spot)
  unfolding act_code ActFits size_of
  act_fine c.Skip loops spot fits h le flat fin exit = none_at _ spot.at
  act_fine (c.Then a b) loops spot fits h le flat fin exit =
      let next = moved spot (spot.at + size_of a) in
      let ha = all_front _ spot.at (act_code shape a spot) (act_code shape b next) h in
      let hb = all_back _ spot.at (size_of a) (act_code shape a spot) (act_code shape b next) (act_length shape a spot) h in
      let le' : spot.at + size_of a ≤ length code = omega (arith, has_within code spot.at (act_code shape a spot) ha le, act_length shape a spot) in
      all_join _ spot.at (size_of a) (act_code shape a spot) (act_code shape b next) (act_length shape a spot)
      (act_fine a loops spot fits.0 ha le flat fin (λ some. let x = exit some in record { later = omega (arith, x.later); within = x.within; flat = x.flat }))
      (act_fine b loops next fits.1 hb le' (flat_behind a spot ha flat) fin (λ some. let x = exit some in record { later = omega (arith, x.later); within = x.within; flat = x.flat }))
  act_fine (c.Assign n k kind t) loops spot fits h le flat fin exit =
      let store = i.Store (address_of n shape + k) kind in
      let ht = all_front _ spot.at (term_code shape t) (store ∷ []) h in
      all_join _ spot.at (term_cost t) (term_code shape t) (store ∷ []) (term_length shape t) (term_fine code shape t spot.at 0 ht fits.2.0 flat fits.2.1)
      (cons_at _ (spot.at + term_cost t) store [] (plain_fine code (total_of shape) (spot.at + term_cost t) 1 store tt (behind code shape t spot.at 0 ht flat) (word_there n k shape fits.1) tt (omega arith) (omega arith)) (none_at _ (spot.at + term_cost t + 1)))
  act_fine (c.AssignElement n kind low high t u) loops spot fits h le flat fin exit =
      let store = i.StoreAt (address_of n shape) kind low high in
      let ht = all_front _ spot.at (term_code shape t) (term_code shape u ++ store ∷ []) h in
      let hb = all_back _ spot.at (term_cost t) (term_code shape t) (term_code shape u ++ store ∷ []) (term_length shape t) h in
      let hu = all_front _ (spot.at + term_cost t) (term_code shape u) (store ∷ []) hb in
      let is1 = behind code shape t spot.at 0 ht flat in
      all_join _ spot.at (term_cost t) (term_code shape t) (term_code shape u ++ store ∷ []) (term_length shape t) (term_fine code shape t spot.at 0 ht fits.2.0 flat fits.2.1)
      (all_join _ (spot.at + term_cost t) (term_cost u) (term_code shape u) (store ∷ []) (term_length shape u) (term_fine code shape u (spot.at + term_cost t) 1 hu fits.3.0 is1 fits.3.1)
      (cons_at _ (spot.at + term_cost t + term_cost u) store [] (plain_fine code (total_of shape) (spot.at + term_cost t + term_cost u) 2 store tt (behind code shape u (spot.at + term_cost t) 1 hu is1) (array_there n shape low high fits.1) fits.1.bounds (omega arith) (omega arith)) (none_at _ (spot.at + term_cost t + term_cost u + 1))))
  act_fine (c.Invoke kind n) loops spot fits h le flat fin exit =
      cons_at _ spot.at (i.Call kind (address_of n shape)) [] (plain_fine code (total_of shape) spot.at 0 (i.Call kind (address_of n shape)) tt flat
      (λ w lies. omega (arith, lies.0, lies.1, fits.1, some_fields kind, address_within n (field_count kind - 1) shape (omega (arith, fits.1, some_fields kind)))) tt (omega arith) (omega arith)) (none_at _ (spot.at + 1))
  act_fine (c.If t a b) loops spot fits h le flat fin exit =
      let first = spot.at + term_cost t + 1 in let second = first + size_of a + 1 in
      let ca = act_code shape a (moved spot first) in let cb = act_code shape b (moved spot second) in
      let jump = i.Jump (second + size_of b) in let test = i.JumpFalse second in
      let ht = all_front _ spot.at (term_code shape t) (test ∷ (ca ++ (jump ∷ cb))) h in
      let h1 = all_back _ spot.at (term_cost t) (term_code shape t) (test ∷ (ca ++ (jump ∷ cb))) (term_length shape t) h in
      let h2 = rest_at _ (spot.at + term_cost t) test (ca ++ (jump ∷ cb)) h1 in
      let ha = all_front _ first ca (jump ∷ cb) h2 in
      let h3 = all_back _ first (size_of a) ca (jump ∷ cb) (act_length shape a (moved spot first)) h2 in
      let hb = rest_at _ (first + size_of a) jump cb h3 in
      let at_test = first_at _ (spot.at + term_cost t) test (ca ++ (jump ∷ cb)) h1 in let at_jump = first_at _ (first + size_of a) jump cb h3 in
      let one = behind code shape t spot.at 0 ht flat in
      let flat1 : depth_at code first ≡ 0 = depth_next code (spot.at + term_cost t) test at_test ∙ ap (λ d. depth_after d test) one in
      let flat2 = flat_behind a (moved spot first) ha flat1 in
      let flat3 : depth_at code second ≡ 0 = depth_next code (first + size_of a) jump at_jump in
      let flat4 = flat_behind b (moved spot second) hb flat3 in
      let le1 : second ≤ length code = omega (arith, slice_get_within code (first + size_of a) jump at_jump) in
      let le2 : second + size_of b ≤ length code = omega (arith, has_within code second cb hb le1, act_length shape b (moved spot second)) in
      all_join _ spot.at (term_cost t) (term_code shape t) (test ∷ (ca ++ (jump ∷ cb))) (term_length shape t) (term_fine code shape t spot.at 0 ht fits.0.0 flat fits.0.1)
      (cons_at _ (spot.at + term_cost t) test (ca ++ (jump ∷ cb)) (test_fine (spot.at + term_cost t) second one (omega arith) le1 flat3)
      (all_join _ first (size_of a) ca (jump ∷ cb) (act_length shape a (moved spot first))
      (act_fine a loops (moved spot first) fits.1 ha (omega (arith, le1)) flat1 fin (λ some. let x = exit some in record { later = omega (arith, x.later); within = x.within; flat = x.flat }))
      (cons_at _ (first + size_of a) jump cb (jump_fine (first + size_of a) (second + size_of b) flat2 (omega arith) le2 flat4)
      (act_fine b loops (moved spot second) fits.2 hb le1 flat3 fin (λ some. let x = exit some in record { later = omega (arith, x.later); within = x.within; flat = x.flat })))))
  act_fine (c.For n kind first last step a) loops spot fits h le flat fin exit =
      loop_fine (written first last step) n kind first last step a loops spot fits.1 fits.2 flat
      (λ there flat' exit'. act_fine a (n ∷ loops) (inner spot (size_of a)) fits.2 there (omega (arith, exit'.later, exit'.within)) flat' fin (λ some. exit')) h
  act_fine c.Exit loops spot fits h le flat fin exit =
      let x = exit fits in cons_at _ spot.at (i.Jump spot.exit) [] (jump_fine spot.at spot.exit flat (omega (arith, x.later)) x.within x.flat) (none_at _ (spot.at + 1))
  act_fine c.Return loops spot fits h le flat fin exit =
      let w = slice_get_within code spot.at (i.Jump spot.finish) (first_at _ spot.at (i.Jump spot.finish) [] h) in
      cons_at _ spot.at (i.Jump spot.finish) [] (jump_fine spot.at spot.finish flat (omega (arith, fin, w)) (omega (arith, fin)) (ap (depth_at code) fin ∙ ends)) (none_at _ (spot.at + 1))

-- ---- all five rules

module _ (code : List Instr) (words : ℕ) (fine : AllAt (Fine code words) 0 code) (ends : depth_at code (length code) ≡ 0) where
  fine_at : (k : ℕ) (x : Instr) → slice_get code k ≡ Some x → Fine code words k x
  fine_at k x is = all_lookup (Fine code words) code 0 code (has_all code) fine k x (omega arith) (omega (arith, slice_get_within code k x is)) is

  each : (P : Instr → Type 0) (place : ℕ) (o : Option Instr) → slice_get code place ≡ o → ((x : Instr) → slice_get code place ≡ Some x → P x) → IfSome (slice_get code place) P
  each P place None e h = subst (λ o. IfSome o P) (sym e) tt
  each P place (Some x) e h = subst (λ o. IfSome o P) (sym e) (h x e)

  pub verified : IsVerified code words
  verified place le rule.Address = each (HasWords words) place (slice_get code place) refl (λ x is. (fine_at place x is).there)
  verified place le rule.Constant = each HasConstants place (slice_get code place) refl (λ x is. (fine_at place x is).constants)
  verified place le rule.Target = each (HasTarget (length code) place) place (slice_get code place) refl (λ x is. (fine_at place x is).target)
  verified place le rule.Depth = record {
    here = each (HasDepth (depth_at code place)) place (slice_get code place) refl (λ x is. (fine_at place x is).depth);
    target = λ t. (fine_at t.0 t.1.0 t.1.1).empty place t.1.2;
    finish = λ e. ap (depth_at code) e ∙ ends;
  }
  verified place le rule.Loop = each (HasLoop code place) place (slice_get code place) refl (λ x is. (fine_at place x is).loop)
