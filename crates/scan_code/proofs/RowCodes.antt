-- The code of operands in a row.
use Rattle.std.proofs.Common.{◌≡◌, ℕ, ◌+◌, ◌<◌, ◌≤◌, false, List, [], ◌∷◌, ◌++◌, length, get_or, take, fold, Option, ◌==◌, arith, refl, ap, sym, ◌∙◌, append_assoc}
use Rattle.std.proofs.lemmas.List.Sums.{fold_more}
use Rattle.function_blocks.specs.declared.kinds.Kind.{Kind}
use Rattle.function_blocks.specs.declared.kinds.Kind.TheVariants as k
use Rattle.scan_machine.specs.declared.instructions.Instr.{Instr}
use Rattle.st_core.specs.Core.{UnaryOperator, BinaryOperator, Term}
use Rattle.st_core.specs.Core as c
use Rattle.st_core.specs.Memory.{Shape}
use Rattle.st_core.specs.Codes.{unary_instr, binary_instr, term_code}
use Rattle.st_meaning.specs.Expressions.{Elaborated, common, settled, compared}
use Rattle.code_size.proofs.Rows.{taken_all}

-- an operand and an operator behind the code so far
pub binary_code : (shape : Shape) (o : BinaryOperator) (t u : Term) (old here next new : List Instr) → here ≡ old ++ term_code shape t → next ≡ here ++ term_code shape u → new ≡ next ++ binary_instr o ∷ [] → new ≡ old ++ term_code shape (c.Binary o t u)
unfolding term_code
binary_code shape o t u old here next new h n w =
    w ∙ (ap (λ l. l ++ binary_instr o ∷ []) (n ∙ ap (λ l. l ++ term_code shape u) h)
    ∙ (append_assoc (old ++ term_code shape t) (term_code shape u) (binary_instr o ∷ [])
    ∙ append_assoc old (term_code shape t) (term_code shape u ++ binary_instr o ∷ [])))

pub unary_code : (shape : Shape) (o : UnaryOperator) (t : Term) (old here new : List Instr) → here ≡ old ++ term_code shape t → new ≡ here ++ unary_instr o ∷ [] → new ≡ old ++ term_code shape (c.Unary o t)
unfolding term_code
unary_code shape o t old here new h w = w ∙ (ap (λ l. l ++ unary_instr o ∷ []) h ∙ append_assoc old (term_code shape t) (unary_instr o ∷ []))

-- one operand more, where each operand is asked for the same type
pub code_more : {X : Type 0} (shape : Shape) (kind : Kind) (step : Elaborated → X → Elaborated) (o : X → BinaryOperator) (one : X → Term) → ((a : Elaborated) (x : X) → (step a x).asked kind ≡ c.Binary (o x) (a.asked kind) (one x))
    → (a : Elaborated) (xs : List X) (i : ℕ) (x : X) (old here next new : List Instr) → i < length xs → x ≡ get_or xs i x
    → here ≡ old ++ term_code shape ((fold step a (take i xs)).asked kind) → next ≡ here ++ term_code shape (one x) → new ≡ next ++ binary_instr (o x) ∷ []
    → new ≡ old ++ term_code shape ((fold step a (take (i + 1) xs)).asked kind)
code_more shape kind step o one steps a xs i x old here next new less is h n w =
    binary_code shape (o x) ((fold step a (take i xs)).asked kind) (one x) old here next new h n w
    ∙ ap (λ (t : Term). old ++ term_code shape t) (sym (ap (λ (j : Elaborated). j.asked kind) (fold_more step a xs i x less ∙ ap (step (fold step a (take i xs))) (sym is)) ∙ steps (fold step a (take i xs)) x))

-- what operators make of no type in particular is the same for each
any_asked : {X : Type 0} (step : Elaborated → X → Elaborated) → ((a : Elaborated) (x : X) (j l : Kind) → (step a x).asked j ≡ (step a x).asked l) → (a : Elaborated) (xs : List X) (j l : Kind) → a.asked j ≡ a.asked l → (fold step a xs).asked j ≡ (fold step a xs).asked l
any_asked step same a [] j l e = e
any_asked step same a (x ∷ xs) j l e = any_asked step same (step a x) xs j l (same a x j l)

-- all operands of AND, OR or XOR
pub logic_all : {X : Type 0} (step : Elaborated → X → Elaborated) → ((a : Elaborated) (x : X) (j l : Kind) → (step a x).asked j ≡ (step a x).asked l)
    → (shape : Shape) (a : Elaborated) (xs ys : List X) (n : ℕ) (asked : Kind) (old here : List Instr) → ys ≡ xs → false ≡ (length ys == 0) → length ys ≤ n
    → here ≡ old ++ term_code shape ((fold step a (take n ys)).asked k.Bool) → here ≡ old ++ term_code shape ((fold step a xs).asked asked)
logic_all step same shape a xs [] n asked old here e some le h = absurd (cc)
logic_all step same shape a xs (y ∷ ys) n asked old here e some le h =
    h ∙ (ap (λ l. old ++ term_code shape ((fold step a l).asked k.Bool)) (taken_all (y ∷ ys) n le)
    ∙ (ap (λ t. old ++ term_code shape t) (any_asked step same (step a y) ys k.Bool asked (same a y k.Bool asked)) ∙ ap (λ l. old ++ term_code shape ((fold step a l).asked asked)) e))

-- ---- comparisons

module _ {X : Type 0} (operator : X → BinaryOperator) (one : X → Elaborated) where
  abbrev pub step : Elaborated → X → Elaborated
  step a x = compared (operator x) a (one x)

  abbrev pub compared_type : Elaborated → Elaborated → Kind
  compared_type a b = settled (common a.own b.own)

  -- the code so far, and the type of the next comparison
  pub record Compares (shape : Shape) (a : Elaborated) (xs : List X) (i : ℕ) (at : Kind) (old here : List Instr) : Type 0 where
    pub code : here ≡ old ++ term_code shape ((fold step a (take i xs)).asked at)
    pub kind : (x : X) → i < length xs → x ≡ get_or xs i x → at ≡ compared_type (fold step a (take i xs)) (one x)

  pub compares_first : (shape : Shape) (a : Elaborated) (xs : List X) (x : X) (first second both : Option Kind) (at : Kind) (old here : List Instr)
      → x ≡ get_or xs 0 x → first ≡ a.own → second ≡ (one x).own → both ≡ common first second → at ≡ settled both → here ≡ old ++ term_code shape (a.asked at) → Compares shape a xs 0 at old here
  compares_first shape a [] x first second both at old here is f s b e h = record { code = h; kind = λ y less same. absurd (omega (arith, less)) }
  compares_first shape a (z ∷ xs) x first second both at old here is f s b e h = record {
    code = h;
    kind = λ y less same.
        let yx : x ≡ y = is ∙ sym same in
        e ∙ (ap settled (b ∙ (ap (λ k. common k second) f ∙ ap (common a.own) s)) ∙ ap (λ (w : X). compared_type a (one w)) yx);
  }

  next_kind : (a : Elaborated) (xs : List X) (i : ℕ) (x y : X) → i < length xs → x ≡ get_or xs i x → k.Bool ≡ compared_type (fold step a (take (i + 1) xs)) (one y)
  next_kind a xs i x y less is = ap (λ (o : Option Kind). settled (common o (one y).own)) (sym (ap (λ (j : Elaborated). j.own) (fold_more step a xs i x less)))

  pub compares_more : (shape : Shape) (a : Elaborated) (xs : List X) (i : ℕ) (x : X) (at : Kind) (old here next new : List Instr) → i < length xs → x ≡ get_or xs i x → Compares shape a xs i at old here
      → next ≡ here ++ term_code shape ((one x).asked at) → new ≡ next ++ binary_instr (operator x) ∷ [] → Compares shape a xs (i + 1) k.Bool old new
  compares_more shape a xs i x at old here next new less is h n w =
      let acc = fold step a (take i xs) in
      let same = h.kind x less is in
      let code = binary_code shape (operator x) (acc.asked at) ((one x).asked at) old here next new h.code n w in
      record {
        code = code ∙ (ap (λ (kind : Kind). old ++ term_code shape (c.Binary (operator x) (acc.asked kind) ((one x).asked kind))) same
            ∙ ap (λ (j : Elaborated). old ++ term_code shape (j.asked k.Bool)) (sym (fold_more step a xs i x less ∙ ap (step acc) (sym is))));
        kind = λ y more same. next_kind a xs i x y less is;
      }

  pub compares_all : (shape : Shape) (a : Elaborated) (xs ys : List X) (n : ℕ) (at asked : Kind) (old here : List Instr) → ys ≡ xs → false ≡ (length ys == 0) → length ys ≤ n → Compares shape a ys n at old here → here ≡ old ++ term_code shape ((fold step a xs).asked asked)
  compares_all shape a xs [] n at asked old here e some le h = absurd (cc)
  compares_all shape a xs (y ∷ ys) n at asked old here e some le h =
      h.code ∙ (ap (λ l. old ++ term_code shape ((fold step a l).asked at)) (taken_all (y ∷ ys) n le)
      ∙ (ap (λ t. old ++ term_code shape t) (any_asked step (λ a x j l. refl) (step a y) ys at asked refl) ∙ ap (λ l. old ++ term_code shape ((fold step a l).asked asked)) e))
