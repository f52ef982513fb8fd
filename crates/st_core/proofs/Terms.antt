-- A term's code leaves its value on top of what waits.
use Rattle.std.proofs.Common.{◌≡◌, ℕ, ◌+◌, ◌<◌, ℤ, ◌-ℤ◌, ◌≤ℤ◌, Bool, true, false, ◌||◌, Some, List, [], ◌∷◌, ◌++◌, length, slice_get, unsigned_abs, arith, sym, ap, ◌∙◌, refl, length-append}
use Rattle.std.proofs.lemmas.Int.{ints, clamps}
use Rattle.function_blocks.specs.declared.kinds.Kind.{Kind}
use Rattle.function_blocks.specs.Values.{is_on, clamped}
use Rattle.scan_machine.specs.declared.instructions.Instr.{Instr}
use Rattle.scan_machine.specs.declared.instructions.Instr.TheVariants as i
use Rattle.scan_machine.specs.Machine.{does}
use Rattle.function_blocks.specs.Arithmetic.{bounded}
use Rattle.st_core.specs.Core.{Name, UnaryOperator, BinaryOperator, TernaryOperator, Term}
use Rattle.st_core.specs.Core as c
use Rattle.st_core.specs.Environments.{Env}
use Rattle.st_core.specs.Terms.{value_of, unary, binary, ternary}
use Rattle.st_core.specs.Costs.{term_cost}
use Rattle.st_core.specs.Memory.{Shape, address_of, count_of, shape_of, words_of}
use Rattle.st_core.specs.Fits.{TermFits}
use Rattle.st_core.specs.Codes.{unary_instr, binary_instr, ternary_instr, term_code}
use Rattle.st_core.proofs.Laid.{word_is}
use Rattle.st_core.proofs.Places.{HasAt, all_front, all_back, first_at}
use Rattle.st_core.proofs.Goes.{here, Goes, goes_one, goes_then, goes_to}

pub or_more : (a b c : Bool) → ((a || b) || c) ≡ (a || (b || c))
or_more true b c = refl
or_more false b c = refl

pub or_none : (a : Bool) → (a || false) ≡ a
or_none true = refl
or_none false = refl

-- a term has as many instructions as it costs
pub term_length : (shape : Shape) (t : Term) → length (term_code shape t) ≡ term_cost t
unfolding term_code term_cost
term_length shape (c.Literal v) = refl
term_length shape (c.Field n k kind) = refl
term_length shape (c.Element n kind low high t) = omega (arith, length-append (term_code shape t) (i.LoadAt (address_of n shape) kind low high ∷ []), term_length shape t)
term_length shape (c.Unary o t) = omega (arith, length-append (term_code shape t) (unary_instr o ∷ []), term_length shape t)
term_length shape (c.Binary o t u) =
    omega (arith, length-append (term_code shape t) (term_code shape u ++ binary_instr o ∷ []), length-append (term_code shape u) (binary_instr o ∷ []), term_length shape t, term_length shape u)
term_length shape (c.Ternary o t u w) =
    omega (arith, length-append (term_code shape t) (term_code shape u ++ (term_code shape w ++ ternary_instr o ∷ [])), length-append (term_code shape u) (term_code shape w ++ ternary_instr o ∷ []), length-append (term_code shape w) (ternary_instr o ∷ []), term_length shape t, term_length shape u, term_length shape w)

-- ---- each operator

module _ (dt : ℤ) (at : ℕ) (below words : List ℤ) (flag : Bool) (stores : List (ℕ × ℤ)) where
  pub one_does : (o : UnaryOperator) (x : ℤ) → does dt (unary_instr o) (here at (x ∷ below) words flag stores) ≡ Some (here (at + 1) ((unary o x).value ∷ below) words (flag || (unary o x).flag) stores)
  one_does (c.Negate kind) x = refl
  one_does (c.Absolute kind) x = refl
  one_does (c.Convert kind) x = refl
  one_does c.Not x = refl
  one_does (c.Within low high) x = refl

  by_does : (kind : Kind) (x y : ℤ) (b : Bool) → is_on y ≡ b → does dt (i.Div kind) (here at (y ∷ x ∷ below) words flag stores) ≡ Some (here (at + 1) ((binary (c.Divide kind) x y).value ∷ below) words (flag || (binary (c.Divide kind) x y).flag) stores)
  by_does kind x y true e = rw e refl
  by_does kind x y false e = rw e refl

  modulo_does : (kind : Kind) (x y : ℤ) (b : Bool) → is_on y ≡ b → does dt (i.Mod kind) (here at (y ∷ x ∷ below) words flag stores) ≡ Some (here (at + 1) ((binary (c.Modulo kind) x y).value ∷ below) words (flag || (binary (c.Modulo kind) x y).flag) stores)
  modulo_does kind x y true e = rw e refl
  modulo_does kind x y false e = rw e refl

  pub two_does : (o : BinaryOperator) (x y : ℤ) → does dt (binary_instr o) (here at (y ∷ x ∷ below) words flag stores) ≡ Some (here (at + 1) ((binary o x y).value ∷ below) words (flag || (binary o x y).flag) stores)
  two_does (c.Add kind) x y = refl
  two_does (c.Subtract kind) x y = refl
  two_does (c.Multiply kind) x y = refl
  two_does (c.Divide kind) x y = by_does kind x y (is_on y) refl
  two_does (c.Modulo kind) x y = modulo_does kind x y (is_on y) refl
  two_does (c.Minimum kind) x y = refl
  two_does (c.Maximum kind) x y = refl
  two_does c.And x y = refl
  two_does c.Or x y = refl
  two_does c.Xor x y = refl
  two_does c.Equals x y = refl
  two_does c.Differs x y = refl
  two_does c.IsBelow x y = refl
  two_does c.IsAbove x y = refl
  two_does c.IsAtMost x y = refl
  two_does c.IsAtLeast x y = refl

  pub three_does : (o : TernaryOperator) (x y z : ℤ) → does dt (ternary_instr o) (here at (z ∷ y ∷ x ∷ below) words flag stores) ≡ Some (here (at + 1) ((ternary o x y z).value ∷ below) words (flag || (ternary o x y z).flag) stores)
  three_does c.Limit x y z = refl
  three_does c.Select x y z = refl

-- ---- terms

-- an index that was clamped to the bounds lies within the array
pub index_near : (low high x : ℤ) (n : ℕ) → low ≤ℤ high → unsigned_abs (high -ℤ low) < n → unsigned_abs ((bounded low high x).value -ℤ low) < n
index_near low high x n up there =
    let index = (bounded low high x).value in
    let from : low ≤ℤ index = omega (arith, ints, clamps) in
    let to : index ≤ℤ high = omega (arith, ints, clamps) in
    omega (arith, ints, from, to, there)

module _ (code : List Instr) (dt : ℤ) (env : Env) where
  -- what a term's code does
  abbrev pub TermGoes : Term → Type 0
  TermGoes t = (at : ℕ) (stack : List ℤ) (flag : Bool) → HasAt code at (term_code (shape_of env) t)
      → Goes code dt (term_cost t) at stack (words_of env) flag (at + term_cost t) ((value_of t env).value ∷ stack) (words_of env) (flag || (value_of t env).flag)

  At : ℕ → Instr → Type 0
  At k x = slice_get code k ≡ Some x

  pub term_goes : (t : Term) → TermFits (shape_of env) t → TermGoes t
  unfolding term_code term_cost value_of TermFits
  term_goes (c.Literal v) fits at stack flag h =
      goes_one code dt (i.Push v) (first_at _ at (i.Push v) [] h) (λ stores. (stores, ap (λ f. Some (here (at + 1) (v ∷ stack) (words_of env) f stores)) (sym (or_none flag))))
  term_goes (c.Field n k kind) fits at stack flag h =
      goes_one code dt (i.Load (address_of n (shape_of env) + k) kind) (first_at _ at _ [] h) (λ stores. (stores, (λ j. Some (here (at + 1) (clamped kind (word_is n env k fits j) ∷ stack) (words_of env) (sym (or_none flag) j) stores))))
  term_goes (c.Element n kind low high t) fits at stack flag h =
      let x = value_of t env in let len = term_length (shape_of env) t in
      let index = bounded low high x.value in
      let near = index_near low high x.value (count_of n (shape_of env)) fits.0.bounds.0 fits.0.there in
      let g = term_goes t fits.1 at stack flag (all_front _ at (term_code (shape_of env) t) _ h) in
      let end = first_at _ _ (i.LoadAt (address_of n (shape_of env)) kind low high) [] (all_back _ at (term_cost t) (term_code (shape_of env) t) _ len h) in
      goes_to code dt (omega arith) (ap (λ v. clamped kind v ∷ stack) (word_is n env (unsigned_abs (index.value -ℤ low)) near)) refl (or_more flag x.flag index.flag)
      (goes_then code dt g (goes_one code dt (i.LoadAt (address_of n (shape_of env)) kind low high) end (λ stores. (stores, refl))))
  term_goes (c.Unary o t) fits at stack flag h =
      let x = value_of t env in let len = term_length (shape_of env) t in
      let g = term_goes t fits.1 at stack flag (all_front _ at (term_code (shape_of env) t) _ h) in
      let end = first_at _ _ (unary_instr o) [] (all_back _ at (term_cost t) (term_code (shape_of env) t) _ len h) in
      goes_to code dt (omega arith) refl refl (or_more flag x.flag (unary o x.value).flag)
      (goes_then code dt g (goes_one code dt (unary_instr o) end (λ stores. (stores, one_does dt (at + term_cost t) stack (words_of env) (flag || x.flag) stores o x.value))))
  term_goes (c.Binary o t u) fits at stack flag h =
      let s = shape_of env in let x = value_of t env in let y = value_of u env in
      let hu = all_back _ at (term_cost t) (term_code s t) _ (term_length s t) h in
      let g1 = term_goes t fits.0 at stack flag (all_front _ at (term_code s t) _ h) in
      let g2 = term_goes u fits.1 (at + term_cost t) (x.value ∷ stack) (flag || x.flag) (all_front _ _ (term_code s u) _ hu) in
      let end = first_at _ _ (binary_instr o) [] (all_back _ _ (term_cost u) (term_code s u) _ (term_length s u) hu) in
      goes_to code dt (omega arith) refl refl (ap (λ f. f || (binary o x.value y.value).flag) (or_more flag x.flag y.flag) ∙ or_more flag (x.flag || y.flag) (binary o x.value y.value).flag)
      (goes_then code dt (goes_then code dt g1 g2) (goes_one code dt (binary_instr o) end (λ stores. (stores, two_does dt (at + term_cost t + term_cost u) stack (words_of env) ((flag || x.flag) || y.flag) stores o x.value y.value))))
  term_goes (c.Ternary o t u w) fits at stack flag h =
      let s = shape_of env in let x = value_of t env in let y = value_of u env in let z = value_of w env in
      let hu = all_back _ at (term_cost t) (term_code s t) _ (term_length s t) h in
      let hw = all_back _ _ (term_cost u) (term_code s u) _ (term_length s u) hu in
      let g1 = term_goes t fits.0 at stack flag (all_front _ at (term_code s t) _ h) in
      let g2 = term_goes u fits.1 (at + term_cost t) (x.value ∷ stack) (flag || x.flag) (all_front _ _ (term_code s u) _ hu) in
      let g3 = term_goes w fits.2 (at + term_cost t + term_cost u) (y.value ∷ x.value ∷ stack) ((flag || x.flag) || y.flag) (all_front _ _ (term_code s w) _ hw) in
      let end = first_at _ _ (ternary_instr o) [] (all_back _ _ (term_cost w) (term_code s w) _ (term_length s w) hw) in
      let last = (ternary o x.value y.value z.value).flag in
      goes_to code dt (omega arith) refl refl (ap (λ f. (f || z.flag) || last) (or_more flag x.flag y.flag) ∙ (ap (λ f. f || last) (or_more flag (x.flag || y.flag) z.flag) ∙ or_more flag ((x.flag || y.flag) || z.flag) last))
      (goes_then code dt (goes_then code dt (goes_then code dt g1 g2) g3) (goes_one code dt (ternary_instr o) end (λ stores. (stores, three_does dt (at + term_cost t + term_cost u + term_cost w) stack (words_of env) (((flag || x.flag) || y.flag) || z.flag) stores o x.value y.value z.value))))
