-- What typing finds of expressions, and what then holds of them.
use Rattle.std.proofs.Common.{◌≡◌, ℕ, Bool, true, false, if◌then◌else◌, List, [], ◌∷◌, fold, Option, None, Some, refl, sym, ◌∙◌}
use Rattle.std.proofs.lemmas.List.Concat.{flat_map-append}
use Rattle.tri_base.specs.declared.faults.TypeFault.{TypeFault}
use Rattle.function_blocks.specs.declared.kinds.Kind.{Kind}
use Rattle.function_blocks.specs.declared.kinds.Kind.TheVariants as kind
use Rattle.st_tree.specs.declared.declaration.Integer.{Integer}
use Rattle.st_tree.specs.declared.expression.Function.{Function}
use Rattle.st_tree.specs.declared.expression.Function.TheVariants as function
use Rattle.st_tree.specs.Typing.Literals.{range_faults, outside}
use Rattle.st_tree.specs.Typing.Operands.{Outcome, Faulty, Typed, Free, Typing, faults_of, type_in, faults_in, once_sound, same_kind, asked_of, asked, integer_of, all_bool, booleans, Join, Unlike, Alike, joined_part, joined, settled, integers, alike_by, compared}
use Rattle.st_tree.specs.Typing.Functions.{of_one, of_two, of_three, of_arguments, called}
use Rattle.st_core.specs.Memory.{Shape}
use Rattle.st_core.specs.Fits.{TermFits}
use Rattle.st_meaning.specs.Expressions.{Elaborated}
use Rattle.st_sound.proofs.Ranges.{none_both}

-- ---- what holds where no rule is broken

-- What holds of an expression that breaks no rule. Of literals whose type is open it holds where they lie in a type.
abbrev pub Once : Outcome → Type 0 → Type 0
Once (Faulty f fs) P = Unit {0}
Once (Typed k) P = P
Once (Free literals) P = (k : Kind) → outside k literals ≡ [] → P

pub once_then : {P Q : Type 0} → (P → Q) → (o : Outcome) → Once o P → Once o Q
once_then f (Faulty g gs) h = tt
once_then f (Typed k) h = f h
once_then f (Free literals) h = λ k none. f (h k none)

-- a rule that is looked at where there are no faults
pub once_behind : (P : Type 0) (fs : List TypeFault) (o : Outcome) → (fs ≡ [] → Once o P) → Once (once_sound fs o) P
once_behind P [] o h = h refl
once_behind P (f ∷ fs) o h = tt

none_before : (fs : List TypeFault) (o : Outcome) → faults_of (once_sound fs o) ≡ [] → fs ≡ []
none_before [] o h = refl
none_before (f ∷ fs) o h = absurd (cc)

typed_behind : (fs : List TypeFault) (k : Kind) → faults_of (once_sound fs (Typed k)) ≡ [] → type_in (once_sound fs (Typed k)) ≡ Some k
typed_behind [] k h = refl
typed_behind (f ∷ fs) k h = absurd (cc)

-- ---- what a place asks for

-- a type
pub asked_then : (P : Type 0) (k : Kind) (first : ℕ) (o : Outcome) → Once o P → faults_of (asked_of k first o) ≡ [] → P
asked_then P k first (Faulty f fs) h none = absurd (cc)
asked_then P k first (Typed own) h none = h
asked_then P kind.Bool first (Free literals) h none = absurd (cc)
asked_then P kind.Int first (Free literals) h none = h kind.Int (none_before (outside kind.Int literals) (Typed kind.Int) none)
asked_then P kind.Dint first (Free literals) h none = h kind.Dint (none_before (outside kind.Dint literals) (Typed kind.Dint) none)

-- BOOL, and what is found then
pub truth_then : (P : Type 0) (first : ℕ) (o : Outcome) → Once o P → Once (asked_of kind.Bool first o) P
truth_then P first (Faulty f fs) h = tt
truth_then P first (Typed kind.Bool) h = h
truth_then P first (Typed kind.Int) h = tt
truth_then P first (Typed kind.Dint) h = tt
truth_then P first (Free literals) h = tt

-- an integer of either type
pub integer_then : (P : Type 0) (first : ℕ) (o : Outcome) → Once o P → faults_of (integer_of first o) ≡ [] → P
integer_then P first (Faulty f fs) h none = absurd (cc)
integer_then P first (Typed k) h none = h
integer_then P first (Free literals) h none = h kind.Dint (none_before (outside kind.Dint literals) (Typed kind.Dint) none)

-- it then has a type
pub integer_typed : (first : ℕ) (o : Outcome) → faults_of (integer_of first o) ≡ [] → (k : Kind) × (type_in (integer_of first o) ≡ Some k)
integer_typed first (Faulty f fs) none = absurd (cc)
integer_typed first (Typed kind.Bool) none = absurd (cc)
integer_typed first (Typed kind.Int) none = (kind.Int, refl)
integer_typed first (Typed kind.Dint) none = (kind.Dint, refl)
integer_typed first (Free literals) none = (kind.Dint, typed_behind (outside kind.Dint literals) kind.Dint none)

-- ---- operands that stand together

-- what holds of integers from the left
abbrev Through : Join → Type 0 → Type 0
Through (Unlike place) P = Unit {0}
Through (Alike own literals) P = (k : Kind) → outside k literals ≡ [] → P

through_then : {P Q : Type 0} → (P → Q) → (s : Join) → Through s P → Through s Q
through_then f (Unlike place) h = tt
through_then f (Alike own literals) h = λ k none. f (h k none)

through_if : (P : Type 0) (b : Bool) (s : Join) (first : ℕ) → Through s P → Through (if b then s else Unlike first) P
through_if P true s first h = h
through_if P false s first h = tt

part_then : (P Q : Type 0) (own : Option Kind) (literals : List Integer) (first : ℕ) (o : Outcome) → ((k : Kind) → outside k literals ≡ [] → P) → Once o Q → faults_of o ≡ []
    → Through (joined_part own literals first o) (P × Q)
part_then P Q own literals first (Free more) h g none = λ k within.
    let parts = none_both (outside k literals) (outside k more) (sym (flat_map-append (range_faults k) literals more) ∙ within) in
    (h k parts.0, g k parts.1)
part_then P Q own literals first (Faulty f fs) h g none = absurd (cc)
part_then P Q own literals first (Typed kind.Bool) h g none = tt
part_then P Q None literals first (Typed kind.Int) h g none = λ k within. (h k within, g)
part_then P Q None literals first (Typed kind.Dint) h g none = λ k within. (h k within, g)
part_then P Q (Some own) literals first (Typed kind.Int) h g none = through_if (P × Q) (same_kind own kind.Int) (Alike (Some own) literals) first (λ k within. (h k within, g))
part_then P Q (Some own) literals first (Typed kind.Dint) h g none = through_if (P × Q) (same_kind own kind.Dint) (Alike (Some own) literals) first (λ k within. (h k within, g))

joined_then : (P Q : Type 0) (s : Join) (t : Typing) → Through s P → Once t.outcome Q → faults_of t.outcome ≡ [] → Through (joined s t) (P × Q)
joined_then P Q (Unlike place) t h g none = tt
joined_then P Q (Alike own literals) t h g none = part_then P Q own literals t.first t.outcome h g none

settled_then : (P : Type 0) (s : Join) → Through s P → Once (settled s) P
settled_then P (Unlike place) h = tt
settled_then P (Alike (Some kind.Bool) literals) h = h
settled_then P (Alike (Some kind.Int) literals) h = once_behind P (outside kind.Int literals) (Typed kind.Int) (h kind.Int)
settled_then P (Alike (Some kind.Dint) literals) h = once_behind P (outside kind.Dint literals) (Typed kind.Dint) (h kind.Dint)
settled_then P (Alike None literals) h = h

-- a comparison
pub compared_then : (P : Type 0) (o : Outcome) → Once o P → Once (compared o) P
compared_then P (Faulty f fs) h = tt
compared_then P (Typed k) h = h
compared_then P (Free literals) h = once_behind P (outside kind.Dint literals) (Typed kind.Bool) (h kind.Dint)

module _ (shape : Shape) where
  -- the term of an expression fits, whichever type is asked for
  abbrev pub Fit : Elaborated → Type 0
  Fit e = (k : Kind) → TermFits shape (e.asked k)

  -- it fits where typing finds no fault
  abbrev pub Judged : Typing → Elaborated → Type 0
  Judged t e = Once t.outcome (Fit e)

  unfoldable pub AllJudged : List Typing → List Elaborated → Type 0
  AllJudged [] [] = Unit {0}
  AllJudged [] (e ∷ es) = ⊥
  AllJudged (t ∷ ts) [] = ⊥
  AllJudged (t ∷ ts) (e ∷ es) = Judged t e × AllJudged ts es

  unfoldable pub AllFit : List Elaborated → Type 0
  AllFit [] = Unit {0}
  AllFit (e ∷ es) = Fit e × AllFit es

  joined_all : (ts : List Typing) (es : List Elaborated) (s : Join) (P : Type 0) → AllJudged ts es → faults_in ts ≡ [] → Through s P → Through (fold joined s ts) (P × AllFit es)
  unfolding AllJudged AllFit
  joined_all [] [] s P all none h = through_then (λ p. (p, tt)) s h
  joined_all [] (e ∷ es) s P all none h = absurd all
  joined_all (t ∷ ts) [] s P all none h = absurd all
  joined_all (t ∷ ts) (e ∷ es) s P all none h =
      let parts = none_both (faults_of t.outcome) (faults_in ts) none in
      let here : Through (joined s t) (P × Fit e) = joined_then P (Fit e) s t h all.0 parts.0 in
      let rest = joined_all ts es (joined s t) (P × Fit e) all.1 parts.1 here in
      through_then (λ q. (q.0.0, (q.0.1, q.1))) (fold joined (joined s t) ts) rest

  -- integers
  pub integers_then : (ts : List Typing) (es : List Elaborated) → AllJudged ts es → Once (integers ts) (AllFit es)
  integers_then ts es all =
      once_behind (AllFit es) (faults_in ts) (settled (fold joined (Alike None []) ts))
      (λ none. settled_then (AllFit es) (fold joined (Alike None []) ts)
      (through_then (λ q. q.1) (fold joined (Alike None []) ts) (joined_all ts es (Alike None []) (Unit {0}) all none (λ k within. tt))))

  all_bool_then : (ts : List Typing) (es : List Elaborated) → AllJudged ts es → Once (all_bool ts) (AllFit es)
  unfolding AllJudged AllFit
  all_bool_then [] [] all = tt
  all_bool_then [] (e ∷ es) all = absurd all
  all_bool_then (t ∷ ts) [] all = absurd all
  all_bool_then (t ∷ ts) (e ∷ es) all =
      once_behind (AllFit (e ∷ es)) (faults_of (asked kind.Bool t)) (all_bool ts)
      (λ none. once_then (λ rest. (asked_then (Fit e) kind.Bool t.first t.outcome all.0 none, rest)) (all_bool ts) (all_bool_then ts es all.1))

  -- operands of AND, OR, XOR
  pub booleans_then : (ts : List Typing) (es : List Elaborated) → AllJudged ts es → Once (booleans ts) (AllFit es)
  booleans_then ts es all = once_behind (AllFit es) (faults_in ts) (all_bool ts) (λ none. all_bool_then ts es all)

  -- operands that are BOOL, or integers
  pub alike_then : (o : Outcome) (ts : List Typing) (es : List Elaborated) → AllJudged ts es → Once (alike_by o ts) (AllFit es)
  alike_then (Faulty f fs) ts es all = integers_then ts es all
  alike_then (Typed kind.Bool) ts es all = booleans_then ts es all
  alike_then (Typed kind.Int) ts es all = integers_then ts es all
  alike_then (Typed kind.Dint) ts es all = integers_then ts es all
  alike_then (Free literals) ts es all = integers_then ts es all

  -- ---- arguments of functions

  one_then : (f : Function) (place : ℕ) (t : Typing) (e : Elaborated) → AllJudged (t ∷ []) (e ∷ []) → Once (of_one f place t) (AllFit (e ∷ []))
  unfolding AllJudged AllFit
  one_then function.Abs place t e all = integers_then (t ∷ []) (e ∷ []) all
  one_then function.IntToDint place t e all =
      once_behind (AllFit (e ∷ [])) (faults_of (asked kind.Int t)) (Typed kind.Dint) (λ none. (asked_then (Fit e) kind.Int t.first t.outcome all.0 none, tt))
  one_then function.DintToInt place t e all =
      once_behind (AllFit (e ∷ [])) (faults_of (asked kind.Dint t)) (Typed kind.Int) (λ none. (asked_then (Fit e) kind.Dint t.first t.outcome all.0 none, tt))
  one_then function.Min place t e all = tt
  one_then function.Max place t e all = tt
  one_then function.Limit place t e all = tt
  one_then function.Sel place t e all = tt

  two_then : (f : Function) (place : ℕ) (t u : Typing) (d e : Elaborated) → AllJudged (t ∷ u ∷ []) (d ∷ e ∷ []) → Once (of_two f place t u) (AllFit (d ∷ e ∷ []))
  two_then function.Min place t u d e all = integers_then (t ∷ u ∷ []) (d ∷ e ∷ []) all
  two_then function.Max place t u d e all = integers_then (t ∷ u ∷ []) (d ∷ e ∷ []) all
  two_then function.Abs place t u d e all = tt
  two_then function.IntToDint place t u d e all = tt
  two_then function.DintToInt place t u d e all = tt
  two_then function.Limit place t u d e all = tt
  two_then function.Sel place t u d e all = tt

  three_then : (f : Function) (place : ℕ) (t u v : Typing) (d e g : Elaborated) → AllJudged (t ∷ u ∷ v ∷ []) (d ∷ e ∷ g ∷ []) → Once (of_three f place t u v) (AllFit (d ∷ e ∷ g ∷ []))
  unfolding AllJudged AllFit
  three_then function.Limit place t u v d e g all = integers_then (t ∷ u ∷ v ∷ []) (d ∷ e ∷ g ∷ []) all
  three_then function.Sel place t u v d e g all =
      once_behind (AllFit (d ∷ e ∷ g ∷ [])) (faults_of (asked kind.Bool t)) (alike_by u.outcome (u ∷ v ∷ []))
      (λ none. once_then (λ rest. (asked_then (Fit d) kind.Bool t.first t.outcome all.0 none, rest)) (alike_by u.outcome (u ∷ v ∷ [])) (alike_then u.outcome (u ∷ v ∷ []) (e ∷ g ∷ []) all.1))
  three_then function.Abs place t u v d e g all = tt
  three_then function.IntToDint place t u v d e g all = tt
  three_then function.DintToInt place t u v d e g all = tt
  three_then function.Min place t u v d e g all = tt
  three_then function.Max place t u v d e g all = tt

  arguments_then : (f : Function) (place : ℕ) (ts : List Typing) (es : List Elaborated) → AllJudged ts es → Once (of_arguments f place ts) (AllFit es)
  unfolding AllJudged
  arguments_then f place [] es all = tt
  arguments_then f place (t ∷ []) [] all = absurd all
  arguments_then f place (t ∷ []) (d ∷ []) all = one_then f place t d all
  arguments_then f place (t ∷ []) (d ∷ e ∷ es) all = absurd all.1
  arguments_then f place (t ∷ u ∷ []) [] all = absurd all
  arguments_then f place (t ∷ u ∷ []) (d ∷ []) all = absurd all.1
  arguments_then f place (t ∷ u ∷ []) (d ∷ e ∷ []) all = two_then f place t u d e all
  arguments_then f place (t ∷ u ∷ []) (d ∷ e ∷ g ∷ es) all = absurd all.1.1
  arguments_then f place (t ∷ u ∷ v ∷ []) [] all = absurd all
  arguments_then f place (t ∷ u ∷ v ∷ []) (d ∷ []) all = absurd all.1
  arguments_then f place (t ∷ u ∷ v ∷ []) (d ∷ e ∷ []) all = absurd all.1.1
  arguments_then f place (t ∷ u ∷ v ∷ []) (d ∷ e ∷ g ∷ []) all = three_then f place t u v d e g all
  arguments_then f place (t ∷ u ∷ v ∷ []) (d ∷ e ∷ g ∷ i ∷ es) all = absurd all.1.1.1
  arguments_then f place (t ∷ u ∷ v ∷ w ∷ ts) es all = tt

  -- a call of a function: its arguments fit
  pub called_then : (f : Function) (place : ℕ) (ts : List Typing) (es : List Elaborated) → AllJudged ts es → Once (called f place ts) (AllFit es)
  called_then f place ts es all = once_behind (AllFit es) (faults_in ts) (of_arguments f place ts) (λ none. arguments_then f place ts es all)
