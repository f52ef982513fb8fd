-- Functions of their arguments.
use Rattle.std.proofs.Common.{◌≡◌, ℕ, ◌+◌, ◌<◌, ◌≤◌, List, [], ◌∷◌, ◌++◌, Option, Some, None, length, take, get_or, map, refl, ap, sym, ◌∙◌, arith, append-nil}
use Rattle.std.proofs.lemmas.List.{take_more, take_all, map-append, length-map}
use Rattle.std.proofs.lemmas.List.Concat.{flat_map-append}
use Rattle.tri_base.specs.declared.faults.TypeFault.{TypeFault}
use Rattle.function_blocks.specs.declared.kinds.Kind.{Kind}
use Rattle.function_blocks.specs.declared.kinds.Kind.TheVariants as kind
use Rattle.st_tree.specs.declared.declaration.PlacedName.{PlacedName}
use Rattle.st_tree.specs.declared.declaration.DeclaredType.{DeclaredType}
use Rattle.st_tree.specs.declared.declaration.DeclaredType.TheVariants as declared
use Rattle.st_tree.specs.declared.expression.Function.{Function}
use Rattle.st_tree.specs.declared.expression.Function.TheVariants as function
use Rattle.st_tree.specs.declared.tag.Tag.{Tag}
use Rattle.st_types.specs.declared.finding.Finding.TheVariants as finding
use Rattle.st_types.specs.declared.finding.Checked.{Checked}
use Rattle.st_types.specs.Inner.Summaries.{finding_of, checked_of, fault_of, fault_of_three, unless, when_sound, converted, wrong_count, of_one, of_two, of_three, joined, settled, start, element_value, value_of_element}
use Rattle.st_types.proofs.Firsts.{first_of_append}
use Rattle.st_types.proofs.Summing.{sum-once, sum-asked, sum-as_integer, sum-joined, sum-settled, sum-one_fault, sum-two_faults, sum-when_sound, sum-integers, sum-integer_of_one, sum-alike}
use Rattle.st_types.specs.Inner.Firsts.{soonest}
use Rattle.st_tree.specs.Typing.Faults.{first_of}
use Rattle.st_tree.specs.Typing.Functions as function_of
use Rattle.st_tree.specs.Typing.Names as named
use Rattle.st_tree.specs.Typing.Operands as operand
use Rattle.st_tree.specs.Typing.Operands.{Outcome, Faulty, Typed, Free, Typing, found, faults_of, faults_in, once_sound, Alike}
use Rattle.st_tree.specs.Typing.Functions.{called}

-- an argument more
pub faults_more : (ts : List Typing) (t : Typing) → first_of (faults_in (ts ++ t ∷ [])) ≡ soonest (first_of (faults_in ts)) (fault_of (finding_of t.outcome))
faults_more ts t =
    ap first_of (flat_map-append (λ (p : Typing). faults_of p.outcome) ts (t ∷ []))
    ∙ (first_of_append (faults_in ts) (faults_in (t ∷ []))
    ∙ ap (soonest (first_of (faults_in ts))) (sum-one_fault t))

pub fault_step : {X : Type 0} (f : X → Typing) (first : Typing) (xs : List X) (i : ℕ) (x : X) (fault : Option TypeFault) (next : Checked) → i < length xs → x ≡ get_or xs i x
    → fault ≡ first_of (faults_in (first ∷ map f (take i xs))) → next ≡ checked_of (f x)
    → soonest fault (fault_of next.finding) ≡ first_of (faults_in (first ∷ map f (take (i + 1) xs)))
fault_step f first xs i x fault next here is so one =
    (λ j. soonest (so j) (fault_of (one j).finding))
    ∙ (sym (faults_more (first ∷ map f (take i xs)) (f x))
    ∙ ap (λ ts. first_of (faults_in (first ∷ ts))) (sym (map-append f (take i xs) (x ∷ [])) ∙ ap (map f) (ap (λ y. take i xs ++ y ∷ []) is ∙ sym (take_more xs i x here))))

sum-three_faults : (a b c : Typing) → first_of (faults_in (a ∷ b ∷ c ∷ [])) ≡ fault_of_three (checked_of a) (checked_of b) (checked_of c)
sum-three_faults a b c = faults_more (a ∷ b ∷ []) c ∙ ap (λ f. soonest f (fault_of (finding_of c.outcome))) (sum-two_faults a b)

sum-of_three_integers : (a b c : Typing) → finding_of (operand.settled (operand.joined (operand.joined (operand.joined (Alike None []) a) b) c)) ≡ settled (joined (joined (joined start (checked_of a)) (checked_of b)) (checked_of c))
sum-of_three_integers a b c =
    let one = operand.joined (Alike None []) a in
    let two = operand.joined one b in
    sum-settled (operand.joined two c)
    ∙ ap settled (sum-joined two c ∙ ap (λ j. joined j (checked_of c)) (sum-joined one b ∙ ap (λ j. joined j (checked_of b)) (sum-joined (Alike None []) a)))

-- once the arguments have no fault, a rule that looks for none is the same
twice : (fs : List TypeFault) (rule : Outcome) → once_sound fs (once_sound fs rule) ≡ once_sound fs rule
twice [] rule = refl
twice (f ∷ fs) rule = refl

sum-converted : (from to : Kind) (a : Typing) → finding_of (once_sound (faults_in (a ∷ [])) (once_sound (faults_of (operand.asked from a)) (Typed to))) ≡ converted from to (checked_of a)
sum-converted from to a = by a.first a.outcome
  where
    by : (first : ℕ) (o : Outcome) → finding_of (once_sound (faults_in (found first o ∷ [])) (once_sound (faults_of (operand.asked from (found first o))) (Typed to))) ≡ converted from to (checked_of (found first o))
    by first (Faulty f fs) = ap (λ gs. finding_of (Faulty f gs)) (append-nil fs)
    by first (Typed k) = sum-when_sound (operand.asked from (found first (Typed k))) (Typed to) ∙ ap (λ f. when_sound f (finding.Typed to)) (sum-asked from (found first (Typed k)))
    by first (Free ls) = sum-when_sound (operand.asked from (found first (Free ls))) (Typed to) ∙ ap (λ f. when_sound f (finding.Typed to)) (sum-asked from (found first (Free ls)))

sum-wrong : (fs : List TypeFault) (place : ℕ) (f : Option TypeFault) → first_of fs ≡ f → finding_of (once_sound fs (function_of.wrong_count place)) ≡ unless f (wrong_count place)
sum-wrong fs place f e = sum-once fs (function_of.wrong_count place) ∙ ap (λ g. unless g (wrong_count place)) e

pub sum-of_one : (f : Function) (place : ℕ) (a : Typing) → finding_of (called f place (a ∷ [])) ≡ of_one f place (checked_of a)
sum-of_one function.Abs place a = ap finding_of (twice (faults_in (a ∷ [])) (operand.settled (operand.joined (Alike None []) a))) ∙ sum-integer_of_one a
sum-of_one function.IntToDint place a = sum-converted kind.Int kind.Dint a
sum-of_one function.DintToInt place a = sum-converted kind.Dint kind.Int a
sum-of_one function.Min place a = sum-wrong (faults_in (a ∷ [])) place _ (sum-one_fault a)
sum-of_one function.Max place a = sum-wrong (faults_in (a ∷ [])) place _ (sum-one_fault a)
sum-of_one function.Limit place a = sum-wrong (faults_in (a ∷ [])) place _ (sum-one_fault a)
sum-of_one function.Sel place a = sum-wrong (faults_in (a ∷ [])) place _ (sum-one_fault a)

pub sum-of_two : (f : Function) (place : ℕ) (a b : Typing) → finding_of (called f place (a ∷ b ∷ [])) ≡ of_two f place (checked_of a) (checked_of b)
sum-of_two function.Min place a b = ap finding_of (twice (faults_in (a ∷ b ∷ [])) (operand.settled (operand.joined (operand.joined (Alike None []) a) b))) ∙ sum-integers a b
sum-of_two function.Max place a b = ap finding_of (twice (faults_in (a ∷ b ∷ [])) (operand.settled (operand.joined (operand.joined (Alike None []) a) b))) ∙ sum-integers a b
sum-of_two function.Abs place a b = sum-wrong (faults_in (a ∷ b ∷ [])) place _ (sum-two_faults a b)
sum-of_two function.IntToDint place a b = sum-wrong (faults_in (a ∷ b ∷ [])) place _ (sum-two_faults a b)
sum-of_two function.DintToInt place a b = sum-wrong (faults_in (a ∷ b ∷ [])) place _ (sum-two_faults a b)
sum-of_two function.Limit place a b = sum-wrong (faults_in (a ∷ b ∷ [])) place _ (sum-two_faults a b)
sum-of_two function.Sel place a b = sum-wrong (faults_in (a ∷ b ∷ [])) place _ (sum-two_faults a b)

pub sum-of_three : (f : Function) (place : ℕ) (a b c : Typing) → finding_of (called f place (a ∷ b ∷ c ∷ [])) ≡ of_three f place (checked_of a) (checked_of b) (checked_of c)
sum-of_three function.Limit place a b c =
    ap finding_of (twice (faults_in (a ∷ b ∷ c ∷ [])) (operand.settled (operand.joined (operand.joined (operand.joined (Alike None []) a) b) c)))
    ∙ (sum-once (faults_in (a ∷ b ∷ c ∷ [])) (operand.settled (operand.joined (operand.joined (operand.joined (Alike None []) a) b) c))
    ∙ λ i. unless (sum-three_faults a b c i) (sum-of_three_integers a b c i))
sum-of_three function.Sel place a b c =
    sum-once (faults_in (a ∷ b ∷ c ∷ [])) (once_sound (faults_of (operand.asked kind.Bool a)) (operand.alike b c))
    ∙ λ i. unless (sum-three_faults a b c i) ((sum-when_sound (operand.asked kind.Bool a) (operand.alike b c) ∙ λ j. when_sound (sum-asked kind.Bool a j) (sum-alike b c j)) i)
sum-of_three function.Min place a b c = sum-wrong (faults_in (a ∷ b ∷ c ∷ [])) place _ (sum-three_faults a b c)
sum-of_three function.Max place a b c = sum-wrong (faults_in (a ∷ b ∷ c ∷ [])) place _ (sum-three_faults a b c)
sum-of_three function.Abs place a b c = sum-wrong (faults_in (a ∷ b ∷ c ∷ [])) place _ (sum-three_faults a b c)
sum-of_three function.IntToDint place a b c = sum-wrong (faults_in (a ∷ b ∷ c ∷ [])) place _ (sum-three_faults a b c)
sum-of_three function.DintToInt place a b c = sum-wrong (faults_in (a ∷ b ∷ c ∷ [])) place _ (sum-three_faults a b c)

pub sum-of_many : (f : Function) (place : ℕ) (a : Typing) (ts : List Typing) → 3 ≤ length ts → finding_of (called f place (a ∷ ts)) ≡ unless (first_of (faults_in (a ∷ ts))) (wrong_count place)
sum-of_many f place a [] h = absurd (omega arith)
sum-of_many f place a (b ∷ []) h = absurd (omega arith)
sum-of_many f place a (b ∷ c ∷ []) h = absurd (omega arith)
sum-of_many f place a (b ∷ c ∷ d ∷ ts) h = sum-once (faults_in (a ∷ b ∷ c ∷ d ∷ ts)) (function_of.wrong_count place)

pub sum-element : (n : PlacedName) (index : Typing) (tag : Option Tag) → finding_of (named.element_value n index tag) ≡ element_value n (checked_of index) tag
sum-element n index None = refl
sum-element n index (Some tag) = by tag.declared
  where
    by : (d : DeclaredType) → finding_of (named.value_of_element n index d) ≡ value_of_element n (checked_of index) d
    by (declared.Simple k) = refl
    by (declared.Array low high k) = sum-when_sound (operand.as_integer index) (Typed k) ∙ ap (λ f. when_sound f (finding.Typed k)) (sum-as_integer index)
    by (declared.Block b) = refl

-- a list of one, of two
pub list_one : {X : Type 0} (xs : List X) (x : X) → length xs ≡ 1 → x ≡ get_or xs 0 x → xs ≡ x ∷ []
list_one [] x h e = absurd (omega arith)
list_one (y ∷ []) x h e = ap (λ z. z ∷ []) (sym e)
list_one (y ∷ z ∷ xs) x h e = absurd (omega arith)

pub list_two : {X : Type 0} (xs : List X) (x y : X) → length xs ≡ 2 → x ≡ get_or xs 0 x → y ≡ get_or xs 1 y → xs ≡ x ∷ y ∷ []
list_two [] x y h e d = absurd (omega arith)
list_two (z ∷ []) x y h e d = absurd (omega arith)
list_two (z ∷ w ∷ []) x y h e d = λ i. sym e i ∷ sym d i ∷ []
list_two (z ∷ w ∷ v ∷ xs) x y h e d = absurd (omega arith)

pub call_one : {X : Type 0} (f : Function) (place : ℕ) (arguments : List Typing) (first : Typing) (g : X → Typing) (xs : List X) (a : Checked)
    → arguments ≡ first ∷ map g xs → xs ≡ [] → a ≡ checked_of first → of_one f place a ≡ finding_of (called f place arguments)
call_one f place arguments first g xs a whole none one =
    ap (of_one f place) one ∙ (sym (sum-of_one f place first) ∙ ap (λ ts. finding_of (called f place ts)) (sym (whole ∙ ap (λ ys. first ∷ map g ys) none)))

pub call_two : {X : Type 0} (f : Function) (place : ℕ) (arguments : List Typing) (first : Typing) (g : X → Typing) (xs : List X) (x : X) (a b : Checked)
    → arguments ≡ first ∷ map g xs → xs ≡ x ∷ [] → a ≡ checked_of first → b ≡ checked_of (g x) → of_two f place a b ≡ finding_of (called f place arguments)
call_two f place arguments first g xs x a b whole only one two =
    (λ i. of_two f place (one i) (two i)) ∙ (sym (sum-of_two f place first (g x)) ∙ ap (λ ts. finding_of (called f place ts)) (sym (whole ∙ ap (λ ys. first ∷ map g ys) only)))

pub call_three : {X : Type 0} (f : Function) (place : ℕ) (arguments : List Typing) (first : Typing) (g : X → Typing) (xs : List X) (x y : X) (a b c : Checked)
    → arguments ≡ first ∷ map g xs → xs ≡ x ∷ y ∷ [] → a ≡ checked_of first → b ≡ checked_of (g x) → c ≡ checked_of (g y) → of_three f place a b c ≡ finding_of (called f place arguments)
call_three f place arguments first g xs x y a b c whole only one two three =
    (λ i. of_three f place (one i) (two i) (three i)) ∙ (sym (sum-of_three f place first (g x) (g y)) ∙ ap (λ ts. finding_of (called f place ts)) (sym (whole ∙ ap (λ ys. first ∷ map g ys) only)))

pub call_many : {X : Type 0} (f : Function) (place : ℕ) (arguments : List Typing) (first : Typing) (g : X → Typing) (xs : List X) (i : ℕ) (fault : Option TypeFault)
    → arguments ≡ first ∷ map g xs → 3 ≤ length xs → length xs ≤ i → fault ≡ first_of (faults_in (first ∷ map g (take i xs))) → unless fault (wrong_count place) ≡ finding_of (called f place arguments)
call_many f place arguments first g xs i fault whole many past so =
    ap (λ e. unless e (wrong_count place)) (so ∙ ap (λ ys. first_of (faults_in (first ∷ map g ys))) (take_all i xs past))
    ∙ (sym (sum-of_many f place first (map g xs) (omega (arith, many, length-map xs g))) ∙ ap (λ ts. finding_of (called f place ts)) (sym whole))

pub list_none : {X : Type 0} (xs : List X) → length xs < 1 → xs ≡ []
list_none [] h = refl
list_none (x ∷ xs) h = absurd (omega arith)
