-- What the checker keeps of a rule's outcome is what the rule gives of what it keeps of the parts.
use Rattle.std.proofs.Common.{◌≡◌, ℕ, Bool, true, false, List, [], ◌∷◌, ◌++◌, Some, None, refl, ap, ◌∙◌, append-nil}
use Rattle.std.specs.Prelude.{if◌then◌else◌}
use Rattle.std.proofs.lemmas.List.Concat.{flat_map-append}
use Rattle.tri_base.specs.declared.faults.TypeFault.{TypeFault}
use Rattle.function_blocks.specs.declared.kinds.Kind.{Kind}
use Rattle.function_blocks.specs.declared.kinds.Kind.TheVariants as kind
use Rattle.st_types.specs.declared.join.Joint.TheVariants as joint
use Rattle.st_types.specs.declared.finding.Finding.TheVariants as finding
use Rattle.st_types.specs.Inner.Summaries.{misfits_of, finding_of, checked_of, joint_of, fault_of, fault_of_two, unless, asked, as_integer, merged, literal, joined, settled, start, integer_of_one, integers, when_sound, booleans, alike, compared, primary_of, unsigned, negated}
use Rattle.st_types.proofs.Firsts.{first_of_append}
use Rattle.st_tree.specs.Typing.Faults.{first_of}
use Rattle.st_types.specs.Inner.Firsts.{soonest}
use Rattle.st_tree.specs.Typing.Expressions as expression
use Rattle.st_tree.specs.Typing.Operands as operand
use Rattle.st_tree.specs.Typing.Operands.{Outcome, Faulty, Typed, Free, Typing, Join, Unlike, Alike, same_kind, once_sound, faults_of, faults_in, fixed}
use Rattle.st_tree.specs.Typing.Expressions.{PrimaryTyping, NumberToken, Other, plain_literal, negated_literal}
use Rattle.st_tree.specs.declared.declaration.Integer.{Integer}
use Rattle.st_tree.specs.Typing.Literals.{range_faults, outside}

misfit-append : (k : Kind) (ls ms : List Integer) → first_of (outside k (ls ++ ms)) ≡ soonest (first_of (outside k ls)) (first_of (outside k ms))
misfit-append k ls ms = ap first_of (flat_map-append (range_faults k) ls ms) ∙ first_of_append (outside k ls) (outside k ms)

misfits-append : (ls ms : List Integer) → misfits_of (ls ++ ms) ≡ merged (misfits_of ls) (misfits_of ms)
misfits-append ls ms = λ i. record { int = misfit-append kind.Int ls ms i; dint = misfit-append kind.Dint ls ms i }

pub sum-once : (fs : List TypeFault) (rule : Outcome) → finding_of (once_sound fs rule) ≡ unless (first_of fs) (finding_of rule)
sum-once [] rule = refl
sum-once (f ∷ fs) rule = refl

pub sum-fault : (o : Outcome) → first_of (faults_of o) ≡ fault_of (finding_of o)
sum-fault (Faulty f fs) = refl
sum-fault (Typed k) = refl
sum-fault (Free ls) = refl

sum-fixed : (k : Kind) (ls : List Integer) → finding_of (fixed k ls) ≡ unless (first_of (outside k ls)) (finding.Typed k)
sum-fixed k ls = sum-once (outside k ls) (Typed k)

sum-if : (b : Bool) (o p : Outcome) → finding_of (if b then o else p) ≡ (if b then finding_of o else finding_of p)
sum-if true o p = refl
sum-if false o p = refl

-- what a place asks for
pub sum-asked : (k : Kind) (t : Typing) → finding_of (operand.asked k t) ≡ asked k (checked_of t)
sum-asked k t = by k t.first t.outcome
  where
    by : (k : Kind) (first : ℕ) (o : Outcome) → finding_of (operand.asked k (operand.found first o)) ≡ asked k (checked_of (operand.found first o))
    by k first (Faulty f fs) = refl
    by k first (Typed own) = sum-if (same_kind k own) (Typed own) (operand.wrong_type first)
    by kind.Bool first (Free ls) = refl
    by kind.Int first (Free ls) = sum-fixed kind.Int ls
    by kind.Dint first (Free ls) = sum-fixed kind.Dint ls

pub sum-as_integer : (t : Typing) → finding_of (operand.as_integer t) ≡ as_integer (checked_of t)
sum-as_integer t = by t.first t.outcome
  where
    by : (first : ℕ) (o : Outcome) → finding_of (operand.as_integer (operand.found first o)) ≡ as_integer (checked_of (operand.found first o))
    by first (Faulty f fs) = refl
    by first (Typed kind.Bool) = refl
    by first (Typed kind.Int) = refl
    by first (Typed kind.Dint) = refl
    by first (Free ls) = sum-fixed kind.Dint ls

-- joins
joint-if : (b : Bool) (o p : Join) → joint_of (if b then o else p) ≡ (if b then joint_of o else joint_of p)
joint-if true o p = refl
joint-if false o p = refl

pub sum-joined : (j : Join) (t : Typing) → joint_of (operand.joined j t) ≡ joined (joint_of j) (checked_of t)
sum-joined j t = by j t.first t.outcome
  where
    by : (j : Join) (first : ℕ) (o : Outcome) → joint_of (operand.joined j (operand.found first o)) ≡ joined (joint_of j) (checked_of (operand.found first o))
    by (Unlike place) first o = refl
    by (Alike k ls) first (Free ms) = ap (joint.Alike k) (misfits-append ls ms)
    by (Alike k ls) first (Faulty f fs) = refl
    by (Alike k ls) first (Typed kind.Bool) = refl
    by (Alike None ls) first (Typed kind.Int) = refl
    by (Alike None ls) first (Typed kind.Dint) = refl
    by (Alike (Some k) ls) first (Typed kind.Int) = joint-if (same_kind k kind.Int) (Alike (Some k) ls) (Unlike first)
    by (Alike (Some k) ls) first (Typed kind.Dint) = joint-if (same_kind k kind.Dint) (Alike (Some k) ls) (Unlike first)

pub sum-settled : (j : Join) → finding_of (operand.settled j) ≡ settled (joint_of j)
sum-settled (Unlike place) = refl
sum-settled (Alike None ls) = refl
sum-settled (Alike (Some kind.Bool) ls) = refl
sum-settled (Alike (Some kind.Int) ls) = sum-fixed kind.Int ls
sum-settled (Alike (Some kind.Dint) ls) = sum-fixed kind.Dint ls

pub sum-two_faults : (a b : Typing) → first_of (faults_in (a ∷ b ∷ [])) ≡ fault_of_two (checked_of a) (checked_of b)
sum-two_faults a b =
    ap (λ l. first_of (faults_of a.outcome ++ l)) (append-nil (faults_of b.outcome))
    ∙ (first_of_append (faults_of a.outcome) (faults_of b.outcome)
    ∙ λ i. soonest (sum-fault a.outcome i) (sum-fault b.outcome i))

pub sum-one_fault : (a : Typing) → first_of (faults_in (a ∷ [])) ≡ fault_of (finding_of a.outcome)
sum-one_fault a = ap first_of (append-nil (faults_of a.outcome)) ∙ sum-fault a.outcome

pub sum-integers : (a b : Typing) → finding_of (operand.both_integer a b) ≡ integers (checked_of a) (checked_of b)
sum-integers a b =
    let one = operand.joined (Alike None []) a in
    let two = operand.joined one b in
    let joins : joint_of two ≡ joined (joined start (checked_of a)) (checked_of b) = sum-joined one b ∙ ap (λ j. joined j (checked_of b)) (sum-joined (Alike None []) a) in
    sum-once (faults_in (a ∷ b ∷ [])) (operand.settled two)
    ∙ λ i. unless (sum-two_faults a b i) ((sum-settled two ∙ ap settled joins) i)

pub sum-integer_of_one : (a : Typing) → finding_of (operand.integers (a ∷ [])) ≡ integer_of_one (checked_of a)
sum-integer_of_one a =
    let one = operand.joined (Alike None []) a in
    sum-once (faults_in (a ∷ [])) (operand.settled one)
    ∙ λ i. unless (sum-one_fault a i) ((sum-settled one ∙ ap settled (sum-joined (Alike None []) a)) i)

pub sum-when_sound : (o p : Outcome) → finding_of (once_sound (faults_of o) p) ≡ when_sound (finding_of o) (finding_of p)
sum-when_sound (Faulty f fs) p = refl
sum-when_sound (Typed k) p = refl
sum-when_sound (Free ls) p = refl

pub sum-booleans : (a b : Typing) → finding_of (operand.both_bool a b) ≡ booleans (checked_of a) (checked_of b)
sum-booleans a b =
    let last = sum-when_sound (operand.asked kind.Bool b) (Typed kind.Bool) ∙ ap (λ f. when_sound f (finding.Typed kind.Bool)) (sum-asked kind.Bool b) in
    let rule = sum-when_sound (operand.asked kind.Bool a) (operand.all_bool (b ∷ [])) ∙ λ i. when_sound (sum-asked kind.Bool a i) (last i) in
    sum-once (faults_in (a ∷ b ∷ [])) (operand.all_bool (a ∷ b ∷ []))
    ∙ λ i. unless (sum-two_faults a b i) (rule i)

pub sum-compared : (o : Outcome) → finding_of (operand.compared o) ≡ compared (finding_of o)
sum-compared (Faulty f fs) = refl
sum-compared (Typed k) = refl
sum-compared (Free ls) = sum-once (outside kind.Dint ls) (Typed kind.Bool)

pub sum-alike : (a b : Typing) → finding_of (operand.alike a b) ≡ alike (checked_of a) (checked_of b)
sum-alike a b = by a.first a.outcome
  where
    by : (first : ℕ) (o : Outcome) → finding_of (operand.alike (operand.found first o) b) ≡ alike (checked_of (operand.found first o)) (checked_of b)
    by first (Faulty f fs) = sum-integers (operand.found first (Faulty f fs)) b
    by first (Typed kind.Bool) = sum-booleans (operand.found first (Typed kind.Bool)) b
    by first (Typed kind.Int) = sum-integers (operand.found first (Typed kind.Int)) b
    by first (Typed kind.Dint) = sum-integers (operand.found first (Typed kind.Dint)) b
    by first (Free ls) = sum-integers (operand.found first (Free ls)) b

literal-alone : (i : Integer) → finding_of (Free (i ∷ [])) ≡ literal i
literal-alone i = λ j. finding.Free (record { int = first_of (append-nil (range_faults kind.Int i) j); dint = first_of (append-nil (range_faults kind.Dint i) j) })

pub sum-unsigned : (p : PrimaryTyping) → checked_of (expression.unsigned p) ≡ unsigned (primary_of p)
sum-unsigned (NumberToken number place) = λ i. record { first = place; finding = literal-alone (plain_literal number place) i }
sum-unsigned (Other t) = refl

pub sum-negated : (at : ℕ) (p : PrimaryTyping) → checked_of (expression.negated at p) ≡ negated at (primary_of p)
sum-negated at (NumberToken number place) = λ i. record { first = at; finding = literal-alone (negated_literal at number place) i }
sum-negated at (Other t) = λ i. record { first = at; finding = sum-integer_of_one t i }
