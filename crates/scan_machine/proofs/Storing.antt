-- What the noted stores of a run say of its words.
use Rattle.std.proofs.Common.{◌≡◌, ◌≢◌, ℕ, zero, suc, ◌+◌, ◌-◌, ◌<◌, ◌≤◌, ◌⊎◌, ℤ, pos, ◌+ℤ◌, ◌≤ℤ◌, Bool, true, false, ◌||◌, if◌then◌else◌, eqb, Option, Some, None, IfSome, List, [], ◌∷◌, ◌++◌, length, take, drop, get_or, slice_get, arith, sym, subst, ap, ◌∙◌, refl, inl, inr, length-take, length-drop, length-append}
use Rattle.std.specs.Prelude.{slice_index_or, slice_set, is_some}
use Rattle.std.proofs.lemmas.Bool.{cases_lt, eq-eqb}
use Rattle.std.specs.List.{All, AllPairs}
use Rattle.std.proofs.lemmas.List.{get_or-drop, get_or-take, length-set, append-nil, append_assoc}
use Rattle.std.proofs.lemmas.List.Elements.{All-nil, All-cons, All-weaker}
use Rattle.std.proofs.lemmas.List.Kept.{AllPairs-cons}
use Rattle.std.proofs.lemmas.Option.{same_Some, none-some, option_and_then_some, slice_get_within}
use Rattle.tri_base.specs.Noted.{number_before, noted}
use Rattle.function_blocks.specs.declared.kinds.Kind.{Kind}
use Rattle.function_blocks.specs.declared.blocks.BlockKind.{BlockKind}
use Rattle.scan_machine.specs.declared.instructions.Instr.{Instr}
use Rattle.scan_machine.specs.declared.instructions.Instr.TheVariants as i
use Rattle.scan_machine.specs.declared.verified.CodeRule.TheVariants as rule
use Rattle.function_blocks.specs.Values.{is_on, clamped}
use Rattle.function_blocks.specs.Arithmetic.{bounded}
use Rattle.scan_machine.specs.Elements.{element}
use Rattle.scan_machine.specs.Machine.{is_past}
use Rattle.function_blocks.specs.Fields.{field_count}
use Rattle.function_blocks.specs.Blocks.{step_block}
use Rattle.scan_machine.specs.Rules.{HasWords, HasConstants, IsVerified}
use Rattle.scan_machine.specs.Machine.{State, Memory, Operated, onward, store, operated, operate, load_at, stored, stored_at, chosen, called, read, with_words, words_at, noted_all, does, next, after, at_start, at_end}
use Rattle.scan_machine.specs.Laws.{NotesStores, HasNotedStores}
use Rattle.scan_machine.proofs.Calling.{length-step_block, fields_some}
use Rattle.scan_machine.proofs.Reaches.{reach_there}
use Rattle.scan_machine.proofs.Moves.{set_other, words_other, within_bounds}

-- ---- the number before

if_some : (t : Bool) (v : ℤ) (o o' : Option ℤ) (u : ℤ) → (o ≡ Some u → o' ≡ Some u) → (if t then Some v else o) ≡ Some u → (if t then Some v else o') ≡ Some u
if_some true v o o' u h e = e
if_some false v o o' u h e = h e

if_none : (t : Bool) (v : ℤ) (o o' r : Option ℤ) → (o ≡ None → o' ≡ r) → (if t then Some v else o) ≡ None → (if t then Some v else o') ≡ r
if_none true v o o' r h e = absurd (none-some v (sym e))
if_none false v o o' r h e = h e

append_some : (b : ℕ) (p q : List (ℕ × ℤ)) (u : ℤ) → number_before b p ≡ Some u → number_before b (p ++ q) ≡ Some u
append_some b [] q u e = absurd (none-some u e)
append_some b (x ∷ p) q u e = if_some (eqb x.0 b) x.1 (number_before b p) (number_before b (p ++ q)) u (append_some b p q u) e

append_none : (b : ℕ) (p q : List (ℕ × ℤ)) → number_before b p ≡ None → number_before b (p ++ q) ≡ number_before b q
append_none b [] q e = refl
append_none b (x ∷ p) q e = if_none (eqb x.0 b) x.1 (number_before b p) (number_before b (p ++ q)) (number_before b q) (append_none b p q) e

number_here : (a : ℕ) (x : ℤ) → number_before a ((a, x) ∷ []) ≡ Some x
number_here a x = ap (λ (t : Bool). if t then Some x else None) (eq-eqb a a refl)

abbrev Noting : ℕ → ℤ → List (ℕ × ℤ) → Type 0
Noting a x p = ((u : ℤ) × (number_before a p ≡ Some u) × (noted a x p ≡ p)) ⊎ ((number_before a p ≡ None) × (noted a x p ≡ p ++ (a, x) ∷ []))

noting_of : (a : ℕ) (x : ℤ) (p : List (ℕ × ℤ)) (o : Option ℤ) → number_before a p ≡ o → Noting a x p
noting_of a x p None e = inr (e, ap (λ (o : Option ℤ). if is_some o then p else p ++ (a, x) ∷ []) e)
noting_of a x p (Some u) e = inl (u, e, ap (λ (o : Option ℤ). if is_some o then p else p ++ (a, x) ∷ []) e)

noting : (a : ℕ) (x : ℤ) (p : List (ℕ × ℤ)) → Noting a x p
noting a x p = noting_of a x p (number_before a p) refl

noted_kept : (a : ℕ) (x : ℤ) (p : List (ℕ × ℤ)) (b : ℕ) (u : ℤ) → number_before b p ≡ Some u → number_before b (noted a x p) ≡ Some u
noted_kept a x p b u e =
    elim (noting a x p) as (λ _. number_before b (noted a x p) ≡ Some u) [
      | inl h ↦ ap (number_before b) h.2 ∙ e
      | inr h ↦ ap (number_before b) h.1 ∙ append_some b p ((a, x) ∷ []) u e
    ]

noted_has : (a : ℕ) (x : ℤ) (p : List (ℕ × ℤ)) → (u : ℤ) × (number_before a (noted a x p) ≡ Some u)
noted_has a x p =
    elim (noting a x p) as (λ _. (u : ℤ) × (number_before a (noted a x p) ≡ Some u)) [
      | inl h ↦ (h.0, ap (number_before a) h.2 ∙ h.1)
      | inr h ↦ (x, ap (number_before a) h.1 ∙ (append_none a p ((a, x) ∷ []) h.0 ∙ number_here a x))
    ]

-- ---- the pairs that a run adds

append_none_left : (b : ℕ) (p q : List (ℕ × ℤ)) → number_before b (p ++ q) ≡ None → number_before b p ≡ None
append_none_left b p q e = by (number_before b p) refl
  where
    by : (o : Option ℤ) → number_before b p ≡ o → number_before b p ≡ None
    by None h = h
    by (Some u) h = absurd (none-some u (sym e ∙ append_some b p q u h))

-- a pair that may be added to others: its address is that of a word, new, and its number stands there
pub record Fits (words : List ℤ) (p : List (ℕ × ℤ)) (x : ℕ × ℤ) : Type 0 where
  pub within : x.0 < length words
  pub unnoted : number_before x.0 p ≡ None
  pub number : x.1 ≡ slice_index_or words x.0 (pos 0)

-- pairs that may be added one after the other
abbrev pub Adds : List ℤ → List (ℕ × ℤ) → List (ℕ × ℤ) → Type 0
Adds words p [] = Unit {0}
Adds words p (x ∷ new) = Fits words p x × Adds words (p ++ x ∷ []) new

adds_then : (words : List ℤ) (p new more : List (ℕ × ℤ)) → Adds words p new → Adds words (p ++ new) more → Adds words p (new ++ more)
adds_then words p [] more first second = subst (λ q. Adds words q more) (append-nil p) second
adds_then words p (x ∷ new) more first second =
    (first.0, adds_then words (p ++ x ∷ []) new more first.1 (subst (λ q. Adds words q more) (sym (append_assoc p (x ∷ []) new)) second))

-- what was added to changed words may be added to those before the change, where a word that isn't noted is as before
adds_before : (words words' : List ℤ) (p new : List (ℕ × ℤ)) → length words' ≡ length words
    → ((a : ℕ) → number_before a p ≡ None → slice_index_or words' a (pos 0) ≡ slice_index_or words a (pos 0))
    → Adds words' p new → Adds words p new
adds_before words words' p [] size same adds = tt
adds_before words words' p (x ∷ new) size same adds = (
  record {
    within = omega (arith, adds.0.within, size);
    unnoted = adds.0.unnoted;
    number = adds.0.number ∙ same x.0 adds.0.unnoted;
  },
  adds_before words words' (p ++ x ∷ []) new size (λ a none. same a (append_none_left a p (x ∷ []) none)) adds.1,
)

-- an address that was noted is none of the added ones
apart : (words : List ℤ) (p new : List (ℕ × ℤ)) (b : ℕ) (u : ℤ) → number_before b p ≡ Some u → Adds words p new → All (λ y. b ≢ y.0) new
apart words p [] b u e adds = All-nil (λ (y : ℕ × ℤ). b ≢ y.0)
apart words p (x ∷ new) b u e adds =
    All-cons (λ (y : ℕ × ℤ). b ≢ y.0) x new
    (λ same. none-some u (sym adds.0.unnoted ∙ (ap (λ n. number_before n p) (sym same) ∙ e)))
    (apart words (p ++ x ∷ []) new b u (append_some b p (x ∷ []) u e) adds.1)

last_noted : (p : List (ℕ × ℤ)) (x : ℕ × ℤ) → number_before x.0 p ≡ None → number_before x.0 (p ++ x ∷ []) ≡ Some x.1
last_noted p x none = append_none x.0 p (x ∷ []) none ∙ number_here x.0 x.1

all_within : (words : List ℤ) (p new : List (ℕ × ℤ)) → Adds words p new → All (λ pair. pair.0 < length words) new
all_within words p [] adds = All-nil (λ (pair : ℕ × ℤ). pair.0 < length words)
all_within words p (x ∷ new) adds =
    All-cons (λ (pair : ℕ × ℤ). pair.0 < length words) x new adds.0.within (all_within words (p ++ x ∷ []) new adds.1)

all_unnoted : (words : List ℤ) (p new : List (ℕ × ℤ)) → Adds words p new → All (λ pair. number_before pair.0 p ≡ None) new
all_unnoted words p [] adds = All-nil (λ (pair : ℕ × ℤ). number_before pair.0 p ≡ None)
all_unnoted words p (x ∷ new) adds =
    let P : ℕ × ℤ → Type 0 = λ pair. number_before pair.0 p ≡ None in
    let Q : ℕ × ℤ → Type 0 = λ pair. number_before pair.0 (p ++ x ∷ []) ≡ None in
    All-cons P x new adds.0.unnoted (All-weaker Q P (λ y e. append_none_left y.0 p (x ∷ []) e) new (all_unnoted words (p ++ x ∷ []) new adds.1))

all_once : (words : List ℤ) (p new : List (ℕ × ℤ)) → Adds words p new → AllPairs (λ pair other. pair.0 ≢ other.0) new
all_once words p [] adds = λ i j d less below. absurd (omega arith)
all_once words p (x ∷ new) adds =
    AllPairs-cons (λ (pair other : ℕ × ℤ). pair.0 ≢ other.0) x new
    (apart words (p ++ x ∷ []) new x.0 x.1 (last_noted p x adds.0.unnoted) adds.1)
    (all_once words (p ++ x ∷ []) new adds.1)

all_numbers : (words : List ℤ) (p new : List (ℕ × ℤ)) → Adds words p new → All (λ pair. pair.1 ≡ slice_index_or words pair.0 (pos 0)) new
all_numbers words p [] adds = All-nil (λ (pair : ℕ × ℤ). pair.1 ≡ slice_index_or words pair.0 (pos 0))
all_numbers words p (x ∷ new) adds =
    All-cons (λ (pair : ℕ × ℤ). pair.1 ≡ slice_index_or words pair.0 (pos 0)) x new adds.0.number (all_numbers words (p ++ x ∷ []) new adds.1)

-- ---- stores between two memories

pub record Noted (w w' : List ℤ) (p p' : List (ℕ × ℤ)) : Type 0 where
  pub new : List (ℕ × ℤ)
  pub added : p' ≡ p ++ new
  pub adds : Adds w p new
  pub others : (a : ℕ) → number_before a p' ≡ None → slice_index_or w' a (pos 0) ≡ slice_index_or w a (pos 0)

tells : (before after : Memory) → Noted before.words after.words before.stores after.stores → NotesStores before after
tells before after h = record {
  new = h.new;
  added = h.added;
  within = all_within before.words before.stores h.new h.adds;
  unnoted = all_unnoted before.words before.stores h.new h.adds;
  once = all_once before.words before.stores h.new h.adds;
  numbers = all_numbers before.words before.stores h.new h.adds;
  others = h.others;
}

-- ---- one store, and one after the other

one_store : (words : List ℤ) (a : ℕ) (v : ℤ) (p : List (ℕ × ℤ)) → a < length words
    → Noted words (slice_set words a v) p (noted a (slice_index_or words a (pos 0)) p)
one_store words a v p within = by (noting a (slice_index_or words a (pos 0)) p)
  where
    others : (b : ℕ) → number_before b (noted a (slice_index_or words a (pos 0)) p) ≡ None
        → slice_index_or (slice_set words a v) b (pos 0) ≡ slice_index_or words b (pos 0)
    others b none =
        set_other words a b v
        (λ e. let has = noted_has a (slice_index_or words a (pos 0)) p in
        none-some has.0 (sym none ∙ (ap (λ n. number_before n (noted a (slice_index_or words a (pos 0)) p)) (sym e) ∙ has.1)))

    by : Noting a (slice_index_or words a (pos 0)) p → Noted words (slice_set words a v) p (noted a (slice_index_or words a (pos 0)) p)
    by (inl h) = record { new = []; added = h.2 ∙ sym (append-nil p); adds = tt; others = others }
    by (inr h) = record {
      new = (a, slice_index_or words a (pos 0)) ∷ [];
      added = h.1;
      adds = (record { within = within; unnoted = h.0; number = refl }, tt);
      others = others;
    }

no_store : (words : List ℤ) (p : List (ℕ × ℤ)) → Noted words words p p
no_store words p = record { new = []; added = sym (append-nil p); adds = tt; others = λ b none. refl }

then_stores : (w w' w'' : List ℤ) (p p' p'' : List (ℕ × ℤ)) → length w' ≡ length w → Noted w w' p p' → Noted w' w'' p' p'' → Noted w w'' p p''
then_stores w w' w'' p p' p'' size first second = record {
  new = first.new ++ second.new;
  added = second.added ∙ (ap (λ q. q ++ second.new) first.added ∙ append_assoc p first.new second.new);
  adds = adds_then w p first.new second.new first.adds (subst (λ q. Adds w q second.new) first.added
      (adds_before w w' p' second.new size first.others second.adds));
  others = λ b none. second.others b none ∙ first.others b (append_none_left b p' second.new (ap (number_before b) (sym second.added) ∙ none));
}

-- ---- a call

all_kept : (fields : List ℤ) (a : ℕ) (p : List (ℕ × ℤ)) (b : ℕ) (u : ℤ) → number_before b p ≡ Some u → number_before b (noted_all a fields p) ≡ Some u
all_kept [] a p b u e = e
all_kept (x ∷ more) a p b u e = all_kept more (a + 1) (noted a x p) b u (noted_kept a x p b u e)

all_has : (fields : List ℤ) (a : ℕ) (p : List (ℕ × ℤ)) (b : ℕ) → a ≤ b → b < a + length fields → (u : ℤ) × (number_before b (noted_all a fields p) ≡ Some u)
all_has [] a p b from to = absurd (omega (arith, from, to))
all_has (x ∷ more) a p b from to =
    elim (cases_lt a b) as (λ _. (u : ℤ) × (number_before b (noted_all a (x ∷ more) p) ≡ Some u)) [
      | inl h ↦ all_has more (a + 1) (noted a x p) b (omega (arith, h)) (omega (arith, to))
      | inr h ↦
          let e : a ≡ b = omega (arith, h, from) in let has = noted_has a x p in
          (has.0, all_kept more (a + 1) (noted a x p) b has.0 (subst (λ n. number_before n (noted a x p) ≡ Some has.0) e has.1))
    ]

abbrev Shows : List ℤ → List ℤ → ℕ → Type 0
Shows words fields a = (k : ℕ) → k < length fields → get_or fields k (pos 0) ≡ slice_index_or words (a + k) (pos 0)

-- the pairs that a call adds
pub record AllAdded (words fields : List ℤ) (a : ℕ) (p : List (ℕ × ℤ)) : Type 0 where
  pub new : List (ℕ × ℤ)
  pub added : noted_all a fields p ≡ p ++ new
  pub adds : Adds words p new

all_added : (words fields : List ℤ) (a : ℕ) (p : List (ℕ × ℤ)) → Shows words fields a → a + length fields ≤ length words → AllAdded words fields a p
all_added words [] a p shows within = record { new = []; added = sym (append-nil p); adds = tt }
all_added words (x ∷ more) a p shows within =
    by (λ q. all_added words more (a + 1) q
    (λ k below. let z : a + suc k ≡ a + 1 + k = omega arith in shows (suc k) (omega (arith, below)) ∙ ap (λ n. slice_index_or words n (pos 0)) z)
    (omega (arith, within))) (noting a x p)
  where
    by : ((q : List (ℕ × ℤ)) → AllAdded words more (a + 1) q) → Noting a x p → AllAdded words (x ∷ more) a p
    by rest (inl h) = let r = rest p in record { new = r.new; added = ap (noted_all (a + 1) more) h.2 ∙ r.added; adds = r.adds }
    by rest (inr h) =
        let r = rest (p ++ (a, x) ∷ []) in
        let z : a + 0 ≡ a = omega arith in
        record {
          new = (a, x) ∷ r.new;
          added = ap (noted_all (a + 1) more) h.1 ∙ (r.added ∙ append_assoc p ((a, x) ∷ []) r.new);
          adds = (
            record {
              within = omega (arith, within);
              unnoted = h.0;
              number = shows 0 (omega arith) ∙ ap (λ n. slice_index_or words n (pos 0)) z;
            },
            r.adds,
          );
        }

call_stores : (words new : List ℤ) (a count : ℕ) (p : List (ℕ × ℤ)) → length new ≡ count → a + count ≤ length words
    → Noted words (with_words words a new) p (noted_all a (words_at words a count) p)
call_stores words new a count p size within =
    let fields = words_at words a count in
    let many : length fields ≡ count = omega (arith, length-take count (drop a words), length-drop a words) in
    let shows : Shows words fields a = λ k below. get_or-take count (drop a words) k (pos 0) (omega (arith, below, many)) ∙ get_or-drop a words k (pos 0) in
    let all : AllAdded words fields a p = all_added words fields a p shows (omega (arith, many, within)) in
    record {
      new = all.new;
      added = all.added;
      adds = all.adds;
      others = λ b none. words_other words new a b (omega (arith, size, within)) (aside b none (cases_lt b a) (cases_lt b (a + length new)));
    }
  where
    aside : (b : ℕ) → number_before b (noted_all a (words_at words a count) p) ≡ None → (b < a) ⊎ (a ≤ b) → (b < a + length new) ⊎ (a + length new ≤ b)
        → (b < a) ⊎ (a + length new ≤ b)
    aside b none (inl h) k = inl h
    aside b none (inr h) (inr k) = inr k
    aside b none (inr h) (inl k) =
        let many : length (words_at words a count) ≡ count = omega (arith, length-take count (drop a words), length-drop a words) in
        let has = all_has (words_at words a count) a p b h (omega (arith, k, many, size)) in
        absurd (none-some has.0 (sym none ∙ has.1))

length-with_words : (words new : List ℤ) (a : ℕ) → a + length new ≤ length words → length (with_words words a new) ≡ length words
length-with_words words new a within =
    omega (
      arith,
      length-append (take a words) (new ++ drop (length new) (drop a words)),
      length-append new (drop (length new) (drop a words)),
      length-take a words,
      length-drop (length new) (drop a words),
      length-drop a words,
    )

-- ---- each instruction

pub record Stepped (s s' : State) : Type 0 where
  pub size : length s'.words ≡ length s.words
  pub notes : Noted s.words s'.words s.stores s'.stores

stepped : (s t s' : State) → Some t ≡ Some s' → Stepped s t → Stepped s s'
stepped s t s' e h = subst (λ z. Stepped s z) (same_Some t s' e) h

still : (s t : State) → t.words ≡ s.words → t.stores ≡ s.stores → Stepped s t
still s t e f = record {
  size = ap length e;
  notes = subst (λ w. Noted s.words w s.stores t.stores) (sym e) (subst (λ p. Noted s.words s.words s.stores p) (sym f) (no_store s.words s.stores));
}

step_operated : (s s' : State) (o : Option Operated) → operated s o ≡ Some s' → Stepped s s'
step_operated s s' None e = absurd (none-some s' e)
step_operated s s' (Some l) e =
    let t : State = record (onward s l.stack) { flag = s.flag || l.flag } in
    stepped s t s' e (still s t refl refl)

step_stored : (s s' : State) (a : ℕ) (kind : Kind) (stack : List ℤ) → a < length s.words → stored s a kind stack ≡ Some s' → Stepped s s'
step_stored s s' a kind [] within e = absurd (none-some s' e)
step_stored s s' a kind (x ∷ below) within e =
    stepped s (store (onward s below) a (clamped kind x)) s' e (record { size = length-set s.words a (clamped kind x); notes = one_store s.words a (clamped kind x) s.stores within })

step_stored_at : (s s' : State) (a : ℕ) (kind : Kind) (low high : ℤ) (stack : List ℤ) → low ≤ℤ high → HasWords (length s.words) (i.StoreAt a kind low high) → stored_at s a kind low high stack ≡ Some s' → Stepped s s'
step_stored_at s s' a kind low high [] up there e = absurd (none-some s' e)
step_stored_at s s' a kind low high (v ∷ []) up there e = absurd (none-some s' e)
step_stored_at s s' a kind low high (v ∷ x ∷ below) up there e =
    let index = bounded low high x in let place = element a low index.value in
    stepped s (record (store (onward s below) place (clamped kind v)) { flag = s.flag || index.flag }) s' e
    (record { size = length-set s.words place (clamped kind v); notes = one_store s.words place (clamped kind v) s.stores (there place (within_bounds a low high x up)) })

step_chosen : (s s' : State) (target : ℕ) (stack : List ℤ) → chosen s target stack ≡ Some s' → Stepped s s'
step_chosen s s' target [] e = absurd (none-some s' e)
step_chosen s s' target (x ∷ below) e =
    let t : State = record s { index = if is_on x then s.index + 1 else target; stack = below } in
    stepped s t s' e (still s t refl refl)

step_turned : (s s' : State) (a : ℕ) (sum : ℤ) (back : ℕ) (b : Bool) → a < length s.words → Some (if b then onward s s.stack else record (store s a sum) { index = back }) ≡ Some s' → Stepped s s'
step_turned s s' a sum back true within e = stepped s (onward s s.stack) s' e (still s (onward s s.stack) refl refl)
step_turned s s' a sum back false within e =
    stepped s (record (store s a sum) { index = back }) s' e (record { size = length-set s.words a sum; notes = one_store s.words a sum s.stores within })

step_called : (s s' : State) (kind : BlockKind) (a : ℕ) (dt : ℤ) → HasWords (length s.words) (i.Call kind a) → Some (called s kind a dt) ≡ Some s' → Stepped s s'
step_called s s' kind a dt there e =
    let new = step_block kind dt (words_at s.words a (field_count kind)) in
    let size = length-step_block kind dt (words_at s.words a (field_count kind)) in
    let some = fields_some kind in
    let within = reach_there (length s.words) a (field_count kind - 1) (i.Call kind a) refl there in
    stepped s (called s kind a dt) s' e
    (record { size = length-with_words s.words new a (omega (arith, size, some, within)); notes = call_stores s.words new a (field_count kind) s.stores size (omega (arith, some, within)) })

step_notes : (dt : ℤ) (instr : Instr) (s s' : State) → HasWords (length s.words) instr → HasConstants instr → does dt instr s ≡ Some s' → Stepped s s'
step_notes dt (i.Push v) s s' w c e = stepped s (onward s (v ∷ s.stack)) s' e (still s (onward s (v ∷ s.stack)) refl refl)
step_notes dt (i.Load a kind) s s' w c e =
    stepped s (onward s (read s.words a kind ∷ s.stack)) s' e (still s (onward s (read s.words a kind ∷ s.stack)) refl refl)
step_notes dt (i.Store a kind) s s' w c e = step_stored s s' a kind s.stack (w a refl) e
step_notes dt (i.LoadAt a kind low high) s s' w c e = step_operated s s' (load_at s.words a kind low high s.stack) e
step_notes dt (i.StoreAt a kind low high) s s' w c e = step_stored_at s s' a kind low high s.stack c.0 w e
step_notes dt (i.Jump target) s s' w c e = let t : State = record s { index = target } in stepped s t s' e (still s t refl refl)
step_notes dt (i.JumpFalse target) s s' w c e = step_chosen s s' target s.stack e
step_notes dt (i.Next a kind step last back) s s' w c e =
    step_turned s s' a (read s.words a kind +ℤ step) back (is_past step last (read s.words a kind +ℤ step)) (w a refl) e
step_notes dt (i.Call kind a) s s' w c e = step_called s s' kind a dt w e
step_notes dt instr s s' w c e = step_operated s s' (operate instr s.stack) e

-- ---- a whole run

module _ (code : List Instr) (dt : ℤ) (start : State) (kept : IsVerified code (length start.words)) where
  next_notes : (s s' : State) → Stepped start s → next code dt s ≡ Some s' → Stepped start s'
  next_notes s s' before e =
      option_and_then_some (λ (instr : Instr). does dt instr s) (slice_get code s.index) s' e (λ instr is done.
      let there : HasWords (length start.words) instr =
      subst (λ o. IfSome o (HasWords (length start.words))) is (kept s.index (omega (arith, slice_get_within code s.index instr is)) rule.Address) in
      let consts : HasConstants instr =
      subst (λ o. IfSome o HasConstants) is (kept s.index (omega (arith, slice_get_within code s.index instr is)) rule.Constant) in
      let one = step_notes dt instr s s' (subst (λ n. HasWords n instr) (sym before.size) there) consts done in
      record {
        size = one.size ∙ before.size;
        notes = then_stores start.words s.words s'.words start.stores s.stores s'.stores before.size before.notes one.notes;
      })

  after_notes : (n : ℕ) (s' : State) → after code dt n start ≡ Some s' → Stepped start s'
  unfolding after
  after_notes zero s' e = stepped start start s' e (still start start refl refl)
  after_notes (suc n) s' e =
      option_and_then_some (next code dt) (after code dt n start) s' e (λ s is done. next_notes s s' (after_notes n s is) done)

pub noted_stores : HasNotedStores
noted_stores code dt before ran kept run =
    tells before ran.memory (after_notes code dt (at_start before) kept ran.count (at_end code ran) run).notes
