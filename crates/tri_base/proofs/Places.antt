-- The pairs of a memory's touched places, and where each stands.
use Rattle.std.proofs.Common.{◌≡◌, ◌≢◌, ℕ, ℤ, ◌≤◌, ◌<◌, ◌+◌, List, [], ◌∷◌, ◌++◌, length, get_or, replicate, refl, sym, ap, ◌∙◌, subst, arith, Option, Some, None, pos, suc, zero, ◌==◌, add-one, get_or-set_same, get_or-set_other, is_some, if◌then◌else◌}
use mathlib.Core.Logic.{◌⊎◌, inl, inr}
use Rattle.std.proofs.lemmas.Bool.{cond-true, cond-false, eq-eqb, ne_eqb, cases_lt, cases_eq}
use Rattle.std.proofs.lemmas.List.{get_or_append_left, get_or_push, length_push, length-set, length-replicate, get_or-replicate, get_or_past, get_or_read_under, get_or_default}
use Rattle.std.specs.List.{All, AllPairs}
use Rattle.std.proofs.Math.ListN.{set}
use Rattle.tri_base.specs.Noted.{number_before, noted}
use Rattle.tri_base.specs.Inner.TouchedFields.{address_at, unknowing, Tied}

abbrev pub Pair : Type 0
Pair = ℕ × ℤ

abbrev pub none_yet : Pair
none_yet = (0, pos 0)

-- no number is noted for an address that no pair has
absent : (a : ℕ) (pairs : List Pair) → ((k : ℕ) → k < length pairs → address_at pairs k ≢ a) → number_before a pairs ≡ None
absent a [] h = refl
absent a (p ∷ ps) h =
    cond-false {A = Option ℤ} (p.0 == a) (Some p.1) (number_before a ps) (ne_eqb p.0 a (h 0 (omega arith)))
    ∙ absent a ps (λ k l. h (suc k) (omega arith))

-- the number of the first pair that has the address
found : (a : ℕ) (pairs : List Pair) (k : ℕ) → k < length pairs → address_at pairs k ≡ a → ((j : ℕ) → j < k → address_at pairs j ≢ a) → number_before a pairs ≡ Some (get_or pairs k none_yet).1
found a [] k l e h = absurd (omega arith)
found a (p ∷ ps) zero l e h = cond-true {A = Option ℤ} (p.0 == a) (Some p.1) (number_before a ps) (eq-eqb p.0 a e)
found a (p ∷ ps) (suc k) l e h =
    cond-false {A = Option ℤ} (p.0 == a) (Some p.1) (number_before a ps) (ne_eqb p.0 a (h 0 (omega arith)))
    ∙ found a ps k (omega arith) e (λ j m. h (suc j) (omega arith))

-- an address that knows no place has no number noted
pub knows_none : (a : ℕ) (pairs : List Pair) (places : List ℕ) → Tied pairs places → get_or places a 0 ≡ 0 → number_before a pairs ≡ None
knows_none a pairs places h z = absent a pairs (λ k l e.
    let at : get_or places a 0 ≡ k + 1 = subst (λ (x : ℕ). get_or places x 0 ≡ k + 1) e (h.known k l) in
    absurd (omega arith))

-- an address past the memory has none
pub past : (a : ℕ) (pairs : List Pair) (places : List ℕ) → Tied pairs places → length places ≤ a → number_before a pairs ≡ None
past a pairs places h l = knows_none a pairs places h (get_or_past places a 0 l)

-- an address that knows a place has the number of the pair there
pub knows : (a k : ℕ) (pairs : List Pair) (places : List ℕ) → Tied pairs places → get_or places a 0 ≡ k + 1 → number_before a pairs ≡ Some (get_or pairs k none_yet).1
knows a k pairs places h z =
    let own = h.owns a k z in
    found a pairs k own.0 own.1 (λ j m e.
    let at : get_or places a 0 ≡ j + 1 = subst (λ (x : ℕ). get_or places x 0 ≡ j + 1) e (h.known j (omega (arith, own.0))) in
    absurd (omega arith))

taken : (places : List ℕ) (a p : ℕ) → a < length places → get_or places a 0 ≡ 0 → unknowing (set places a (suc p)) + 1 ≡ unknowing places
taken [] a p l z = absurd (omega arith)
taken (zero ∷ qs) zero p l z = omega arith
taken (suc q ∷ qs) zero p l z = absurd (omega arith)
taken (zero ∷ qs) (suc a) p l z = omega (arith, taken qs a p (omega arith) z)
taken (suc q ∷ qs) (suc a) p l z = taken qs a p (omega arith) z

freed : (places : List ℕ) (a : ℕ) → a < length places → 0 < get_or places a 0 → unknowing (set places a 0) ≡ unknowing places + 1
freed [] a l n = absurd (omega arith)
freed (zero ∷ qs) zero l n = absurd (omega arith)
freed (suc q ∷ qs) zero l n = omega arith
freed (zero ∷ qs) (suc a) l n = omega (arith, freed qs a (omega arith) n)
freed (suc q ∷ qs) (suc a) l n = freed qs a (omega arith) n

-- a memory of which nothing was touched
unknowing-new : (n : ℕ) → unknowing (replicate n 0) ≡ n
unknowing-new zero = refl
unknowing-new (suc n) = ap suc (unknowing-new n)

nothing : (n a k : ℕ) → get_or (replicate n 0) a 0 ≡ k + 1 → ⊥
nothing n a k e = elim (cases_lt a n) [
  | inl l ↦ omega (arith, e, get_or-replicate {A = ℕ} n a 0 0 l)
  | inr l ↦ omega (arith, e, get_or_past {X = ℕ} (replicate n 0) a 0 (omega (arith, length-replicate {A = ℕ} n 0)))
]

pub untouched : (n : ℕ) → Tied [] (replicate n 0)
untouched n = record {
  within = λ k l. absurd (omega arith);
  known = λ k l. absurd (omega arith);
  owns = λ a k e. absurd (nothing n a k e);
  free = omega (arith, unknowing-new n, length-replicate {A = ℕ} n 0);
}

-- a pair's address, with one more pair at the end
left : (pairs : List Pair) (p : Pair) (k : ℕ) → k < length pairs → address_at (pairs ++ p ∷ []) k ≡ address_at pairs k
left pairs p k l = ap (λ (x : Pair). x.0) (get_or_append_left pairs (p ∷ []) none_yet k l)

last : (pairs : List Pair) (p : Pair) → address_at (pairs ++ p ∷ []) (length pairs) ≡ p.0
last pairs p = ap (λ (x : Pair). x.0) (get_or_push pairs p none_yet (length pairs) refl)

split : (pairs : List Pair) (p : Pair) (k : ℕ) → k < length (pairs ++ p ∷ []) → ((k < length pairs) × (address_at (pairs ++ p ∷ []) k ≡ address_at pairs k)) ⊎ ((k ≡ length pairs) × (address_at (pairs ++ p ∷ []) k ≡ p.0))
split pairs p k l = elim (cases_lt k (length pairs)) [
  | inl m ↦ inl (m, left pairs p k m)
  | inr m ↦
      let here : k ≡ length pairs = omega (arith, length_push pairs p) in
      inr (here, ap (address_at (pairs ++ p ∷ [])) here ∙ last pairs p)
]

-- two addresses differ where they know different places
differ : (places : List ℕ) (a b m n : ℕ) → get_or places a 0 ≡ m → get_or places b 0 ≡ n → m ≢ n → b ≢ a
differ places a b m n at_a at_b ne e = ne (sym at_a ∙ (ap (λ (x : ℕ). get_or places x 0) (sym e) ∙ at_b))

-- a note of an address that knew no place
pub more : (pairs : List Pair) (places : List ℕ) (a : ℕ) (before : ℤ) → Tied pairs places → a < length places → get_or places a 0 ≡ 0 → Tied (pairs ++ (a, before) ∷ []) (set places a (length pairs + 1))
more pairs places a before h inside zero_is =
    let p : Pair = (a, before) in
    let n = length pairs in
    let longer = length_push pairs p in
    let same_size = length-set places a (n + 1) in
    let by_one : unknowing (set places a (n + 1)) + 1 ≡ unknowing places = subst (λ (x : ℕ). unknowing (set places a x) + 1 ≡ unknowing places) (sym (add-one n)) (taken places a n inside zero_is) in
    record {
      within = λ k l. elim (split pairs p k l) [
        | inl o ↦ omega (arith, same_size, o.1, h.within k o.0)
        | inr o ↦ omega (arith, same_size, o.1)
      ];
      known = λ k l. elim (split pairs p k l) [
        | inl o ↦
            let ne : address_at pairs k ≢ a = differ places a (address_at pairs k) 0 (k + 1) zero_is (h.known k o.0) (λ e. omega arith) in
            ap (λ (x : ℕ). get_or (set places a (n + 1)) x 0) o.1 ∙ (get_or-set_other places a (address_at pairs k) (n + 1) 0 ne ∙ h.known k o.0)
        | inr o ↦ ap (λ (x : ℕ). get_or (set places a (n + 1)) x 0) o.1 ∙ (get_or-set_same places a (n + 1) 0 inside ∙ ap (λ (x : ℕ). x + 1) (sym o.0))
      ];
      owns = λ b k e. elim (cases_eq b a) [
        | inl same ↦
            let here : n + 1 ≡ k + 1 = sym (get_or-set_same places a (n + 1) 0 inside) ∙ (ap (λ (x : ℕ). get_or (set places a (n + 1)) x 0) (sym same) ∙ e) in
            let k_is : k ≡ n = omega arith in
            (omega (arith, longer), ap (address_at (pairs ++ p ∷ [])) k_is ∙ (last pairs p ∙ sym same))
        | inr other ↦
            let own = h.owns b k (sym (get_or-set_other places a b (n + 1) 0 other) ∙ e) in
            (omega (arith, longer, own.0), left pairs p k own.0 ∙ own.1)
      ];
      free = omega (arith, longer, same_size, h.free, by_one);
    }

-- the last pair's address is one of the memory's
pub last_inside : (pairs : List Pair) (p : Pair) (places : List ℕ) → Tied (pairs ++ p ∷ []) places → p.0 < length places
last_inside pairs p places h = omega (arith, last pairs p, h.within (length pairs) (omega (arith, length_push pairs p)))

-- the last pair taken out
pub less : (pairs : List Pair) (p : Pair) (places : List ℕ) → Tied (pairs ++ p ∷ []) places → Tied pairs (set places p.0 0)
less pairs p places h =
    let n = length pairs in
    let longer = length_push pairs p in
    let same_size = length-set places p.0 0 in
    let inside : p.0 < length places = last_inside pairs p places h in
    let place : get_or places p.0 0 ≡ n + 1 = ap (λ (x : ℕ). get_or places x 0) (sym (last pairs p)) ∙ h.known n (omega (arith, longer)) in
    record {
      within = λ k l. omega (arith, same_size, left pairs p k l, h.within k (omega (arith, longer)));
      known = λ k l.
          let at : get_or places (address_at pairs k) 0 ≡ k + 1 = ap (λ (x : ℕ). get_or places x 0) (sym (left pairs p k l)) ∙ h.known k (omega (arith, longer)) in
          let ne : address_at pairs k ≢ p.0 = differ places p.0 (address_at pairs k) (n + 1) (k + 1) place at (λ e. omega arith) in
          get_or-set_other places p.0 (address_at pairs k) 0 0 ne ∙ at;
      owns = λ b k e. elim (cases_eq b p.0) [
        | inl same ↦
            let here : 0 ≡ k + 1 = sym (get_or-set_same places p.0 0 0 inside) ∙ (ap (λ (x : ℕ). get_or (set places p.0 0) x 0) (sym same) ∙ e) in
            absurd (omega arith)
        | inr other ↦
            let own = h.owns b k (sym (get_or-set_other places p.0 b 0 0 other) ∙ e) in
            elim (split pairs p k own.0) [
              | inl o ↦ (o.0, sym o.1 ∙ own.1)
              | inr o ↦ absurd (other (sym own.1 ∙ o.1))
            ]
      ];
      free = omega (arith, longer, same_size, h.free, freed places p.0 inside (omega (arith, place)));
    }

-- there is room for one more pair
pub room : (pairs : List Pair) (places : List ℕ) (a : ℕ) → Tied pairs places → a < length places → get_or places a 0 ≡ 0 → length pairs < length places
room pairs places a h inside zero_is = omega (arith, h.free, taken places a 0 inside zero_is)

-- what the code read of an address is the place that it knows
pub read : (places : List ℕ) (a n x : ℕ) → x ≡ get_or places a x → a < n → n ≡ length places → get_or places a 0 ≡ x
read places a n x e l long = sym (get_or_read_under places a n x 0 e l long)

-- the first note of an address, and a second one
pub noted-first : (a : ℕ) (before : ℤ) (pairs : List Pair) → number_before a pairs ≡ None → noted a before pairs ≡ pairs ++ (a, before) ∷ []
noted-first a before pairs e = ap (λ (o : Option ℤ). if is_some o then pairs else pairs ++ (a, before) ∷ []) e

pub noted-again : (a : ℕ) (before old : ℤ) (pairs : List Pair) → number_before a pairs ≡ Some old → noted a before pairs ≡ pairs
noted-again a before old pairs e = ap (λ (o : Option ℤ). if is_some o then pairs else pairs ++ (a, before) ∷ []) e

-- no two pairs have one address, and each is one of the memory's
pub distinct : (pairs : List Pair) (places : List ℕ) → Tied pairs places → AllPairs (λ p q. p.0 ≢ q.0) pairs
distinct pairs places h i j d below l e =
    let at : address_at pairs i ≡ address_at pairs j =
    ap (λ (p : Pair). p.0) (get_or_default pairs i none_yet d (omega arith)) ∙ (e ∙ ap (λ (p : Pair). p.0) (get_or_default pairs j d none_yet l)) in
    let same : i + 1 ≡ j + 1 = sym (h.known i (omega arith)) ∙ (ap (λ (x : ℕ). get_or places x 0) at ∙ h.known j l) in
    absurd (omega arith)

pub all_within : (pairs : List Pair) (places : List ℕ) → Tied pairs places → All (λ p. p.0 < length places) pairs
all_within pairs places h k d l = subst (λ (p : Pair). p.0 < length places) (get_or_default pairs k none_yet d l) (h.within k l)
