-- Nobody has to believe what stands here: it serves the implementation of a trait alone.
-- The counting engine meets the laws of engines.
use Rattle.std.specs.Prelude.{◌≡◌, ◌≢◌, ℕ, zero, suc, ℤ, pos, ◌<◌, ◌≤◌, List, [], ◌∷◌, length, map, Option, Some, None, Bool, true, false, nat_le, ◌==◌, if◌then◌else◌, cond, slice_index_or, unwrap_or, not}
use Rattle.std.specs.List.{All, AllByRecursion, AllZip}
use Rattle.std.proofs.Common.{refl, ap, subst, sym, ◌∙◌, arith}
use Rattle.std.proofs.lemmas.Bool.{leb-true, eqb-true, eq-eqb}
use Rattle.std.proofs.lemmas.Option.{same_Some}
use Rattle.std.proofs.lemmas.List.Elements.{All-nil, All-cons, All-filter, recursion_from_All}
use Rattle.tri_base.specs.declared.point.Point.{Point}
use Rattle.chassis.specs.Points.{is_input_kind, outputs_of}
use Rattle.chassis.specs.Ranges.{IsWithin, HoldsZero}
use Rattle.engine_face.specs.declared.refusal.Refusal.{Refusal}
use Rattle.engine_face.specs.declared.refusal.Refusal.TheVariants.{TooLarge, Syntax}
use Rattle.engine_face.specs.Laws.{IsMeaning, IsOfText, TellStores}
use Rattle.engine_face.specs.Counting.{counting_refusal, counted, zeros_at, first_pair, counting}
use Rattle.tri_base.specs.Limits.{text_limit}

counting_text : (text : List ℕ) → counting_refusal text ≡ None → (0 < length text) × (length text ≤ text_limit)
counting_text [] h = absurd (cc)
counting_text (b ∷ bs) h = by (nat_le (length (b ∷ bs)) text_limit) refl
  where
    by : (t : Bool) → nat_le (length (b ∷ bs)) text_limit ≡ t → (0 < length (b ∷ bs)) × (length (b ∷ bs) ≤ text_limit)
    by true e = (omega arith, leb-true (length (b ∷ bs)) text_limit e)
    by false e = let bad : Some TooLarge ≡ None = sym (ap (λ t. cond t None (Some TooLarge)) e) ∙ h in absurd (cc)

counting_of_text : (text : List ℕ) (refusal : Refusal) → counting_refusal text ≡ Some refusal → IsOfText refusal
counting_of_text [] refusal h = subst IsOfText (same_Some (Syntax 0) refusal h) tt
counting_of_text (b ∷ bs) refusal h = by (nat_le (length (b ∷ bs)) text_limit) refl
  where
    by : (t : Bool) → nat_le (length (b ∷ bs)) text_limit ≡ t → IsOfText refusal
    by true e = let bad : None ≡ Some refusal = sym (ap (λ t. cond t None (Some TooLarge)) e) ∙ h in absurd (cc)
    by false e =
        let large : Some TooLarge ≡ Some refusal = sym (ap (λ t. cond t None (Some TooLarge)) e) ∙ h in
        subst IsOfText (same_Some TooLarge refusal large) tt

counted_length : (words : List ℤ) → length (counted words) ≡ length words
counted_length [] = refl
counted_length (w ∷ words) = refl

zeros_fit : (ps : List Point) → AllByRecursion HoldsZero ps → AllZip IsWithin ps (map (λ _. pos 0) ps)
zeros_fit [] h = tt
zeros_fit (p ∷ ps) h = (h.0, zeros_fit ps h.1)

none_is_some : (v : ℤ) → ◌≡◌ {A = Option ℤ} None (Some v) → ⊥
none_is_some v e = cc

some_is_none : (v : ℤ) → ◌≡◌ {A = Option ℤ} (Some v) None → ⊥
some_is_none v e = cc

true_is_false : true ≡ false → ⊥
true_is_false e = cc

-- The address is that of the one word.
abbrev IsFirst : ℕ × ℤ → Type 0
IsFirst pair = pair.0 < 1

counting_stores : (words : List ℤ) → length words ≡ 1 → TellStores words (counted words) (first_pair words)
counting_stores [] h = absurd (omega (arith, h))
counting_stores (w ∷ []) h = record {
  within = All-cons IsFirst (0, w) [] (omega arith) (All-nil IsFirst);
  once = λ i j d l h. absurd (omega (arith, l, h));
  number = λ address v e. by address (0 == address) v refl e;
  others = λ address e. same address (0 == address) refl e;
}
  where
    by : (address : ℕ) (t : Bool) (v : ℤ) → (0 == address) ≡ t → (if t then Some w else None) ≡ Some v
        → v ≡ slice_index_or (w ∷ []) address (pos 0)
    by address true v q e =
        let z : 0 ≡ address = eqb-true 0 address q in
        subst (λ (n : ℕ). v ≡ slice_index_or (w ∷ []) n (pos 0)) z (sym (ap (λ (o : Option ℤ). unwrap_or o w) e))
    by address false v q e = absurd (none_is_some v e)

    same : (address : ℕ) (t : Bool) → (0 == address) ≡ t → (if t then Some w else None) ≡ None
        → slice_index_or (counted (w ∷ [])) address (pos 0) ≡ slice_index_or (w ∷ []) address (pos 0)
    same address true q e = absurd (some_is_none w e)
    same zero false q e = absurd (true_is_false (sym (eq-eqb 0 0 refl) ∙ q))
    same (suc a) false q e = refl
counting_stores (w ∷ v ∷ words) h = absurd (omega (arith, h))

outputs_fit : (points : List Point) → All HoldsZero points → AllZip IsWithin (outputs_of points) (zeros_at points)
outputs_fit points h =
    let outputs : All HoldsZero (outputs_of points) =
    All-filter (λ (p : Point). not (is_input_kind p.kind)) HoldsZero points h in
    zeros_fit (outputs_of points) (recursion_from_All HoldsZero (outputs_of points) outputs)

pub counting_lawful : (points : List Point) → All HoldsZero points → IsMeaning points (counting points)
counting_lawful points h = record {
  some_text = λ text e. (counting_text text e).0;
  short_text = λ text e. (counting_text text e).1;
  few_words = λ text e. omega arith;
  of_text = counting_of_text;
  first_count = λ text e. refl;
  carried_count = λ old d words e f g k. k;
  scan = λ text words inputs dt e f g k l. record {
    count = counted_length words;
    outputs = outputs_fit points h;
    stores = counting_stores words f;
  };
}
