-- The first bytes of a list, copied into the front of a buffer.
use Rattle.std.proofs.lemmas.List.{length-take-le, take_at, take-append-drop, nil_from_length, drop-drop, take_rest}
use Rattle.std.proofs.Common.{◌≡◌, ℕ, ◌≤◌, ◌<◌, ◌+◌, ◌-◌, min, arith, List, [], ◌++◌, take, drop, length, ap, ◌∙◌, sym}

-- they are in front, what is behind them is left, and there are none only where nothing was left
pub front_moves : (left new old : List ℕ) (n most : ℕ) → 0 < most → n ≡ min (min (length new) most) (length left) → new ≡ take n left ++ drop n old
    → (left ≡ take n new ++ drop n left) × (n ≡ 0 → 0 < length new → left ≡ [])
front_moves left new old n most some count copied =
    let fits : n ≤ length left = omega arith in
    let front : take n new ≡ take n left = ap (λ l. take n l) copied ∙ take_at (take n left) (drop n old) n (length-take-le n left fits) in
    (sym (ap (λ l. l ++ drop n left) front ∙ take-append-drop n left), λ none more. nil_from_length left (omega arith))

-- the same of the bytes of a source from a place on
pub given_front : (bytes left lent old new : List ℕ) (at n most : ℕ) → 0 < most → drop at bytes ≡ left → lent ≡ bytes → n ≡ min (min (length new) most) (length (take (length lent - at) (drop at lent)))
    → new ≡ take n (take (length lent - at) (drop at lent)) ++ drop n old → (left ≡ take n new ++ drop (at + n) bytes) × (n ≡ 0 → 0 < length new → left ≡ [])
given_front bytes left lent old new at n most some here same count copied =
    let from : take (length lent - at) (drop at lent) ≡ left = take_rest lent at ∙ (ap (λ l. drop at l) same ∙ here) in
    let moved = front_moves left new old n most some (count ∙ ap (λ l. min (min (length new) most) (length l)) from) (copied ∙ ap (λ l. take n l ++ drop n old) from) in
    (moved.0 ∙ ap (λ l. take n new ++ l) (ap (λ l. drop n l) (sym here) ∙ drop-drop n at bytes), moved.1)
