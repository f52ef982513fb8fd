-- Changes and windows of all memories.
use Rattle.std.proofs.Common.{◌≡◌, ℕ, ℤ, pos, ◌+◌, ◌-◌, ◌*◌, ◌<◌, ◌≤◌, min, List, [], ◌∷◌, ◌++◌, length, take, drop, map, get_or, All, refl, sym, ap, subst, ◌∙◌, arith, rules}
use Rattle.std.specs.Ordering.{int_eq}
use Rattle.std.proofs.lemmas.List.{append_assoc, length-append, length-map, length-take, length-drop, set_at, places, same_lists, get_or-take, get_or-drop, get_or-map, get_or_append_left}
use Rattle.std.proofs.lemmas.List.Elements.{All-from_get_or, All-get_or}
use Rattle.std.proofs.lemmas.Bool.{cond_both}
use Rattle.std.proofs.lemmas.Bool.Decides.{Decides-int_eq}
use Rattle.std.proofs.lemmas.Int.{ints}
use Rattle.leg_packet.specs.Sheets.{Rise, IsByte, window_length}
use Rattle.memory_compare.specs.Changes.{changes_from, changes_of, applied}
use Rattle.memory_compare.specs.Windows.{memory, window, written}

-- changes set behind a front give the new words
applied_from : (behind a : ℕ) (front old new : List ℤ) → length front ≡ behind + a → length old ≡ length new → applied behind (changes_from a old new) (front ++ old) ≡ front ++ new
applied_from behind a front [] [] at size = refl
applied_from behind a front [] (y ∷ ys) at size = absurd (omega (arith, size))
applied_from behind a front (x ∷ xs) [] at size = absurd (omega (arith, size))
applied_from behind a front (x ∷ xs) (y ∷ ys) at size =
    let more : (z : ℤ) → applied behind (changes_from (a + 1) xs ys) (front ++ z ∷ xs) ≡ front ++ z ∷ ys =
    λ z. ap (λ (l : List ℤ). applied behind (changes_from (a + 1) xs ys) l) (sym (append_assoc front (z ∷ []) xs))
    ∙ applied_from behind (a + 1) (front ++ z ∷ []) xs ys (length-append front (z ∷ []) ∙ omega (arith, at)) (omega (arith, size))
    ∙ append_assoc front (z ∷ []) ys in
    cond_both (int_eq x y) _ _ (λ (ps : List (ℕ × ℤ)). applied behind ps (front ++ x ∷ xs) ≡ front ++ y ∷ ys)
    (λ e. more x ∙ ap (λ (z : ℤ). front ++ z ∷ ys) ((Decides-int_eq x y).0 e))
    (λ e. ap (λ (l : List ℤ). applied behind (changes_from (a + 1) xs ys) l) (set_at front x xs y (behind + a) at) ∙ more y)

pub applied_changes : (behind : ℕ) (front old new : List ℤ) → length front ≡ behind → length old ≡ length new → applied behind (changes_of old new) (front ++ old) ≡ front ++ new
applied_changes behind front old new at size = applied_from behind 0 front old new (omega (arith, at)) size

-- changes rise
rise_lower : (low below : ℕ) (ps : List (ℕ × ℤ)) → Rise (low + 1) below ps → Rise low below ps
rise_lower low below [] h = tt
rise_lower low below (p ∷ ps) h = let a = h.0 in (omega (arith, a), h.1, h.2)

rise_from : (a below : ℕ) (old new : List ℤ) → a + length old ≤ below → Rise a below (changes_from a old new)
rise_from a below [] new h = tt
rise_from a below (x ∷ old) [] h = tt
rise_from a below (x ∷ old) (y ∷ new) h =
    let more : Rise (a + 1) below (changes_from (a + 1) old new) = rise_from (a + 1) below old new (omega (arith, h)) in
    cond_both (int_eq x y) (changes_from (a + 1) old new) ((a, y) ∷ changes_from (a + 1) old new) (λ (ps : List (ℕ × ℤ)). Rise a below ps)
    (λ e. rise_lower a below (changes_from (a + 1) old new) more)
    (λ e. (omega arith, omega (arith, h), more))

pub rising : (old new : List ℤ) → length old ≡ length new → Rise 0 (length new) (changes_of old new)
rising old new size = rise_from 0 (length new) old new (omega (arith, size))

-- windows
pub sized : (words : List ℤ) (turn : ℕ) → length (window words turn) ≡ window_length (length words) turn
sized words turn = length-take 64 (drop (64 * turn) words) ∙ ap (λ n. min 64 n) (length-drop (64 * turn) words)

pub bytes_shown : (text : List ℕ) (words : List ℤ) (turn : ℕ) → All (λ byte. byte < 256) text → All IsByte (take (length text - 64 * turn) (window (memory text words) turn))
bytes_shown text words turn h = All-from_get_or IsByte (take (length text - 64 * turn) (window (memory text words) turn)) (pos 0) (λ i l.
    let mem : List ℤ = memory text words in
    let here : ℕ = length text - 64 * turn in
    let shown : List ℤ = window mem turn in
    let li : i < here = omega (arith, l, length-take here shown) in
    let l64 : i < 64 = omega (arith, l, length-take here shown, length-take 64 (drop (64 * turn) mem)) in
    let at : 64 * turn + i < length text = omega (arith, li) in
    let is : get_or (take here shown) i (pos 0) ≡ pos (get_or text (64 * turn + i) 0) =
    get_or-take here shown i (pos 0) li
    ∙ get_or-take 64 (drop (64 * turn) mem) i (pos 0) l64
    ∙ get_or-drop (64 * turn) mem i (pos 0)
    ∙ get_or_append_left (map pos text) words (pos 0) (64 * turn + i) (omega (arith, at, length-map text pos))
    ∙ get_or-map pos text (64 * turn + i) 0 (pos 0) at in
    subst IsByte (sym is) (byte (get_or text (64 * turn + i) 0) (All-get_or (λ (b : ℕ). b < 256) text (64 * turn + i) 0 at h)))
  where
    byte : (n : ℕ) → n < 256 → IsByte (pos n)
    byte n h = (omega (arith, ints), omega (arith, ints))

pub written_same : (at : ℕ) (xs : List ℤ) (n : ℕ) → written at (take n (drop at xs)) xs ≡ xs
written_same at xs n = same_lists _ _ (search (rules, places)) (λ k d h. grind (arith, places))

pub own_window : (words : List ℤ) (turn : ℕ) → written (64 * turn) (window words turn) words ≡ words
own_window words turn = written_same (64 * turn) words 64
