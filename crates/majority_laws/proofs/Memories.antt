-- Memories under windows and changes.
use Rattle.std.proofs.Common.{subst, ◌≡◌, ◌≢◌, ℕ, ℤ, ◌+◌, ◌*◌, ◌<◌, ◌≤◌, List, [], ◌∷◌, length, set, get_or, arith, sym, ◌∙◌, ⊎_elim, ◌/◌, ◌%◌}
use Rattle.std.proofs.lemmas.List.{length-set, get_or-set_same, get_or-set_other, places, set_past, get_or_past, same_lists}
use Rattle.std.proofs.lemmas.Bool.{cases_eq, cases_lt}
use Rattle.re_education.proofs.Kept.{length_applied}
use Rattle.memory_compare.specs.Changes.{applied}
use Rattle.memory_compare.specs.Windows.{written}

-- the windows shown in the last scans, where a window is shown next
abbrev pub Fresh : (windows shown next w : ℕ) → Type 0
Fresh windows shown next w = (w < next → next ≤ w + shown) × (next ≤ w → next + windows ≤ w + shown)

-- two memories agree on the windows that were shown last
abbrev pub Agree : (windows shown next : ℕ) → (xs ys : List ℤ) → Type 0
Agree windows shown next xs ys =
    (w j : ℕ) → w < windows → j < 64 → Fresh windows shown next w
    → (d : ℤ) → get_or xs (64 * w + j) d ≡ get_or ys (64 * w + j) d

pub fresh_none : (n next w : ℕ) → next < n → w < n → Fresh n 0 next w → ⊥
fresh_none n next w a b f = grind arith

pub fresh_all : (n next w : ℕ) → next < n → w < n → Fresh n n next w
fresh_all n next w a b = omega arith

pub fresh_more : (n e next w : ℕ) → next + 1 < n → w < n → w ≢ next → Fresh n (e + 1) (next + 1) w → Fresh n e next w
fresh_more n e next w a b other f = grind arith

pub fresh_wraps : (n e next w : ℕ) → next + 1 ≡ n → w < n → w ≢ next → Fresh n (e + 1) 0 w → Fresh n e next w
fresh_wraps n e next w a b other f = grind arith

-- the same pairs keep two lists alike where they were alike
pub set_alike : (xs ys : List ℤ) (a : ℕ) (v : ℤ) (i : ℕ) (d : ℤ) → length xs ≡ length ys → get_or xs i d
    ≡ get_or ys i d → get_or (set xs a v) i d ≡ get_or (set ys a v) i d
set_alike xs ys a v i d same alike = ⊎_elim
    (λ (e : i ≡ a). ⊎_elim
    (λ (l : a < length xs). rw e (get_or-set_same xs a v d l ∙ sym (get_or-set_same ys a v d (omega (arith, same)))))
    (λ (l : length xs ≤ a). rw (set_past xs a v l, set_past ys a v (omega (arith, same))) alike)
    (cases_lt a (length xs)))
    (λ (e : i ≢ a). get_or-set_other xs a i v d e ∙ alike ∙ sym (get_or-set_other ys a i v d e))
    (cases_eq i a)

pub applied_alike : (behind : ℕ) (ps : List (ℕ × ℤ)) (xs ys : List ℤ) (i : ℕ) (d : ℤ) → length xs ≡ length ys
    → get_or xs i d ≡ get_or ys i d → get_or (applied behind ps xs) i d ≡ get_or (applied behind ps ys) i d
applied_alike behind [] xs ys i d same alike = alike
applied_alike behind (p ∷ ps) xs ys i d same alike =
    applied_alike behind ps (set xs (behind + p.0) p.1) (set ys (behind + p.0) p.1) i d
    (length-set xs (behind + p.0) p.1 ∙ same ∙ sym (length-set ys (behind + p.0) p.1))
    (set_alike xs ys (behind + p.0) p.1 i d same alike)

-- what is written stands there in both lists; elsewhere they are as they were
pub written_alike : (at : ℕ) (win xs ys : List ℤ) (i : ℕ) (d : ℤ) → length xs ≡ length ys → at + length win ≤ length xs
    → (i < at → get_or xs i d ≡ get_or ys i d) → (at + length win ≤ i → get_or xs i d ≡ get_or ys i d)
    → get_or (written at win xs) i d ≡ get_or (written at win ys) i d
written_alike at win xs ys i d same fits before after = grind (arith, places)

-- one scan makes one window more agree
pub agree_more : (n e next next' behind : ℕ) (ps : List (ℕ × ℤ)) (win xs ys : List ℤ) → length xs ≡ length ys
    → 64 * next + length win ≤ length xs
    → ((j : ℕ) → j < 64 → length win ≤ j → length xs ≤ 64 * next + j)
    → ((w : ℕ) → w < n → w ≢ next → Fresh n (e + 1) next' w → Fresh n e next w)
    → Agree n e next xs ys
    → Agree n (e + 1) next' (written (64 * next) win (applied behind ps xs))
    (written (64 * next) win (applied behind ps ys))
agree_more n e next next' behind ps win xs ys same fits short turns agree w j wn j64 fresh d =
    let lx = length_applied behind ps xs in
    let ly = length_applied behind ps ys in
    let other : w ≢ next → get_or (applied behind ps xs) (64 * w + j) d ≡ get_or (applied behind ps ys) (64 * w + j) d =
    λ apart. applied_alike behind ps xs ys (64 * w + j) d same (agree w j wn j64 (turns w wn apart fresh) d) in
    written_alike (64 * next) win (applied behind ps xs) (applied behind ps ys) (64 * w + j) d (lx ∙ same ∙ sym ly)
    (omega (arith, lx, fits))
    (λ below. other (λ is. omega (arith, below, is)))
    (λ above. ⊎_elim
    (λ (is : w ≡ next). let past = short j j64 (omega (arith, above, is)) in
    get_or_past (applied behind ps xs) (64 * w + j) d (omega (arith, past, is, lx))
    ∙ sym (get_or_past (applied behind ps ys) (64 * w + j) d (omega (arith, past, is, ly, same))))
    other
    (cases_eq w next))

pub agree_none : (n next : ℕ) (xs ys : List ℤ) → next < n → Agree n 0 next xs ys
agree_none n next xs ys turn w j wn j64 fresh d = absurd (fresh_none n next w turn wn fresh)

-- what has been shown whole is equal
pub agree_all : (n next : ℕ) (xs ys : List ℤ) → next < n → length xs ≡ length ys → length xs ≤ 64 * n
    → Agree n n next xs ys → xs ≡ ys
agree_all n next xs ys turn same size agree = same_lists xs ys same
    (λ k d h. let w = k / 64 in let j = k % 64 in
    let is : 64 * w + j ≡ k = omega arith in
    subst (λ (i : ℕ). get_or xs i d ≡ get_or ys i d) is
    (agree w j (omega (arith, is, h, size)) (omega arith) (fresh_all n next w turn (omega (arith, is, h, size))) d))
