-- Numbers written in digits, the first digit being the least: one falls where a digit falls and none above it rises.
use Rattle.std.proofs.Common.{ℕ, zero, suc, ◌+◌, ◌*◌, ◌<◌, ◌≤◌, arith}

-- the number of the first n digits
unfoldable pub value : (ℕ → ℕ) → ℕ → ℕ
value d zero = 0
value d (suc n) = value (λ k. d (suc k)) n * 4294967297 + d 0

value_le : (d' d : ℕ → ℕ) (n : ℕ) → ((k : ℕ) → k < n → d' k ≤ d k) → value d' n ≤ value d n
unfolding value
value_le d' d zero h = omega arith
value_le d' d (suc n) h =
    let rest = value_le (λ k. d' (suc k)) (λ k. d (suc k)) n (λ k below. h (suc k) (omega arith)) in
    let here : d' 0 ≤ d 0 = h 0 (omega arith) in
    omega arith

pub value_less : (d' d : ℕ → ℕ) (n m : ℕ) → m < n → d' m < d m → ((k : ℕ) → m < k → k < n → d' k ≤ d k) → ((k : ℕ) → k < n → d' k < 4294967297)
    → value d' n < value d n
unfolding value
value_less d' d zero m below less above bound = absurd (omega arith)
value_less d' d (suc n) zero below less above bound =
    let rest = value_le (λ k. d' (suc k)) (λ k. d (suc k)) n (λ k under. above (suc k) (omega arith) (omega arith)) in
    omega arith
value_less d' d (suc n) (suc m) below less above bound =
    let rest = value_less (λ k. d' (suc k)) (λ k. d (suc k)) n m (omega arith) less
    (λ k over under. above (suc k) (omega arith) (omega arith)) (λ k under. bound (suc k) (omega arith)) in
    let here : d' 0 < 4294967297 = bound 0 (omega arith) in
    omega arith
