-- Scans are counted from 1, and the scans behind from 0.
use Rattle.std.proofs.Common.{◌≡◌, ℕ, suc, ◌-◌, ◌≤◌, subst, arith}

-- what holds of each scan by the number of those behind it holds of each scan that there is
pub of_scan : (P : (behind scan : ℕ) → Type 0) → ((k : ℕ) → P k (suc k)) → (scan : ℕ) → 1 ≤ scan → P (scan - 1) scan
of_scan P h scan first =
    let one : suc (scan - 1) ≡ scan = omega (arith, first) in
    subst (λ n. P (scan - 1) n) one (h (scan - 1))
