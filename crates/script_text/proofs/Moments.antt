-- The last of some moments is written over.
use Rattle.std.proofs.Common.{◌≡◌, ℕ, zero, suc, List, [], ◌∷◌, length, ap, arith, get_or, set}
use Rattle.script_text.specs.MomentValue.{MomentValue}
use Rattle.script_text.specs.Standing.{with_last}

pub written : (moments : List MomentValue) (change : MomentValue → MomentValue) (m : MomentValue) (k : ℕ) → length moments ≡ suc k → m ≡ get_or moments k m → set moments k (change m) ≡ with_last change moments
written [] change m k long is = absurd (omega arith)
written (n ∷ []) change m zero long is = ap (λ (m : MomentValue). change m ∷ []) is
written (n ∷ []) change m (suc k) long is = absurd (omega arith)
written (n ∷ o ∷ moments) change m zero long is = absurd (omega arith)
written (n ∷ o ∷ moments) change m (suc k) long is = ap (λ ms. n ∷ ms) (written (o ∷ moments) change m k (omega arith) is)
