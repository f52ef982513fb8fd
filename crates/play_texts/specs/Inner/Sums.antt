-- Nobody has to believe what stands here: it serves private functions alone.
-- Which numbers are summed, and how far their sums go.
use Rattle.std.specs.Prelude.{ℕ, ℤ, pos, neg_ℤ, ◌*◌, ◌+ℤ◌, ◌≤ℤ◌, List}
use Rattle.std.specs.List.{fold}
use Rattle.tri_base.specs.Limits.{greatest_count, least_count}

-- A number of 16 bits.
abbrev pub IsCount : ℤ → Type 0
IsCount number = (least_count ≤ℤ number) × (number ≤ℤ greatest_count)

-- A number and the sum of others.
abbrev pub plus_all : ℤ → List ℤ → ℤ
plus_all sum numbers = fold (λ a b. a +ℤ b) sum numbers

-- What the outputs of so many scans can sum up to: 256 numbers of 16 bits a scan.
pub record IsNear (scans : ℕ) (sum : ℤ) : Type 0 where
  pub low : neg_ℤ (pos (8388608 * scans)) ≤ℤ sum
  pub high : sum ≤ℤ pos (8388608 * scans)
