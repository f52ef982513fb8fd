-- The numbers of a loop.
use Rattle.std.proofs.Common.{◌≡◌, ◌≢◌, ℕ, zero, suc, ◌+◌, ◌*◌, ◌<◌, ◌≤◌, ℤ, pos, negsuc, ◌+ℤ◌, ◌-ℤ◌, ◌≤ℤ◌, Bool, true, false, if◌then◌else◌, [], ◌∷◌, unsigned_abs, int_lt, arith, sym, ap, ◌∙◌, refl, add-mul, one-mul}
use Rattle.std.proofs.lemmas.Int.{ints, clamps}
use Rattle.function_blocks.specs.declared.kinds.Kind.{Kind}
use Rattle.function_blocks.specs.declared.kinds.Kind.TheVariants as kind
use Rattle.function_blocks.specs.Values.{clamped}
use Rattle.scan_machine.specs.Rules.{IsOf}
use Rattle.st_core.specs.Effects.{is_past, written_from}

-- a value of a kind is its own clamp
pub clamped_same : (k : Kind) (v : ℤ) → IsOf k v → clamped k v ≡ v
clamped_same kind.Bool (pos zero) h = refl
clamped_same kind.Bool (pos (suc zero)) h = refl
clamped_same kind.Bool (pos (suc (suc n))) h = absurd (omega (arith, ints, h.1))
clamped_same kind.Bool (negsuc n) h = absurd (omega (arith, ints, h.0))
clamped_same kind.Int v h = omega (arith, ints, clamps, h.0, h.1)
clamped_same kind.Dint v h = omega (arith, ints, clamps, h.0, h.1)

-- the next number, where it isn't past the last, is a value of the kind too, and nearer to the last
pub record Nearer (k : Kind) (step last v : ℤ) (m : ℕ) : Type 0 where
  pub value : IsOf k (v +ℤ step)
  pub near : unsigned_abs (last -ℤ (v +ℤ step)) < m

nearer_by : (k : Kind) (step last v : ℤ) (m : ℕ) (b : Bool) → int_lt (pos 0) step ≡ b → step ≢ pos 0 → is_past step last v ≡ false → is_past step last (v +ℤ step) ≡ false → IsOf k v → IsOf k last → unsigned_abs (last -ℤ v) ≤ m → Nearer k step last v m
nearer_by k step last v m true e some now next at end le =
    let up : pos 0 ≤ℤ step = grind (arith, ints, e) in
    let a : int_lt last v ≡ false = ap (λ (b : Bool). if b then int_lt last v else int_lt v last) (sym e) ∙ now in
    let b : int_lt last (v +ℤ step) ≡ false = ap (λ (b : Bool). if b then int_lt last (v +ℤ step) else int_lt (v +ℤ step) last) (sym e) ∙ next in
    let c : (v +ℤ step) ≤ℤ last = grind (arith, ints, b) in
    record { value = (omega (arith, ints, at.0, up), omega (arith, ints, end.1, c)); near = omega (arith, ints, some, up, c, le) }
nearer_by k step last v m false e some now next at end le =
    let down : step ≤ℤ pos 0 = grind (arith, ints, e) in
    let b : int_lt (v +ℤ step) last ≡ false = ap (λ (b : Bool). if b then int_lt last (v +ℤ step) else int_lt (v +ℤ step) last) (sym e) ∙ next in
    let c : last ≤ℤ (v +ℤ step) = grind (arith, ints, b) in
    record { value = (omega (arith, ints, end.0, c), omega (arith, ints, at.1, down)); near = omega (arith, ints, some, down, c, le) }

pub nearer : (k : Kind) (step last v : ℤ) (m : ℕ) → step ≢ pos 0 → is_past step last v ≡ false → is_past step last (v +ℤ step) ≡ false → IsOf k v → IsOf k last → unsigned_abs (last -ℤ v) ≤ m → Nearer k step last v m
nearer k step last v m some now next at end le = nearer_by k step last v m (int_lt (pos 0) step) refl some now next at end le

-- ---- the written list

pub written_past : (m : ℕ) (step last v : ℤ) → is_past step last v ≡ true → written_from m step last v ≡ []
unfolding written_from
written_past zero step last v e = refl
written_past (suc m) step last v e = ap (λ (b : Bool). if b then [] else v ∷ written_from m step last (v +ℤ step)) e

pub written_more : (m : ℕ) (step last v : ℤ) → is_past step last v ≡ false → written_from (suc m) step last v ≡ v ∷ written_from m step last (v +ℤ step)
unfolding written_from
written_more m step last v e = ap (λ (b : Bool). if b then [] else v ∷ written_from m step last (v +ℤ step)) e

-- ---- products

pub one_more_turn : (k cost : ℕ) → (1 + k) * cost ≡ cost + k * cost
one_more_turn k cost = add-mul 1 k cost ∙ ap (λ n. n + k * cost) (one-mul cost)
