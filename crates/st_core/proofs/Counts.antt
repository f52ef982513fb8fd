-- How many turns a loop has.
use Rattle.std.proofs.Common.{◌≡◌, ℕ, zero, suc, ◌+◌, ◌-◌, ◌*◌, ◌/◌, ◌<◌, ◌≤◌, max, ℤ, pos, ◌+ℤ◌, ◌-ℤ◌, ◌≤ℤ◌, unsigned_abs, int_lt, Bool, true, false, if◌then◌else◌, length, arith, refl, ap, sym, ◌∙◌, div-one}
use Rattle.std.proofs.lemmas.Int.{ints}
use Rattle.std.proofs.lemmas.Nat.{div_below}
use Rattle.std.proofs.Math.Nat.{add-div_right}
use Rattle.st_core.specs.Effects.{is_past, written_from, written}
use Rattle.st_core.specs.Laws.{HasTurns}
use Rattle.st_core.proofs.Loops.{written_past, written_more}

div_small : (s d : ℕ) → 0 < s → d < s → d / s ≡ 0
div_small s d some less = let one : d < 1 * s = omega (arith, less) in omega (arith, div_below d s 1 some one)

div_more : (s d : ℕ) → 0 < s → s ≤ d → d / s ≡ (d - s) / s + 1
div_more s d some le = let e : d ≡ (d - s) + s = omega (arith, le) in ap (λ n. n / s) e ∙ add-div_right (d - s) some

-- how far a number is from the last
abbrev away : ℤ → ℤ → ℕ
away last v = unsigned_abs (last -ℤ v)

record Stepped (step last v : ℤ) : Type 0 where
  pub le : unsigned_abs step ≤ away last v
  pub less : away last (v +ℤ step) ≡ away last v - unsigned_abs step

stepped_by : (step last v : ℤ) (b : Bool) → int_lt (pos 0) step ≡ b → is_past step last v ≡ false → is_past step last (v +ℤ step) ≡ false → Stepped step last v
stepped_by step last v true e now next =
    let up : pos 0 ≤ℤ step = grind (arith, ints, e) in
    let b : int_lt last (v +ℤ step) ≡ false = ap (λ (b : Bool). if b then int_lt last (v +ℤ step) else int_lt (v +ℤ step) last) (sym e) ∙ next in
    let c : (v +ℤ step) ≤ℤ last = grind (arith, ints, b) in
    record { le = omega (arith, ints, up, c); less = omega (arith, ints, up, c) }
stepped_by step last v false e now next =
    let down : step ≤ℤ pos 0 = grind (arith, ints, e) in
    let b : int_lt (v +ℤ step) last ≡ false = ap (λ (b : Bool). if b then int_lt last (v +ℤ step) else int_lt (v +ℤ step) last) (sym e) ∙ next in
    let c : last ≤ℤ (v +ℤ step) = grind (arith, ints, b) in
    record { le = omega (arith, ints, down, c); less = omega (arith, ints, down, c) }

passed_by : (step last v : ℤ) (b : Bool) → int_lt (pos 0) step ≡ b → is_past step last v ≡ false → is_past step last (v +ℤ step) ≡ true → away last v < unsigned_abs step
passed_by step last v true e now next =
    let up : pos 0 ≤ℤ step = grind (arith, ints, e) in
    let a : int_lt last v ≡ false = ap (λ (b : Bool). if b then int_lt last v else int_lt v last) (sym e) ∙ now in
    let b : int_lt last (v +ℤ step) ≡ true = ap (λ (b : Bool). if b then int_lt last (v +ℤ step) else int_lt (v +ℤ step) last) (sym e) ∙ next in
    let c : v ≤ℤ last = grind (arith, ints, a) in
    let d : (last +ℤ pos 1) ≤ℤ (v +ℤ step) = grind (arith, ints, b) in
    omega (arith, ints, up, c, d)
passed_by step last v false e now next =
    let down : step ≤ℤ pos 0 = grind (arith, ints, e) in
    let a : int_lt v last ≡ false = ap (λ (b : Bool). if b then int_lt last v else int_lt v last) (sym e) ∙ now in
    let b : int_lt (v +ℤ step) last ≡ true = ap (λ (b : Bool). if b then int_lt last (v +ℤ step) else int_lt (v +ℤ step) last) (sym e) ∙ next in
    let c : last ≤ℤ v = grind (arith, ints, a) in
    let d : (v +ℤ step +ℤ pos 1) ≤ℤ last = grind (arith, ints, b) in
    omega (arith, ints, down, c, d)

module _ (step last : ℤ) (some : 0 < unsigned_abs step) where
  more_turns : (m : ℕ) (v : ℤ) → is_past step last v ≡ false → away last v ≤ m → length (written_from m step last (v +ℤ step)) ≡ away last v / unsigned_abs step
  unfolding written_from
  more_turns zero v now le = sym (div_small (unsigned_abs step) (away last v) some (omega (arith, some, le)))
  more_turns (suc m) v now le = by (is_past step last (v +ℤ step)) refl (λ next w. more_turns m (v +ℤ step) next w)
    where
      by : (b : Bool) → is_past step last (v +ℤ step) ≡ b → (is_past step last (v +ℤ step) ≡ false → away last (v +ℤ step) ≤ m → length (written_from m step last (v +ℤ step +ℤ step)) ≡ away last (v +ℤ step) / unsigned_abs step)
          → length (written_from (suc m) step last (v +ℤ step)) ≡ away last v / unsigned_abs step
      by true e ih =
          ap length (written_past (suc m) step last (v +ℤ step) e) ∙ sym (div_small (unsigned_abs step) (away last v) some (passed_by step last v (int_lt (pos 0) step) refl now e))
      by false e ih =
          let s = stepped_by step last v (int_lt (pos 0) step) refl now e in
          let rest = ih e (omega (arith, s.le, s.less, le, some)) in
          let one = ap length (written_more m step last (v +ℤ step) e) in
          let parts = div_more (unsigned_abs step) (away last v) some s.le in
          let same = ap (λ n. n / unsigned_abs step) s.less in
          omega (arith, one, rest, parts, same)

-- a step of 0 stays where it is
still : (m : ℕ) (step last v : ℤ) → step ≡ pos 0 → is_past step last v ≡ false → length (written_from m step last v) ≡ m
unfolding written_from
still zero step last v z now = refl
still (suc m) step last v z now =
    let same : v +ℤ step ≡ v = omega (arith, ints, z) in
    let rest = still m step last v z now in
    let one = ap length (written_more m step last v now) in
    let here = ap (λ w. length (written_from m step last w)) same in
    omega (arith, one, here, rest)

pub turns_counted : (first last step : ℤ) → is_past step last first ≡ false → length (written first last step) ≡ unsigned_abs (last -ℤ first) / max 1 (unsigned_abs step) + 1
turns_counted first last step now = by (unsigned_abs step) refl
  where
    by : (s : ℕ) → unsigned_abs step ≡ s → length (written first last step) ≡ unsigned_abs (last -ℤ first) / max 1 (unsigned_abs step) + 1
    by zero e =
        let z : step ≡ pos 0 = omega (arith, ints, e) in
        let one : max 1 (unsigned_abs step) ≡ 1 = omega (arith, e) in
        let all = still (suc (unsigned_abs (last -ℤ first))) step last first z now in
        let d = ap (λ n. unsigned_abs (last -ℤ first) / n) one ∙ div-one (unsigned_abs (last -ℤ first)) in
        omega (arith, all, d)
    by (suc s) e =
        let one : max 1 (unsigned_abs step) ≡ unsigned_abs step = omega (arith, e) in
        let all = ap length (written_more (unsigned_abs (last -ℤ first)) step last first now) in
        let rest = more_turns step last (omega (arith, e)) (unsigned_abs (last -ℤ first)) first now (omega arith) in
        let d = ap (λ n. unsigned_abs (last -ℤ first) / n) one in
        omega (arith, all, rest, d)

-- as the law has it
pub has_turns : HasTurns
has_turns first last step = record {
  none = λ past. written_past (suc (unsigned_abs (last -ℤ first))) step last first past;
  some = λ now other.
      let one : max 1 (unsigned_abs step) ≡ unsigned_abs step = omega (arith, ints, other) in
      turns_counted first last step now ∙ ap (λ n. unsigned_abs (last -ℤ first) / n + 1) one;
}
