-- A count is five exactly where five disagreements stand in a row.
use Rattle.std.proofs.Common.{◌≡◌, ℕ, zero, suc, ◌<◌, ◌≤◌, Bool, true, false, List, [], ◌∷◌, ◌++◌, replicate, refl, sym, ap, subst, ◌∙◌, arith, append_assoc}
use Rattle.std.specs.Prelude.{◌↔◌}
use Rattle.input_legs.specs.Marks.{counted_on, mark_count}
use Rattle.input_legs.specs.Runs.{count_after, HasRun}

shift : (front history : List Bool) → HasRun history → HasRun (front ++ history)
shift front history run =
    (front ++ run.0, run.1, ap (λ h. front ++ h) run.2 ∙ sym (append_assoc front run.0 (replicate mark_count true ++ run.1)))

run_from : (count : ℕ) → count < 5 → (history : List Bool) → count_after count history ≡ 5 → HasRun (replicate count true ++ history)
run_from count low [] e = absurd (omega (arith, low, e))
run_from zero low (true ∷ more) e = run_from 1 (omega arith) more e
run_from (suc zero) low (true ∷ more) e = run_from 2 (omega arith) more e
run_from (suc (suc zero)) low (true ∷ more) e = run_from 3 (omega arith) more e
run_from (suc (suc (suc zero))) low (true ∷ more) e = run_from 4 (omega arith) more e
run_from (suc (suc (suc (suc zero)))) low (true ∷ more) e = ([], more, refl)
run_from zero low (false ∷ more) e = shift (false ∷ []) more (run_from 0 (omega arith) more e)
run_from (suc zero) low (false ∷ more) e = shift (true ∷ false ∷ []) more (run_from 0 (omega arith) more e)
run_from (suc (suc zero)) low (false ∷ more) e = shift (true ∷ true ∷ false ∷ []) more (run_from 0 (omega arith) more e)
run_from (suc (suc (suc zero))) low (false ∷ more) e = shift (true ∷ true ∷ true ∷ false ∷ []) more (run_from 0 (omega arith) more e)
run_from (suc (suc (suc (suc zero)))) low (false ∷ more) e =
    shift (true ∷ true ∷ true ∷ true ∷ false ∷ []) more (run_from 0 (omega arith) more e)
run_from (suc (suc (suc (suc (suc count))))) low (disagrees ∷ more) e = absurd (omega (arith, low))

stays : (history : List Bool) → count_after 5 history ≡ 5
stays [] = refl
stays (disagrees ∷ more) = stays more

reaches : (count : ℕ) → count ≤ 5 → (behind : List Bool) → count_after count (replicate mark_count true ++ behind) ≡ 5
reaches zero low behind = stays behind
reaches (suc zero) low behind = stays behind
reaches (suc (suc zero)) low behind = stays behind
reaches (suc (suc (suc zero))) low behind = stays behind
reaches (suc (suc (suc (suc zero)))) low behind = stays behind
reaches (suc (suc (suc (suc (suc zero))))) low behind = stays behind
reaches (suc (suc (suc (suc (suc (suc count)))))) low behind = absurd (omega (arith, low))

counts_low : (count : ℕ) (disagrees : Bool) → count ≤ 5 → counted_on count disagrees ≤ 5
counts_low zero true low = omega arith
counts_low (suc zero) true low = omega arith
counts_low (suc (suc zero)) true low = omega arith
counts_low (suc (suc (suc zero))) true low = omega arith
counts_low (suc (suc (suc (suc zero)))) true low = omega arith
counts_low (suc (suc (suc (suc (suc zero))))) true low = omega arith
counts_low zero false low = omega arith
counts_low (suc zero) false low = omega arith
counts_low (suc (suc zero)) false low = omega arith
counts_low (suc (suc (suc zero))) false low = omega arith
counts_low (suc (suc (suc (suc zero)))) false low = omega arith
counts_low (suc (suc (suc (suc (suc zero))))) false low = omega arith
counts_low (suc (suc (suc (suc (suc (suc count)))))) disagrees low = absurd (omega (arith, low))

through : (count : ℕ) (before history : List Bool) → count ≤ 5 → ((c : ℕ) → c ≤ 5 → count_after c history ≡ 5)
    → count_after count (before ++ history) ≡ 5
through count [] history low ends = ends count low
through count (disagrees ∷ before) history low ends =
    through (counted_on count disagrees) before history (counts_low count disagrees low) ends

pub marks_are_runs : (history : List Bool) → (count_after 0 history ≡ mark_count) ↔ HasRun history
marks_are_runs history = (
  λ e. run_from 0 (omega arith) history e,
  λ run. subst (λ h. count_after 0 h ≡ 5) (sym run.2)
      (through 0 run.0 (replicate mark_count true ++ run.1) (omega arith) (λ c low. reaches c low run.1)),
)
