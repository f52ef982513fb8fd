-- Each script of which a command has an output carries the one controller; and lists over a range of scans.
use Rattle.std.proofs.Common.{◌≡◌, ℕ, zero, suc, ◌+◌, ◌≤◌, ◌<◌, List, [], ◌∷◌, ◌++◌, map, Option, refl, ap, arith}
use Rattle.std.specs.List.{enumerate_from, flat_map, range_with_len}
use Rattle.std.proofs.lemmas.List.Elements.{All-weaker}
use Rattle.chassis.specs.Ranges.{Fits, HoldsZero}
use Rattle.chassis.proofs.Ranges.{zero_held}
use Rattle.engine_face.specs.Laws.{IsMeaning}
use Rattle.script_text.specs.IsScript.{IsScript}
use Rattle.script_text.specs.ScriptValue.{ReadScript}
use Rattle.plant_script.specs.Calm.{IsFirstUncalm}
use Rattle.diag_report.specs.Report.{ScanTold}
use Rattle.st_build.specs.Inner.MeaningLaws.{lawful}
use Rattle.majority_laws.specs.Carried.{Carry}
use Rattle.majority_laws.specs.Majority.{IsBefore, note_at}
use Rattle.majority_laws.proofs.Scripts.{all_fit, scripts_carry}
use Rattle.play_report.specs.Told.{told_by}
use Rattle.script_commands.specs.declared.script_command.ScriptCommand.{ScriptCommand}
use Rattle.tricon.specs.Readings.{ScriptOutput, meaning_over}

-- what every script's engine keeps
pub lawful_over : (s : ReadScript) → IsScript s.value → IsMeaning s.value.points (meaning_over s)
lawful_over s proper =
    lawful s.value.points (All-weaker Fits HoldsZero zero_held s.value.points (all_fit [] s.value.points proper.plant))

-- the notes of each scan before the first that isn't calm carry the one controller
pub carried : (command : ScriptCommand) (bytes : List ℕ) (uncalm : Option ℕ) (output : List ℕ)
    → (is : ScriptOutput command bytes uncalm output)
    → IsFirstUncalm (meaning_over is.script) is.script.value uncalm
    → (scan : ℕ) → 1 ≤ scan → scan ≤ is.script.value.scans → IsBefore scan uncalm
    → Carry (meaning_over is.script) is.script.value scan (note_at (meaning_over is.script) is.script.value scan)
carried command bytes uncalm output is calm scan first last before =
    scripts_carry (meaning_over is.script) is.script uncalm scan (lawful_over is.script is.proper) is.proper is.builds
    calm first last before

-- what is told of a scan of a script
abbrev pub told_at : ReadScript → (scan : ℕ) → ScanTold
told_at s scan = told_by s.value.points (λ leg. note_at (meaning_over s) s.value scan leg)

-- ---- lists over a range of scans

-- two maps are one
pub map_twice : {A B C : Type 0} (g : B → C) (f : A → B) (xs : List A) → map g (map f xs) ≡ map (λ x. g (f x)) xs
map_twice g f [] = refl
map_twice g f (x ∷ xs) = ap (λ l. g (f x) ∷ l) (map_twice g f xs)

-- functions that agree on a range have one list of values there
pub map_alike : {X : Type 0} (f g : ℕ → X) (start n : ℕ) → ((k : ℕ) → start ≤ k → k < start + n → f k ≡ g k)
    → map f (range_with_len start n) ≡ map g (range_with_len start n)
map_alike f g start zero same = refl
map_alike f g start (suc n) same =
    λ i. same start (omega arith) (omega arith) i
    ∷ map_alike f g (start + 1) n (λ k first last. same k (omega (arith, first)) (omega (arith, last))) i

-- the same of lists that are joined
pub flat_alike : (f g : ℕ → List ℕ) (start n : ℕ) → ((k : ℕ) → start ≤ k → k < start + n → f k ≡ g k)
    → flat_map f (range_with_len start n) ≡ flat_map g (range_with_len start n)
flat_alike f g start zero same = refl
flat_alike f g start (suc n) same =
    λ i. same start (omega arith) (omega arith) i
    ++ flat_alike f g (start + 1) n (λ k first last. same k (omega (arith, first)) (omega (arith, last))) i

-- values over a range, each with its number
pub flat_numbered : {X : Type 0} (h : ℕ × X → List ℕ) (f : ℕ → X) (start n : ℕ)
    → flat_map h (enumerate_from start (map f (range_with_len start n)))
    ≡ flat_map (λ k. h (k, f k)) (range_with_len start n)
flat_numbered h f start zero = refl
flat_numbered h f start (suc n) = ap (λ (l : List ℕ). h (start, f start) ++ l) (flat_numbered h f (start + 1) n)
