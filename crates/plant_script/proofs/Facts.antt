use Rattle.std.proofs.Common.{◌≡◌, ◌<◌, ◌≤◌, length, arith, refl, sym, ap, subst, ℕ, zero, suc, ◌+◌, List, [], ◌∷◌, Option, Some, None, false}
use Rattle.std.specs.Prelude.{drop, get_or}
use Rattle.engine_face.specs.declared.refusal.Refusal.{Refusal}
use Rattle.engine_face.specs.declared.refusal.Refusal.TheVariants as r
use Rattle.engine_face.specs.Answers.{IsMeant}
use Rattle.engine_face.specs.Meaning.{Meaning}
use Rattle.script_text.specs.MomentValue.{MomentValue}
use Rattle.plant_script.specs.FirstRefused.{first_refused_in, refused_or, swap_texts, with_lines}
use Rattle.plant_script.specs.Inner.Blocks.{first_behind, TakesLine}
use Rattle.plant_script.specs.Inner.Meant.{is_no_memory}

-- what isn't want of memory is what is meant
pub meant : (m : Option Refusal) (refusal : Refusal) → IsMeant m refusal → is_no_memory refusal ≡ false → m ≡ Some refusal
meant m r.TooLarge h e = h
meant m (r.Lex place cause) h e = h
meant m (r.TooDeep token) h e = h
meant m (r.Syntax token) h e = h
meant m (r.Typing fault) h e = h
meant m (r.TooManyWords words) h e = h
meant m (r.TooLong cost) h e = h
meant m (r.RenameUnknown name) h e = h
meant m (r.RenameTwice name) h e = h
meant m (r.KindChanged name) h e = h
meant m r.NoMemory h e = cc

-- no blocks are refused where there are no texts
pub none_behind : (m : Meaning) (numbers : List ℕ) (seen : ℕ) → first_behind m numbers seen [] ≡ None
unfolding with_lines
none_behind m numbers seen = by (drop seen numbers)
  where
    by : (left : List ℕ) → first_refused_in m (with_lines left []) ≡ None
    by [] = refl
    by (n ∷ ns) = refl

-- the first block behind some, with the line that is taken for it
pub taken : (m : Meaning) (numbers : List ℕ) (at line next : ℕ) (text : List ℕ) (texts : List (List ℕ)) → TakesLine numbers at line next
    → first_behind m numbers at (text ∷ texts) ≡ refused_or line (m.builds text) (first_behind m numbers next texts)
taken m numbers at line next text texts h = ap (first_refused_in m) (h text texts)

line_at : (numbers : List ℕ) (at line : ℕ) → at < length numbers → line ≡ get_or numbers at line → TakesLine numbers at line (suc at)
unfolding with_lines
line_at [] at line h e text texts = absurd (omega (arith, h))
line_at (n ∷ ns) zero line h e text texts = ap (λ l. (l, text) ∷ with_lines ns texts) (sym e)
line_at (n ∷ ns) (suc at) line h e text texts = line_at ns at line (omega (arith, h)) e text texts

-- a line that is there
pub line_there : (numbers : List ℕ) (at line : ℕ) → at < length numbers → line ≡ get_or numbers at line → TakesLine numbers at line (at + 1)
line_there numbers at line h e = let one : suc at ≡ at + 1 = omega arith in subst (TakesLine numbers at line) one (line_at numbers at line h e)

-- and one that isn't
pub no_line : (numbers : List ℕ) (at : ℕ) → length numbers ≤ at → TakesLine numbers at 0 at
unfolding with_lines
no_line [] zero h text texts = refl
no_line [] (suc at) h text texts = refl
no_line (n ∷ ns) zero h text texts = absurd (omega (arith, h))
no_line (n ∷ ns) (suc at) h text texts = no_line ns at (omega (arith, h)) text texts

-- nor where no scans are left
pub nothing_left : (m : Meaning) (numbers : List ℕ) (seen : ℕ) (rest : List MomentValue) → length rest < 1 → first_behind m numbers seen (swap_texts rest) ≡ None
nothing_left m numbers seen [] h = none_behind m numbers seen
nothing_left m numbers seen (x ∷ xs) h = absurd (omega (arith, h))
