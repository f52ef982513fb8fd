-- The dearest path of a choice, and what loops cost.
use Rattle.std.proofs.Common.{◌≡◌, ℕ, suc, ◌+◌, ◌*◌, ◌/◌, ◌<◌, ◌≤◌, max, ℤ, ◌-ℤ◌, unsigned_abs, true, false, List, [], ◌∷◌, length, get_or, drop, map, arith, refl, ap, sym, ◌∙◌, drop_of_length-le}
use Rattle.function_blocks.specs.declared.kinds.Kind.{Kind}
use Rattle.st_core.specs.Core.{Name, Act}
use Rattle.st_core.specs.Core as c
use Rattle.st_core.specs.Effects.{is_past}
use Rattle.st_core.specs.Costs.{cost_of, loop_cost}
use Rattle.st_core.proofs.Loops.{written_past, written_more}
use Rattle.st_core.proofs.Counts.{turns_counted}
use Rattle.st_meaning.specs.Statements.{Guarded, in_order, choice}
use Rattle.code_size.specs.declared.paths.Paths.{Paths}
use Rattle.code_size.specs.Limits.{limited}
use Rattle.code_size.specs.Inner.Paths.{IsPaths, IsWithPath, test_after, path_after, tests_after, best_after}
use Rattle.code_size.proofs.Countings.{split}

-- ---- acts in a row, and loops

pub order_cost : (a : Act) (acts : List Act) → cost_of (in_order (a ∷ acts)) ≡ cost_of a + cost_of (in_order acts)
unfolding in_order cost_of
order_cost a acts = refl

pub none_cost : cost_of (in_order []) ≡ 0
unfolding in_order cost_of
none_cost = refl

pub skip_cost : 0 ≡ cost_of c.Skip
unfolding cost_of
skip_cost = refl

pub exit_cost : 1 ≡ cost_of c.Exit
unfolding cost_of
exit_cost = refl

pub return_cost : 1 ≡ cost_of c.Return
unfolding cost_of
return_cost = refl

pub loop_none_cost : (n : Name) (kind : Kind) (first last step : ℤ) (a : Act) → is_past step last first ≡ true → cost_of (c.For n kind first last step a) ≡ 0
unfolding cost_of
loop_none_cost n kind first last step a past = ap (λ vs. loop_cost vs (cost_of a)) (written_past (suc (unsigned_abs (last -ℤ first))) step last first past)

pub loop_some_cost : (n : Name) (kind : Kind) (first last step : ℤ) (a : Act) → is_past step last first ≡ false → cost_of (c.For n kind first last step a) ≡ 2 + (unsigned_abs (last -ℤ first) / max 1 (unsigned_abs step) + 1) * (cost_of a + 1)
unfolding cost_of
loop_some_cost n kind first last step a now =
    let more = written_more (unsigned_abs (last -ℤ first)) step last first now in
    ap (λ vs. loop_cost vs (cost_of a)) more ∙ ap (λ k. 2 + k * (cost_of a + 1)) (sym (ap length more) ∙ turns_counted first last step now)

-- ---- choices

choice_cost : (gs : List Guarded) (other : Act) (t b : ℕ) → max b (t + cost_of (choice gs other)) ≡ max (best_after t b gs) (tests_after t gs + cost_of other)
unfolding choice cost_of tests_after best_after
choice_cost [] other t b = refl
choice_cost (g ∷ gs) other t b =
    let e = choice_cost gs other (test_after t g) (path_after t b g) in
    omega arith ∙ e

-- a whole choice, where the first branch was done apart
pub whole_cost : (g : Guarded) (gs : List Guarded) (other : Act) → max (best_after (test_after 0 g) (path_after 0 0 g) gs) (tests_after (test_after 0 g) gs + cost_of other) ≡ cost_of (choice (g ∷ gs) other)
unfolding tests_after best_after
whole_cost g gs other = let e = choice_cost (g ∷ gs) other 0 0 in omega (arith, e)

-- the paths so far, with which those that are left make all
pub record PathsLeft {X : Type 0} (f : X → Guarded) (t m : ℕ) (xs : List X) (k : ℕ) (p : Paths) : Type 0 where
  pub tests : ℕ
  pub best : ℕ
  pub is : IsPaths p tests best
  pub all_tests : tests_after tests (map f (drop k xs)) ≡ tests_after t (map f xs)
  pub all_best : best_after tests best (map f (drop k xs)) ≡ best_after t m (map f xs)

pub paths_from : {X : Type 0} (f : X → Guarded) (t m : ℕ) (xs : List X) (p : Paths) → IsPaths p t m → PathsLeft f t m xs 0 p
paths_from f t m xs p is = record { tests = t; best = m; is = is; all_tests = refl; all_best = refl }

pub paths_more : {X : Type 0} (f : X → Guarded) (t m : ℕ) (xs : List X) (k : ℕ) (x : X) (p q : Paths) → k < length xs → x ≡ get_or xs k x → PathsLeft f t m xs k p
    → ((u v : ℕ) → IsPaths p u v → IsWithPath q u v (f x)) → PathsLeft f t m xs (k + 1) q
unfolding tests_after best_after
paths_more f t m xs k x p q less is h step =
    let e = split xs k x less is in
    record {
      tests = test_after h.tests (f x);
      best = path_after h.tests h.best (f x);
      is = step h.tests h.best h.is;
      all_tests = sym (ap (λ l. tests_after h.tests (map f l)) e) ∙ h.all_tests;
      all_best = sym (ap (λ l. best_after h.tests h.best (map f l)) e) ∙ h.all_best;
    }

pub paths_all : {X : Type 0} (f : X → Guarded) (t m : ℕ) (xs : List X) (k : ℕ) (p : Paths) → length xs ≤ k → PathsLeft f t m xs k p → IsPaths p (tests_after t (map f xs)) (best_after t m (map f xs))
unfolding tests_after best_after
paths_all f t m xs k p le h =
    let e = drop_of_length-le xs le in
    (h.is.0 ∙ ap limited (ap (λ l. tests_after h.tests (map f l)) (sym e) ∙ h.all_tests), h.is.1 ∙ ap limited (ap (λ l. best_after h.tests h.best (map f l)) (sym e) ∙ h.all_best))
