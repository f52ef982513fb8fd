-- What acts leave alone: the shape of the environment, and the tags of open loops.
use Rattle.std.proofs.Common.{◌≡◌, ◌≢◌, ℤ, Bool, true, false, if◌then◌else◌, List, [], ◌∷◌, sym, ap, ◌∙◌, inl, inr}
use Rattle.function_blocks.specs.Blocks.{step_block}
use Rattle.function_blocks.specs.Values.{is_on}
use Rattle.st_core.proofs.Laid.{length-step_block}
use Rattle.st_core.specs.Core.{Name, Act}
use Rattle.st_core.specs.Core as c
use Rattle.st_core.specs.Environments.{Env, with_number, numbers_of}
use Rattle.st_core.specs.Terms.{value_of}
use Rattle.st_core.specs.Effects.{Ends, Onward, Exits, Returns, Effect, then_by, turn_by, turns, effect_of, written}
use Rattle.st_core.specs.Memory.{Shape, shape_of, count_of}
use Rattle.st_core.specs.Fits.{IsFree, ActFits}
use Rattle.st_core.specs.Codes.{IsOpen}
use Rattle.st_core.proofs.Laid.{shape_kept, number_shape, count_is, fields_other}

pub free_apart : (n m : Name) (loops : List Name) → IsFree n loops → IsOpen m loops → m ≢ n
unfolding IsFree IsOpen
free_apart n m [] free is = absurd is
free_apart n m (l ∷ loops) free (inl e) = λ same. free.0 (sym same ∙ e)
free_apart n m (l ∷ loops) free (inr is) = free_apart n m loops free.1 is

-- ---- something that holds of the environment throughout

module _ (P : Env → Type 0) where
  pub then_keeps : (x : Ends) (e f : Effect) → P e.env → P f.env → P (then_by x e f).env
  then_keeps Onward e f h k = k
  then_keeps Exits e f h k = h
  then_keeps Returns e f h k = h

  pub turn_keeps : (x : Ends) (e f : Effect) → P e.env → P f.env → P (turn_by x e f).env
  turn_keeps Onward e f h k = k
  turn_keeps Exits e f h k = h
  turn_keeps Returns e f h k = h

  pub if_keeps : (b : Bool) (e f : Effect) → P e.env → P f.env → P (if b then e else f).env
  if_keeps true e f h k = h
  if_keeps false e f h k = k

  pub turns_keep : (n : Name) (body : Env → Effect) → ((v : ℤ) (env : Env) → P env → P (body (with_number env n 0 v)).env) → (vs : List ℤ) (env : Env) → P env → P (turns n body vs env).env
  unfolding turns
  turns_keep n body keeps [] env h = h
  turns_keep n body keeps (v ∷ vs) env h =
      let e = body (with_number env n 0 v) in
      turn_keeps e.ends e (turns n body vs e.env) (keeps v env h) (turns_keep n body keeps vs e.env (keeps v env h))

-- ---- the shape

pub effect_shape : (dt : ℤ) (shape : Shape) (loops : List Name) (a : Act) (env : Env) → ActFits shape loops a → shape_of env ≡ shape → shape_of (effect_of dt a env).env ≡ shape
unfolding effect_of ActFits
effect_shape dt shape loops c.Skip env fits is = is
effect_shape dt shape loops (c.Then a b) env fits is =
    let e = effect_of dt a env in let here = effect_shape dt shape loops a env fits.0 is in
    then_keeps (λ x. shape_of x ≡ shape) e.ends e (effect_of dt b e.env) here (effect_shape dt shape loops b e.env fits.1 here)
effect_shape dt shape loops (c.Assign n k kind t) env fits is = number_shape n env k _ ∙ is
effect_shape dt shape loops (c.AssignElement n kind low high t u) env fits is = number_shape n env _ _ ∙ is
effect_shape dt shape loops (c.Invoke kind n) env fits is =
    shape_kept n (step_block kind dt (numbers_of n env)) env (length-step_block kind dt (numbers_of n env) ∙ (sym fits.1 ∙ (ap (count_of n) (sym is) ∙ count_is n env))) ∙ is
effect_shape dt shape loops (c.If t a b) env fits is =
    if_keeps (λ x. shape_of x ≡ shape) (is_on (value_of t env).value) (effect_of dt a env) (effect_of dt b env) (effect_shape dt shape loops a env fits.1 is) (effect_shape dt shape loops b env fits.2 is)
effect_shape dt shape loops (c.For n kind first last step a) env fits is =
    turns_keep (λ x. shape_of x ≡ shape) n (effect_of dt a) (λ v x h. effect_shape dt shape (n ∷ loops) a (with_number x n 0 v) fits.2 (number_shape n x 0 v ∙ h)) (written first last step) env is
effect_shape dt shape loops c.Exit env fits is = is
effect_shape dt shape loops c.Return env fits is = is

-- ---- the tags of open loops

pub effect_open : (dt : ℤ) (shape : Shape) (loops : List Name) (m : Name) (old : List ℤ) (a : Act) (env : Env) → ActFits shape loops a → IsOpen m loops → numbers_of m env ≡ old → numbers_of m (effect_of dt a env).env ≡ old
unfolding effect_of ActFits IsOpen
effect_open dt shape loops m old c.Skip env fits in_loop is = is
effect_open dt shape loops m old (c.Then a b) env fits in_loop is =
    let e = effect_of dt a env in let here = effect_open dt shape loops m old a env fits.0 in_loop is in
    then_keeps (λ x. numbers_of m x ≡ old) e.ends e (effect_of dt b e.env) here (effect_open dt shape loops m old b e.env fits.1 in_loop here)
effect_open dt shape loops m old (c.Assign n k kind t) env fits in_loop is = fields_other m n _ env (free_apart n m loops fits.0 in_loop) ∙ is
effect_open dt shape loops m old (c.AssignElement n kind low high t u) env fits in_loop is = fields_other m n _ env (free_apart n m loops fits.0 in_loop) ∙ is
effect_open dt shape loops m old (c.Invoke kind n) env fits in_loop is = fields_other m n _ env (free_apart n m loops fits.0 in_loop) ∙ is
effect_open dt shape loops m old (c.If t a b) env fits in_loop is =
    if_keeps (λ x. numbers_of m x ≡ old) (is_on (value_of t env).value) (effect_of dt a env) (effect_of dt b env) (effect_open dt shape loops m old a env fits.1 in_loop is) (effect_open dt shape loops m old b env fits.2 in_loop is)
effect_open dt shape loops m old (c.For n kind first last step a) env fits in_loop is =
    turns_keep (λ x. numbers_of m x ≡ old) n (effect_of dt a)
    (λ v x h. effect_open dt shape (n ∷ loops) m old a (with_number x n 0 v) fits.2 (inr in_loop) (fields_other m n _ x (free_apart n m loops fits.0 in_loop) ∙ h))
    (written first last step) env is
effect_open dt shape loops m old c.Exit env fits in_loop is = is
effect_open dt shape loops m old c.Return env fits in_loop is = is
