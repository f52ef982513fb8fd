-- What a statement does (IEC 61131-3:2013, 7.3.3): the values of the tags after it, whether a computed number or an
-- index was clamped in it or a divisor was 0, and how it ends.
use Rattle.std.specs.Prelude.{ℕ, zero, suc, ℤ, pos, ◌+ℤ◌, ◌-ℤ◌, int_lt, unsigned_abs, Bool, false, ◌||◌, if◌then◌else◌, List, [], ◌∷◌}
use Rattle.function_blocks.specs.Values.{is_on, clamped}
use Rattle.function_blocks.specs.Arithmetic.{bounded}
use Rattle.function_blocks.specs.Blocks.{step_block}
use Rattle.st_core.specs.Core.{Name, Act}
use Rattle.st_core.specs.Core as c
use Rattle.st_core.specs.Environments.{Env, numbers_of, with_numbers, with_number}
use Rattle.st_core.specs.Terms.{value_of}

-- How an act ends: what follows it is done next; or it leaves the innermost FOR, by EXIT; or the body, by RETURN.
pub data Ends : Type 0 where
  Onward : Ends
  Exits : Ends
  Returns : Ends

-- What an act leaves.
pub record Effect : Type 0 where
  pub env : Env
  pub flag : Bool
  pub ends : Ends

-- An effect behind which the next act is done.
abbrev pub onward : Env → Bool → Effect
onward env flag = record { env = env; flag = flag; ends = Onward }

-- Of two effects in a row, the second comes where the first goes on. The flag is that of either.
abbrev pub then_by : Ends → Effect → Effect → Effect
then_by Onward e f = record f { flag = e.flag || f.flag }
then_by Exits e f = e
then_by Returns e f = e

-- An act behind another one.
abbrev pub then_do : Effect → (Env → Effect) → Effect
then_do e next = then_by e.ends e (next e.env)

-- ---- FOR (7.3.3.4)

-- Of the turns of a loop, the next ones come where a turn goes on. A turn that exits ends the loop, and what follows
-- the loop is done next.
abbrev pub turn_by : Ends → Effect → Effect → Effect
turn_by Onward e f = record f { flag = e.flag || f.flag }
turn_by Exits e f = record e { ends = Onward }
turn_by Returns e f = e

-- The tag is set to each number in turn, and the body done. Afterwards it holds the number of the last turn; without a
-- turn it is left alone (own rule).
unfoldable pub turns : Name → (Env → Effect) → List ℤ → Env → Effect
turns n body [] env = onward env false
turns n body (v ∷ more) env =
    let e = body (with_number env n 0 v) in
    turn_by e.ends e (turns n body more e.env)

-- A number is past the last one, in the direction of the step.
abbrev pub is_past : (step last v : ℤ) → Bool
is_past step last v = if int_lt (pos 0) step then int_lt last v else int_lt v last

-- The numbers v, v + step, .. as far as they aren't past the last, so many at most.
unfoldable pub written_from : ℕ → (step last v : ℤ) → List ℤ
written_from zero step last v = []
written_from (suc n) step last v = if is_past step last v then [] else v ∷ written_from n step last (v +ℤ step)

-- The numbers first, first + step, .. as far as they aren't past the last. With a step other than 0 there is at most
-- one more of them than the distance from the first to the last.
abbrev pub written : (first last step : ℤ) → List ℤ
written first last step = written_from (suc (unsigned_abs (last -ℤ first))) step last first

-- ---- all acts

-- The effect of an act, in a scan of `dt` milliseconds.
unfoldable pub effect_of : ℤ → Act → Env → Effect
effect_of dt c.Skip env = onward env false
effect_of dt (c.Then a b) env = then_do (effect_of dt a env) (effect_of dt b)
effect_of dt (c.Assign n place kind t) env =
    let x = value_of t env in
    onward (with_number env n place (clamped kind x.value)) x.flag
effect_of dt (c.AssignElement n kind low high t u) env =
    let x = value_of t env in let y = value_of u env in let index = bounded low high x.value in
    onward (with_number env n (unsigned_abs (index.value -ℤ low)) (clamped kind y.value))
    ((x.flag || y.flag) || index.flag)
effect_of dt (c.Invoke kind n) env = onward (with_numbers n (step_block kind dt (numbers_of n env)) env) false
effect_of dt (c.If t a b) env =
    let x = value_of t env in
    let e = if is_on x.value then effect_of dt a env else effect_of dt b env in
    record e { flag = x.flag || e.flag }
effect_of dt (c.For n kind first last step a) env = turns n (effect_of dt a) (written first last step) env
effect_of dt c.Exit env = record { env = env; flag = false; ends = Exits }
effect_of dt c.Return env = record { env = env; flag = false; ends = Returns }
