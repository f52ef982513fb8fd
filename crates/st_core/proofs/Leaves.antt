-- Outside each loop no act ends by EXIT.
use Rattle.std.proofs.Common.{◌≡◌, ◌≢◌, ℤ, Bool, true, false, if◌then◌else◌, List, [], ◌∷◌, sym, refl, subst}
use Rattle.function_blocks.specs.Values.{is_on}
use Rattle.st_core.specs.Core.{Name, Act}
use Rattle.st_core.specs.Core as c
use Rattle.st_core.specs.Environments.{Env, with_number}
use Rattle.st_core.specs.Terms.{value_of}
use Rattle.st_core.specs.Effects.{Ends, Onward, Exits, Returns, Effect, then_by, turn_by, turns, effect_of, written}
use Rattle.st_core.specs.Memory.{Shape}
use Rattle.st_core.specs.Fits.{ActFits}

abbrev Stays : Ends → Type 0
Stays Onward = Unit {0}
Stays Exits = ⊥
Stays Returns = Unit {0}

stays_not : (x : Ends) → Stays x → x ≢ Exits
stays_not x h e = subst Stays e h

then_stays : (x : Ends) (e f : Effect) → e.ends ≡ x → Stays e.ends → Stays f.ends → Stays (then_by x e f).ends
then_stays Onward e f is h k = k
then_stays Exits e f is h k = h
then_stays Returns e f is h k = h

turn_stays : (x : Ends) (e f : Effect) → e.ends ≡ x → Stays f.ends → Stays (turn_by x e f).ends
turn_stays Onward e f is k = k
turn_stays Exits e f is k = tt
turn_stays Returns e f is k = subst Stays (sym is) tt

turns_stay : (n : Name) (body : Env → Effect) (vs : List ℤ) (env : Env) → Stays (turns n body vs env).ends
unfolding turns
turns_stay n body [] env = tt
turns_stay n body (v ∷ vs) env =
    let e = body (with_number env n 0 v) in turn_stays e.ends e (turns n body vs e.env) refl (turns_stay n body vs e.env)

if_stays : (b : Bool) (e f : Effect) → Stays e.ends → Stays f.ends → Stays (if b then e else f).ends
if_stays true e f h k = h
if_stays false e f h k = k

stays : (dt : ℤ) (shape : Shape) (a : Act) (env : Env) → ActFits shape [] a → Stays (effect_of dt a env).ends
unfolding effect_of ActFits
stays dt shape c.Skip env fits = tt
stays dt shape (c.Then a b) env fits =
    let e = effect_of dt a env in then_stays e.ends e (effect_of dt b e.env) refl (stays dt shape a env fits.0) (stays dt shape b e.env fits.1)
stays dt shape (c.Assign n k kind t) env fits = tt
stays dt shape (c.AssignElement n kind low high t u) env fits = tt
stays dt shape (c.Invoke kind n) env fits = tt
stays dt shape (c.If t a b) env fits = if_stays (is_on (value_of t env).value) (effect_of dt a env) (effect_of dt b env) (stays dt shape a env fits.1) (stays dt shape b env fits.2)
stays dt shape (c.For n kind first last step a) env fits = turns_stay n (effect_of dt a) (written first last step) env
stays dt shape c.Exit env fits = absurd (fits refl)
stays dt shape c.Return env fits = tt

pub never_exits : (dt : ℤ) (shape : Shape) (a : Act) (env : Env) → ActFits shape [] a → (effect_of dt a env).ends ≢ Exits
never_exits dt shape a env fits = stays_not (effect_of dt a env).ends (stays dt shape a env fits)
