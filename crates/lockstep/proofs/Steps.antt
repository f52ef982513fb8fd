-- What a leg does with what it sees is a step of the exchange.
use Rattle.std.proofs.Common.{◌≡◌, ◌∙◌, ◌↔◌, ◌+◌, ◌<◌, ℕ, suc, Bool, true, false, if◌then◌else◌, List, [], ◌∷◌, ◌++◌, length, take, get_or, Some, None, Result, Ok, Err, OnOk, OnErr, arith, refl, sym, ap, subst, true≢false}
use Rattle.std.proofs.Math.Seq.{take-suc}
use Rattle.std.specs.Result.{is_ok}
use Rattle.tri_base.specs.declared.leg.Leg.{Leg}
use Rattle.tri_base.specs.declared.leg.Leg.TheVariants.{A, B, C}
use Rattle.tri_base.specs.declared.leg.Side.TheVariants.{Left, Right}
use Rattle.tri_base.specs.declared.point.Point.{Point}
use Rattle.engine_face.specs.Meaning.{Meaning}
use Rattle.leg_laws.specs.declared.need.Need.{Need}
use Rattle.leg_laws.specs.declared.need.Need.TheVariants.{Put, Take, Done}
use Rattle.leg_laws.specs.Configs.{need_of}
use Rattle.leg_laws.specs.Exchanges.{Exchange, AllDone, can_serve, can_step}
use Rattle.leg_laws.specs.Counts.{IsCounted}
use Rattle.leg_laws.specs.ExchangeSteps.{Serves, ExchangeStep, Reaches}
use Rattle.leg_laws.proofs.Counts.{step_counts}
use Rattle.leg_laws.proofs.Reached.{steps_on}
use Rattle.leg_laws.proofs.Stuck.{none_stuck}
use Rattle.lockstep.specs.declared.serving.NotEnabled.{NotEnabled}
use Rattle.lockstep.specs.Inner.Around.{Around, ServesAround, around, can_serve_around, with_around}

-- need by need, of each leg
serves : (m : List Point → Meaning) (w : Exchange) (leg : Leg) (need : Need) (o : Around) → ServesAround (m (around w leg).leg.points) need (around w leg) o → Serves m w leg need (with_around w leg o)
serves m w A (Put Left) o h = (h.0, o.leg, h.1, h.2, ap (with_around w A) h.3)
serves m w A (Put Right) o h = (h.0, o.leg, h.1, h.2, ap (with_around w A) h.3)
serves m w A (Take Left) o h = (h.0, o.leg, h.1, h.2, ap (with_around w A) h.3)
serves m w A (Take Right) o h = (h.0, o.leg, h.1, h.2, ap (with_around w A) h.3)
serves m w A Done o h = absurd h
serves m w B (Put Left) o h = (h.0, o.leg, h.1, h.2, ap (with_around w B) h.3)
serves m w B (Put Right) o h = (h.0, o.leg, h.1, h.2, ap (with_around w B) h.3)
serves m w B (Take Left) o h = (h.0, o.leg, h.1, h.2, ap (with_around w B) h.3)
serves m w B (Take Right) o h = (h.0, o.leg, h.1, h.2, ap (with_around w B) h.3)
serves m w B Done o h = absurd h
serves m w C (Put Left) o h = (h.0, o.leg, h.1, h.2, ap (with_around w C) h.3)
serves m w C (Put Right) o h = (h.0, o.leg, h.1, h.2, ap (with_around w C) h.3)
serves m w C (Take Left) o h = (h.0, o.leg, h.1, h.2, ap (with_around w C) h.3)
serves m w C (Take Right) o h = (h.0, o.leg, h.1, h.2, ap (with_around w C) h.3)
serves m w C Done o h = absurd h

step : (m : List Point → Meaning) (w : Exchange) (leg : Leg) (o : Around) → ServesAround (m (around w leg).leg.points) (need_of (around w leg).leg) (around w leg) o → ExchangeStep m w leg (with_around w leg o)
step m w A o h = serves m w A (need_of w.legs.a) o h
step m w B o h = serves m w B (need_of w.legs.b) o h
step m w C o h = serves m w C (need_of w.legs.c) o h

pub moved : (m : List Point → Meaning) (v w : Exchange) (x leg : Leg) (o : Around) → v ≡ w → leg ≡ x → ServesAround (m (around v x).leg.points) (need_of (around v x).leg) (around v x) o → ExchangeStep m w leg (with_around v x o)
moved m v w x leg o e f s = subst (λ (p : Exchange × Leg). ExchangeStep m p.0 p.1 (with_around v x o)) (λ i. (e i, sym f i)) (step m v x o s)

-- ---- what can be served

can_need : (w : Exchange) (leg : Leg) (need : Need) → can_serve_around need (around w leg) ≡ can_serve w leg need
can_need w A (Put Left) = refl
can_need w A (Put Right) = refl
can_need w A (Take Left) = refl
can_need w A (Take Right) = refl
can_need w A Done = refl
can_need w B (Put Left) = refl
can_need w B (Put Right) = refl
can_need w B (Take Left) = refl
can_need w B (Take Right) = refl
can_need w B Done = refl
can_need w C (Put Left) = refl
can_need w C (Put Right) = refl
can_need w C (Take Left) = refl
can_need w C (Take Right) = refl
can_need w C Done = refl

can_around : (w : Exchange) (leg : Leg) → can_serve_around (need_of (around w leg).leg) (around w leg) ≡ can_step w leg
can_around w A = can_need w A (need_of w.legs.a)
can_around w B = can_need w B (need_of w.legs.b)
can_around w C = can_need w C (need_of w.legs.c)

can_there : (v w : Exchange) (x leg : Leg) → v ≡ w → leg ≡ x → can_serve_around (need_of (around v x).leg) (around v x) ≡ can_step w leg
can_there v w x leg e f = can_around v x ∙ (λ i. can_step (e i) (sym f i))

pub answered : (v w : Exchange) (x leg : Leg) (r : Bool) → v ≡ w → leg ≡ x → r ≡ can_serve_around (need_of (around v x).leg) (around v x) → r ≡ can_step w leg
answered v w x leg r e f h = h ∙ can_there v w x leg e f

pub enabled_so : (v w : Exchange) (x leg : Leg) (P : Type 0) → v ≡ w → leg ≡ x → P ↔ (can_serve_around (need_of (around v x).leg) (around v x) ≡ true) → P ↔ (can_step w leg ≡ true)
enabled_so v w x leg P e f h = subst (λ (b : Bool). P ↔ (b ≡ true)) (can_there v w x leg e f) h

-- ---- the counts are kept

back : (v : Exchange) (x : Leg) → with_around v x (around v x) ≡ v
back v A = refl
back v B = refl
back v C = refl

-- a leg's part that is as it was
abbrev pub IsSame : Around → Around → Type 0
IsSame o o' = (o'.leg ≡ o.leg) × (o'.left ≡ o.left) × (o'.right ≡ o.right) × (o'.from_left ≡ o.from_left) × (o'.from_right ≡ o.from_right)

pub kept : (r : Result (Unit {0}) NotEnabled) (m : List Point → Meaning) (v : Exchange) (x : Leg) (o : Around) → IsCounted v → OnOk r (ServesAround (m (around v x).leg.points) (need_of (around v x).leg) (around v x) o) → OnErr r (IsSame (around v x) o) → IsCounted (with_around v x o)
kept (Ok u) m v x o h serves same = step_counts m v (with_around v x o) x h (step m v x o serves)
kept (Err e) m v x o h serves same =
    let part : around v x ≡ o = λ i. record { leg = sym same.0 i; left = sym same.1 i; right = sym same.2 i; from_left = sym same.3 i; from_right = sym same.4 i } in
    subst (λ (p : Around). IsCounted (with_around v x p)) part (subst IsCounted (sym (back v x)) h)

-- ---- nobody can step

none_first : (a b c : Bool) → a ≡ false → b ≡ false → c ≡ false → (if a then Some A else (if b then Some B else (if c then Some C else None))) ≡ None
none_first true b c h k l = absurd (true≢false h)
none_first false true c h k l = absurd (true≢false k)
none_first false false true h k l = absurd (true≢false l)
none_first false false false h k l = refl

pub nobody : (w : Exchange) → IsCounted w → can_step w A ≡ false → can_step w B ≡ false → can_step w C ≡ false → AllDone w
nobody w h a b c = (none_stuck w h).0 (none_first (can_step w A) (can_step w B) (can_step w C) a b c)

-- ---- letters

-- one letter more
pub followed : (m : List Point → Meaning) (w u w' : Exchange) (letters : List Leg) (place : ℕ) (leg : Leg) (r : Result (Unit {0}) NotEnabled) → place < length letters → leg ≡ get_or letters place A → Reaches m w (take place letters) u → OnOk r (ExchangeStep m u leg w') → is_ok r ≡ true → Reaches m w (take (place + 1) letters) w'
followed m w u w' letters place leg (Ok t) below is before stepped good =
    let one : suc place ≡ place + 1 = omega arith in
    let more : take place letters ++ leg ∷ [] ≡ take (place + 1) letters = ap (λ (x : Leg). take place letters ++ x ∷ []) is ∙ (sym (take-suc letters place A below) ∙ ap (λ (n : ℕ). take n letters) one) in
    subst (λ (steps : List Leg). Reaches m w steps w') more (steps_on m (take place letters) leg w u w' before stepped)
followed m w u w' letters place leg (Err e) below is before stepped good = absurd (true≢false (sym good))
