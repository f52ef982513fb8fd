-- What the statements of a matrix's program do.
use Rattle.std.proofs.Common.{◌≡◌, ◌≢◌, ℕ, ◌+◌, ◌<◌, ℤ, pos, Bool, true, false, not, ◌&&◌, ◌||◌, List, [], ◌∷◌, ◌++◌, length, map, fold, Option, Some, None, option_to_list, get_or, set, refl, sym, ap, ◌∙◌, subst}
use Rattle.std.specs.List.{list_any}
use Rattle.std.specs.Option.{option_map}
use Rattle.function_blocks.specs.declared.kinds.Kind.{Kind}
use Rattle.function_blocks.specs.declared.kinds.Kind.TheVariants as kind
use Rattle.function_blocks.specs.Values.{is_on, number, clamped}
use Rattle.st_tree.specs.declared.expression.Exclusive.{Exclusive}
use Rattle.st_tree.specs.declared.expression.Primary.TheVariants as p
use Rattle.st_tree.specs.declared.expression.Unary.{Unary}
use Rattle.st_tree.specs.declared.expression.Unary.TheVariants as u
use Rattle.st_tree.specs.declared.statement.Statement.TheVariants as st
use Rattle.st_tree.specs.declared.tag.Tag.{Tag}
use Rattle.st_tree.specs.ExpressionFolds.{fold_exclusive, fold_unary}
use Rattle.st_tree.proofs.ExpressionEquations.{at-expr}
use Rattle.st_tree.proofs.StatementEquations.{at-assignment}
use Rattle.st_core.specs.Core.{Act}
use Rattle.st_core.specs.Core as c
use Rattle.st_core.specs.Environments.{Env, number_of, with_number, numbers_of}
use Rattle.st_core.specs.Memory.{count_of, shape_of}
use Rattle.st_core.specs.Terms.{value_of}
use Rattle.st_core.specs.Effects.{effect_of}
use Rattle.st_core.proofs.Laid.{fields_other, number_own, number_shape}
use Rattle.st_meaning.specs.Types.{type_of, word_type}
use Rattle.st_meaning.specs.Expressions.{Elaborated, logic, expression_parts, elaborated}
use Rattle.st_meaning.specs.Statements.{statement_parts, act_of, acts_of, in_order}
use Rattle.cause_effect.specs.declared.matrix.Level.{Level}
use Rattle.cause_effect.specs.declared.matrix.Level.TheVariants.{High, Low}
use Rattle.cause_effect.specs.declared.matrix.Mode.{Mode}
use Rattle.cause_effect.specs.declared.matrix.Mode.TheVariants.{Latch, Follow}
use Rattle.cause_effect.specs.declared.matrix.Link.{Link}
use Rattle.cause_effect.specs.Matrices.{MatrixValue, level_of, links_to, is_active, is_called, is_reset, effect_after}
use Rattle.cause_effect.specs.Programs.{cause_term, effect_text}
use Rattle.matrix_laws.specs.Laws.{held_of}
use Rattle.matrix_laws.proofs.Trees.{joined_of, tag_at, not_at, cause_at, hold_at, causes_at, causes_text, false_at, value_at, assignment_at, statements_at, at_joined, at_tag, at_not, at_false}
use Rattle.matrix_laws.proofs.Written.{Each}
use Rattle.matrix_laws.proofs.Typed.{IsBool, BoolReset}

pub on_number : (b : Bool) → is_on (number b) ≡ b
on_number true = refl
on_number false = refl

or_more : (a b c : Bool) → ((a || b) || c) ≡ (a || (b || c))
or_more true b c = refl
or_more false b c = refl

or_none : (a : Bool) → (a || false) ≡ a
or_none true = refl
or_none false = refl

-- ---- values

-- an expression is worth TRUE or FALSE
abbrev Worth : Env → Elaborated → Bool → Type 0
Worth env x b = (value_of (x.asked kind.Bool) env).value ≡ number b

or_worth : (env : Env) (x y : Elaborated) (a b : Bool) → Worth env x a → Worth env y b → Worth env (logic c.Or x y) (a || b)
unfolding value_of
or_worth env x y a b h k = (λ i. number (is_on (h i) || is_on (k i))) ∙ (λ i. number (on_number a i || on_number b i))

and_worth : (env : Env) (x y : Elaborated) (a b : Bool) → Worth env x a → Worth env y b → Worth env (logic c.And x y) (a && b)
unfolding value_of
and_worth env x y a b h k = (λ i. number (is_on (h i) && is_on (k i))) ∙ (λ i. number (on_number a i && on_number b i))

pub tag_type : (tags : List Tag) (n : List ℕ) → IsBool tags n → word_type (type_of tags n) ≡ kind.Bool
tag_type tags n is = ap (λ o. word_type (option_map (λ (t : Tag). t.declared) o)) is.1

-- a tag as it is read
abbrev tag_of_type : List ℕ → Kind → Elaborated
tag_of_type n k = record { own = Some k; asked = λ _. c.Field n 0 k }

field_worth : (env : Env) (n : List ℕ) → Worth env (tag_of_type n kind.Bool) (held_of env n)
unfolding value_of
field_worth env n = refl

not_worth : (env : Env) (n : List ℕ) → (value_of (c.Unary c.Not (c.Field n 0 kind.Bool)) env).value ≡ number (not (held_of env n))
unfolding value_of
not_worth env n = ap (λ b. number (not b)) (on_number (held_of env n))

tag_worth : (env : Env) (tags : List Tag) (n : List ℕ) (place : ℕ) → IsBool tags n → Worth env (fold_unary (expression_parts tags) (tag_at n place)) (held_of env n)
tag_worth env tags n place is =
    subst (λ x. Worth env x (held_of env n)) (sym (at_tag (expression_parts tags) n place ∙ ap (tag_of_type n) (tag_type tags n is))) (field_worth env n)

no_worth : (env : Env) (tags : List Tag) (n : List ℕ) (place : ℕ) → IsBool tags n → Worth env (fold_unary (expression_parts tags) (not_at n place)) (not (held_of env n))
no_worth env tags n place is =
    subst (λ (x : Elaborated). Worth env x (not (held_of env n)))
    (sym (at_not (expression_parts tags) n place ∙ ap (λ k. record { own = Some kind.Bool; asked = λ _. c.Unary c.Not ((tag_of_type n k).asked kind.Bool) }) (tag_type tags n is)))
    (not_worth env n)

cause_worth : (env : Env) (tags : List Tag) (level : Level) (n : List ℕ) (place : ℕ) → IsBool tags n → Worth env (fold_unary (expression_parts tags) (cause_at level n place)) (is_active level (held_of env n))
cause_worth env tags High n place is = tag_worth env tags n place is
cause_worth env tags Low n place is = no_worth env tags n place is

single_worth : (env : Env) (tags : List Tag) (x : Unary) (b : Bool) → Worth env (fold_unary (expression_parts tags) x) b → Worth env (fold_exclusive (expression_parts tags) (joined_of x [])) b
single_worth env tags x b h = subst (λ y. Worth env y b) (sym (at_joined (expression_parts tags) x [])) h

double_worth : (env : Env) (tags : List Tag) (x y : Unary) (a b : Bool) → Worth env (fold_unary (expression_parts tags) x) a → Worth env (fold_unary (expression_parts tags) y) b → Worth env (fold_exclusive (expression_parts tags) (joined_of x (y ∷ []))) (a && b)
double_worth env tags x y a b h k =
    subst (λ z. Worth env z (a && b)) (sym (at_joined (expression_parts tags) x (y ∷ [])))
    (and_worth env (fold_unary (expression_parts tags) x) (fold_unary (expression_parts tags) y) a b h k)

-- each of some expressions is worth its own
Worths : Env → List Elaborated → List Bool → Type 0
Worths env [] [] = Unit {0}
Worths env (x ∷ xs) (b ∷ bs) = Worth env x b × Worths env xs bs
Worths env [] (b ∷ bs) = ⊥
Worths env (x ∷ xs) [] = ⊥

any : List Bool → Bool
any [] = false
any (b ∷ bs) = b || any bs

ors_worth : (env : Env) (first : Elaborated) (more : List Elaborated) (a : Bool) (bs : List Bool) → Worth env first a → Worths env more bs → Worth env (fold (logic c.Or) first more) (a || any bs)
unfolding Worths any
ors_worth env first [] a [] h hs = h ∙ ap number (sym (or_none a))
ors_worth env first [] a (b ∷ bs) h hs = absurd hs
ors_worth env first (x ∷ more) a [] h hs = absurd hs
ors_worth env first (x ∷ more) a (b ∷ bs) h hs =
    ors_worth env (logic c.Or first x) more (a || b) bs (or_worth env first x a b h hs.0) hs.1 ∙ ap number (or_more a b (any bs))

worths_join : (env : Env) (xs ys : List Elaborated) (cs bs : List Bool) → Worths env xs cs → Worths env ys bs → Worths env (xs ++ ys) (cs ++ bs)
unfolding Worths
worths_join env [] ys [] bs h k = k
worths_join env [] ys (a ∷ cs) bs h k = absurd h
worths_join env (x ∷ xs) ys [] bs h k = absurd h
worths_join env (x ∷ xs) ys (a ∷ cs) bs h k = (h.0, worths_join env xs ys cs bs h.1 k)

pub parts_join : (tags : List Tag) (xs ys : List Exclusive) → map (fold_exclusive (expression_parts tags)) (xs ++ ys) ≡ map (fold_exclusive (expression_parts tags)) xs ++ map (fold_exclusive (expression_parts tags)) ys
parts_join tags [] ys = refl
parts_join tags (x ∷ xs) ys = ap (λ zs. fold_exclusive (expression_parts tags) x ∷ zs) (parts_join tags xs ys)

-- ---- the value of an effect

abbrev active : MatrixValue → (List ℕ → Bool) → Link → Bool
active m inputs l = is_active (level_of m l.cause) (inputs l.cause)

causes_worth : (env : Env) (tags : List Tag) (m : MatrixValue) (place : ℕ) (links : List Link) → Each (λ l. IsBool tags l.cause) links → Worths env (map (fold_exclusive (expression_parts tags)) (causes_at m place links)) (map (active m (held_of env)) links)
unfolding Worths
causes_worth env tags m place [] are = tt
causes_worth env tags m place (l ∷ links) are =
    let level = level_of m l.cause in (
      single_worth env tags (cause_at level l.cause (place + 4)) (is_active level (held_of env l.cause)) (cause_worth env tags level l.cause (place + 4) are.0),
      causes_worth env tags m (place + length (cause_term level l.cause)) links are.1,
    )

abbrev hold_values : Mode → Option (List ℕ) → (List ℕ → Bool) → List ℕ → List Bool
hold_values Follow reset held effect = []
hold_values Latch None held effect = held effect ∷ []
hold_values Latch (Some reset) held effect = (held effect && not (held reset)) ∷ []

hold_worth : (env : Env) (tags : List Tag) (mode : Mode) (reset : Option (List ℕ)) (effect : List ℕ) (place : ℕ) → IsBool tags effect → BoolReset tags reset → Worths env (map (fold_exclusive (expression_parts tags)) (hold_at mode reset effect place)) (hold_values mode reset (held_of env) effect)
unfolding Worths
hold_worth env tags Follow reset effect place is other = tt
hold_worth env tags Latch None effect place is other = (single_worth env tags (tag_at effect (place + 4)) (held_of env effect) (tag_worth env tags effect (place + 4) is), tt)
hold_worth env tags Latch (Some reset) effect place is other =
    let at = place + 4 + length effect + 5 in
    (double_worth env tags (tag_at effect (place + 4)) (not_at reset at) (held_of env effect) (not (held_of env reset)) (tag_worth env tags effect (place + 4) is) (no_worth env tags reset at other), tt)

false_worth : (env : Env) (tags : List Tag) (place : ℕ) → Worth env (fold_exclusive (expression_parts tags) (false_at place)) false
unfolding value_of
false_worth env tags place =
    single_worth env tags (u.Plain (p.Truth false place)) false (ap (λ (x : Elaborated). (value_of (x.asked kind.Bool) env).value) (at_false (expression_parts tags) place))

any_join : (xs ys : List Bool) → any (xs ++ ys) ≡ (any xs || any ys)
unfolding any
any_join [] ys = refl
any_join (x ∷ xs) ys = ap (λ b. x || b) (any_join xs ys) ∙ sym (or_more x (any xs) (any ys))

any_map : (f : Link → Bool) (links : List Link) → any (map f links) ≡ list_any f links
unfolding any
any_map f [] = refl
any_map f (l ∷ links) = ap (λ b. f l || b) (any_map f links)

-- called, or kept, is what the effect is after the scan
after_is : (mode : Mode) (reset : Option (List ℕ)) (effect : List ℕ) (held : List ℕ → Bool) (called : Bool) → (called || any (hold_values mode reset held effect)) ≡ effect_after mode called (is_reset reset held) (held effect)
unfolding any
after_is Follow reset effect held called = or_none called
after_is Latch None effect held called = ap (λ b. called || b) (or_none (held effect))
after_is Latch (Some reset) effect held called = ap (λ b. called || b) (or_none (held effect && not (held reset)) ∙ turned (held effect) (held reset))
  where
    turned : (a b : Bool) → (a && not b) ≡ (not b && a)
    turned true true = refl
    turned true false = refl
    turned false true = refl
    turned false false = refl

-- what an effect is after its line, by what the environment holds before it
abbrev now_of : MatrixValue → Env → List ℕ × Mode → Bool
now_of m env e = effect_after e.1 (is_called m (held_of env) e.0) (is_reset m.reset (held_of env)) (held_of env e.0)

value_worth : (env : Env) (tags : List Tag) (m : MatrixValue) (e : List ℕ × Mode) (place : ℕ) → IsBool tags e.0 → BoolReset tags m.reset → Each (λ l. IsBool tags l.cause) (links_to m e.0) → Worth env (elaborated tags (value_at m e place)) (now_of m env e)
unfolding elaborated
value_worth env tags m e place is reset links =
    let at = place + length e.0 + 9 in
    let causes = causes_at m at (links_to m e.0) in
    let hold = hold_at e.1 m.reset e.0 (at + length (causes_text m (links_to m e.0))) in
    let values = map (active m (held_of env)) (links_to m e.0) in
    let kept = hold_values e.1 m.reset (held_of env) e.0 in
    let parts = map (fold_exclusive (expression_parts tags)) in
    let worths : Worths env (parts (causes ++ hold)) (values ++ kept) =
    subst (λ (xs : List Elaborated). Worths env xs (values ++ kept)) (sym (parts_join tags causes hold))
    (worths_join env (parts causes) (parts hold) values kept (causes_worth env tags m at (links_to m e.0) links) (hold_worth env tags e.1 m.reset e.0 (at + length (causes_text m (links_to m e.0))) is reset)) in
    ap (λ (x : Elaborated). (value_of (x.asked kind.Bool) env).value) (at-expr (expression_parts tags) (false_at (place + length e.0 + 4)) (causes ++ hold))
    ∙ (ors_worth env (fold_exclusive (expression_parts tags) (false_at (place + length e.0 + 4))) (parts (causes ++ hold)) false (values ++ kept) (false_worth env tags (place + length e.0 + 4)) worths
    ∙ ap number (any_join values kept ∙ (ap (λ b. b || any kept) (any_map (active m (held_of env)) (links_to m e.0)) ∙ after_is e.1 m.reset e.0 (held_of env) (is_called m (held_of env) e.0))))

-- ---- one line

pub act_is : (tags : List Tag) (m : MatrixValue) (e : List ℕ × Mode) (place : ℕ) → IsBool tags e.0 → act_of tags (st.Assignment (assignment_at m e place)) ≡ c.Assign e.0 0 kind.Bool ((elaborated tags (value_at m e place)).asked kind.Bool)
unfolding act_of
act_is tags m e place is =
    at-assignment (statement_parts tags) (assignment_at m e place)
    ∙ ap (λ k. c.Assign e.0 0 k ((elaborated tags (value_at m e place)).asked k)) (tag_type tags e.0 is)

-- the environment after a line
abbrev line_env : MatrixValue → Env → List ℕ × Mode → Env
line_env m env e = with_number env e.0 0 (number (now_of m env e))

-- the environment after the lines of some effects
abbrev pub lines_env : ℤ → List Tag → MatrixValue → ℕ → List (List ℕ × Mode) → Env → Env
lines_env dt tags m place effects env = (effect_of dt (acts_of tags (statements_at m place effects)) env).env

line_more : (dt : ℤ) (tags : List Tag) (m : MatrixValue) (e : List ℕ × Mode) (effects : List (List ℕ × Mode)) (place : ℕ) (env : Env) → IsBool tags e.0 → BoolReset tags m.reset → Each (λ l. IsBool tags l.cause) (links_to m e.0)
    → lines_env dt tags m place (e ∷ effects) env ≡ lines_env dt tags m (place + length (effect_text m e)) effects (line_env m env e)
unfolding in_order effect_of
line_more dt tags m e effects place env is reset links =
    let rest = acts_of tags (statements_at m (place + length (effect_text m e)) effects) in
    let worth = value_worth env tags m e place is reset links in
    let value : clamped kind.Bool (value_of ((elaborated tags (value_at m e place)).asked kind.Bool) env).value ≡ number (now_of m env e) =
    ap (λ v. number (is_on v)) worth ∙ ap number (on_number (now_of m env e)) in
    ap (λ a. (effect_of dt (c.Then a rest) env).env) (act_is tags m e place is)
    ∙ ap (λ v. (effect_of dt rest (with_number env e.0 0 v)).env) value

-- ---- all lines

abbrev pub Apart : List (List ℕ × Mode) → Type 0
Apart [] = Unit {0}
Apart (e ∷ effects) = Each (λ (x : List ℕ × Mode). x.0 ≢ e.0) effects × Apart effects

abbrev pub Away : List ℕ → List (List ℕ × Mode) → Type 0
Away n effects = Each (λ (e : List ℕ × Mode). n ≢ e.0) effects

-- another name's number stays
pub number_other : (n o : List ℕ) (env : Env) (v : ℤ) → n ≢ o → number_of (with_number env o 0 v) n 0 ≡ number_of env n 0
number_other n o env v apart = ap (λ l. get_or l 0 (pos 0)) (fields_other n o (set (numbers_of o env) 0 v) env apart)

-- what is known before the lines of some effects
pub record Ready (tags : List Tag) (m : MatrixValue) (effects : List (List ℕ × Mode)) (env : Env) : Type 0 where
  pub bools : Each (λ e. IsBool tags e.0) effects
  pub there : Each (λ e. 0 < count_of e.0 (shape_of env)) effects
  pub apart : Apart effects

still_there : (effects : List (List ℕ × Mode)) (env : Env) (o : List ℕ) (v : ℤ) → Each (λ e. 0 < count_of e.0 (shape_of env)) effects → Each (λ e. 0 < count_of e.0 (shape_of (with_number env o 0 v))) effects
still_there [] env o v h = tt
still_there (e ∷ effects) env o v h = (subst (λ s. 0 < count_of e.0 s) (sym (number_shape o env 0 v)) h.0, still_there effects env o v h.1)

ready_rest : (tags : List Tag) (m : MatrixValue) (e : List ℕ × Mode) (effects : List (List ℕ × Mode)) (env : Env) (v : ℤ) → Ready tags m (e ∷ effects) env → Ready tags m effects (with_number env e.0 0 v)
ready_rest tags m e effects env v r = record { bools = r.bools.1; there = still_there effects env e.0 v r.there.1; apart = r.apart.1 }

abbrev pub BoolLinks : List Tag → MatrixValue → Type 0
BoolLinks tags m = (effect : List ℕ) → Each (λ l. IsBool tags l.cause) (links_to m effect)

-- a name that is none of them keeps its number
kept : (dt : ℤ) (tags : List Tag) (m : MatrixValue) (effects : List (List ℕ × Mode)) (place : ℕ) (env : Env) (n : List ℕ) → Ready tags m effects env → BoolReset tags m.reset → BoolLinks tags m → Away n effects → number_of (lines_env dt tags m place effects env) n 0 ≡ number_of env n 0
unfolding in_order effect_of
kept dt tags m [] place env n r reset links away = refl
kept dt tags m (e ∷ effects) place env n r reset links away =
    ap (λ (x : Env). number_of x n 0) (line_more dt tags m e effects place env r.bools.0 reset (links e.0))
    ∙ (kept dt tags m effects (place + length (effect_text m e)) (line_env m env e) n (ready_rest tags m e effects env (number (now_of m env e)) r) reset links away.1
    ∙ number_other n e.0 env (number (now_of m env e)) away.0)

-- an effect by inputs and what was before
abbrev pub then_of : MatrixValue → (before inputs : List ℕ → Bool) → List ℕ × Mode → Bool
then_of m before inputs e = effect_after e.1 (is_called m inputs e.0) (is_reset m.reset inputs) (before e.0)

called_same : (m : MatrixValue) (held inputs : List ℕ → Bool) (links : List Link) → Each (λ l. held l.cause ≡ inputs l.cause) links → list_any (active m held) links ≡ list_any (active m inputs) links
called_same m held inputs [] h = refl
called_same m held inputs (l ∷ links) h = λ i. is_active (level_of m l.cause) (h.0 i) || called_same m held inputs links h.1 i

reset_same : (reset : Option (List ℕ)) (held inputs : List ℕ → Bool) → Each (λ r. held r ≡ inputs r) (option_to_list reset) → is_reset reset held ≡ is_reset reset inputs
reset_same None held inputs h = refl
reset_same (Some r) held inputs h = h.0

-- the environment holds the inputs, and what the effects were before
pub record Holds (m : MatrixValue) (before inputs : List ℕ → Bool) (effects : List (List ℕ × Mode)) (env : Env) : Type 0 where
  pub links : (effect : List ℕ) → Each (λ l. held_of env l.cause ≡ inputs l.cause) (links_to m effect)
  pub reset : Each (λ r. held_of env r ≡ inputs r) (option_to_list m.reset)
  pub own : Each (λ e. held_of env e.0 ≡ before e.0) effects

now_same : (m : MatrixValue) (before inputs : List ℕ → Bool) (e : List ℕ × Mode) (effects : List (List ℕ × Mode)) (env : Env) → Holds m before inputs (e ∷ effects) env → now_of m env e ≡ then_of m before inputs e
now_same m before inputs e effects env h =
    λ i. effect_after e.1 (called_same m (held_of env) inputs (links_to m e.0) (h.links e.0) i) (reset_same m.reset (held_of env) inputs h.reset i) (h.own.0 i)

-- the inputs are no effects
pub record Inputs (m : MatrixValue) (effects : List (List ℕ × Mode)) : Type 0 where
  pub links : (effect : List ℕ) → Each (λ l. Away l.cause effects) (links_to m effect)
  pub reset : Each (λ r. Away r effects) (option_to_list m.reset)

pub held_other : (n o : List ℕ) (env : Env) (v : ℤ) → n ≢ o → held_of (with_number env o 0 v) n ≡ held_of env n
held_other n o env v apart = ap is_on (number_other n o env v apart)

links_rest : (env : Env) (e : List ℕ × Mode) (effects : List (List ℕ × Mode)) (v : ℤ) (inputs : List ℕ → Bool) (links : List Link) → Each (λ l. Away l.cause (e ∷ effects)) links → Each (λ l. held_of env l.cause ≡ inputs l.cause) links → Each (λ l. held_of (with_number env e.0 0 v) l.cause ≡ inputs l.cause) links
links_rest env e effects v inputs [] away h = tt
links_rest env e effects v inputs (l ∷ links) away h = (held_other l.cause e.0 env v away.0.0 ∙ h.0, links_rest env e effects v inputs links away.1 h.1)

names_rest : (env : Env) (e : List ℕ × Mode) (effects : List (List ℕ × Mode)) (v : ℤ) (inputs : List ℕ → Bool) (names : List (List ℕ)) → Each (λ r. Away r (e ∷ effects)) names → Each (λ r. held_of env r ≡ inputs r) names → Each (λ r. held_of (with_number env e.0 0 v) r ≡ inputs r) names
names_rest env e effects v inputs [] away h = tt
names_rest env e effects v inputs (n ∷ names) away h = (held_other n e.0 env v away.0.0 ∙ h.0, names_rest env e effects v inputs names away.1 h.1)

own_rest : (env : Env) (e : List ℕ × Mode) (effects : List (List ℕ × Mode)) (v : ℤ) (before : List ℕ → Bool) → Each (λ (x : List ℕ × Mode). x.0 ≢ e.0) effects → Each (λ x. held_of env x.0 ≡ before x.0) effects → Each (λ x. held_of (with_number env e.0 0 v) x.0 ≡ before x.0) effects
own_rest env e [] v before apart h = tt
own_rest env e (x ∷ effects) v before apart h = (held_other x.0 e.0 env v apart.0 ∙ h.0, own_rest env e effects v before apart.1 h.1)

holds_rest : (tags : List Tag) (m : MatrixValue) (before inputs : List ℕ → Bool) (e : List ℕ × Mode) (effects : List (List ℕ × Mode)) (env : Env) (v : ℤ) → Ready tags m (e ∷ effects) env → Inputs m (e ∷ effects) → Holds m before inputs (e ∷ effects) env → Holds m before inputs effects (with_number env e.0 0 v)
holds_rest tags m before inputs e effects env v r ins h = record {
  links = λ effect. links_rest env e effects v inputs (links_to m effect) (ins.links effect) (h.links effect);
  reset = names_rest env e effects v inputs (option_to_list m.reset) ins.reset h.reset;
  own = own_rest env e effects v before r.apart.0 h.own.1;
}

fewer : {X : Type 0} (f : X → List ℕ) (e : List ℕ × Mode) (effects : List (List ℕ × Mode)) (xs : List X) → Each (λ x. Away (f x) (e ∷ effects)) xs → Each (λ x. Away (f x) effects) xs
fewer f e effects [] h = tt
fewer f e effects (x ∷ xs) h = (h.0.1, fewer f e effects xs h.1)

inputs_rest : (m : MatrixValue) (e : List ℕ × Mode) (effects : List (List ℕ × Mode)) → Inputs m (e ∷ effects) → Inputs m effects
inputs_rest m e effects ins = record {
  links = λ effect. fewer (λ (l : Link). l.cause) e effects (links_to m effect) (ins.links effect);
  reset = fewer (λ (r : List ℕ). r) e effects (option_to_list m.reset) ins.reset;
}

away_from : (e : List ℕ × Mode) (effects : List (List ℕ × Mode)) → Each (λ (x : List ℕ × Mode). x.0 ≢ e.0) effects → Away e.0 effects
away_from e [] h = tt
away_from e (x ∷ effects) h = ((λ q. h.0 (sym q)), away_from e effects h.1)

-- each effect is what the matrix says
pub lines_do : (dt : ℤ) (tags : List Tag) (m : MatrixValue) (before inputs : List ℕ → Bool) (effects : List (List ℕ × Mode)) (place : ℕ) (env : Env) → Ready tags m effects env → BoolReset tags m.reset → BoolLinks tags m → Inputs m effects → Holds m before inputs effects env
    → Each (λ e. number_of (lines_env dt tags m place effects env) e.0 0 ≡ number (then_of m before inputs e)) effects
lines_do dt tags m before inputs [] place env r reset links ins h = tt
lines_do dt tags m before inputs (e ∷ effects) place env r reset links ins h =
    let v = number (now_of m env e) in
    let next = place + length (effect_text m e) in
    let more = line_more dt tags m e effects place env r.bools.0 reset (links e.0) in
    let rest = ready_rest tags m e effects env v r in
    let own : number_of (lines_env dt tags m next effects (line_env m env e)) e.0 0 ≡ number (then_of m before inputs e) =
    kept dt tags m effects next (line_env m env e) e.0 rest reset links (away_from e effects r.apart.0)
    ∙ (number_own e.0 env 0 v r.there.0 ∙ ap number (now_same m before inputs e effects env h)) in
    let others = lines_do dt tags m before inputs effects next (line_env m env e) rest reset links (inputs_rest m e effects ins) (holds_rest tags m before inputs e effects env v r ins h) in
    (ap (λ (x : Env). number_of x e.0 0) more ∙ own, along (sym more) others)
  where
    along : {x y : Env} → x ≡ y → Each (λ e. number_of x e.0 0 ≡ number (then_of m before inputs e)) effects → Each (λ e. number_of y e.0 0 ≡ number (then_of m before inputs e)) effects
    along q each = subst (λ (z : Env). Each (λ e. number_of z e.0 0 ≡ number (then_of m before inputs e)) effects) q each
