-- Nobody has to believe what stands here: it serves the implementation of a trait alone.
-- The function says what the relations say.
use Rattle.std.proofs.Common.{◌≡◌, ◌≢◌, ℕ, min, pos, nat_lt, Bool, true, false, if◌then◌else◌, List, Some, None, Result, Ok, Err, refl, sym, ap, ◌∙◌, subst}
use Rattle.std.proofs.lemmas.Bool.{ltb-true, ltb-false, lt-ltb, le-ltb}
use Rattle.std.proofs.lemmas.Option.{none-some, same_Some}
use Rattle.tri_base.specs.declared.point.Point.{Point}
use Rattle.st_tree.specs.declared.program.Tree.{Tree}
use Rattle.st_meaning.specs.Programs.{program_cost}
use Rattle.code_size.specs.Limits.{greatest_told}
use Rattle.scan_code.specs.Limits.{cost_limit}
use Rattle.engine_face.specs.declared.refusal.Refusal.{Refusal}
use Rattle.engine_face.specs.declared.refusal.Refusal.TheVariants as r
use Rattle.engine_face.specs.Laws.{IsOfText}
use Rattle.st_front.specs.FrontEnd.{IsProgram, IsRefused}
use Rattle.st_front.specs.Judging.{front_of}
use Rattle.st_front.proofs.Judges.{front_is}
use Rattle.st_build.specs.Building.{Runs, IsTooLong, IsRejected, program_of, program_of_front, refusal_in}
use Rattle.st_build.specs.Laws.{ProgramIs}

-- what an answer says of a text
abbrev Means : List Point → List ℕ → Result Tree Refusal → Type 0
Means points text (Ok tree) = Runs points text tree
Means points text (Err refusal) = IsRejected points text refusal

cost_means : (points : List Point) (text : List ℕ) (tree : Tree) → IsProgram points text tree → (b : Bool) → nat_lt cost_limit (program_cost tree) ≡ b
    → Means points text (if b then Err (r.TooLong (pos (min (program_cost tree) greatest_told))) else Ok tree)
cost_means points text tree is true e = record { tree = tree; is = is; dear = ltb-true cost_limit (program_cost tree) e; told = refl }
cost_means points text tree is false e = record { is = is; cheap = ltb-false cost_limit (program_cost tree) e }

-- what the front end refuses is rejected
pub refused_means : (points : List Point) (text : List ℕ) (refusal : Refusal) → IsRefused points text refusal → IsRejected points text refusal
refused_means points text r.TooLarge h = h
refused_means points text (r.Lex place cause) h = h
refused_means points text (r.TooDeep token) h = h
refused_means points text (r.Syntax token) h = h
refused_means points text (r.Typing fault) h = h
refused_means points text (r.TooManyWords words) h = h
refused_means points text (r.TooLong cost) h = absurd h
refused_means points text (r.RenameUnknown name) h = h
refused_means points text (r.RenameTwice name) h = h
refused_means points text (r.KindChanged name) h = h
refused_means points text r.NoMemory h = h

front_means : (points : List Point) (text : List ℕ) (a : Result Tree Refusal) → front_of points text ≡ a → Means points text (program_of_front a)
front_means points text (Ok tree) e = cost_means points text tree (((front_is points text).program tree).0 e) (nat_lt cost_limit (program_cost tree)) refl
front_means points text (Err refusal) e =
    refused_means points text refusal (((front_is points text).refused refusal (λ same. (front_is points text).memory (e ∙ ap Err same))).0 e)

pub text_means : (points : List Point) (text : List ℕ) → Means points text (program_of points text)
unfolding program_of
text_means points text = front_means points text (front_of points text) refl

pub runs_is : (points : List Point) (text : List ℕ) (tree : Tree) → Runs points text tree → program_of points text ≡ Ok tree
unfolding program_of
runs_is points text tree h =
    ap program_of_front (((front_is points text).program tree).1 h.is)
    ∙ ap (λ b. if b then Err (r.TooLong (pos (min (program_cost tree) greatest_told))) else Ok tree) (le-ltb cost_limit (program_cost tree) h.cheap)

too_long_is : (points : List Point) (text : List ℕ) (cost : _) → IsTooLong points text cost → program_of points text ≡ Err (r.TooLong cost)
unfolding program_of
too_long_is points text cost h =
    ap program_of_front (((front_is points text).program h.tree).1 h.is)
    ∙ (ap (λ b. if b then Err (r.TooLong (pos (min (program_cost h.tree) greatest_told))) else Ok h.tree) (lt-ltb cost_limit (program_cost h.tree) h.dear)
    ∙ ap (λ n. Err (r.TooLong n)) (sym h.told))

refused_is : (points : List Point) (text : List ℕ) (refusal : Refusal) → refusal ≢ r.NoMemory → IsRefused points text refusal → program_of points text ≡ Err refusal
unfolding program_of
refused_is points text refusal some h = ap program_of_front (((front_is points text).refused refusal some).1 h)

pub rejected_is : (points : List Point) (text : List ℕ) (refusal : Refusal) → refusal ≢ r.NoMemory → IsRejected points text refusal → program_of points text ≡ Err refusal
rejected_is points text r.TooLarge some h = refused_is points text r.TooLarge some h
rejected_is points text (r.Lex place cause) some h = refused_is points text (r.Lex place cause) some h
rejected_is points text (r.TooDeep token) some h = refused_is points text (r.TooDeep token) some h
rejected_is points text (r.Syntax token) some h = refused_is points text (r.Syntax token) some h
rejected_is points text (r.Typing fault) some h = refused_is points text (r.Typing fault) some h
rejected_is points text (r.TooManyWords words) some h = refused_is points text (r.TooManyWords words) some h
rejected_is points text (r.TooLong cost) some h = too_long_is points text cost h
rejected_is points text (r.RenameUnknown name) some h = absurd h
rejected_is points text (r.RenameTwice name) some h = absurd h
rejected_is points text (r.KindChanged name) some h = absurd h
rejected_is points text r.NoMemory some h = absurd (some refl)

no_memory_in : (points : List Point) (text : List ℕ) (a : Result Tree Refusal) → front_of points text ≡ a → program_of_front a ≢ Err r.NoMemory
no_memory_in points text (Ok tree) e = by (nat_lt cost_limit (program_cost tree))
  where
    by : (b : Bool) → (if b then Err (r.TooLong (pos (min (program_cost tree) greatest_told))) else Ok tree) ≢ Err r.NoMemory
    by true = λ same. absurd cc
    by false = λ same. absurd cc
no_memory_in points text (Err refusal) e = λ same. (front_is points text).memory (e ∙ same)

pub never_memory : (points : List Point) (text : List ℕ) → program_of points text ≢ Err r.NoMemory
unfolding program_of
never_memory points text = no_memory_in points text (front_of points text) refl

pub program_is : (points : List Point) (text : List ℕ) → ProgramIs points text
program_is points text = record {
  program = λ tree. ((λ e. subst (Means points text) e (text_means points text)), runs_is points text tree);
  rejected = λ refusal some. ((λ e. subst (Means points text) e (text_means points text)), rejected_is points text refusal some);
  memory = never_memory points text;
}

-- ---- the answer None

built_in : (a : Result Tree Refusal) → refusal_in a ≡ None → (tree : Tree) × (a ≡ Ok tree)
built_in (Ok tree) e = (tree, refl)
built_in (Err refusal) e = absurd (none-some refusal (sym e))

-- a text that isn't rejected is a program that runs
pub built : (points : List Point) (text : List ℕ) → refusal_in (program_of points text) ≡ None → (tree : Tree) × (program_of points text ≡ Ok tree) × Runs points text tree
built points text e =
    let found = built_in (program_of points text) e in
    (found.0, found.1, ((program_is points text).program found.0).0 found.1)

-- a text is rejected for what is wrong with a text
rejected_of_text : (points : List Point) (text : List ℕ) (refusal : Refusal) → refusal ≢ r.NoMemory → IsRejected points text refusal → IsOfText refusal
rejected_of_text points text r.TooLarge some h = tt
rejected_of_text points text (r.Lex place cause) some h = tt
rejected_of_text points text (r.TooDeep token) some h = tt
rejected_of_text points text (r.Syntax token) some h = tt
rejected_of_text points text (r.Typing fault) some h = tt
rejected_of_text points text (r.TooManyWords words) some h = tt
rejected_of_text points text (r.TooLong cost) some h = tt
rejected_of_text points text (r.RenameUnknown name) some h = h
rejected_of_text points text (r.RenameTwice name) some h = h
rejected_of_text points text (r.KindChanged name) some h = h
rejected_of_text points text r.NoMemory some h = some refl

err_in : (a : Result Tree Refusal) (refusal : Refusal) → refusal_in a ≡ Some refusal → a ≡ Err refusal
err_in (Ok tree) refusal e = absurd (none-some refusal e)
err_in (Err other) refusal e = ap Err (same_Some other refusal e)

pub refused_of_text : (points : List Point) (text : List ℕ) (refusal : Refusal) → refusal_in (program_of points text) ≡ Some refusal → IsOfText refusal
refused_of_text points text refusal e =
    let err = err_in (program_of points text) refusal e in
    rejected_of_text points text refusal (λ same. never_memory points text (err ∙ ap Err same)) (subst (Means points text) err (text_means points text))
