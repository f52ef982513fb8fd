-- Refusals that are meant.
use Rattle.std.proofs.Common.{◌≡◌, ◌≢◌, ℕ, List, Option, Some, None, Result, Ok, Err, sym, ap}
use Rattle.std.proofs.lemmas.Option.{same_Some, none-some}
use Rattle.tri_base.specs.declared.point.Point.{Point}
use Rattle.st_tree.specs.declared.program.Tree.{Tree}
use Rattle.download_change.specs.declared.fault.RenameFault.{RenameFault}
use Rattle.download_change.specs.declared.fault.RenameFault.TheVariants.{Unknown, Twice}
use Rattle.download_change.specs.Renames.{first_fault}
use Rattle.engine_face.specs.declared.refusal.Refusal.{Refusal}
use Rattle.engine_face.specs.declared.refusal.Refusal.TheVariants as r
use Rattle.engine_face.specs.Answers.{IsMeant, Builds}
use Rattle.engine_face.specs.Meaning.{first_refusal}
use Rattle.st_front.specs.FrontEnd.{IsProgram, IsRefused}
use Rattle.st_build.specs.Building.{IsRejected, program_of, refusal_in}
use Rattle.st_build.specs.Inner.Kept.{KeptProgram, IsCoded, Finishes, refusal_of_fault}
use Rattle.st_build.specs.Inner.Judged.{runs_is, refused_means, rejected_is}

-- a refusal is NoMemory, or it isn't
data Memory : Refusal → Type 0 where
  Out : Memory r.NoMemory
  In : {refusal : Refusal} → refusal ≢ r.NoMemory → ((meant : Option Refusal) → meant ≡ Some refusal → IsMeant meant refusal) → ((meant : Option Refusal) → IsMeant meant refusal → meant ≡ Some refusal) → Memory refusal

memory : (refusal : Refusal) → Memory refusal
memory r.TooLarge = In (λ e. absurd cc) (λ m e. e) (λ m e. e)
memory (r.Lex place cause) = In (λ e. absurd cc) (λ m e. e) (λ m e. e)
memory (r.TooDeep token) = In (λ e. absurd cc) (λ m e. e) (λ m e. e)
memory (r.Syntax token) = In (λ e. absurd cc) (λ m e. e) (λ m e. e)
memory (r.Typing fault) = In (λ e. absurd cc) (λ m e. e) (λ m e. e)
memory (r.TooManyWords words) = In (λ e. absurd cc) (λ m e. e) (λ m e. e)
memory (r.TooLong cost) = In (λ e. absurd cc) (λ m e. e) (λ m e. e)
memory (r.RenameUnknown name) = In (λ e. absurd cc) (λ m e. e) (λ m e. e)
memory (r.RenameTwice name) = In (λ e. absurd cc) (λ m e. e) (λ m e. e)
memory (r.KindChanged name) = In (λ e. absurd cc) (λ m e. e) (λ m e. e)
memory r.NoMemory = Out

pub meant_is : (meant : Option Refusal) (refusal : Refusal) → meant ≡ Some refusal → IsMeant meant refusal
meant_is meant refusal e = by refusal (memory refusal) e
  where
    by : (refusal : Refusal) → Memory refusal → meant ≡ Some refusal → IsMeant meant refusal
    by r.NoMemory Out e = tt
    by refusal (In some to from) e = to meant e

-- ---- of a text

pub rejected_meant : (points : List Point) (text : List ℕ) (refusal : Refusal) → IsRejected points text refusal → IsMeant (refusal_in (program_of points text)) refusal
rejected_meant points text refusal h = by refusal (memory refusal) h
  where
    by : (refusal : Refusal) → Memory refusal → IsRejected points text refusal → IsMeant (refusal_in (program_of points text)) refusal
    by r.NoMemory Out h = tt
    by refusal (In some to from) h = to (refusal_in (program_of points text)) (ap refusal_in (rejected_is points text refusal some h))

pub refused_meant : (points : List Point) (text : List ℕ) (refusal : Refusal) → IsRefused points text refusal → IsMeant (refusal_in (program_of points text)) refusal
refused_meant points text refusal h = rejected_meant points text refusal (refused_means points text refusal h)

uncoded : (points : List Point) (text : List ℕ) (tree : Tree) → IsProgram points text tree → (refusal : Refusal) → IsCoded tree (Err refusal) → IsRejected points text refusal
uncoded points text tree is r.TooLarge h = absurd h
uncoded points text tree is (r.Lex place cause) h = absurd h
uncoded points text tree is (r.TooDeep token) h = absurd h
uncoded points text tree is (r.Syntax token) h = absurd h
uncoded points text tree is (r.Typing fault) h = absurd h
uncoded points text tree is (r.TooManyWords words) h = absurd h
uncoded points text tree is (r.TooLong cost) h = record { tree = tree; is = is; dear = h.0; told = h.1 }
uncoded points text tree is (r.RenameUnknown name) h = absurd h
uncoded points text tree is (r.RenameTwice name) h = absurd h
uncoded points text tree is (r.KindChanged name) h = absurd h
uncoded points text tree is r.NoMemory h = tt

pub uncoded_meant : (points : List Point) (text : List ℕ) (tree : Tree) → IsProgram points text tree → (refusal : Refusal) → IsCoded tree (Err refusal)
    → IsMeant (refusal_in (program_of points text)) refusal
uncoded_meant points text tree is refusal h = rejected_meant points text refusal (uncoded points text tree is refusal h)

pub finished : (points : List Point) (text : List ℕ) (tree : Tree) → IsProgram points text tree → (answer : Result KeptProgram Refusal) → Finishes tree text answer
    → Builds (λ (p : KeptProgram). p.text) (refusal_in (program_of points text)) text answer
finished points text tree is (Ok program) h = (ap refusal_in (runs_is points text tree (record { is = is; cheap = h.0 })), h.1)
finished points text tree is (Err refusal) h = uncoded_meant points text tree is refusal h

-- ---- of a change

-- what is meant of the text is meant of the change
pub meant_first : (text : Option Refusal) (unknown twice kind : Option (List ℕ)) (refusal : Refusal) → IsMeant text refusal → IsMeant (first_refusal text unknown twice kind) refusal
meant_first text unknown twice kind refusal h = by refusal (memory refusal) h
  where
    by : (refusal : Refusal) → Memory refusal → IsMeant text refusal → IsMeant (first_refusal text unknown twice kind) refusal
    by r.NoMemory Out h = tt
    by refusal (In some to from) h = to (first_refusal text unknown twice kind) (ap (λ o. first_refusal o unknown twice kind) (from text h))

pub fault_first : (fault : RenameFault) (unknown twice kind : Option (List ℕ)) → Some fault ≡ first_fault unknown twice
    → Some (refusal_of_fault fault) ≡ first_refusal None unknown twice kind
fault_first fault (Some n) twice kind e = ap (λ f. Some (refusal_of_fault f)) (same_Some fault (Unknown n) e)
fault_first fault None (Some n) kind e = ap (λ f. Some (refusal_of_fault f)) (same_Some fault (Twice n) e)
fault_first fault None None kind e = absurd (none-some fault (sym e))

pub changed_first : (unknown twice kind : Option (List ℕ)) (o : Option Refusal) → None ≡ first_fault unknown twice
    → o ≡ first_refusal None None None kind → o ≡ first_refusal None unknown twice kind
changed_first (Some n) twice kind o e h = absurd (none-some (Unknown n) e)
changed_first None (Some n) kind o e h = absurd (none-some (Twice n) e)
changed_first None None kind o e h = h
