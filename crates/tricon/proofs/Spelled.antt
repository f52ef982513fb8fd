-- Bytes spell one script, or are refused at one line for one cause, and never both.
use Rattle.std.proofs.Common.{◌≡◌, ℕ, ◌+◌, ◌-◌, ◌<◌, ◌≤◌, List, ◌++◌, take, drop, get_or, [], Option, Some, None, Result, Ok, Err, refl, sym, ap, ◌∙◌, subst, append_assoc, arith, ◌⊎◌, inl, inr}
use Rattle.std.proofs.lemmas.Bool.{cases_order}
use Rattle.std.proofs.lemmas.Option.{same_Some}
use Rattle.engine_face.specs.declared.refusal.Refusal.{Refusal}
use Rattle.script_text.specs.declared.fault.ScriptCause.{ScriptCause}
use Rattle.script_text.specs.ScriptValue.{ReadScript, ScriptValue}
use Rattle.script_text.specs.Standing.{Standing, after}
use Rattle.script_text.specs.Spells.{Spells, IsFault, IsFirstFault, come_to, contents_of, script_in}
use Rattle.plant_script.specs.FirstRefused.{first_refused_of}
use Rattle.script_commands.specs.declared.script_command.ScriptCommand.{ScriptCommand}
use Rattle.engine_face.specs.Meaning.{Meaning}
use Rattle.plant_script.specs.Calm.{IsFirstUncalm}
use Rattle.st_build.specs.StructuredText.{structured_text}
use Rattle.step_play.specs.Stepping.{stuck_letter}
use Rattle.script_commands.specs.declared.script_command.ScriptCommand.TheVariants.{Single, Step, Play}
use Rattle.script_commands.specs.Outputs.{IsOutputOf, IsStuckAt}
use Rattle.tricon.specs.Readings.{ScriptOutput, ScriptRefused, ScriptStuck, meaning_over}
use Rattle.tricon.proofs.Fronts.{start_begins, shorter_begins, all_begins}
use Rattle.tricon.specs.declared.status.RefusedCause.{RefusedCause}
use Rattle.tricon.specs.declared.status.RefusedCause.TheVariants.{Script, Program, Matrix, MatrixTooLarge}

one_ok : (r : Result Standing ScriptCause) (s t : Standing) → r ≡ Ok s → r ≡ Ok t → s ≡ t
one_ok r s t h k = let both : ◌≡◌ {A = Result Standing ScriptCause} (Ok s) (Ok t) = sym h ∙ k in cc

-- the same lines spell one script
pub one_script : (lines : List (List ℕ)) (s t : ReadScript) → Spells lines s → Spells lines t → s ≡ t
one_script lines s t a b = a.says ∙ (ap script_in (one_ok _ a.standing b.standing a.good b.good) ∙ sym b.says)

-- lines that spell a script have no fault
pub no_fault : (lines : List (List ℕ)) (s : ReadScript) (line : ℕ) (cause : ScriptCause) → Spells lines s → IsFault lines line cause → ⊥
no_fault lines s line cause a (inl f) = f.2.none (start_begins Spells (f.0 + 1) lines s a)
no_fault lines s line cause a (inr f) = f.2.none s a

-- two first faults stand in one line
one_place : (lines : List (List ℕ)) (i j : ℕ) (c d : ScriptCause) → IsFirstFault lines i c → IsFirstFault lines j d → i ≡ j
one_place lines i j c d a b = by (cases_order i j)
  where
    by : (i ≡ j) ⊎ ((i < j) ⊎ (j < i)) → i ≡ j
    by (inl same) = same
    by (inr (inl less)) = absurd (a.none (shorter_begins Spells (i + 1) j lines (omega (arith, less)) b.before))
    by (inr (inr more)) = absurd (b.none (shorter_begins Spells (j + 1) i lines (omega (arith, more)) a.before))

one_err : (r : Result Standing ScriptCause) (c d : ScriptCause) → r ≡ Err c → r ≡ Err d → c ≡ d
one_err r c d h k = let both : ◌≡◌ {A = Result Standing ScriptCause} (Err c) (Err d) = sym h ∙ k in cc

-- and have one cause
one_cause : (lines : List (List ℕ)) (i j : ℕ) (c d : ScriptCause) → i ≡ j → IsFirstFault lines i c → IsFirstFault lines j d → c ≡ d
one_cause lines i j c d same a b =
    let behind : come_to (take i lines) ≡ Ok b.standing = subst (λ (k : ℕ). come_to (take k lines) ≡ Ok b.standing) (sym same) b.behind in
    let standing = one_ok _ a.standing b.standing a.behind behind in
    let broken : after a.standing (get_or lines i []) ≡ Err d = ap (λ (s : Standing). after s (get_or lines i [])) standing ∙ (ap (λ (k : ℕ). after b.standing (get_or lines k [])) same ∙ b.broken) in
    one_err _ c d a.broken broken

-- the fault of lines, and its cause
pub one_fault : (lines : List (List ℕ)) (l m : ℕ) (c d : ScriptCause) → IsFault lines l c → IsFault lines m d → (l ≡ m) × (c ≡ d)
one_fault lines l m c d (inl a) (inl b) =
    let same = one_place lines a.0 b.0 c d a.2 b.2 in
    (a.1 ∙ (ap (λ (k : ℕ). k + 1) same ∙ sym b.1), one_cause lines a.0 b.0 c d same a.2 b.2)
one_fault lines l m c d (inl a) (inr b) = absurd (a.2.none (all_begins Spells (a.0 + 1) lines b.2.before))
one_fault lines l m c d (inr a) (inl b) = absurd (b.2.none (all_begins Spells (b.0 + 1) lines a.2.before))
one_fault lines l m c d (inr a) (inr b) = (a.0 ∙ sym b.0, a.1 ∙ sym b.1)

-- of one script, its first refused block
one_block : (s t : ReadScript) (l m : ℕ) (r q : Refusal) → s ≡ t → first_refused_of (meaning_over s) s ≡ Some (l, r) → first_refused_of (meaning_over t) t ≡ Some (m, q) → (l ≡ m) × (r ≡ q)
one_block s t l m r q same h k =
    let moved : first_refused_of (meaning_over s) s ≡ Some (m, q) = ap (λ (x : ReadScript). first_refused_of (meaning_over x) x) same ∙ k in
    let both = same_Some (l, r) (m, q) (sym h ∙ moved) in
    (ap (λ (pair : ℕ × Refusal). pair.0) both, ap (λ (pair : ℕ × Refusal). pair.1) both)

-- bytes are refused at one line for one cause
pub one_refusal : (bytes : List ℕ) (l m : ℕ) (c d : RefusedCause) → ScriptRefused bytes l c → ScriptRefused bytes m d → (l ≡ m) × (c ≡ d)
one_refusal bytes l m (Script c) (Script d) a b = let same = one_fault (contents_of bytes) l m c d a b in (same.0, ap (λ (x : ScriptCause). Script x) same.1)
one_refusal bytes l m (Script c) (Program r) a b = absurd (no_fault (contents_of bytes) b.script l c b.spells a)
one_refusal bytes l m (Program r) (Script d) a b = absurd (no_fault (contents_of bytes) a.script m d a.spells b)
one_refusal bytes l m (Matrix c) d a b = absurd a
one_refusal bytes l m (MatrixTooLarge n) d a b = absurd a
one_refusal bytes l m (Script c) (Matrix d) a b = absurd b
one_refusal bytes l m (Script c) (MatrixTooLarge n) a b = absurd b
one_refusal bytes l m (Program r) (Matrix d) a b = absurd b
one_refusal bytes l m (Program r) (MatrixTooLarge n) a b = absurd b
one_refusal bytes l m (Program r) (Program q) a b =
    let same = one_block a.script b.script l m r q (one_script (contents_of bytes) a.script b.script a.spells b.spells) a.first b.first in
    (same.0, ap (λ (x : Refusal). Program x) same.1)

-- bytes that spell a script whose blocks all build aren't refused
playable_not_refused : (bytes : List ℕ) (script : ReadScript) (line : ℕ) (cause : RefusedCause) → Spells (contents_of bytes) script → first_refused_of (meaning_over script) script ≡ None → ScriptRefused bytes line cause → ⊥
playable_not_refused bytes script line (Script c) spells builds b = no_fault (contents_of bytes) script line c spells b
playable_not_refused bytes script line (Matrix c) spells builds b = b
playable_not_refused bytes script line (MatrixTooLarge n) spells builds b = b
playable_not_refused bytes script line (Program r) spells builds b =
    let same = one_script (contents_of bytes) script b.script spells b.spells in
    let none : first_refused_of (meaning_over b.script) b.script ≡ None = subst (λ (x : ReadScript). first_refused_of (meaning_over x) x ≡ None) same builds in
    let both : ◌≡◌ {A = Option (ℕ × Refusal)} None (Some (line, r)) = sym none ∙ b.first in
    absurd (cc)

-- bytes that have an output aren't
pub not_refused : (command : ScriptCommand) (bytes : List ℕ) (uncalm : Option ℕ) (output : List ℕ) (line : ℕ) (cause : RefusedCause) → ScriptOutput command bytes uncalm output → ScriptRefused bytes line cause → ⊥
not_refused command bytes uncalm output line cause a b = playable_not_refused bytes a.script line cause a.spells a.builds b

-- nor are those whose schedule is stuck
pub stuck_not_refused : (command : ScriptCommand) (bytes : List ℕ) (letter line : ℕ) (cause : RefusedCause) → ScriptStuck command bytes letter → ScriptRefused bytes line cause → ⊥
stuck_not_refused command bytes letter line cause a b = playable_not_refused bytes a.script line cause a.spells a.builds b

-- ---- how a script is played

-- one first scan that isn't calm
one_uncalm : (m : Meaning) (v : ScriptValue) (a b : Option ℕ) → IsFirstUncalm m v a → IsFirstUncalm m v b → a ≡ b
one_uncalm m v None None h k = refl
one_uncalm m v None (Some t) h k = absurd (k.3 (h t k.0 k.1))
one_uncalm m v (Some s) None h k = absurd (h.3 (k s h.0 h.1))
one_uncalm m v (Some s) (Some t) h k = by (cases_order s t)
  where
    by : (s ≡ t) ⊎ ((s < t) ⊎ (t < s)) → Some s ≡ Some t
    by (inl same) = ap (λ (x : ℕ). Some x) same
    by (inr (inl less)) = absurd (h.3 (k.2 s less s h.0 (omega arith)))
    by (inr (inr more)) = absurd (k.3 (h.2 t more t k.0 (omega arith)))

-- of a script
one_end_of : (command : ScriptCommand) (s t : ReadScript) (a b : Option ℕ) (x y : List ℕ) → s ≡ t → IsOutputOf command structured_text s.value a x → IsOutputOf command structured_text t.value b y → a ≡ b
one_end_of (Single command) s t a b x y same h k = h.0 ∙ sym k.0
one_end_of Step s t a b x y same h k =
    one_uncalm (structured_text t.value.points) t.value a b
    (subst (λ (r : ReadScript). IsFirstUncalm (structured_text r.value.points) r.value a) same h.first) k.first
one_end_of (Play command) s t a b x y same h k =
    one_uncalm (structured_text t.value.points) t.value a b
    (subst (λ (r : ReadScript). IsFirstUncalm (structured_text r.value.points) r.value a) same h.0) k.0

-- bytes have one first scan that isn't calm
pub one_end : (command : ScriptCommand) (bytes : List ℕ) (a b : Option ℕ) (x y : List ℕ) → ScriptOutput command bytes a x → ScriptOutput command bytes b y → a ≡ b
one_end command bytes a b x y h k =
    one_end_of command h.script k.script a b x y (one_script (contents_of bytes) h.script k.script h.spells k.spells) h.is k.is

not_stuck_of : (command : ScriptCommand) (s t : ReadScript) (a : Option ℕ) (x : List ℕ) (letter : ℕ) → s ≡ t → IsOutputOf command structured_text s.value a x → IsStuckAt command structured_text t.value letter → ⊥
not_stuck_of (Single command) s t a x letter same h k = k
not_stuck_of (Play command) s t a x letter same h k = k
not_stuck_of Step s t a x letter same h k =
    let goes : stuck_letter structured_text t.value ≡ None = subst (λ (r : ReadScript). stuck_letter structured_text r.value ≡ None) same h.goes in
    let both : ◌≡◌ {A = Option ℕ} None (Some letter) = sym goes ∙ k in
    absurd (cc)

-- bytes that have an output aren't stuck
pub not_stuck : (command : ScriptCommand) (bytes : List ℕ) (a : Option ℕ) (x : List ℕ) (letter : ℕ) → ScriptOutput command bytes a x → ScriptStuck command bytes letter → ⊥
not_stuck command bytes a x letter h k =
    not_stuck_of command h.script k.script a x letter (one_script (contents_of bytes) h.script k.script h.spells k.spells) h.is k.at

one_letter_of : (command : ScriptCommand) (s t : ReadScript) (l k : ℕ) → s ≡ t → IsStuckAt command structured_text s.value l → IsStuckAt command structured_text t.value k → l ≡ k
one_letter_of (Single command) s t l k same h j = absurd h
one_letter_of (Play command) s t l k same h j = absurd h
one_letter_of Step s t l k same h j =
    let at : stuck_letter structured_text t.value ≡ Some l = subst (λ (r : ReadScript). stuck_letter structured_text r.value ≡ Some l) same h in
    let both = same_Some l k (sym at ∙ j) in
    both

-- bytes are stuck at one letter
pub one_letter : (command : ScriptCommand) (bytes : List ℕ) (l k : ℕ) → ScriptStuck command bytes l → ScriptStuck command bytes k → l ≡ k
one_letter command bytes l k h j =
    one_letter_of command h.script j.script l k (one_script (contents_of bytes) h.script j.script h.spells j.spells) h.at j.at
