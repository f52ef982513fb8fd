-- Bytes spell one matrix, or are refused at one line for one cause, and never both.
use Rattle.std.proofs.Common.{◌≡◌, ℕ, ◌+◌, ◌<◌, ◌≤◌, List, length, take, get_or, [], Option, Some, Result, Ok, Err, sym, ap, ◌∙◌, subst, arith, ◌⊎◌, inl, inr}
use Rattle.std.proofs.lemmas.Bool.{cases_order}
use Rattle.tri_base.specs.Limits.{text_limit}
use Rattle.cause_effect.specs.declared.fault.MatrixCause.{MatrixCause}
use Rattle.cause_effect.specs.Matrices.{MatrixValue}
use Rattle.cause_effect.specs.Programs.{program_of}
use Rattle.cause_effect.specs.Standing.{Standing, after}
use Rattle.cause_effect.specs.Spells.{Spells, IsFault, IsFirstFault, come_to, contents_of}
use Rattle.tricon.specs.Readings.{IsLarge, MatrixOutput, MatrixRefused}
use Rattle.tricon.specs.declared.status.RefusedCause.{RefusedCause}
use Rattle.tricon.specs.declared.status.RefusedCause.TheVariants.{Script, Program, Matrix, MatrixTooLarge}
use Rattle.tricon.proofs.Fronts.{start_begins, shorter_begins, all_begins}

one_ok : (r : Result Standing MatrixCause) (s t : Standing) → r ≡ Ok s → r ≡ Ok t → s ≡ t
one_ok r s t h k = let both : ◌≡◌ {A = Result Standing MatrixCause} (Ok s) (Ok t) = sym h ∙ k in cc

one_err : (r : Result Standing MatrixCause) (c d : MatrixCause) → r ≡ Err c → r ≡ Err d → c ≡ d
one_err r c d h k = let both : ◌≡◌ {A = Result Standing MatrixCause} (Err c) (Err d) = sym h ∙ k in cc

-- the same lines spell one matrix
one_matrix : (lines : List (List ℕ)) (a b : MatrixValue) → Spells lines a → Spells lines b → a ≡ b
one_matrix lines a b h k = ap (λ (s : Standing). s.matrix) (one_ok (come_to lines) _ _ h k)

-- lines that spell a matrix have no fault
no_fault : (lines : List (List ℕ)) (m : MatrixValue) (line : ℕ) (cause : MatrixCause) → Spells lines m → IsFault lines line cause → ⊥
no_fault lines m line cause a (inl f) = f.2.none (start_begins Spells (f.0 + 1) lines m a)
no_fault lines m line cause a (inr f) = f.2.none m a

-- two first faults stand in one line
one_place : (lines : List (List ℕ)) (i j : ℕ) (c d : MatrixCause) → IsFirstFault lines i c → IsFirstFault lines j d → i ≡ j
one_place lines i j c d a b = by (cases_order i j)
  where
    by : (i ≡ j) ⊎ ((i < j) ⊎ (j < i)) → i ≡ j
    by (inl same) = same
    by (inr (inl less)) = absurd (a.none (shorter_begins Spells (i + 1) j lines (omega (arith, less)) b.before))
    by (inr (inr more)) = absurd (b.none (shorter_begins Spells (j + 1) i lines (omega (arith, more)) a.before))

-- and have one cause
one_cause : (lines : List (List ℕ)) (i j : ℕ) (c d : MatrixCause) → i ≡ j → IsFirstFault lines i c → IsFirstFault lines j d → c ≡ d
one_cause lines i j c d same a b =
    let stands : come_to (take i lines) ≡ Ok b.standing = subst (λ (k : ℕ). come_to (take k lines) ≡ Ok b.standing) (sym same) b.stands in
    let standing = one_ok _ a.standing b.standing a.stands stands in
    let broken : after a.standing (get_or lines i []) ≡ Err d = ap (λ (s : Standing). after s (get_or lines i [])) standing ∙ (ap (λ (k : ℕ). after b.standing (get_or lines k [])) same ∙ b.broken) in
    one_err _ c d a.broken broken

-- the fault of lines, and its cause
one_fault : (lines : List (List ℕ)) (l m : ℕ) (c d : MatrixCause) → IsFault lines l c → IsFault lines m d → (l ≡ m) × (c ≡ d)
one_fault lines l m c d (inl a) (inl b) =
    let same = one_place lines a.0 b.0 c d a.2 b.2 in
    (a.1 ∙ (ap (λ (k : ℕ). k + 1) same ∙ sym b.1), one_cause lines a.0 b.0 c d same a.2 b.2)
one_fault lines l m c d (inl a) (inr b) = absurd (a.2.none (all_begins Spells (a.0 + 1) lines b.2.before))
one_fault lines l m c d (inr a) (inl b) = absurd (b.2.none (all_begins Spells (b.0 + 1) lines a.2.before))
one_fault lines l m c d (inr a) (inr b) = (a.0 ∙ sym b.0, a.1 ∙ sym b.1)

one_large : (bytes : List ℕ) (l m x y : ℕ) → IsLarge bytes l x → IsLarge bytes m y → (l ≡ m) × (x ≡ y)
one_large bytes l m x y a b =
    let same = one_matrix (contents_of bytes) a.matrix b.matrix a.spells b.spells in
    (a.line_is ∙ sym b.line_is, a.count_is ∙ (ap (λ (v : MatrixValue). length (program_of v)) same ∙ sym b.count_is))

-- bytes are refused at one line for one cause
pub one_refusal : (bytes : List ℕ) (l m : ℕ) (c d : RefusedCause) → MatrixRefused bytes l c → MatrixRefused bytes m d → (l ≡ m) × (c ≡ d)
one_refusal bytes l m (Script c) d a b = absurd a
one_refusal bytes l m (Program r) d a b = absurd a
one_refusal bytes l m (Matrix c) (Script d) a b = absurd b
one_refusal bytes l m (Matrix c) (Program r) a b = absurd b
one_refusal bytes l m (Matrix c) (Matrix d) a b = let same = one_fault (contents_of bytes) l m c d a b in (same.0, ap (λ (x : MatrixCause). Matrix x) same.1)
one_refusal bytes l m (Matrix c) (MatrixTooLarge n) a b = absurd (no_fault (contents_of bytes) b.matrix l c b.spells a)
one_refusal bytes l m (MatrixTooLarge n) (Script d) a b = absurd b
one_refusal bytes l m (MatrixTooLarge n) (Program r) a b = absurd b
one_refusal bytes l m (MatrixTooLarge n) (Matrix d) a b = absurd (no_fault (contents_of bytes) a.matrix m d a.spells b)
one_refusal bytes l m (MatrixTooLarge x) (MatrixTooLarge y) a b = let same = one_large bytes l m x y a b in (same.0, ap (λ (n : ℕ). MatrixTooLarge n) same.1)

-- bytes that have a program aren't
pub not_refused : (bytes : List ℕ) (uncalm : Option ℕ) (output : List ℕ) (line : ℕ) (cause : RefusedCause) → MatrixOutput bytes uncalm output → MatrixRefused bytes line cause → ⊥
not_refused bytes uncalm output line (Script c) a b = b
not_refused bytes uncalm output line (Program r) a b = b
not_refused bytes uncalm output line (Matrix c) a b = no_fault (contents_of bytes) a.matrix line c a.spells b
not_refused bytes uncalm output line (MatrixTooLarge n) a b =
    let same = one_matrix (contents_of bytes) a.matrix b.matrix a.spells b.spells in
    let size : length (program_of a.matrix) ≡ n = ap (λ (v : MatrixValue). length (program_of v)) same ∙ sym b.count_is in
    omega (arith, size, a.fits, b.large)
