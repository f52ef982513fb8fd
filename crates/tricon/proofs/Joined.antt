-- Texts written piece by piece.
use Rattle.std.proofs.Common.{◌≡◌, ℕ, List, [], ◌++◌, Result, OnOk, ap, sym, subst, ◌∙◌, append_assoc}
use Rattle.tricon.specs.Statuses.{cause_text, status_text}
use Rattle.tricon.specs.declared.status.Status.{Status}
use Rattle.tricon.specs.declared.status.RefusedCause.{RefusedCause}

-- five pieces, one behind the other
pub five_pieces : (t0 t1 t2 t3 t4 t5 whole a b c d e : List ℕ) → t0 ≡ [] → t1 ≡ t0 ++ a → t2 ≡ t1 ++ b → t3 ≡ t2 ++ c → t4 ≡ t3 ++ d → t5 ≡ t4 ++ e → whole ≡ t5 → whole ≡ a ++ (b ++ (c ++ (d ++ e)))
five_pieces t0 t1 t2 t3 t4 t5 whole a b c d e h0 h1 h2 h3 h4 h5 h =
    h ∙ (h5 ∙ (ap (λ l. l ++ e) (h4 ∙ ap (λ l. l ++ d) (h3 ∙ ap (λ l. l ++ c) (h2 ∙ ap (λ l. l ++ b) (h1 ∙ ap (λ l. l ++ a) h0)))) ∙ simp append_assoc))

-- the line of a status that is known
pub told : {T E : Type 0} (r : Result T E) (status known : Status) (old new line : List ℕ) → status ≡ known
    → OnOk r (new ≡ old ++ line) → line ≡ status_text known → OnOk r (new ≡ old ++ status_text status)
told r status known old new line e h same =
    subst (λ (l : List ℕ). OnOk r (new ≡ old ++ l)) (same ∙ ap status_text (sym e)) h

-- the text of a cause that is known, in two pieces
pub caused : {T E : Type 0} (r : Result T E) (cause known : RefusedCause) (old mid new a b : List ℕ) → cause ≡ known
    → mid ≡ old ++ a → OnOk r (new ≡ mid ++ b) → a ++ b ≡ cause_text known → OnOk r (new ≡ old ++ cause_text cause)
caused r cause known old mid new a b e h k same =
    subst (λ (l : List ℕ). OnOk r (new ≡ l))
    (ap (λ (l : List ℕ). l ++ b) h ∙ (append_assoc old a b ∙ ap (λ (l : List ℕ). old ++ l) (same ∙ ap cause_text (sym e)))) k
