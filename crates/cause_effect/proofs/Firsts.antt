-- What is read is a matrix, and a fault is the first one.
use Rattle.std.proofs.Common.{◌≡◌, ℕ, ◌+◌, ◌<◌, List, [], ◌∷◌, ◌++◌, length, map, fold, take, get_or, Option, Some, None, Result, Ok, Err, refl, sym, ap, ◌∙◌, subst, append_assoc, append-nil, length-append, arith, inl, inr, codes}
use Rattle.std.proofs.lemmas.List.Sums.{fold-append}
use Rattle.std.proofs.Math.Seq.{take-append_seam, get_or-append_seam}
use Rattle.std.proofs.lemmas.List.{take_more}
use Rattle.script_lines.specs.Lines.{lines_of, content_of}
use Rattle.cause_effect.specs.declared.fault.MatrixCause.{MatrixCause}
use Rattle.cause_effect.specs.declared.fault.MatrixCause.TheVariants.{End as EarlyEnd}
use Rattle.cause_effect.specs.declared.fault.MatrixFault.TheVariants.{At}
use Rattle.cause_effect.specs.declared.fault.LineFault.{LineFault}
use Rattle.cause_effect.specs.declared.fault.LineFault.TheVariants.{Cause as Caused, NoMemory as NoRoom}
use Rattle.cause_effect.specs.declared.keyword.Keyword.{Keyword}
use Rattle.cause_effect.specs.declared.keyword.Keyword.TheVariants.{Matrix, Cause, Effect, Reset, Link, End}
use Rattle.cause_effect.specs.Matrices.{MatrixValue}
use Rattle.cause_effect.specs.Standing.{Standing, beginning, after}
use Rattle.cause_effect.specs.Spells.{contents_of, goes_on, come_to, Begins, IsFirstFault, IsReading}
use Rattle.cause_effect.specs.Inner.Steps.{Steps, fault_at, finished}

-- ---- what lines come to, in two pieces

on : (xs ys : List (List ℕ)) (s : Standing) → come_to xs ≡ Ok s → come_to (xs ++ ys) ≡ fold goes_on (Ok s) ys
on xs ys s h = fold-append goes_on (Ok beginning) xs ys ∙ ap (λ r. fold goes_on r ys) h

pub one_more : (xs : List (List ℕ)) (line : List ℕ) (s : Standing) → come_to xs ≡ Ok s → come_to (xs ++ line ∷ []) ≡ after s line
one_more xs line s h = on xs (line ∷ []) s h

stays : (cause : MatrixCause) (ys : List (List ℕ)) → fold goes_on (Err cause) ys ≡ Err cause
stays cause [] = refl
stays cause (y ∷ ys) = stays cause ys

-- lines of which one is refused are no matrix
refuses : (xs ys : List (List ℕ)) (line : List ℕ) (s : Standing) (cause : MatrixCause) → come_to xs ≡ Ok s → after s line ≡ Err cause → come_to ((xs ++ line ∷ []) ++ ys) ≡ Err cause
refuses xs ys line s cause h bad =
    fold-append goes_on (Ok beginning) (xs ++ line ∷ []) ys ∙ (ap (λ r. fold goes_on r ys) (one_more xs line s h ∙ bad) ∙ stays cause ys)

-- ---- each standing goes on to a matrix

abbrev rest_of : Option Keyword → List (List ℕ)
rest_of None = codes "MATRIX 1" ∷ codes "END" ∷ []
rest_of (Some Matrix) = codes "END" ∷ []
rest_of (Some Cause) = codes "END" ∷ []
rest_of (Some Effect) = codes "END" ∷ []
rest_of (Some Reset) = codes "END" ∷ []
rest_of (Some Link) = codes "END" ∷ []
rest_of (Some End) = []

closes : (m : MatrixValue) (last : Option Keyword) → fold goes_on (Ok (record { last = last; matrix = m })) (rest_of last) ≡ Ok (record { last = Some End; matrix = m })
closes m None = refl
closes m (Some Matrix) = refl
closes m (Some Cause) = refl
closes m (Some Effect) = refl
closes m (Some Reset) = refl
closes m (Some Link) = refl
closes m (Some End) = refl

-- lines that come to something begin a matrix
begins : (lines : List (List ℕ)) (s : Standing) → come_to lines ≡ Ok s → Begins lines
begins lines s h = (rest_of s.last, s.matrix, on lines (rest_of s.last) s h ∙ closes s.matrix s.last)

same_ok : (s t : Standing) (r : Result Standing MatrixCause) → r ≡ Ok s → r ≡ Ok t → s ≡ t
same_ok s t r a b = let e : ◌≡◌ {A = Result Standing MatrixCause} (Ok s) (Ok t) = sym a ∙ b in cc

-- ---- the reading of a text, line by line

-- what was read of a text, in how many lines, and how it stands
pub record HasRead (text rest : List ℕ) (count : ℕ) (s : Standing) : Type 0 where
  pub lines : List (List ℕ)
  pub all : contents_of text ≡ lines ++ contents_of rest
  pub good : come_to lines ≡ Ok s
  pub counted : count ≡ length lines

pub at_first : (text : List ℕ) → HasRead text text 0 beginning
at_first text = record { lines = []; all = refl; good = refl; counted = refl }

next : (text rest line behind content : List ℕ) (lines : List (List ℕ)) → contents_of text ≡ lines ++ contents_of rest → lines_of rest ≡ line ∷ lines_of behind → content ≡ content_of line → contents_of text ≡ lines ++ content ∷ contents_of behind
next text rest line behind content lines all cut is = all ∙ ap (λ ls. lines ++ map content_of ls) cut ∙ ap (λ c. lines ++ c ∷ contents_of behind) (sym is)

pub accepted : (s t : Standing) (text rest line behind content : List ℕ) (count more : ℕ) → HasRead text rest count s → lines_of rest ≡ line ∷ lines_of behind → content ≡ content_of line → after s content ≡ Ok t → more ≡ count + 1 → HasRead text behind more t
accepted s t text rest line behind content count more h cut is good one = record {
  lines = h.lines ++ content ∷ [];
  all = next text rest line behind content h.lines h.all cut is ∙ sym (append_assoc h.lines (content ∷ []) (contents_of behind));
  good = one_more h.lines content s h.good ∙ good;
  counted = omega (arith, one, h.counted, length-append h.lines (content ∷ []));
}

first : (lines behind : List (List ℕ)) (content : List ℕ) (s : Standing) (cause : MatrixCause) → come_to lines ≡ Ok s → after s content ≡ Err cause → IsFirstFault (lines ++ content ∷ behind) (length lines) cause
first lines behind content s cause good bad =
    let all = lines ++ content ∷ behind in
    let seam : take (length lines) all ≡ lines = take-append_seam lines (content ∷ behind) in
    let here : get_or all (length lines) [] ≡ content = get_or-append_seam lines content behind [] in
    let within : length lines < length all = omega (arith, length-append lines (content ∷ behind)) in
    let cut : take (length lines + 1) all ≡ lines ++ content ∷ [] = take_more all (length lines) [] within ∙ (λ i. seam i ++ here i ∷ []) in
    record {
      there = within;
      before = subst Begins (sym seam) (begins lines s good);
      none = λ b.
          let wrong : ◌≡◌ {A = Result Standing MatrixCause} (Err cause) (Ok (record { last = Some End; matrix = b.1 })) = sym (ap (λ ls. come_to (ls ++ b.0)) cut ∙ refuses lines b.0 content s cause good bad) ∙ b.2 in
          cc;
      standing = s;
      stands = ap come_to seam ∙ good;
      broken = ap (after s) here ∙ bad;
    }

pub refused : (s : Standing) (text rest line behind content : List ℕ) (count : ℕ) (cause : MatrixCause) → HasRead text rest count s → lines_of rest ≡ line ∷ lines_of behind → content ≡ content_of line → after s content ≡ Err cause → IsReading text (Err (At (count + 1) cause))
refused s text rest line behind content count cause h cut is bad =
    let all = next text rest line behind content h.lines h.all cut is in
    inl (length h.lines, omega (arith, h.counted), subst (λ (ls : List (List ℕ)). IsFirstFault ls (length h.lines) cause) (sym all) (first h.lines (contents_of behind) content s cause h.good bad))

ended : (matrix : MatrixValue) (text rest : List ℕ) (count : ℕ) → HasRead text rest count (record { last = Some End; matrix = matrix }) → length rest ≡ 0 → IsReading text (Ok matrix)
ended matrix text [] count h none = ap come_to (h.all ∙ append-nil h.lines) ∙ h.good
ended matrix text (b ∷ bs) count h none = absurd (omega arith)

pub early : (s : Standing) (text rest : List ℕ) (count : ℕ) → HasRead text rest count s → length rest ≡ 0 → (s.last ≡ Some End → ⊥) → IsReading text (Err (At (count + 1) EarlyEnd))
early s text [] count h none wants =
    let all : contents_of text ≡ h.lines = h.all ∙ append-nil h.lines in
    inr (
      omega (arith, h.counted, ap length all),
      refl,
      record {
        before = subst Begins (sym all) (begins h.lines s h.good);
        none = λ matrix spells.
            let ends : Standing = record { last = Some End; matrix = matrix } in
            wants (sym (ap (λ (t : Standing). t.last) (same_ok ends s (come_to (contents_of text)) spells (ap come_to all ∙ h.good))));
      },
    )
early s text (b ∷ bs) count h none wants = absurd (omega arith)

-- the lines of a text that was read to its end
pub all_read : (s : Standing) (text rest : List ℕ) (count : ℕ) → HasRead text rest count s → length rest ≡ 0 → come_to (contents_of text) ≡ Ok s
all_read s text [] count h none = ap come_to (h.all ∙ append-nil h.lines) ∙ h.good
all_read s text (b ∷ bs) count h none = absurd (omega arith)

-- ---- as code says it

pub stopped : (s t : Standing) (text rest line behind content : List ℕ) (count : ℕ) (fault : LineFault) → HasRead text rest count s → lines_of rest ≡ line ∷ lines_of behind → content ≡ content_of line → Steps {T = Unit {0}} (after s content) (Err fault) t → IsReading text (Err (fault_at (count + 1) fault))
stopped s t text rest line behind content count (Caused cause) h cut is bad = refused s text rest line behind content count cause h cut is bad
stopped s t text rest line behind content count NoRoom h cut is bad = tt

by_last : (last : Option Keyword) (matrix : MatrixValue) (text rest : List ℕ) (count : ℕ) → HasRead text rest count (record { last = last; matrix = matrix }) → length rest ≡ 0 → IsReading text (finished count matrix last)
by_last (Some End) matrix text rest count h none = ended matrix text rest count h none
by_last None matrix text rest count h none = early (record { last = None; matrix = matrix }) text rest count h none (λ e. cc)
by_last (Some Matrix) matrix text rest count h none = early (record { last = Some Matrix; matrix = matrix }) text rest count h none (λ e. cc)
by_last (Some Cause) matrix text rest count h none = early (record { last = Some Cause; matrix = matrix }) text rest count h none (λ e. cc)
by_last (Some Effect) matrix text rest count h none = early (record { last = Some Effect; matrix = matrix }) text rest count h none (λ e. cc)
by_last (Some Reset) matrix text rest count h none = early (record { last = Some Reset; matrix = matrix }) text rest count h none (λ e. cc)
by_last (Some Link) matrix text rest count h none = early (record { last = Some Link; matrix = matrix }) text rest count h none (λ e. cc)

pub finishes : (s : Standing) (text rest : List ℕ) (count : ℕ) → HasRead text rest count s → length rest ≡ 0 → IsReading text (finished count s.matrix s.last)
finishes s text rest count h none = by_last s.last s.matrix text rest count h none
