-- What is read is a script, and a fault is the first one.
use Rattle.std.proofs.Common.{◌≡◌, ℕ, ◌+◌, ◌<◌, List, [], ◌∷◌, ◌++◌, length, map, fold, take, get_or, Option, Some, None, Result, Ok, Err, refl, sym, ap, ◌∙◌, subst, append_assoc, append-nil, length-append, arith, inl, inr, codes}
use Rattle.std.proofs.lemmas.List.Sums.{fold-append}
use Rattle.std.proofs.Math.Seq.{take-append_seam, get_or-append_seam}
use Rattle.std.proofs.lemmas.List.{take_more}
use Rattle.script_text.specs.declared.fault.ScriptCause.{ScriptCause}
use Rattle.script_text.specs.declared.fault.ScriptCause.TheVariants.{End}
use Rattle.script_text.specs.declared.fault.ScriptFault.TheVariants.{At}
use Rattle.script_lines.specs.declared.keyword.Part.{Part}
use Rattle.script_lines.specs.declared.keyword.Part.TheVariants.{Nothing, Heading, Plant, Program, Order, Count, Moment, Inside, Ended}
use Rattle.script_text.specs.declared.moment.Opener.{Opener}
use Rattle.script_text.specs.declared.moment.Opener.TheVariants.{Program as ProgramBlock, Download as DownloadBlock, Swap as SwapBlock}
use Rattle.script_lines.specs.Lines.{lines_of, content_of}
use Rattle.script_text.specs.Standing.{Standing, beginning, after, closed}
use Rattle.script_text.specs.declared.fault.LineFault.{LineFault}
use Rattle.script_text.specs.declared.fault.LineFault.TheVariants.{Cause, NoMemory as NoRoom}
use Rattle.script_text.specs.Inner.Steps.{Steps, fault_at, finished}
use Rattle.script_text.specs.Spells.{contents_of, goes_on, come_to, script_in, Begins, IsFirstFault, IsReading}

-- ---- what lines come to, in two pieces

on : (xs ys : List (List ℕ)) (s : Standing) → come_to xs ≡ Ok s → come_to (xs ++ ys) ≡ fold goes_on (Ok s) ys
on xs ys s h = fold-append goes_on (Ok beginning) xs ys ∙ ap (λ r. fold goes_on r ys) h

pub one_more : (xs : List (List ℕ)) (line : List ℕ) (s : Standing) → come_to xs ≡ Ok s → come_to (xs ++ line ∷ []) ≡ after s line
one_more xs line s h = on xs (line ∷ []) s h

stays : (cause : ScriptCause) (ys : List (List ℕ)) → fold goes_on (Err cause) ys ≡ Err cause
stays cause [] = refl
stays cause (y ∷ ys) = stays cause ys

-- lines of which one is refused are no script
refuses : (xs ys : List (List ℕ)) (line : List ℕ) (s : Standing) (cause : ScriptCause) → come_to xs ≡ Ok s → after s line ≡ Err cause → come_to ((xs ++ line ∷ []) ++ ys) ≡ Err cause
refuses xs ys line s cause h bad =
    fold-append goes_on (Ok beginning) (xs ++ line ∷ []) ys ∙ (ap (λ r. fold goes_on r ys) (one_more xs line s h ∙ bad) ∙ stays cause ys)

-- ---- each standing goes on to a script

abbrev rest_of : Part → List (List ℕ)
rest_of Nothing = codes "TRICON 1" ∷ codes "TEXT" ∷ codes "ENDTEXT" ∷ codes "SCANS 1" ∷ codes "END" ∷ []
rest_of Heading = codes "TEXT" ∷ codes "ENDTEXT" ∷ codes "SCANS 1" ∷ codes "END" ∷ []
rest_of Plant = codes "TEXT" ∷ codes "ENDTEXT" ∷ codes "SCANS 1" ∷ codes "END" ∷ []
rest_of Program = codes "SCANS 1" ∷ codes "END" ∷ []
rest_of Order = codes "SCANS 1" ∷ codes "END" ∷ []
rest_of Count = codes "END" ∷ []
rest_of Moment = codes "END" ∷ []
rest_of Inside = codes "END" ∷ []
rest_of Ended = []

abbrev Ends : Result Standing ScriptCause → Type 0
Ends (Ok s) = s.part ≡ Ended
Ends (Err cause) = ⊥

-- outside blocks
closes : (s : Standing) (p : Part) → Ends (fold goes_on (Ok (record s { part = p; opened = None })) (rest_of p))
closes s Nothing = refl
closes s Heading = refl
closes s Plant = refl
closes s Program = refl
closes s Order = refl
closes s Count = refl
closes s Moment = refl
closes s Inside = refl
closes s Ended = refl

found : (r : Result Standing ScriptCause) → Ends r → (t : Standing) × (r ≡ Ok t) × (t.part ≡ Ended)
found (Ok t) h = (t, refl, h)
found (Err cause) h = absurd h

-- lines that come to something begin a script
begin : (lines : List (List ℕ)) (s : Standing) → come_to lines ≡ Ok s → (o : Option Opener) → s.opened ≡ o → Begins lines
begin lines s h None out =
    let more = rest_of s.part in
    let ends : Ends (fold goes_on (Ok s) more) = subst (λ (o : Option Opener). Ends (fold goes_on (Ok (record s { opened = o })) more)) (sym out) (closes s s.part) in
    let (t, good, ended) = found (fold goes_on (Ok s) more) ends in
    (more, script_in t, record { standing = t; good = on lines more s h ∙ good; ended = ended; says = refl })
begin lines s h (Some opener) within =
    let more = codes "ENDTEXT" ∷ rest_of s.part in
    let ends : Ends (fold goes_on (Ok s) more) = subst (λ (o : Option Opener). Ends (fold goes_on (Ok (record s { opened = o })) more)) (sym within) (shut s opener) in
    let (t, good, ended) = found (fold goes_on (Ok s) more) ends in
    (more, script_in t, record { standing = t; good = on lines more s h ∙ good; ended = ended; says = refl })
  where
    shut : (s : Standing) (opener : Opener) → Ends (fold goes_on (Ok (record s { opened = Some opener })) (codes "ENDTEXT" ∷ rest_of s.part))
    shut s ProgramBlock = closes (record s { line = s.line + 1; text = s.block; block = [] }) s.part
    shut s (SwapBlock leg) = closes (closed (record s { line = s.line + 1 }) (SwapBlock leg)) s.part
    shut s DownloadBlock = closes (closed (record s { line = s.line + 1 }) DownloadBlock) s.part

begins : (lines : List (List ℕ)) (s : Standing) → come_to lines ≡ Ok s → Begins lines
begins lines s h = begin lines s h s.opened refl

same_ok : (s t : Standing) (r : Result Standing ScriptCause) → r ≡ Ok s → r ≡ Ok t → s ≡ t
same_ok s t r a b = let e : ◌≡◌ {A = Result Standing ScriptCause} (Ok s) (Ok t) = sym a ∙ b in cc

-- ---- the reading of a text, line by line

-- what was read of a text, and how it stands
pub record HasRead (text rest : List ℕ) (s : Standing) : Type 0 where
  pub lines : List (List ℕ)
  pub all : contents_of text ≡ lines ++ contents_of rest
  pub good : come_to lines ≡ Ok s
  pub counted : s.line ≡ length lines

pub at_first : (text : List ℕ) → HasRead text text beginning
at_first text = record { lines = []; all = refl; good = refl; counted = refl }

next : (text rest line behind content : List ℕ) (lines : List (List ℕ)) → contents_of text ≡ lines ++ contents_of rest → lines_of rest ≡ line ∷ lines_of behind → content ≡ content_of line → contents_of text ≡ lines ++ content ∷ contents_of behind
next text rest line behind content lines all cut is = all ∙ ap (λ ls. lines ++ map content_of ls) cut ∙ ap (λ c. lines ++ c ∷ contents_of behind) (sym is)

pub accepted : (s t : Standing) (text rest line behind content : List ℕ) → HasRead text rest s → lines_of rest ≡ line ∷ lines_of behind → content ≡ content_of line → after s content ≡ Ok t → t.line ≡ s.line + 1 → HasRead text behind t
accepted s t text rest line behind content h cut is good more = record {
  lines = h.lines ++ content ∷ [];
  all = next text rest line behind content h.lines h.all cut is ∙ sym (append_assoc h.lines (content ∷ []) (contents_of behind));
  good = one_more h.lines content s h.good ∙ good;
  counted = omega (arith, more, h.counted, length-append h.lines (content ∷ []));
}

first : (lines behind : List (List ℕ)) (content : List ℕ) (s : Standing) (cause : ScriptCause) → come_to lines ≡ Ok s → after s content ≡ Err cause → IsFirstFault (lines ++ content ∷ behind) (length lines) cause
first lines behind content s cause good bad =
    let all = lines ++ content ∷ behind in
    let seam : take (length lines) all ≡ lines = take-append_seam lines (content ∷ behind) in
    let here : get_or all (length lines) [] ≡ content = get_or-append_seam lines content behind [] in
    let within : length lines < length all = omega (arith, length-append lines (content ∷ behind)) in
    let cut : take (length lines + 1) all ≡ lines ++ content ∷ [] = take_more all (length lines) [] within ∙ (λ i. seam i ++ here i ∷ []) in
    record {
      there = within;
      before = subst Begins (sym seam) (begins lines s good);
      none = λ b.
          let spells = b.2 in
          let wrong : ◌≡◌ {A = Result Standing ScriptCause} (Err cause) (Ok spells.standing) = sym (ap (λ ls. come_to (ls ++ b.0)) cut ∙ refuses lines b.0 content s cause good bad) ∙ spells.good in
          cc;
      standing = s;
      behind = ap come_to seam ∙ good;
      broken = ap (after s) here ∙ bad;
    }

pub refused : (s : Standing) (text rest line behind content : List ℕ) (cause : ScriptCause) → HasRead text rest s → lines_of rest ≡ line ∷ lines_of behind → content ≡ content_of line → after s content ≡ Err cause → IsReading text (Err (At (s.line + 1) cause))
refused s text rest line behind content cause h cut is bad =
    let all = next text rest line behind content h.lines h.all cut is in
    inl (length h.lines, omega (arith, h.counted), subst (λ (ls : List (List ℕ)). IsFirstFault ls (length h.lines) cause) (sym all) (first h.lines (contents_of behind) content s cause h.good bad))

pub ended : (s : Standing) (text rest : List ℕ) → HasRead text rest s → length rest ≡ 0 → s.part ≡ Ended → IsReading text (Ok (script_in s))
ended s text [] h none end = record { standing = s; good = ap come_to (h.all ∙ append-nil h.lines) ∙ h.good; ended = end; says = refl }
ended s text (b ∷ bs) h none end = absurd (omega arith)

pub early : (s : Standing) (text rest : List ℕ) → HasRead text rest s → length rest ≡ 0 → (s.part ≡ Ended → ⊥) → IsReading text (Err (At (s.line + 1) End))
early s text [] h none wants =
    let all : contents_of text ≡ h.lines = h.all ∙ append-nil h.lines in
    inr (
      omega (arith, h.counted, ap length all),
      refl,
      record {
        before = subst Begins (sym all) (begins h.lines s h.good);
        none = λ script spells. wants (subst (λ (t : Standing). t.part ≡ Ended) (same_ok spells.standing s (come_to (contents_of text)) spells.good (ap come_to all ∙ h.good)) spells.ended);
      },
    )
early s text (b ∷ bs) h none wants = absurd (omega arith)

pub all_read : (s : Standing) (text rest : List ℕ) → HasRead text rest s → length rest ≡ 0 → come_to (contents_of text) ≡ Ok s
all_read s text [] h none = ap come_to (h.all ∙ append-nil h.lines) ∙ h.good
all_read s text (b ∷ bs) h none = absurd (omega arith)

-- ---- as code says it

pub stopped : (s t : Standing) (text rest line behind content : List ℕ) (fault : LineFault) → HasRead text rest s → lines_of rest ≡ line ∷ lines_of behind → content ≡ content_of line → Steps {T = Unit {0}} (after s content) (Err fault) t → IsReading text (Err (fault_at (s.line + 1) fault))
stopped s t text rest line behind content (Cause cause) h cut is bad = refused s text rest line behind content cause h cut is bad
stopped s t text rest line behind content NoRoom h cut is bad = tt

by_part : (p : Part) (s : Standing) (text rest : List ℕ) → HasRead text rest s → length rest ≡ 0 → s.part ≡ p → IsReading text (finished s p)
by_part Ended s text rest h none is = ended s text rest h none is
by_part Nothing s text rest h none is = early s text rest h none (λ e. let bad : Nothing ≡ Ended = sym is ∙ e in cc)
by_part Heading s text rest h none is = early s text rest h none (λ e. let bad : Heading ≡ Ended = sym is ∙ e in cc)
by_part Plant s text rest h none is = early s text rest h none (λ e. let bad : Plant ≡ Ended = sym is ∙ e in cc)
by_part Program s text rest h none is = early s text rest h none (λ e. let bad : Program ≡ Ended = sym is ∙ e in cc)
by_part Order s text rest h none is = early s text rest h none (λ e. let bad : Order ≡ Ended = sym is ∙ e in cc)
by_part Count s text rest h none is = early s text rest h none (λ e. let bad : Count ≡ Ended = sym is ∙ e in cc)
by_part Moment s text rest h none is = early s text rest h none (λ e. let bad : Moment ≡ Ended = sym is ∙ e in cc)
by_part Inside s text rest h none is = early s text rest h none (λ e. let bad : Inside ≡ Ended = sym is ∙ e in cc)

pub finishes : (s : Standing) (text rest : List ℕ) → HasRead text rest s → length rest ≡ 0 → IsReading text (finished s s.part)
finishes s text rest h none = by_part s.part s text rest h none refl
