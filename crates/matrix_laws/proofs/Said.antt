-- What lines spell is what they say, line by line.
use Rattle.std.proofs.Common.{◌≡◌, ℕ, Bool, true, false, ◌&&◌, nat_le, List, [], ◌∷◌, ◌++◌, length, fold, Option, Some, None, Result, Ok, Err, refl, sym, ap, ◌∙◌, subst, append_assoc, append-nil, if◌then◌else◌}
use Rattle.std.specs.List.{flat_map}
use Rattle.std.specs.Option.{option_and_then}
use Rattle.std.proofs.lemmas.List.Sums.{fold-append}
use Rattle.script_lines.specs.Statements.{begins_comment}
use Rattle.script_lines.specs.Words.{words_of}
use Rattle.cause_effect.specs.declared.fault.MatrixCause.{MatrixCause}
use Rattle.cause_effect.specs.declared.fault.MatrixCause.TheVariants.{Word, Twice, Unknown}
use Rattle.cause_effect.specs.declared.keyword.Keyword.{Keyword}
use Rattle.cause_effect.specs.declared.keyword.Keyword.TheVariants.{End}
use Rattle.cause_effect.specs.declared.statement.Statement.{Statement}
use Rattle.cause_effect.specs.declared.statement.Statement.TheVariants.{Heading, Cause as CauseLine, Effect as EffectLine, Reset as ResetLine, Link as LinkLine, End as EndLine}
use Rattle.cause_effect.specs.Matrices.{MatrixValue, cause_names, effect_names, row_limit}
use Rattle.cause_effect.specs.Statements.{keyword_of, may_follow, statement_of}
use Rattle.cause_effect.specs.Standing.{Standing, beginning, after, spoken, worded, shaped, behind, stated, unless, refusal_of, with_cause, with_effect, with_reset, with_link, is_among, is_link_among}
use Rattle.cause_effect.specs.Spells.{goes_on}
use Rattle.matrix_laws.specs.Said.{said_of, said_of_words, cause_said, effect_said, reset_said, link_said, MatricesAreSaid}

-- from a matrix to one with a line more, by what the line says
record Adds (m n : MatrixValue) (s : Option Statement) : Type 0 where
  causes : n.causes ≡ m.causes ++ cause_said s
  effects : n.effects ≡ m.effects ++ effect_said s
  reset : n.reset ≡ fold (λ before name. Some name) m.reset (reset_said s)
  links : n.links ≡ m.links ++ link_said s

nothing : (m : MatrixValue) → Adds m m None
nothing m = record { causes = sym (append-nil m.causes); effects = sym (append-nil m.effects); reset = refl; links = sym (append-nil m.links) }

same_matrix : (m n : MatrixValue) → ◌≡◌ {A = Result MatrixValue MatrixCause} (Ok m) (Ok n) → m ≡ n
same_matrix m n h = cc

added : (o : Option MatrixCause) (m more n : MatrixValue) (s : Option Statement) → Adds m more s → unless o more ≡ Ok n → Adds m n s
added None m more n s a h = subst (λ (x : MatrixValue). Adds m x s) (same_matrix more n h) a
added (Some cause) m more n s a h = absurd (cc)

one_more : (st : Statement) (m n : MatrixValue) → stated m st ≡ Ok n → Adds m n (Some st)
one_more Heading m n h = subst (λ (x : MatrixValue). Adds m x (Some Heading)) (same_matrix m n h) (record { causes = sym (append-nil m.causes); effects = sym (append-nil m.effects); reset = refl; links = sym (append-nil m.links) })
one_more EndLine m n h = subst (λ (x : MatrixValue). Adds m x (Some EndLine)) (same_matrix m n h) (record { causes = sym (append-nil m.causes); effects = sym (append-nil m.effects); reset = refl; links = sym (append-nil m.links) })
one_more (CauseLine name level) m n h =
    added (refusal_of m name (nat_le row_limit (length m.causes))) m (with_cause m name level) n (Some (CauseLine name level))
    (record { causes = refl; effects = sym (append-nil m.effects); reset = refl; links = sym (append-nil m.links) }) h
one_more (EffectLine name mode) m n h =
    added (refusal_of m name (nat_le row_limit (length m.effects))) m (with_effect m name mode) n (Some (EffectLine name mode))
    (record { causes = sym (append-nil m.causes); effects = refl; reset = refl; links = sym (append-nil m.links) }) h
one_more (ResetLine name) m n h =
    added (refusal_of m name false) m (with_reset m name) n (Some (ResetLine name))
    (record { causes = sym (append-nil m.causes); effects = sym (append-nil m.effects); reset = refl; links = sym (append-nil m.links) }) h
one_more (LinkLine link) m n h = by (is_link_among m.links link) (is_among (cause_names m) link.cause && is_among (effect_names m) link.effect) h
  where
    by : (a b : Bool) → ◌≡◌ {A = Result MatrixValue MatrixCause} (if a then Err Twice else if b then Ok (with_link m link) else Err Unknown) (Ok n) → Adds m n (Some (LinkLine link))
    by true b k = absurd (cc)
    by false false k = absurd (cc)
    by false true k = subst (λ (x : MatrixValue). Adds m x (Some (LinkLine link))) (same_matrix (with_link m link) n k)
        (record { causes = sym (append-nil m.causes); effects = sym (append-nil m.effects); reset = refl; links = refl })

same_standing : (s t : Standing) → ◌≡◌ {A = Result Standing MatrixCause} (Ok s) (Ok t) → s ≡ t
same_standing s t h = cc

passed : (s t : Standing) → ◌≡◌ {A = Result Standing MatrixCause} (Ok s) (Ok t) → Adds s.matrix t.matrix None
passed s t h = subst (λ (x : Standing). Adds s.matrix x.matrix None) (same_standing s t h) (nothing s.matrix)

on_statement : (s t : Standing) (keyword : Keyword) (o : Option Statement) → shaped s keyword o ≡ Ok t → Adds s.matrix t.matrix o
on_statement s t keyword None h = absurd (cc)
on_statement s t keyword (Some st) h = by (stated s.matrix st) refl h
  where
    by : (r : Result MatrixValue MatrixCause) → stated s.matrix st ≡ r → behind keyword r ≡ Ok t → Adds s.matrix t.matrix (Some st)
    by (Err cause) e k = absurd (cc)
    by (Ok n) e k = subst (λ (x : Standing). Adds s.matrix x.matrix (Some st)) (same_standing (record { last = Some keyword; matrix = n }) t k) (one_more st s.matrix n e)

on_keyword : (s t : Standing) (o : Option Keyword) (words : List (List ℕ)) → worded s o words ≡ Ok t → Adds s.matrix t.matrix (option_and_then (λ keyword. statement_of keyword words) o)
on_keyword s t None words h = absurd (cc)
on_keyword s t (Some keyword) words h = by (may_follow s.last keyword) h
  where
    by : (b : Bool) → ◌≡◌ {A = Result Standing MatrixCause} (if b then shaped s keyword (statement_of keyword words) else Err Word) (Ok t) → Adds s.matrix t.matrix (statement_of keyword words)
    by true k = on_statement s t keyword (statement_of keyword words) k
    by false k = absurd (cc)

on_words : (s t : Standing) (words : List (List ℕ)) → spoken s words ≡ Ok t → Adds s.matrix t.matrix (said_of_words words)
on_words s t [] h = passed s t h
on_words s t (word ∷ words) h = by (begins_comment word) h
  where
    by : (b : Bool) → ◌≡◌ {A = Result Standing MatrixCause} (if b then Ok s else worded s (keyword_of word) words) (Ok t)
        → Adds s.matrix t.matrix (if b then None else option_and_then (λ keyword. statement_of keyword words) (keyword_of word))
    by true k = passed s t k
    by false k = on_keyword s t (keyword_of word) words k

-- from a matrix to one with lines more
record AddsAll (m n : MatrixValue) (lines : List (List ℕ)) : Type 0 where
  causes : n.causes ≡ m.causes ++ flat_map (λ line. cause_said (said_of line)) lines
  effects : n.effects ≡ m.effects ++ flat_map (λ line. effect_said (said_of line)) lines
  reset : n.reset ≡ fold (λ before name. Some name) m.reset (flat_map (λ line. reset_said (said_of line)) lines)
  links : n.links ≡ m.links ++ flat_map (λ line. link_said (said_of line)) lines

faulty : (cause : MatrixCause) (lines : List (List ℕ)) (t : Standing) → fold goes_on (Err cause) lines ≡ Ok t → ⊥
faulty cause [] t h = cc
faulty cause (line ∷ lines) t h = faulty cause lines t h

all_lines : (lines : List (List ℕ)) (s t : Standing) → fold goes_on (Ok s) lines ≡ Ok t → AddsAll s.matrix t.matrix lines
all_lines [] s t h =
    let same = same_standing s t h in
    let m = s.matrix in
    subst (λ (x : Standing). AddsAll m x.matrix []) same (record { causes = sym (append-nil m.causes); effects = sym (append-nil m.effects); reset = refl; links = sym (append-nil m.links) })
all_lines (line ∷ lines) s t h = by (after s line) refl h (λ u k. all_lines lines u t k)
  where
    by : (r : Result Standing MatrixCause) → after s line ≡ r → fold goes_on r lines ≡ Ok t → ((u : Standing) → fold goes_on (Ok u) lines ≡ Ok t → AddsAll u.matrix t.matrix lines) → AddsAll s.matrix t.matrix (line ∷ lines)
    by (Err cause) e k more = absurd (faulty cause lines t k)
    by (Ok u) e k more =
        let one = on_words s u (words_of line) e in
        let rest = more u k in
        record {
          causes = rest.causes ∙ (ap (λ xs. xs ++ flat_map (λ line. cause_said (said_of line)) lines) one.causes ∙ append_assoc s.matrix.causes (cause_said (said_of line)) (flat_map (λ line. cause_said (said_of line)) lines));
          effects = rest.effects ∙ (ap (λ xs. xs ++ flat_map (λ line. effect_said (said_of line)) lines) one.effects ∙ append_assoc s.matrix.effects (effect_said (said_of line)) (flat_map (λ line. effect_said (said_of line)) lines));
          reset = rest.reset ∙ (ap (λ o. fold (λ before name. Some name) o (flat_map (λ line. reset_said (said_of line)) lines)) one.reset ∙ sym (fold-append (λ before name. Some name) s.matrix.reset (reset_said (said_of line)) (flat_map (λ line. reset_said (said_of line)) lines)));
          links = rest.links ∙ (ap (λ xs. xs ++ flat_map (λ line. link_said (said_of line)) lines) one.links ∙ append_assoc s.matrix.links (link_said (said_of line)) (flat_map (λ line. link_said (said_of line)) lines));
        }

pub matrices_are_said : MatricesAreSaid
matrices_are_said lines m h =
    let all = all_lines lines beginning (record { last = Some End; matrix = m }) h in
    record { causes = all.causes; effects = all.effects; reset = all.reset; links = all.links }
