-- A history that is noted into one by one has the last of what it keeps.
use Rattle.std.proofs.Common.{◌≡◌, ℕ, ◌+◌, ◌-◌, ◌≤◌, Bool, true, false, List, [], ◌∷◌, ◌++◌, length, drop, refl, sym, ap, ◌∙◌, arith, append_assoc, length-append}
use Rattle.std.specs.Prelude.{filter}
use Rattle.std.specs.List.{fold}
use Rattle.std.proofs.lemmas.List.{append-nil, drop-append-le, drop-drop, length-drop}
use Rattle.fault_history.specs.declared.history.Entry.{Entry}
use Rattle.fault_history.specs.Histories.{is_kept, last_entries, note_of, KeepsTheLast}

-- One more behind the last entries has the same last entries as one more behind all.
last_more : (all : List Entry) (e : Entry) → last_entries (last_entries all ++ e ∷ []) ≡ last_entries (all ++ e ∷ [])
last_more all e =
    let k = length all - 64 in
    let less : k ≤ length all = omega arith in
    let front : last_entries all ++ e ∷ [] ≡ drop k (all ++ e ∷ []) = sym (drop-append-le k all (e ∷ []) less) in
    let whole : length (all ++ e ∷ []) ≡ length all + 1 = length-append all (e ∷ []) in
    let left : length (drop k (all ++ e ∷ [])) ≡ length (all ++ e ∷ []) - k = length-drop k (all ++ e ∷ []) in
    let places : k + (length (drop k (all ++ e ∷ [])) - 64) ≡ length (all ++ e ∷ []) - 64 = omega arith in
    ap last_entries front
    ∙ (drop-drop (length (drop k (all ++ e ∷ [])) - 64) k (all ++ e ∷ [])
    ∙ ap (λ (n : ℕ). drop n (all ++ e ∷ [])) places)

keeps_by : (b : Bool) (all : List Entry) (e : Entry) (es : List Entry) → is_kept e.judged ≡ b
    → ((all : List Entry) → fold note_of (last_entries all) es ≡ last_entries (all ++ filter (λ e. is_kept e.judged) es))
    → fold note_of (last_entries all) (e ∷ es) ≡ last_entries (all ++ filter (λ e. is_kept e.judged) (e ∷ es))
keeps_by true all e es kept rest =
    let here : note_of (last_entries all) e ≡ last_entries (all ++ e ∷ []) = rw kept (last_more all e) in
    let more : filter (λ (e : Entry). is_kept e.judged) (e ∷ es) ≡ e ∷ filter (λ (e : Entry). is_kept e.judged) es = rw kept refl in
    ap (λ (h : List Entry). fold note_of h es) here
    ∙ (rest (all ++ e ∷ [])
    ∙ ap last_entries (append_assoc all (e ∷ []) (filter (λ (e : Entry). is_kept e.judged) es) ∙ ap (λ (l : List Entry). all ++ l) (sym more)))
keeps_by false all e es kept rest =
    let here : note_of (last_entries all) e ≡ last_entries all = rw kept refl in
    let more : filter (λ (e : Entry). is_kept e.judged) (e ∷ es) ≡ filter (λ (e : Entry). is_kept e.judged) es = rw kept refl in
    ap (λ (h : List Entry). fold note_of h es) here
    ∙ (rest all ∙ ap (λ (l : List Entry). last_entries (all ++ l)) (sym more))

keeps : (es all : List Entry) → fold note_of (last_entries all) es ≡ last_entries (all ++ filter (λ e. is_kept e.judged) es)
keeps [] all = ap last_entries (sym (append-nil all))
keeps (e ∷ es) all = keeps_by (is_kept e.judged) all e es refl (keeps es)

pub keeps_the_last : KeepsTheLast
keeps_the_last es = keeps es []
