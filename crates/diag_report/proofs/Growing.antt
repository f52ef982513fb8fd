-- The report grows scan by scan.
use Rattle.std.proofs.Common.{◌≡◌, ◌∙◌, ◌+◌, ◌++◌, ◌∷◌, [], ℕ, ℤ, suc, pos, cond, List, length, map, fold, arith, ap, sym, refl, append-nil}
use Rattle.std.specs.List.{enumerate_from, flat_map, zip}
use Rattle.std.proofs.lemmas.Grind.{flat_map-append}
use Rattle.std.proofs.lemmas.List.Sums.{fold-append, fold_push}
use Rattle.tri_base.specs.declared.leg.Triple.{Triple}
use Rattle.fault_history.specs.Histories.{note_of}
use Rattle.fault_history.specs.Notes.{NoteData}
use Rattle.diag_report.specs.Report.{ScanTold, has_mp, history_of, judgements_at, part_at, plus_outputs}
use Rattle.diag_report.specs.ScanByScan.{AddsNotes, AddsScan}

-- one element more, with its number
enumerate_more : {X : Type 0} (n : ℕ) (xs : List X) (x : X)
    → enumerate_from n (xs ++ x ∷ []) ≡ enumerate_from n xs ++ (n + length xs, x) ∷ []
enumerate_more n [] x = let e : n ≡ n + 0 = omega arith in ap (λ k. (k, x) ∷ []) e
enumerate_more n (y ∷ ys) x =
    let e : n + 1 + length ys ≡ n + suc (length ys) = omega arith in
    ap (λ l. (n, y) ∷ l) (enumerate_more (n + 1) ys x ∙ ap (λ k. enumerate_from (n + 1) ys ++ (k, x) ∷ []) e)

numbered : {X : Type 0} (xs : List X) (x : X)
    → enumerate_from 1 (xs ++ x ∷ []) ≡ enumerate_from 1 xs ++ (length xs + 1, x) ∷ []
numbered xs x =
    let e : 1 + length xs ≡ length xs + 1 = omega arith in
    enumerate_more 1 xs x ∙ ap (λ k. enumerate_from 1 xs ++ (k, x) ∷ []) e

told_more : {X : Type 0} (f : ℕ × ScanTold → List X) (scans : List ScanTold) (told : ScanTold)
    → flat_map f (enumerate_from 1 (scans ++ told ∷ []))
    ≡ flat_map f (enumerate_from 1 scans) ++ f (length scans + 1, told)
told_more f scans told =
    ap (flat_map f) (numbered scans told)
    ∙ (flat_map-append f (enumerate_from 1 scans) ((length scans + 1, told) ∷ [])
    ∙ ap (λ l. flat_map f (enumerate_from 1 scans) ++ l) (append-nil (f (length scans + 1, told))))

history_more : (scans : List ScanTold) (told : ScanTold)
    → history_of (scans ++ told ∷ []) ≡ fold note_of (history_of scans) (judgements_at (length scans + 1, told))
history_more scans told =
    ap (fold note_of []) (told_more judgements_at scans told)
    ∙ fold-append note_of [] (flat_map judgements_at (enumerate_from 1 scans)) (judgements_at (length scans + 1, told))

pub scans_add : (scans : List ScanTold) (told : ScanTold) → AddsScan scans told
scans_add scans told = record {
  parts = told_more part_at scans told;
  history = history_more scans told;
  sum = fold_push plus_outputs (pos 0) scans told;
  alarmed = fold_push (λ (a : ℕ) (x : ScanTold). a + cond (has_mp x) 1 0) 0 scans told;
}

-- one pair more
zip_more : {X Y : Type 0} (xs : List X) (ys : List Y) (x : X) (y : Y) → length xs ≡ length ys
    → zip (xs ++ x ∷ []) (ys ++ y ∷ []) ≡ zip xs ys ++ (x, y) ∷ []
zip_more [] [] x y same = refl
zip_more [] (b ∷ bs) x y same = absurd (omega (arith, same))
zip_more (a ∷ more) [] x y same = absurd (omega (arith, same))
zip_more (a ∷ more) (b ∷ bs) x y same = ap (λ l. (a, b) ∷ l) (zip_more more bs x y (omega (arith, same)))

length_zip : {X Y : Type 0} (xs : List X) (ys : List Y) → length xs ≡ length ys → length (zip xs ys) ≡ length ys
length_zip [] ys same = same
length_zip (a ∷ more) [] same = refl
length_zip (a ∷ more) (b ∷ bs) same = ap suc (length_zip more bs (omega (arith, same)))

map_more : {X Y : Type 0} (f : X → Y) (xs : List X) (x : X) → map f (xs ++ x ∷ []) ≡ map f xs ++ f x ∷ []
map_more f [] x = refl
map_more f (y ∷ ys) x = ap (λ l. f y ∷ l) (map_more f ys x)

pub notes_add : (notes : Triple (List NoteData)) (outs : List (List ℤ)) (told : ScanTold) → AddsNotes notes outs told
notes_add notes outs told (same_a, same_b, same_c) =
    let co = zip notes.c outs in
    let bco = zip notes.b co in
    let length_co : length co ≡ length outs = length_zip notes.c outs same_c in
    let length_bco : length bco ≡ length outs = length_zip notes.b co (same_b ∙ sym length_co) ∙ length_co in
    let inner = zip_more notes.c outs told.c told.out same_c in
    let middle =
    ap (zip (notes.b ++ told.b ∷ [])) inner
    ∙ zip_more notes.b co told.b (told.c, told.out) (same_b ∙ sym length_co) in
    let outer =
    ap (zip (notes.a ++ told.a ∷ [])) middle
    ∙ zip_more notes.a bco told.a (told.b, (told.c, told.out)) (same_a ∙ sym length_bco) in
    let of_scan : NoteData × (NoteData × (NoteData × List ℤ)) → ScanTold =
    λ s. record { a = s.0; b = s.1.0; c = s.1.1.0; out = s.1.1.1 } in
    ap (map of_scan) outer ∙ map_more of_scan (zip notes.a bco) (told.a, (told.b, (told.c, told.out)))
