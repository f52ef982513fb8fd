-- A recorder goes on scan by scan.
use Rattle.std.proofs.Common.{◌≡◌, ◌∙◌, ◌+◌, ◌++◌, ◌∷◌, [], ℕ, suc, List, length, fold, arith, ap, sym}
use Rattle.std.specs.List.{enumerate_from}
use Rattle.std.proofs.lemmas.List.Sums.{fold_push}
use Rattle.tri_base.specs.declared.point.Point.{Point}
use Rattle.soe_log.specs.Recording.{RecorderData, ScanShown, new_recorder, note_scan_of, recorder_after}

-- one element more, with its number
enumerate_more : {X : Type 0} (n : ℕ) (xs : List X) (x : X)
    → enumerate_from n (xs ++ x ∷ []) ≡ enumerate_from n xs ++ (n + length xs, x) ∷ []
enumerate_more n [] x = let e : n ≡ n + 0 = omega arith in ap (λ k. (k, x) ∷ []) e
enumerate_more n (y ∷ ys) x =
    let e : n + 1 + length ys ≡ n + suc (length ys) = omega arith in
    ap (λ l. (n, y) ∷ l) (enumerate_more (n + 1) ys x ∙ ap (λ k. enumerate_from (n + 1) ys ++ (k, x) ∷ []) e)

-- one scan more
pub one_scan : (points : List Point) (scans : List ScanShown) (shown : ScanShown)
    → recorder_after points (scans ++ shown ∷ [])
    ≡ note_scan_of (recorder_after points scans) (length scans + 1) shown
one_scan points scans shown =
    let step : RecorderData → ℕ × ScanShown → RecorderData = λ r s. note_scan_of r s.0 s.1 in
    let e : 1 + length scans ≡ length scans + 1 = omega arith in
    ap (fold step (new_recorder points))
    (enumerate_more 1 scans shown ∙ ap (λ k. enumerate_from 1 scans ++ (k, shown) ∷ []) e)
    ∙ fold_push step (new_recorder points) (enumerate_from 1 scans) (length scans + 1, shown)

-- the same of a recorder that was noted one scan
pub goes_on : (points : List Point) (old new : RecorderData) (scan : ℕ) (shown : ScanShown)
    → new ≡ note_scan_of old scan shown → (scans : List ScanShown) → old ≡ recorder_after points scans
    → scan ≡ length scans + 1 → new ≡ recorder_after points (scans ++ shown ∷ [])
goes_on points old new scan shown is scans so_far at =
    is
    ∙ (ap (λ r. note_scan_of r scan shown) so_far
    ∙ (ap (λ k. note_scan_of (recorder_after points scans) k shown) at ∙ sym (one_scan points scans shown)))
