-- One input more is counted.
use Rattle.std.specs.Prelude.{slice_index_or, slice_set, Option}
use Rattle.std.proofs.Common.{◌≡◌, ℕ, ◌+◌, ◌<◌, List, [], ◌∷◌, ◌++◌, length, take, drop, sym, ap, ◌∙◌, arith, append_assoc, drop-cons, suc}
use Rattle.std.proofs.lemmas.List.{take_more_set, drop-set-lt}
use Rattle.tri_base.specs.declared.leg.Triple.{Triple}
use Rattle.tri_base.specs.declared.point.Point.{Point}
use Rattle.leg_packet.specs.Readings.{Readings}
use Rattle.input_legs.specs.VotedSheets.{column}
use Rattle.input_legs.specs.Marks.{counted_from, counted_row, disagreements}

pub counted_more : (rows : List (Triple ℕ)) (k : ℕ) (v d : Triple ℕ) (p : Point) (ps : List Point) (rs : Triple (Option Readings))
    → k < length rows → v ≡ counted_row (slice_index_or rows k d) (disagreements p.kind p.tolerance (column rs k))
    → take (k + 1) (slice_set rows k v) ++ counted_from ps (k + 1) rs (drop (k + 1) (slice_set rows k v))
    ≡ take k rows ++ counted_from (p ∷ ps) k rs (drop k rows)
counted_more rows k v d p ps rs h e =
    let row : Triple ℕ = slice_index_or rows k d in
    let behind : List (Triple ℕ) = drop (k + 1) rows in
    let next : suc k ≡ k + 1 = omega arith in
    let left : drop (k + 1) (slice_set rows k v) ≡ behind = drop-set-lt (k + 1) rows k v (omega arith) in
    let opened : drop k rows ≡ row ∷ behind = drop-cons rows k d h ∙ ap (λ n. row ∷ drop n rows) next in
    ap (λ (x : List (Triple ℕ) × List (Triple ℕ)). x.0 ++ counted_from ps (k + 1) rs x.1) (λ i. (take_more_set rows k v h i, left i))
    ∙ (append_assoc (take k rows) (v ∷ []) (counted_from ps (k + 1) rs behind)
    ∙ (ap (λ x. take k rows ++ x ∷ counted_from ps (k + 1) rs behind) e
    ∙ ap (λ xs. take k rows ++ counted_from (p ∷ ps) k rs xs) (sym opened)))
