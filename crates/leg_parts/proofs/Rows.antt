-- Rows that are made scan by scan.
use Rattle.std.proofs.Common.{◌≡◌, ℕ, ◌+◌, ◌-◌, ◌<◌, List, [], ◌∷◌, ◌++◌, length, take, map, slice_index_or, refl, ap, ◌∙◌, arith}
use Rattle.std.proofs.lemmas.List.{map_more, take_more}
use Rattle.std.proofs.lemmas.Grind.{flat_map-append}
use Rattle.std.specs.List.{flat_map}
use Rattle.script_text.specs.LegScans.{LegScan, TapeValue, no_lines, scan_at, shown_on, result_on}
use Rattle.tri_base.specs.declared.leg.Side.TheVariants.{Left, Right}
use Rattle.leg_parts.specs.Logs.{room_of}
use Rattle.leg_parts.specs.LongLines.{long_line, long_lines}

pub at_next : (tape : TapeValue) (at : ℕ) → slice_index_or tape.scans at no_lines ≡ scan_at tape (at + 1)
at_next tape at =
    let e : at ≡ at + 1 - 1 = omega arith in
    ap (λ (k : ℕ). slice_index_or tape.scans k no_lines) e

pub rooms_step : (tape : TapeValue) (inputs outputs at : ℕ) → at < length tape.scans
    → map (room_of inputs outputs) (take (at + 1) tape.scans)
    ≡ map (room_of inputs outputs) (take at tape.scans) ++ room_of inputs outputs (scan_at tape (at + 1)) ∷ []
rooms_step tape inputs outputs at h =
    map_more (room_of inputs outputs) tape.scans at no_lines h
    ∙ ap (λ (l : LegScan). map (room_of inputs outputs) (take at tape.scans) ++ room_of inputs outputs l ∷ []) (at_next tape at)

four : {T : Type 0} (xs : List T) (a b c d : T) → xs ++ a ∷ b ∷ c ∷ d ∷ [] ≡ (((xs ++ a ∷ []) ++ b ∷ []) ++ c ∷ []) ++ d ∷ []
four [] a b c d = refl
four (x ∷ xs) a b c d = ap (λ ys. x ∷ ys) (four xs a b c d)

pub long_step : (tape : TapeValue) (at : ℕ) → at < length tape.scans
    → flat_map long_lines (take (at + 1) tape.scans)
    ≡ (((flat_map long_lines (take at tape.scans) ++ long_line (shown_on Left (scan_at tape (at + 1))) ∷ [])
    ++ long_line (shown_on Right (scan_at tape (at + 1))) ∷ [])
    ++ long_line (result_on Left (scan_at tape (at + 1))) ∷ [])
    ++ long_line (result_on Right (scan_at tape (at + 1))) ∷ []
long_step tape at h =
    let l = scan_at tape (at + 1) in
    ap (flat_map long_lines) (take_more tape.scans at no_lines h ∙ ap (λ (x : LegScan). take at tape.scans ++ x ∷ []) (at_next tape at))
    ∙ flat_map-append long_lines (take at tape.scans) (l ∷ [])
    ∙ four (flat_map long_lines (take at tape.scans)) (long_line l.shown_left) (long_line l.shown_right) (long_line l.result_left) (long_line l.result_right)
