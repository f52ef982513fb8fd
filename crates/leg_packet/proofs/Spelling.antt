-- Spellings that are the same.
use Rattle.std.proofs.Common.{◌≡◌, ◌<◌, ◌≤◌, ℕ, ℤ, pos, nat_abs, ◌+◌, List, [], ◌∷◌, ◌++◌, length, get_or, take, drop, map, Option, Some, None, arith, sym, ◌∙◌, ap, refl}
use Rattle.std.proofs.lemmas.List.{take_at, drop_at, length-map}
use Rattle.std.proofs.lemmas.Slice.Zip.{AllZip-long}
use Rattle.tri_base.specs.declared.point.Point.{Point}
use Rattle.chassis.specs.Points.{inputs_of, point_limit}
use Rattle.chassis.specs.Ranges.{IsWithin}
use Rattle.leg_packet.specs.Readings.{Readings, readings_of}
use Rattle.leg_packet.specs.Sheets.{Has, IsSized, Sheet, flat, paired, spelled, spelled_out, window_length, packet_limit}
use Rattle.leg_packet.specs.declared.sheet.OutSheet.{OutSheet}
use Rattle.leg_packet.proofs.Said.{readings_back}

flat_same : (ps qs : List (ℕ × ℤ)) (us vs : List ℤ) → length ps ≡ length qs → flat ps ++ us ≡ flat qs ++ vs → (ps ≡ qs) × (us ≡ vs)
flat_same [] [] us vs size is = (refl, is)
flat_same [] (q ∷ qs) us vs size is = absurd (omega (arith, size))
flat_same (p ∷ ps) [] us vs size is = absurd (omega (arith, size))
flat_same (p ∷ ps) (q ∷ qs) us vs size is =
    let a : p.0 ≡ q.0 = ap (λ (l : List ℤ). nat_abs (get_or l 0 (pos 0))) is in
    let v : p.1 ≡ q.1 = ap (λ (l : List ℤ). get_or l 1 (pos 0)) is in
    let rest = flat_same ps qs us vs (omega (arith, size)) (ap (λ (l : List ℤ). drop 2 l) is) in
    ((λ i. (a i, v i) ∷ rest.0 i), rest.1)

-- two sheets whose windows have their full length, and that are spelled alike, are the same
pub spelled_same : (s t : Sheet) → IsSized s → IsSized t → spelled s ≡ spelled t → s ≡ t
spelled_same s t ss st is =
    let e : s.epoch ≡ t.epoch = ap (λ (l : List ℤ). nat_abs (get_or l 1 (pos 0))) is in
    let u : s.turn ≡ t.turn = ap (λ (l : List ℤ). nat_abs (get_or l 2 (pos 0))) is in
    let a : s.text_length ≡ t.text_length = ap (λ (l : List ℤ). nat_abs (get_or l 3 (pos 0))) is in
    let b : s.word_length ≡ t.word_length = ap (λ (l : List ℤ). nat_abs (get_or l 4 (pos 0))) is in
    let n : length t.window ≡ length s.window = st ∙ (λ i. window_length (sym a i + sym b i) (sym u i)) ∙ sym ss in
    let rest : s.window ++ pos (length s.pairs) ∷ (flat s.pairs ++ s.outputs) ≡ t.window ++ pos (length t.pairs) ∷ (flat t.pairs ++ t.outputs) = ap (λ (l : List ℤ). drop 5 l) is in
    let st' : List ℤ = pos (length s.pairs) ∷ (flat s.pairs ++ s.outputs) in
    let tt' : List ℤ = pos (length t.pairs) ∷ (flat t.pairs ++ t.outputs) in
    let w : s.window ≡ t.window = sym (take_at s.window st' (length s.window) refl) ∙ ap (λ (l : List ℤ). take (length s.window) l) rest ∙ take_at t.window tt' (length s.window) n in
    let tail : st' ≡ tt' = sym (drop_at s.window st' (length s.window) refl) ∙ ap (λ (l : List ℤ). drop (length s.window) l) rest ∙ drop_at t.window tt' (length s.window) n in
    let m : length s.pairs ≡ length t.pairs = ap (λ (l : List ℤ). nat_abs (get_or l 0 (pos 0))) tail in
    let both = flat_same s.pairs t.pairs s.outputs t.outputs m (ap (λ (l : List ℤ). drop 1 l) tail) in
    λ i. record { epoch = e i; turn = u i; text_length = a i; word_length = b i; window = w i; pairs = both.0 i; outputs = both.1 i }

paired_is_flat : (ps : List (ℕ × ℤ)) → paired (map (λ (pair : ℕ × ℤ). pos pair.0) ps) (map (λ (pair : ℕ × ℤ). pair.1) ps) ≡ flat ps
paired_is_flat [] = refl
paired_is_flat (p ∷ ps) = ap (λ ws. pos p.0 ∷ p.1 ∷ ws) (paired_is_flat ps)

pub out_spelled : (o : OutSheet) (s : Sheet) → Has o s → spelled_out o ≡ spelled s
out_spelled o s h =
    let count : length o.addresses.list ≡ length s.pairs = ap length h.addresses ∙ length-map s.pairs (λ (pair : ℕ × ℤ). pos pair.0) in
    let pairs : paired o.addresses.list o.values.list ≡ flat s.pairs = (λ i. paired (h.addresses i) (h.values i)) ∙ paired_is_flat s.pairs in
    λ i. pos 2 ∷ h.epoch i ∷ h.turn i ∷ h.text_length i ∷ h.word_length i ∷ (h.window i ++ (pos (count i) ∷ (pairs i ++ h.outputs i)))

no_some : {A : Type 0} (a : A) → ◌≡◌ {A = Option A} None (Some a) → ⊥
no_some a e = cc

pub long_absent : (points : List Point) (p : List ℤ) → length (inputs_of points) ≤ point_limit → packet_limit < length p → readings_of points p ≡ None
long_absent points p few long = by (readings_of points p) refl
  where
    by : (o : Option Readings) → readings_of points p ≡ o → o ≡ None
    by None e = refl
    by (Some r) e =
        let back = readings_back points p r e in
        let size = AllZip-long IsWithin (inputs_of points) r.values back.0.values in
        absurd (omega (arith, ap length back.1, size, few, long))
