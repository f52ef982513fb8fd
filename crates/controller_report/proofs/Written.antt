-- Texts written piece by piece.
use Rattle.std.proofs.Common.{◌≡◌, ◌∙◌, ◌+◌, ◌++◌, ◌∷◌, [], ℕ, ℤ, zero, suc, pos, codes, Bool, Option, List, ap, sym, arith, append-nil, append_assoc}
use Rattle.std.specs.List.{flat_map, range_with_len}
use Rattle.std.proofs.lemmas.Grind.{flat_map-append}
use Rattle.engine_face.specs.declared.refusal.Refusal.{Refusal}
use Rattle.engine_face.specs.Meaning.{Meaning}
use Rattle.script_text.specs.ScriptValue.{ScriptValue}
use Rattle.input_legs.specs.VotedSheets.{VotedSheet}
use Rattle.report_lines.specs.Lines.{line}
use Rattle.single_controller.specs.Controller.{scanned_at, verdict_at, voted_at}
use Rattle.controller_report.specs.SoloReport.{flag_number, scan_of_report, verdict_lines}

-- one number more
pub range_more : (a n : ℕ) → range_with_len a (n + 1) ≡ range_with_len a n ++ (a + n) ∷ []
range_more a zero = ap (λ k. k ∷ []) (omega arith)
range_more a (suc n) =
    let count : suc n + 1 ≡ suc (n + 1) = omega arith in
    let last : a + 1 + n ≡ a + suc n = omega arith in
    ap (range_with_len a) count ∙ ap (λ l. a ∷ l) (range_more (a + 1) n ∙ ap (λ k. range_with_len (a + 1) n ++ k ∷ []) last)

pieces_more : (f : ℕ → List ℕ) (n : ℕ) → flat_map f (range_with_len 1 (n + 1)) ≡ flat_map f (range_with_len 1 n) ++ f (n + 1)
pieces_more f n =
    let last : 1 + n ≡ n + 1 = omega arith in
    ap (flat_map f) (range_more 1 n) ∙ (flat_map-append f (range_with_len 1 n) ((1 + n) ∷ []) ∙ ap (λ l. flat_map f (range_with_len 1 n) ++ l) (append-nil (f (1 + n)) ∙ ap f last))

-- one scan more was written
pub scan_written : (old text new : List ℕ) (f : ℕ → List ℕ) (n : ℕ) → text ≡ old ++ flat_map f (range_with_len 1 n) → new ≡ text ++ f (n + 1) → new ≡ old ++ flat_map f (range_with_len 1 (n + 1))
scan_written old text new f n so_far is =
    let scans = flat_map f (range_with_len 1 n) in
    is ∙ (ap (λ l. l ++ f (n + 1)) so_far ∙ (append_assoc old scans (f (n + 1)) ∙ ap (λ l. old ++ l) (sym (pieces_more f n))))

-- pieces behind a text
pub three_more : (t0 t1 t2 a b c : List ℕ) → t1 ≡ t0 ++ a → t2 ≡ t1 ++ b → t2 ++ c ≡ t0 ++ (a ++ (b ++ c))
three_more t0 t1 t2 a b c e1 e2 = ap (λ l. l ++ c) (e2 ∙ ap (λ l. l ++ b) e1) ∙ simp append_assoc

pub four_more : (t0 t1 t2 t3 a b c d : List ℕ) → t1 ≡ t0 ++ a → t2 ≡ t1 ++ b → t3 ≡ t2 ++ c → t3 ++ d ≡ t0 ++ (a ++ (b ++ (c ++ d)))
four_more t0 t1 t2 t3 a b c d e1 e2 e3 = ap (λ l. l ++ d) (e3 ∙ ap (λ l. l ++ c) (e2 ∙ ap (λ l. l ++ b) e1)) ∙ simp append_assoc

pub five_more : (t0 t1 t2 t3 t4 a b c d e : List ℕ) → t1 ≡ t0 ++ a → t2 ≡ t1 ++ b → t3 ≡ t2 ++ c → t4 ≡ t3 ++ d → t4 ++ e ≡ t0 ++ (a ++ (b ++ (c ++ (d ++ e))))
five_more t0 t1 t2 t3 t4 a b c d e e1 e2 e3 e4 =
    ap (λ l. l ++ e) (e4 ∙ ap (λ l. l ++ d) (e3 ∙ ap (λ l. l ++ c) (e2 ∙ ap (λ l. l ++ b) e1))) ∙ simp append_assoc

-- the lines of a scan
pub scan_is : (m : Meaning) (v : ScriptValue) (scan : ℕ) (told : Option (Option Refusal)) (voted : VotedSheet) (outputs : List ℤ) (flag : Bool)
    → told ≡ verdict_at m v scan → voted ≡ voted_at v scan
    → outputs ≡ (scanned_at m v scan).outputs → flag ≡ (scanned_at m v scan).flag
    → line (codes "SCAN") (pos scan ∷ []) ++ (verdict_lines told ++ (line (codes "IN") (voted.time ∷ voted.values)
    ++ (line (codes "OUT") outputs ++ line (codes "ARITH") (flag_number flag ∷ [])))) ≡ scan_of_report m v scan
scan_is m v scan told voted outputs flag a b c d =
    λ i. line (codes "SCAN") (pos scan ∷ []) ++ (verdict_lines (a i) ++ (line (codes "IN") ((b i).time ∷ (b i).values)
    ++ (line (codes "OUT") (c i) ++ line (codes "ARITH") (flag_number (d i) ∷ []))))
