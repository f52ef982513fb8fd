-- Texts written piece by piece.
use Rattle.std.proofs.Common.{◌≡◌, ◌∙◌, ◌+◌, ◌≤◌, ◌++◌, ◌∷◌, [], ℕ, ℤ, suc, List, length, map, take, ap, sym, arith, append-nil, append_assoc}
use Rattle.std.specs.List.{enumerate_from, flat_map}
use Rattle.std.proofs.lemmas.Grind.{flat_map-append}
use Rattle.std.proofs.lemmas.List.{take_all}
use Rattle.std.proofs.lemmas.List.Folds.{flat_map-map}
use Rattle.tri_base.specs.Rows.{TextValue}
use Rattle.tri_base.specs.declared.leg.Triple.{Triple}
use Rattle.tri_base.specs.declared.point.Point.{Point}
use Rattle.script_text.specs.ScriptValue.{ScriptValue}
use Rattle.diag_report.specs.Report.{ScanTold}
use Rattle.modbus_face.specs.Replies.{reply_of}
use Rattle.modbus_face.specs.ReplyLines.{reply_line}
use Rattle.leg_laws.specs.Configs.{LegValue}
use Rattle.play_texts.specs.Inner.Noted.{first_told, told_in}
use Rattle.play_texts.specs.Replies.{asks_of, scan_replies}
use Rattle.play_texts.proofs.Growing.{told_count, told_next}

-- one element more, with its number
enumerate_more : {X : Type 0} (n : ℕ) (xs : List X) (x : X)
    → enumerate_from n (xs ++ x ∷ []) ≡ enumerate_from n xs ++ (n + length xs, x) ∷ []
enumerate_more n [] x = let e : n ≡ n + 0 = omega arith in ap (λ k. (k, x) ∷ []) e
enumerate_more n (y ∷ ys) x =
    let e : n + 1 + length ys ≡ n + suc (length ys) = omega arith in
    ap (λ l. (n, y) ∷ l) (enumerate_more (n + 1) ys x ∙ ap (λ k. enumerate_from (n + 1) ys ++ (k, x) ∷ []) e)

-- the first scans with their numbers, and one scan more
numbered : (points : List Point) (legs : Triple LegValue) (n : ℕ)
    → enumerate_from 1 (first_told points legs (n + 1))
    ≡ enumerate_from 1 (first_told points legs n) ++ (n + 1, told_in points legs (n + 1)) ∷ []
numbered points legs n =
    let told = first_told points legs n in
    let last = told_in points legs (n + 1) in
    let e : 1 + length told ≡ n + 1 = omega (arith, told_count points legs n) in
    ap (enumerate_from 1) (told_next points legs n)
    ∙ (enumerate_more 1 told last ∙ ap (λ (k : ℕ). enumerate_from 1 told ++ (k, last) ∷ []) e)

-- the replies with one scan more
pub replies_on : (v : ScriptValue) (points : List Point) (legs : Triple LegValue) (n : ℕ) (start before after : List ℕ)
    (inputs outputs : List ℤ)
    → before ≡ start ++ flat_map (scan_replies v) (enumerate_from 1 (first_told points legs n))
    → after ≡ before ++ flat_map (λ request. reply_line (n + 1) (reply_of request v.points inputs outputs))
    (asks_of v (n + 1))
    → inputs ≡ (told_in points legs (n + 1)).a.values → outputs ≡ (told_in points legs (n + 1)).out
    → after ≡ start ++ flat_map (scan_replies v) (enumerate_from 1 (first_told points legs (n + 1)))
replies_on v points legs n start before after inputs outputs h k ei eo =
    let numbers = enumerate_from 1 (first_told points legs n) in
    let last : ℕ × ScanTold = (n + 1, told_in points legs (n + 1)) in
    let grown : flat_map (scan_replies v) (enumerate_from 1 (first_told points legs (n + 1)))
    ≡ flat_map (scan_replies v) numbers ++ scan_replies v last =
    ap (flat_map (scan_replies v)) (numbered points legs n)
    ∙ (flat_map-append (scan_replies v) numbers (last ∷ [])
    ∙ ap (λ l. flat_map (scan_replies v) numbers ++ l) (append-nil (scan_replies v last))) in
    k ∙ ((λ i. h i ++ flat_map (λ request. reply_line (n + 1) (reply_of request v.points (ei i) (eo i)))
    (asks_of v (n + 1)))
    ∙ (append_assoc start (flat_map (scan_replies v) numbers) (scan_replies v last)
    ∙ ap (λ (l : List ℕ). start ++ l) (sym grown)))

-- the replies to all requests
pub all_replied : (f : List ℕ → List ℕ) (asks : List (List ℕ)) (requests : List TextValue) (n : ℕ) (start text : List ℕ)
    → map (λ (t : TextValue). t.list) requests ≡ asks → length requests ≤ n
    → text ≡ start ++ flat_map (λ (t : TextValue). f t.list) (take n requests) → text ≡ start ++ flat_map f asks
all_replied f asks requests n start text are all h =
    let list : TextValue → List ℕ = λ t. t.list in
    h ∙ ap (λ (l : List ℕ). start ++ l)
    (ap (flat_map (λ (t : TextValue). f t.list)) (take_all n requests all)
    ∙ (sym (flat_map-map f list requests) ∙ ap (flat_map f) are))

-- pieces behind a text
pub four_more : (t0 t1 t2 t3 a b c d : List ℕ) → t1 ≡ t0 ++ a → t2 ≡ t1 ++ b → t3 ≡ t2 ++ c
    → t3 ++ d ≡ t0 ++ (a ++ (b ++ (c ++ d)))
four_more t0 t1 t2 t3 a b c d e1 e2 e3 =
    ap (λ l. l ++ d) (e3 ∙ ap (λ l. l ++ c) (e2 ∙ ap (λ l. l ++ b) e1)) ∙ simp append_assoc
