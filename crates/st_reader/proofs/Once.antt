-- A text is read in one way.
use Rattle.std.proofs.Common.{◌≡◌, ◌≤◌, ◌⊎◌, inl, inr, ℕ, List, [], ◌∷◌, ◌++◌, length, take, drop, Option, None, Ok, Err, refl, ap, sym, ◌∙◌, append_assoc, append-nil, length-append, arith}
use Rattle.std.proofs.Math.Seq.{take-append_seam, drop-append_seam}
use Rattle.tri_base.specs.declared.faults.LexCause.{LexCause}
use Rattle.tri_base.specs.declared.faults.LexCause.TheVariants.{BadByte}
use Rattle.st_tree.specs.declared.token.TokenKind.{TokenKind}
use Rattle.st_tree.specs.Lexes.{Item, item, Part, bytes_of, AreItems, tokens_from, IsLexicalFault}
use Rattle.st_reader.specs.LexLaws.{OneLexing}

-- ---- what an item is

abbrev kind_in : Item → Option TokenKind
kind_in (Ok x) = x.0
kind_in (Err cause) = None

abbrev length_in : Item → ℕ
length_in (Ok x) = x.1
length_in (Err cause) = 0

abbrev cause_in : Item → LexCause
cause_in (Ok x) = BadByte
cause_in (Err cause) = cause

-- nothing is left, or no item begins there
abbrev Stops : List ℕ → Type 0
Stops rest = (rest ≡ []) ⊎ ((1 ≤ length rest) × (cause : LexCause) × (item rest ≡ Err cause))

-- the same parts, and the same rest
record Same (ps qs : List Part) (r s : List ℕ) : Type 0 where
  pub parts : ps ≡ qs
  pub rest : r ≡ s

starts : (q : Part) (qs : List Part) (s : List ℕ) → (q.bytes ++ bytes_of qs) ++ s ≡ q.bytes ++ (bytes_of qs ++ s)
starts q qs s = append_assoc q.bytes (bytes_of qs) s

-- where it stops, no part begins
never : (r : List ℕ) (q : Part) (qs : List Part) (s : List ℕ) → Stops r → r ≡ q.bytes ++ (bytes_of qs ++ s) → AreItems (q ∷ qs) s → ⊥
never r q qs s (inl none) e are = absurd (omega (arith, ap length none, ap length e, length-append q.bytes (bytes_of qs ++ s), are.0))
never r q qs s (inr (some, cause, no_item)) e are =
    let same : Err cause ≡ Ok (q.token, length q.bytes) = sym no_item ∙ (ap item e ∙ are.1) in
    absurd (omega (arith, ap length_in same, are.0))

same_part : (p q : Part) (u v : List ℕ) → p.bytes ++ u ≡ q.bytes ++ v → item (p.bytes ++ u) ≡ Ok (p.token, length p.bytes) → item (q.bytes ++ v) ≡ Ok (q.token, length q.bytes) → (p ≡ q) × (u ≡ v)
same_part p q u v e here there =
    let both : Ok (p.token, length p.bytes) ≡ Ok (q.token, length q.bytes) = sym here ∙ (ap item e ∙ there) in
    let tokens : p.token ≡ q.token = ap kind_in both in
    let long : length p.bytes ≡ length q.bytes = ap length_in both in
    let bytes : p.bytes ≡ q.bytes = sym (take-append_seam p.bytes u) ∙ (ap (take (length p.bytes)) e ∙ (ap (λ n. take n (q.bytes ++ v)) long ∙ take-append_seam q.bytes v)) in
    let rest : u ≡ v = sym (drop-append_seam p.bytes u) ∙ (ap (drop (length p.bytes)) e ∙ (ap (λ n. drop n (q.bytes ++ v)) long ∙ drop-append_seam q.bytes v)) in
    ((λ i. record { bytes = bytes i; token = tokens i }), rest)

same_parts : (ps qs : List Part) (r s : List ℕ) → bytes_of ps ++ r ≡ bytes_of qs ++ s → AreItems ps r → AreItems qs s → Stops r → Stops s → Same ps qs r s
same_parts [] [] r s e here there stop stop' = record { parts = refl; rest = e }
same_parts [] (q ∷ qs) r s e here there stop stop' = absurd (never r q qs s stop (e ∙ starts q qs s) there)
same_parts (p ∷ ps) [] r s e here there stop stop' = absurd (never s p ps r stop' (sym e ∙ starts p ps r) here)
same_parts (p ∷ ps) (q ∷ qs) r s e here there stop stop' =
    let x = same_part p q (bytes_of ps ++ r) (bytes_of qs ++ s) (sym (starts p ps r) ∙ (e ∙ starts q qs s)) here.1 there.1 in
    let y = same_parts ps qs r s x.1 here.2 there.2 stop stop' in
    record { parts = (λ i. x.0 i ∷ y.parts i); rest = y.rest }

stops_at : (text : List ℕ) (place : ℕ) (cause : LexCause) → (f : IsLexicalFault text place cause) → Stops f.rest
stops_at text place cause f = inr (f.some, cause, f.no_item)

pub one_lexing : OneLexing
one_lexing = record {
  tokens = λ text a b x y.
      let same = same_parts x.parts y.parts [] [] (append-nil (bytes_of x.parts) ∙ (sym x.whole ∙ (y.whole ∙ sym (append-nil (bytes_of y.parts))))) x.items y.items (inl refl) (inl refl) in
      x.are_tokens ∙ (ap (tokens_from 0) same.parts ∙ sym y.are_tokens);
  fault = λ text p q c d x y.
      let same = same_parts x.parts y.parts x.rest y.rest (sym x.whole ∙ y.whole) x.items y.items (stops_at text p c x) (stops_at text q d y) in
      (x.at ∙ (ap (λ ps. length (bytes_of ps)) same.parts ∙ sym y.at), ap cause_in (sym x.no_item ∙ (ap item same.rest ∙ y.no_item)));
  either = λ text tokens place cause x y.
      let same = same_parts x.parts y.parts [] y.rest (append-nil (bytes_of x.parts) ∙ (sym x.whole ∙ y.whole)) x.items y.items (inl refl) (stops_at text place cause y) in
      absurd (omega (arith, ap length same.rest, y.some));
}
