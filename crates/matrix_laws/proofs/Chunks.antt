-- A text in pieces: what each piece spells, where something follows it.
use Rattle.std.proofs.Common.{◌≡◌, ℕ, ◌+◌, ◌≤◌, List, [], ◌∷◌, ◌++◌, length, Option, Some, None, Ok, refl, sym, ap, ◌∙◌, subst, arith, append_assoc, append-nil, length-append, codes}
use Rattle.std.specs.List.{flat_map}
use Rattle.std.proofs.lemmas.Grind.{flat_map-append}
use Rattle.st_tree.specs.declared.token.Token.{Token}
use Rattle.st_tree.specs.Lexes.{Part, AreItems, bytes_of, token_of, tokens_from, item}
use Rattle.st_tree.specs.Nesting.{nesting_with, nesting_limit, too_deep_from, first_too_deep}
use Rattle.st_tree.specs.Pieces.{Piece, ArePieces}

-- tokens of which none opens or closes
abbrev pub AreFlat : List Token → Type 0
AreFlat [] = Unit {0}
AreFlat (t ∷ ts) = ((depth : ℕ) → nesting_with depth t.kind ≡ depth) × AreFlat ts

-- A text at a byte place, in front of the rest: its items, and the pieces that they are.
pub record Chunk (place : ℕ) (text rest : List ℕ) (pieces : List Piece) : Type 0 where
  pub parts : List Part
  pub bytes : bytes_of parts ≡ text
  pub items : AreItems parts rest
  pub spelled : ArePieces pieces (tokens_from place parts)
  pub flat : AreFlat (tokens_from place parts)

-- ---- one behind the other

items_join : (xs ys : List Part) (rest : List ℕ) → AreItems xs (bytes_of ys ++ rest) → AreItems ys rest → AreItems (xs ++ ys) rest
items_join [] ys rest a b = b
items_join (x ∷ xs) ys rest a b =
    let bytes : bytes_of xs ++ (bytes_of ys ++ rest) ≡ bytes_of (xs ++ ys) ++ rest =
    sym (append_assoc (bytes_of xs) (bytes_of ys) rest) ∙ ap (λ t. t ++ rest) (sym (flat_map-append (λ (p : Part). p.bytes) xs ys)) in
    (a.0, ap (λ t. item (x.bytes ++ t)) (sym bytes) ∙ a.1, items_join xs ys rest a.2 b)

tokens_join : (place : ℕ) (xs ys : List Part) → tokens_from place (xs ++ ys) ≡ tokens_from place xs ++ tokens_from (place + length (bytes_of xs)) ys
tokens_join place [] ys = ap (λ n. tokens_from n ys) (omega arith)
tokens_join place (x ∷ xs) ys =
    let there : place + length x.bytes + length (bytes_of xs) ≡ place + length (bytes_of (x ∷ xs)) = omega (arith, length-append x.bytes (bytes_of xs)) in
    ap (λ ts. token_of place x.token ++ ts) (tokens_join (place + length x.bytes) xs ys)
    ∙ (sym (append_assoc (token_of place x.token) (tokens_from (place + length x.bytes) xs) (tokens_from (place + length x.bytes + length (bytes_of xs)) ys))
    ∙ ap (λ n. (token_of place x.token ++ tokens_from (place + length x.bytes) xs) ++ tokens_from n ys) there)

pieces_join : (ps qs : List Piece) (ts us : List Token) → ArePieces ps ts → ArePieces qs us → ArePieces (ps ++ qs) (ts ++ us)
pieces_join [] qs [] us a b = b
pieces_join [] qs (t ∷ ts) us a b = absurd a
pieces_join (p ∷ ps) qs [] us a b = absurd a
pieces_join (p ∷ ps) qs (t ∷ ts) us a b = (a.0, pieces_join ps qs ts us a.1 b)

flat_join : (ts us : List Token) → AreFlat ts → AreFlat us → AreFlat (ts ++ us)
flat_join [] us a b = b
flat_join (t ∷ ts) us a b = (a.0, flat_join ts us a.1 b)

pub join : {place : ℕ} {a b rest : List ℕ} {ps qs : List Piece} → Chunk place a (b ++ rest) ps → Chunk (place + length a) b rest qs → Chunk place (a ++ b) rest (ps ++ qs)
join {place} {a} {b} {rest} {ps} {qs} x y =
    let tokens : tokens_from place (x.parts ++ y.parts) ≡ tokens_from place x.parts ++ tokens_from (place + length a) y.parts =
    tokens_join place x.parts y.parts ∙ ap (λ t. tokens_from place x.parts ++ tokens_from (place + length t) y.parts) x.bytes in
    record {
      parts = x.parts ++ y.parts;
      bytes = flat_map-append (λ (p : Part). p.bytes) x.parts y.parts ∙ (λ i. x.bytes i ++ y.bytes i);
      items = items_join x.parts y.parts rest (subst (λ (t : List ℕ). AreItems x.parts (t ++ rest)) (sym y.bytes) x.items) y.items;
      spelled = subst (ArePieces (ps ++ qs)) (sym tokens) (pieces_join ps qs (tokens_from place x.parts) (tokens_from (place + length a) y.parts) x.spelled y.spelled);
      flat = subst AreFlat (sym tokens) (flat_join (tokens_from place x.parts) (tokens_from (place + length a) y.parts) x.flat y.flat);
    }

pub nothing : (place : ℕ) (rest : List ℕ) → Chunk place [] rest []
nothing place rest = record { parts = []; bytes = refl; items = tt; spelled = tt; flat = tt }

-- flat tokens never nest too deep
flat_low : (ts : List Token) → AreFlat ts → too_deep_from 0 ts ≡ None
flat_low [] h = refl
flat_low (t ∷ ts) h = ap (λ n. Rattle.std.proofs.Common.cond (Rattle.std.proofs.Common.nat_eq n (nesting_limit + 1)) (Some 0) (Rattle.std.specs.Option.option_map (λ at. at + 1) (too_deep_from n ts))) (h.0 0) ∙ ap (λ o. Rattle.std.specs.Option.option_map (λ at. at + 1) o) (flat_low ts h.1)

pub low : (ts : List Token) → AreFlat ts → first_too_deep ts ≡ None
unfolding first_too_deep
low ts h = flat_low ts h
