-- The parts that were found so far.
use Rattle.std.proofs.Common.{◌≡◌, ◌+◌, ◌≤◌, ℕ, List, [], ◌∷◌, ◌++◌, length, take, drop, Option, Ok, Err, refl, ap, sym, ◌∙◌, subst, append_assoc, append-nil, length-append, length-take, take-append-drop, drop-drop, arith}
use Rattle.tri_base.specs.declared.faults.LexCause.{LexCause}
use Rattle.st_tree.specs.declared.token.Token.{Token}
use Rattle.st_tree.specs.declared.token.TokenKind.{TokenKind}
use Rattle.st_tree.specs.Lexes.{item, Part, bytes_of, AreItems, token_of, tokens_from, Lexes, IsLexicalFault}

-- the text up to a place is parts that are the items there
pub record SoFar (text : List ℕ) (place : ℕ) (found : List Token) : Type 0 where
  pub parts : List Part
  pub whole : text ≡ bytes_of parts ++ drop place text
  pub long : length (bytes_of parts) ≡ place
  pub items : AreItems parts (drop place text)
  pub tokens : found ≡ tokens_from 0 parts

-- ---- one part more

bytes_with : (parts : List Part) (part : Part) (rest : List ℕ) → bytes_of (parts ++ part ∷ []) ++ rest ≡ bytes_of parts ++ (part.bytes ++ rest)
bytes_with [] part rest = ap (λ bs. bs ++ rest) (append-nil part.bytes)
bytes_with (q ∷ qs) part rest =
    append_assoc q.bytes (bytes_of (qs ++ part ∷ [])) rest
    ∙ (ap (λ bs. q.bytes ++ bs) (bytes_with qs part rest) ∙ sym (append_assoc q.bytes (bytes_of qs) (part.bytes ++ rest)))

long_with : (parts : List Part) (part : Part) → length (bytes_of (parts ++ part ∷ [])) ≡ length (bytes_of parts) + length part.bytes
long_with [] part = ap length (append-nil part.bytes) ∙ omega arith
long_with (q ∷ qs) part = omega (arith, length-append q.bytes (bytes_of (qs ++ part ∷ [])), length-append q.bytes (bytes_of qs), long_with qs part)

items_with : (parts : List Part) (part : Part) (rest : List ℕ) → AreItems parts (part.bytes ++ rest) → 1 ≤ length part.bytes
    → item (part.bytes ++ rest) ≡ Ok (part.token, length part.bytes) → AreItems (parts ++ part ∷ []) rest
items_with [] part rest are some is = (some, is, tt)
items_with (q ∷ qs) part rest are some is = (are.0, ap (λ bs. item (q.bytes ++ bs)) (bytes_with qs part rest) ∙ are.1, items_with qs part rest are.2 some is)

tokens_with : (place : ℕ) (parts : List Part) (part : Part) → tokens_from place (parts ++ part ∷ []) ≡ tokens_from place parts ++ token_of (place + length (bytes_of parts)) part.token
tokens_with place [] part = append-nil (token_of place part.token) ∙ (let e : place ≡ place + 0 = omega arith in ap (λ n. token_of n part.token) e)
tokens_with place (q ∷ qs) part =
    let e : place + length q.bytes + length (bytes_of qs) ≡ place + length (q.bytes ++ bytes_of qs) = omega (arith, length-append q.bytes (bytes_of qs)) in
    ap (λ ts. token_of place q.token ++ ts) (tokens_with (place + length q.bytes) qs part ∙ ap (λ n. tokens_from (place + length q.bytes) qs ++ token_of n part.token) e)
    ∙ sym (append_assoc (token_of place q.token) (tokens_from (place + length q.bytes) qs) (token_of (place + length (q.bytes ++ bytes_of qs)) part.token))

-- an item at the place
pub goes_on : (text : List ℕ) (place : ℕ) (found : List Token) (kind : Option TokenKind) (len : ℕ) → SoFar text place found → item (drop place text) ≡ Ok (kind, len) → 1 ≤ len
    → len ≤ length (drop place text) → SoFar text (place + len) (found ++ token_of place kind)
goes_on text place found kind len so is some within =
    let left = drop place text in
    let part : Part = record { bytes = take len left; token = kind } in
    let rest = drop (place + len) text in
    let seam : left ≡ part.bytes ++ rest = sym (take-append-drop len left) ∙ ap (λ bs. take len left ++ bs) (drop-drop len place text) in
    let at : place ≡ 0 + length (bytes_of so.parts) = omega (arith, so.long) in
    let long : length part.bytes ≡ len = omega (arith, length-take len left, within) in
    record {
      parts = so.parts ++ part ∷ [];
      whole = so.whole ∙ (ap (λ bs. bytes_of so.parts ++ bs) seam ∙ sym (bytes_with so.parts part rest));
      long = omega (arith, long_with so.parts part, so.long, long);
      items = items_with so.parts part rest (subst (AreItems so.parts) seam so.items) (omega (arith, long, some)) (ap item (sym seam) ∙ (is ∙ ap (λ n. Ok (kind, n)) (sym long)));
      tokens =
          ap (λ ts. ts ++ token_of place kind) so.tokens
          ∙ (ap (λ n. tokens_from 0 so.parts ++ token_of n kind) at ∙ sym (tokens_with 0 so.parts part));
    }

-- ---- the start and the end

pub begins : (text : List ℕ) (found : List Token) → found ≡ [] → SoFar text 0 found
begins text found none = record { parts = []; whole = refl; long = refl; items = tt; tokens = none }

none_left : (bs : List ℕ) → length bs ≡ 0 → bs ≡ []
none_left [] e = refl
none_left (b ∷ bs) e = absurd (omega arith)

pub ends : (text : List ℕ) (place : ℕ) (found : List Token) → SoFar text place found → length (drop place text) ≡ 0 → Lexes text found
ends text place found so none =
    let e = none_left (drop place text) none in
    record {
      parts = so.parts;
      whole = so.whole ∙ (ap (λ bs. bytes_of so.parts ++ bs) e ∙ append-nil (bytes_of so.parts));
      items = subst (AreItems so.parts) e so.items;
      are_tokens = so.tokens;
    }

pub refuses : (text : List ℕ) (place : ℕ) (found : List Token) (cause : LexCause) → SoFar text place found → 1 ≤ length (drop place text) → item (drop place text) ≡ Err cause → IsLexicalFault text place cause
refuses text place found cause so some is = record {
  parts = so.parts;
  rest = drop place text;
  whole = so.whole;
  items = so.items;
  some = some;
  no_item = is;
  at = sym so.long;
}
