-- A text's letters as capitals, in 32 bytes with zeros behind.
use Rattle.std.proofs.Common.{◌≡◌, ℕ, ◌≤◌, ◌<◌, ◌+◌, ◌-◌, Bool, true, false, not, List, [], ◌∷◌, ◌++◌, length, take, get_or, replicate, map, Some, refl, sym, ap, ◌∙◌, arith, append_assoc, ◌&&◌, nat_le, suc}
use Rattle.std.specs.List.{list_all}
use Rattle.std.specs.Char.{is_ascii_digit, to_ascii_uppercase}
use Rattle.std.proofs.lemmas.List.{set_at, length-map, length-take-le, take_all, take_more, map-append}
use Rattle.std.proofs.Math.ListN.{set}
use Rattle.std.proofs.Math.Seq.{take-append_seam}
use Rattle.tri_base.specs.Names.{is_word_byte, is_name, name_of, starts_with_digit}
use Rattle.tri_base.specs.Inner.NameFields.{padded, IsKept}

-- the first bytes of the text, as capitals, and zeros behind them
abbrev pub front : List ℕ → ℕ → List ℕ
front text i = map to_ascii_uppercase (take i text) ++ replicate (32 - i) 0

pub front_more : (text bytes : List ℕ) (i : ℕ) → i < length text → length text ≤ 32 → bytes ≡ front text i → set bytes i (to_ascii_uppercase (get_or text i 0)) ≡ front text (i + 1)
front_more text bytes i within fits is =
    let done = map to_ascii_uppercase (take i text) in
    let byte = to_ascii_uppercase (get_or text i 0) in
    let rest : List ℕ = replicate (32 - (i + 1)) 0 in
    let room : 32 - i ≡ suc (32 - (i + 1)) = omega arith in
    let long : length done ≡ i = length-map (take i text) to_ascii_uppercase ∙ length-take-le i text (omega arith) in
    let open_is : bytes ≡ done ++ 0 ∷ rest = is ∙ ap (λ k. done ++ replicate k 0) room in
    let more : map to_ascii_uppercase (take (i + 1) text) ≡ done ++ byte ∷ [] = ap (map to_ascii_uppercase) (take_more text i 0 within) ∙ map-append to_ascii_uppercase (take i text) (get_or text i 0 ∷ []) in
    ap (λ bs. set bs i byte) open_is ∙ (set_at done 0 rest byte i long ∙ (sym (append_assoc done (byte ∷ []) rest) ∙ ap (λ l. l ++ rest) (sym more)))

-- capitals stay as they are
stays : (b : ℕ) → to_ascii_uppercase (to_ascii_uppercase b) ≡ to_ascii_uppercase b
stays b = grind arith

word : (b : ℕ) → is_word_byte b ≡ is_word_byte (to_ascii_uppercase b)
word b = grind arith

digit : (b : ℕ) → is_ascii_digit (to_ascii_uppercase b) ≡ is_ascii_digit b
digit b = grind arith

words : (text : List ℕ) → list_all is_word_byte (map to_ascii_uppercase text) ≡ list_all is_word_byte text
words [] = refl
words (b ∷ bs) = cc (word b, words bs)

digits : (text : List ℕ) → starts_with_digit (map to_ascii_uppercase text) ≡ starts_with_digit text
digits [] = refl
digits (b ∷ bs) = digit b

capitals : (text : List ℕ) → map to_ascii_uppercase (map to_ascii_uppercase text) ≡ map to_ascii_uppercase text
capitals [] = refl
capitals (b ∷ bs) = cc (stays b, capitals bs)

-- the capitals of a name are that name
pub name_of-capitals : (text : List ℕ) → is_name text ≡ true → name_of (map to_ascii_uppercase text) ≡ Some (map to_ascii_uppercase text)
name_of-capitals text h =
    let long = length-map text to_ascii_uppercase in
    let named : is_name (map to_ascii_uppercase text) ≡ true = cc (long, words text, digits text) in
    cc (named, capitals text)

first : (a b : Bool) → (a && b) ≡ true → (a ≡ true) × (b ≡ true)
first true b h = (refl, h)
first false b h = absurd (cc)

-- a name has 1 to 32 bytes
pub name_length : (text : List ℕ) → is_name text ≡ true → (1 ≤ length text) × (length text ≤ 32)
name_length text h =
    let outer = first (nat_le 1 (length text) && nat_le (length text) 32 && list_all is_word_byte text) (not (starts_with_digit text)) h in
    let middle = first (nat_le 1 (length text) && nat_le (length text) 32) (list_all is_word_byte text) outer.0 in
    let inner = first (nat_le 1 (length text)) (nat_le (length text) 32) middle.0 in
    (grind (arith, inner.0), grind (arith, inner.1))

-- a whole name's 32 bytes are as they are kept
pub whole_is_kept : (text bytes : List ℕ) → is_name text ≡ true → bytes ≡ front text (length text) → IsKept record { len = length text; bytes = bytes }
whole_is_kept text bytes named is =
    let size = name_length text named in
    let name = map to_ascii_uppercase text in
    let long : length name ≡ length text = length-map text to_ascii_uppercase in
    let is' : bytes ≡ padded name = is ∙ (ap (λ t. map to_ascii_uppercase t ++ replicate (32 - length text) 0) (take_all (length text) text (omega arith)) ∙ ap (λ k. name ++ replicate (32 - k) 0) (sym long)) in
    let text_is : take (length text) bytes ≡ name = ap (λ (x : ℕ × List ℕ). take x.0 x.1) (λ i. (sym long i, is' i)) ∙ take-append_seam name (replicate (32 - length name) 0) in
    record {
      some = size.0;
      fits = size.1;
      zeros = is' ∙ ap padded (sym text_is);
      spelled = ap name_of text_is ∙ (name_of-capitals text named ∙ ap (λ t. Some t) (sym text_is));
    }
