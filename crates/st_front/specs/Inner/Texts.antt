-- Nobody has to believe what stands here: it serves private functions alone.
-- Every text spells tokens, or has a first faulty byte.
use Rattle.std.proofs.Common.{◌≡◌, ◌+◌, ◌≤◌, ◌||◌, ◌==◌, ◌⊎◌, inl, inr, ℕ, zero, suc, Bool, true, false, cond, if◌then◌else◌, List, [], ◌∷◌, ◌++◌, length, take, drop, codes, Option, Some, None, Result, Ok, Err, refl, ap, sym, ◌∙◌, subst, map, append_assoc, append-nil, length-take, length-drop, take-append-drop, arith}
use Rattle.std.specs.List.{prefix_len}
use Rattle.std.specs.Option.{option_map}
use Rattle.std.specs.Char.{is_ascii_digit, to_ascii_uppercase}
use Rattle.std.specs.Int.{is_in_range}
use Rattle.std.proofs.lemmas.Slice.Eq.{bytes_eq-Decides}
use Rattle.std.specs.Prelude.{nat_lt}
use Rattle.tri_base.specs.Bytes.{underscore, number_sign}
use Rattle.tri_base.specs.Names.{is_word_byte, name_limit}
use Rattle.tri_base.specs.declared.faults.LexCause.TheVariants.{NameTooLong}
use Rattle.st_tree.specs.declared.token.Token.{Token}
use Rattle.tri_base.specs.declared.faults.LexCause.{LexCause}
use Rattle.st_tree.specs.declared.token.Fixed.{Fixed}
use Rattle.st_tree.specs.Words.{begins_with, symbol_among, symbol_of, symbols, reserved_word}
use Rattle.st_tree.specs.Numerals.{numeral}
use Rattle.st_tree.specs.Lexes.{Item, item, is_white, is_number_byte, front, comment_end, comment_item, number_of, number_item, word_item, word_kind, symbol_item, Part, bytes_of, AreItems, tokens_from, Lexes, IsLexicalFault}

-- ---- an item has some bytes, and all of them are there

-- how many bytes an item has
abbrev length_in : Item → ℕ
length_in (Ok x) = x.1
length_in (Err cause) = 0

-- the number of bytes of an item that there is
abbrev Within : Item → ℕ → Type 0
Within (Ok x) limit = (1 ≤ x.1) × (x.1 ≤ limit)
Within (Err cause) limit = Unit {0}

-- ---- comments

begins_long : (text front : List ℕ) → begins_with text front ≡ true → length front ≤ length text
begins_long text front e =
    let same = (bytes_eq-Decides front (take (length front) text)) in
    omega (arith, ap length (same.0 e), length-take (length front) text)

plus_two : (n limit : ℕ) → n ≤ limit → n + 1 ≤ suc limit
plus_two n limit h = omega (arith, h)

abbrev EndWithin : Option ℕ → ℕ → Type 0
EndWithin (Some n) limit = n ≤ limit
EndWithin None limit = Unit {0}

one_on : (o : Option ℕ) (limit : ℕ) → EndWithin o limit → EndWithin (option_map (λ n. n + 1) o) (suc limit)
one_on (Some n) limit h = plus_two n limit h
one_on None limit h = tt

comment_within : (text : List ℕ) → EndWithin (comment_end text) (length text)
comment_within [] = tt
comment_within (b ∷ bs) = by (begins_with (b ∷ bs) (codes "*)")) refl (comment_within bs)
  where
    by : (t : Bool) → begins_with (b ∷ bs) (codes "*)") ≡ t → EndWithin (comment_end bs) (length bs)
        → EndWithin (if t then Some 2 else option_map (λ n. n + 1) (comment_end bs)) (length (b ∷ bs))
    by true e h = begins_long (b ∷ bs) (codes "*)") e
    by false e h = one_on (comment_end bs) (length bs) h

comment_item_within : (o : Option ℕ) (limit whole : ℕ) → EndWithin o limit → limit + 2 ≤ whole → Within (comment_item o) whole
comment_item_within (Some n) limit whole h k = (omega arith, omega (arith, h, k))
comment_item_within None limit whole h k = tt

-- ---- numbers and words

prefix_within : (p : ℕ → Bool) (xs : List ℕ) → prefix_len p xs ≤ length xs
prefix_within p [] = omega arith
prefix_within p (x ∷ xs) = by (p x) (prefix_within p xs)
  where
    by : (t : Bool) → prefix_len p xs ≤ length xs → cond t (1 + prefix_len p xs) 0 ≤ suc (length xs)
    by true h = omega (arith, h)
    by false h = omega arith

front_length : (p : ℕ → Bool) (xs : List ℕ) → length (front p xs) ≡ prefix_len p xs
front_length p xs = omega (arith, length-take (prefix_len p xs) xs, prefix_within p xs)

front_within : (p : ℕ → Bool) (xs : List ℕ) → length (front p xs) ≤ length xs
front_within p xs = omega (arith, front_length p xs, prefix_within p xs)

front_some : (p : ℕ → Bool) (x : ℕ) (xs : List ℕ) → p x ≡ true → 1 ≤ length (front p (x ∷ xs))
front_some p x xs e =
    let is : prefix_len p (x ∷ xs) ≡ 1 + prefix_len p xs = ap (λ t. cond t (1 + prefix_len p xs) 0) e in
    omega (arith, front_length p (x ∷ xs), is)

number_within : (len limit : ℕ) (r : Result ℕ LexCause) → 1 ≤ len → len ≤ limit → Within (number_of len r) limit
number_within len limit (Ok n) some h = (some, h)
number_within len limit (Err cause) some h = tt

word_within : (text : List ℕ) (limit : ℕ) → 1 ≤ length text → length text ≤ limit → Within (word_item text) limit
word_within text limit some h = by (nat_lt name_limit (length text))
  where
    by : (t : Bool) → Within (if t then Err NameTooLong else Ok (Some (word_kind (map to_ascii_uppercase text) (reserved_word (map to_ascii_uppercase text))), length text)) limit
    by true = tt
    by false = (some, h)

digit_is_word : (b : ℕ) → is_ascii_digit b ≡ true → is_number_byte b ≡ true
digit_is_word b e = ap (λ t. (((t || is_in_range 65 90 b) || is_in_range 97 122 b) || b == underscore) || b == number_sign) e

-- ---- symbols

abbrev SymbolWithin : Option (Fixed × ℕ) → ℕ → Type 0
SymbolWithin (Some found) limit = (1 ≤ found.1) × (found.1 ≤ limit)
SymbolWithin None limit = Unit {0}

-- no symbol is empty
abbrev AreSome : List (List ℕ × Fixed) → Type 0
AreSome [] = Unit {0}
AreSome (entry ∷ entries) = (1 ≤ length entry.0) × AreSome entries

among_within : (entries : List (List ℕ × Fixed)) (text : List ℕ) → AreSome entries → SymbolWithin (symbol_among entries text) (length text)
among_within [] text are = tt
among_within (entry ∷ entries) text are = by (begins_with text entry.0) refl (among_within entries text are.1)
  where
    by : (t : Bool) → begins_with text entry.0 ≡ t → SymbolWithin (symbol_among entries text) (length text)
        → SymbolWithin (if t then Some (entry.1, length entry.0) else symbol_among entries text) (length text)
    by true e h = (are.0, begins_long text entry.0 e)
    by false e h = h

some_symbols : AreSome symbols
some_symbols = (omega arith, (omega arith, (omega arith, (omega arith, (omega arith, (omega arith, (omega arith, (omega arith, (omega arith, (omega arith, (omega arith, (omega arith, (omega arith, (omega arith, (omega arith, (omega arith, (omega arith, (omega arith, (omega arith, (omega arith, (omega arith, tt)))))))))))))))))))))

symbol_within : (o : Option (Fixed × ℕ)) (limit : ℕ) → SymbolWithin o limit → Within (symbol_item o) limit
symbol_within (Some found) limit h = h
symbol_within None limit h = tt

-- ---- all items

abbrev behind_white : List ℕ → ℕ → Item
behind_white text first =
    if begins_with text (codes "(*") then comment_item (comment_end (drop 2 text))
    else (if is_ascii_digit first then number_item (front is_number_byte text)
    else (if is_word_byte first then word_item (front is_word_byte text)
    else symbol_item (symbol_of text)))

item_within : (b : ℕ) (bs : List ℕ) → Within (item (b ∷ bs)) (length (b ∷ bs))
unfolding item symbol_of
item_within b bs = white (is_white b)
  where
    text : List ℕ
    text = b ∷ bs

    word : (t : Bool) → is_word_byte b ≡ t → Within (if t then word_item (front is_word_byte (b ∷ bs)) else symbol_item (symbol_among symbols (b ∷ bs))) (suc (length bs))
    word true e = word_within (front is_word_byte (b ∷ bs)) (suc (length bs)) (front_some is_word_byte b bs e) (front_within is_word_byte (b ∷ bs))
    word false e = symbol_within (symbol_among symbols (b ∷ bs)) (suc (length bs)) (among_within symbols (b ∷ bs) some_symbols)

    digit : (t : Bool) → is_ascii_digit b ≡ t → Within (if t then number_item (front is_number_byte (b ∷ bs)) else (if is_word_byte b then word_item (front is_word_byte (b ∷ bs)) else symbol_item (symbol_among symbols (b ∷ bs)))) (suc (length bs))
    digit true e = number_within (length (front is_number_byte (b ∷ bs))) (suc (length bs)) (numeral (front is_number_byte (b ∷ bs))) (front_some is_number_byte b bs (digit_is_word b e)) (front_within is_number_byte (b ∷ bs))
    digit false e = word (is_word_byte b) refl

    comment : (t : Bool) → begins_with (b ∷ bs) (codes "(*") ≡ t
        → Within (if t then comment_item (comment_end (drop 2 (b ∷ bs))) else (if is_ascii_digit b then number_item (front is_number_byte (b ∷ bs)) else (if is_word_byte b then word_item (front is_word_byte (b ∷ bs)) else symbol_item (symbol_among symbols (b ∷ bs))))) (suc (length bs))
    comment true e = comment_item_within (comment_end (drop 2 (b ∷ bs))) (length (drop 2 (b ∷ bs))) (suc (length bs)) (comment_within (drop 2 (b ∷ bs)))
        (omega (arith, begins_long (b ∷ bs) (codes "(*") e, length-drop 2 (b ∷ bs)))
    comment false e = digit (is_ascii_digit b) refl

    white : (t : Bool) → Within (if t then Ok (None, 1) else (if begins_with (b ∷ bs) (codes "(*") then comment_item (comment_end (drop 2 (b ∷ bs))) else (if is_ascii_digit b then number_item (front is_number_byte (b ∷ bs)) else (if is_word_byte b then word_item (front is_word_byte (b ∷ bs)) else symbol_item (symbol_among symbols (b ∷ bs)))))) (suc (length bs))
    white true = (omega arith, omega arith)
    white false = comment (begins_with (b ∷ bs) (codes "(*")) refl

-- ---- all texts

-- the parts of a text, and what is left behind them: nothing, or a rest at which no item begins
pub record Split (text : List ℕ) : Type 0 where
  pub parts : List Part
  pub rest : List ℕ
  pub whole : text ≡ bytes_of parts ++ rest
  pub items : AreItems parts rest
  pub ends : (rest ≡ []) ⊎ ((1 ≤ length rest) × (cause : LexCause) × (item rest ≡ Err cause))

-- a part more in front
in_front : (part : Part) (text behind : List ℕ) → text ≡ part.bytes ++ behind → 1 ≤ length part.bytes → item text ≡ Ok (part.token, length part.bytes) → Split behind → Split text
in_front part text behind seam some is s =
    let whole : text ≡ (part.bytes ++ bytes_of s.parts) ++ s.rest =
    seam ∙ (ap (λ bs. part.bytes ++ bs) s.whole ∙ sym (append_assoc part.bytes (bytes_of s.parts) s.rest)) in
    let there : item (part.bytes ++ (bytes_of s.parts ++ s.rest)) ≡ Ok (part.token, length part.bytes) =
    ap item (ap (λ bs. part.bytes ++ bs) (sym s.whole) ∙ sym seam) ∙ is in
    record { parts = part ∷ s.parts; rest = s.rest; whole = whole; items = (some, there, s.items); ends = s.ends }

split_within : (n : ℕ) (text : List ℕ) → length text ≤ n → Split text
split_within n [] h = record { parts = []; rest = []; whole = refl; items = tt; ends = inl refl }
split_within zero (b ∷ bs) h = absurd (omega (arith, h))
split_within (suc n) (b ∷ bs) h = by (item (b ∷ bs)) refl (item_within b bs) (split_within n)
  where
    by : (i : Item) → item (b ∷ bs) ≡ i → Within i (length (b ∷ bs)) → ((text : List ℕ) → length text ≤ n → Split text) → Split (b ∷ bs)
    by (Ok (kind, len)) e w further =
        let part : Part = record { bytes = take len (b ∷ bs); token = kind } in
        let long : length part.bytes ≡ len = omega (arith, length-take len (b ∷ bs), w.1) in
        in_front part (b ∷ bs) (drop len (b ∷ bs)) (sym (take-append-drop len (b ∷ bs))) (omega (arith, long, w.0)) (e ∙ ap (λ n. Ok (kind, n)) (sym long))
        (further (drop len (b ∷ bs)) (omega (arith, length-drop len (b ∷ bs), w.0, h)))
    by (Err cause) e w further = record { parts = []; rest = b ∷ bs; whole = refl; items = tt; ends = inr (omega arith, cause, e) }

-- what a text is
pub data Lexed (text : List ℕ) : Type 0 where
  Spelled : (tokens : List Token) → Lexes text tokens → Lexed text
  Faulty : (place : ℕ) → (cause : LexCause) → IsLexicalFault text place cause → Lexed text

pub every_text : (text : List ℕ) → Lexed text
every_text text = by (split_within (length text) text (omega arith))
  where
    by : Split text → Lexed text
    by s = end s.ends
      where
        end : (s.rest ≡ []) ⊎ ((1 ≤ length s.rest) × (cause : LexCause) × (item s.rest ≡ Err cause)) → Lexed text
        end (inl none) = Spelled (tokens_from 0 s.parts) (record {
          parts = s.parts;
          whole = s.whole ∙ (ap (λ r. bytes_of s.parts ++ r) none ∙ append-nil (bytes_of s.parts));
          items = subst (AreItems s.parts) none s.items;
          are_tokens = refl;
        })
        end (inr (some, cause, is)) = Faulty (length (bytes_of s.parts)) cause (record {
          parts = s.parts;
          rest = s.rest;
          whole = s.whole;
          items = s.items;
          some = some;
          no_item = is;
          at = refl;
        })
