-- A name of a matrix, in a text, is a name token.
use Rattle.std.proofs.Common.{◌≡◌, ℕ, ◌+◌, ◌≤◌, nat_le, nat_lt, ◌==◌, Bool, true, false, not, cond, ◌&&◌, ◌||◌, if◌then◌else◌, List, [], ◌∷◌, ◌++◌, length, map, take, drop, slice_index, codes, Option, Some, None, Ok, Err, unwrap_or, refl, sym, ap, ◌∙◌, arith, true≢false}
use Rattle.std.specs.List.{list_all, prefix_len}
use Rattle.std.specs.Char.{to_ascii_uppercase}
use Rattle.std.proofs.lemmas.Bool.{eqb-true, ltb-true, leb-true}
use Rattle.std.proofs.lemmas.Slice.Eq.{bytes_eq-Decides}
use Rattle.std.proofs.Math.Seq.{take-append_seam}
use Rattle.tri_base.specs.Names.{is_word_byte, is_name, name_of, name_limit, starts_with_digit}
use Rattle.tri_base.specs.declared.faults.LexCause.TheVariants.{NameTooLong}
use Rattle.st_tree.specs.declared.token.TokenKind.TheVariants as kind
use Rattle.st_tree.specs.Words.{reserved_word, begins_with, symbol_of}
use Rattle.st_tree.specs.Lexes.{item, is_white, is_number_byte, front, comment_end, comment_item, word_kind, word_item, number_item, symbol_item}
use Rattle.cause_effect.specs.Matrices.{IsFree}

and_true : (a b : Bool) → (a && b) ≡ true → (a ≡ true) × (b ≡ true)
and_true true true h = (refl, refl)
and_true true false h = absurd (true≢false (sym h))
and_true false b h = absurd (true≢false (sym h))

not_true : (b : Bool) → not b ≡ true → b ≡ false
not_true true h = absurd (true≢false (sym h))
not_true false h = refl

-- a text that doesn't begin with a letter, a digit or an underscore
abbrev pub Stops : List ℕ → Type 0
Stops [] = Unit {0}
Stops (b ∷ bs) = is_word_byte b ≡ false

-- the letters, digits and underscores at the front are the name
front_len : (name rest : List ℕ) → list_all is_word_byte name ≡ true → Stops rest → prefix_len is_word_byte (name ++ rest) ≡ length name
front_len [] [] h stop = refl
front_len [] (b ∷ bs) h stop = ap (λ t. cond t (1 + prefix_len is_word_byte bs) 0) stop
front_len (b ∷ bs) rest h stop =
    let both = and_true (is_word_byte b) (list_all is_word_byte bs) h in
    ap (λ t. cond t (1 + prefix_len is_word_byte (bs ++ rest)) 0) both.0 ∙ omega (arith, front_len bs rest both.1 stop)

pub front_is : (name rest : List ℕ) → list_all is_word_byte name ≡ true → Stops rest → front is_word_byte (name ++ rest) ≡ name
front_is name rest h stop = ap (λ n. take n (name ++ rest)) (front_len name rest h stop) ∙ take-append_seam name rest

-- a word's byte is none that is no word's
another : (b k : ℕ) → is_word_byte b ≡ true → is_word_byte k ≡ false → (b == k) ≡ false
another b k h g = by (b == k) refl
  where
    by : (t : Bool) → (b == k) ≡ t → t ≡ false
    by true e = absurd (true≢false (sym h ∙ (ap is_word_byte (eqb-true b k e) ∙ g)))
    by false e = refl

no_white : (b : ℕ) → is_word_byte b ≡ true → is_white b ≡ false
no_white b h = λ i. another b 32 h refl i || another b 9 h refl i || another b 13 h refl i || another b 10 h refl i

no_comment : (b : ℕ) (bs : List ℕ) → is_word_byte b ≡ true → begins_with (b ∷ bs) (codes "(*") ≡ false
no_comment b bs h = by (begins_with (b ∷ bs) (codes "(*")) refl
  where
    by : (t : Bool) → begins_with (b ∷ bs) (codes "(*") ≡ t → t ≡ false
    by true e =
        let same : 40 ≡ b = ap (λ l. slice_index l 0) ((bytes_eq-Decides (codes "(*") (take 2 (b ∷ bs))).0 e) in
        absurd (true≢false (sym h ∙ ap is_word_byte (sym same)))
    by false e = refl

-- what is known of a name
record Named (name : List ℕ) : Type 0 where
  some : 1 ≤ length name
  fits : length name ≤ 32
  bytes : list_all is_word_byte name ≡ true
  letter : starts_with_digit name ≡ false
  capitals : map to_ascii_uppercase name ≡ name

some_is : (a b : List ℕ) → ◌≡◌ {A = Option (List ℕ)} (Some a) (Some b) → a ≡ b
some_is a b h = ap (λ o. unwrap_or o a) h

named : (name : List ℕ) → name_of name ≡ Some name → Named name
named name h = by (is_name name) refl h
  where
    by : (t : Bool) → is_name name ≡ t → ◌≡◌ {A = Option (List ℕ)} (if t then Some (map to_ascii_uppercase name) else None) (Some name) → Named name
    by true e k =
        let all = and_true (nat_le 1 (length name) && nat_le (length name) name_limit && list_all is_word_byte name) (not (starts_with_digit name)) e in
        let most = and_true (nat_le 1 (length name) && nat_le (length name) name_limit) (list_all is_word_byte name) all.0 in
        let sizes = and_true (nat_le 1 (length name)) (nat_le (length name) name_limit) most.0 in
        record { some = leb-true 1 (length name) sizes.0; fits = leb-true (length name) 32 sizes.1; bytes = most.1; letter = not_true (starts_with_digit name) all.1; capitals = some_is (map to_ascii_uppercase name) name k }
    by false e k = absurd (cc)

short : (n : ℕ) → n ≤ 32 → nat_lt 32 n ≡ false
short n h = by (nat_lt 32 n) refl
  where
    by : (t : Bool) → nat_lt 32 n ≡ t → t ≡ false
    by true e = absurd (omega (arith, h, ltb-true 32 n e))
    by false e = refl

-- a name in front of what stops it
a_name : (name rest : List ℕ) → Named name → reserved_word name ≡ None → Stops rest → item (name ++ rest) ≡ Ok (Some (kind.Name name), length name)
unfolding item
a_name [] rest k r stop = absurd (omega (arith, k.some))
a_name (b ∷ bs) rest k r stop =
    let name : List ℕ = b ∷ bs in
    let text : List ℕ = name ++ rest in
    let word = (and_true (is_word_byte b) (list_all is_word_byte bs) k.bytes).0 in
    let first : item text ≡ word_item (front is_word_byte text) =
    λ i. if no_white b word i then Ok (None, 1)
    else (if no_comment b (bs ++ rest) word i then comment_item (comment_end (drop 2 text))
    else (if k.letter i then number_item (front is_number_byte text)
    else (if word i then word_item (front is_word_byte text)
    else symbol_item (symbol_of text)))) in
    let reserved : reserved_word (map to_ascii_uppercase name) ≡ None = ap reserved_word k.capitals ∙ r in
    let whole : word_item name ≡ Ok (Some (kind.Name name), length name) =
    λ i. if short (length name) k.fits i then Err NameTooLong else Ok (Some (word_kind (k.capitals i) (reserved i)), length name) in
    first ∙ (ap word_item (front_is name rest k.bytes stop) ∙ whole)

pub name_item : (name rest : List ℕ) → IsFree name → Stops rest → item (name ++ rest) ≡ Ok (Some (kind.Name name), length name)
name_item name rest free stop = a_name name rest (named name free.0) free.1 stop

pub some_bytes : (name : List ℕ) → IsFree name → 1 ≤ length name
some_bytes name free = (named name free.0).some
