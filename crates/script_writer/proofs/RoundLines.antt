-- Lines and words that were written are read again.
use Rattle.std.proofs.Common.{◌≡◌, ℕ, Bool, true, false, not, List, [], ◌∷◌, ◌++◌, map, flat_map, nat_lt, ◌==◌, ◌&&◌, refl, sym, ap, ◌∙◌, arith, append_assoc, append-nil}
use Rattle.std.specs.Bool.{if◌then◌else◌}
use Rattle.std.specs.List.{list_all}
use Rattle.std.proofs.lemmas.List.Folds.{list_all-append}
use Rattle.script_lines.specs.Lines.{in_front, lines_of, content_of, ended}
use Rattle.script_lines.specs.Words.{is_blank, with_byte, words_of}
use Rattle.script_text.specs.Spells.{contents_of}
use Rattle.script_text.proofs.LineFacts.{both, no_feed, AreContents}
use Rattle.script_writer.specs.Canonical.{spaced}

-- ---- tests over lists

pub all_weaker : (p q : ℕ → Bool) → ((b : ℕ) → p b ≡ true → q b ≡ true) → (bs : List ℕ) → list_all p bs ≡ true → list_all q bs ≡ true
all_weaker p q weaker [] h = refl
all_weaker p q weaker (b ∷ bs) h =
    let parts = both (p b) (list_all p bs) h in
    (λ i. weaker b parts.0 i && list_all q bs) ∙ all_weaker p q weaker bs parts.1

-- ---- lines

abbrev pub no_return : ℕ → Bool
no_return b = not (b == 13)

pub line_again : (line rest : List ℕ) → list_all no_feed line ≡ true → lines_of (line ++ 10 ∷ rest) ≡ line ∷ lines_of rest
line_again [] rest h = refl
line_again (b ∷ line) rest h = by (b == 10) refl (both (no_feed b) (list_all no_feed line) h).0 (line_again line rest (both (no_feed b) (list_all no_feed line) h).1)
  where
    by : (t : Bool) → (b == 10) ≡ t → no_feed b ≡ true → lines_of (line ++ 10 ∷ rest) ≡ line ∷ lines_of rest → lines_of (b ∷ line ++ 10 ∷ rest) ≡ (b ∷ line) ∷ lines_of rest
    by true e k others = let w : true ≡ false = sym k ∙ ap not e in absurd (cc)
    by false e k others =
        ap (λ t. if t then [] ∷ lines_of (line ++ 10 ∷ rest) else in_front b (lines_of (line ++ 10 ∷ rest))) e
        ∙ ap (in_front b) others

pub contents_again : (lines : List (List ℕ)) → AreContents lines → contents_of (flat_map ended lines) ≡ lines
contents_again [] h = refl
contents_again (line ∷ lines) h =
    ap (map content_of) (ap lines_of (append_assoc line (10 ∷ []) (flat_map ended lines)) ∙ line_again line (flat_map ended lines) h.0)
    ∙ (λ i. h.1 i ∷ contents_again lines h.2 i)

pub both_contents : (a b : List (List ℕ)) → AreContents a → AreContents b → AreContents (a ++ b)
both_contents [] b h k = k
both_contents (line ∷ a) b h k = (h.0, h.1, both_contents a b h.2 k)

pub no_end : (line : List ℕ) → list_all no_return line ≡ true → content_of line ≡ line
no_end [] h = refl
no_end (b ∷ line) h = by (b == 13) refl (both (no_return b) (list_all no_return line) h).0 (no_end line (both (no_return b) (list_all no_return line) h).1)
  where
    by : (t : Bool) → (b == 13) ≡ t → no_return b ≡ true → content_of line ≡ line → content_of (b ∷ line) ≡ b ∷ line
    by true e k others = let w : true ≡ false = sym k ∙ ap not e in absurd (cc)
    by false e k others = ap (λ t. if t && list_all (λ c. c == 13) line then [] else b ∷ content_of line) e ∙ ap (λ l. b ∷ l) others

-- ---- words

-- a byte of a word that is written
abbrev pub is_plain : ℕ → Bool
is_plain b = nat_lt 32 b

abbrev pub IsPlain : List ℕ → Type 0
IsPlain [] = ⊥
IsPlain (b ∷ word) = list_all is_plain (b ∷ word) ≡ true

abbrev pub ArePlain : List (List ℕ) → Type 0
ArePlain [] = Unit {0}
ArePlain (word ∷ words) = IsPlain word × ArePlain words

plain_not_blank : (b : ℕ) → is_plain b ≡ true → is_blank b ≡ false
plain_not_blank b h = grind (arith, h)

-- a word before a blank
word_again : (word rest : List ℕ) → IsPlain word → words_of (word ++ 32 ∷ rest) ≡ word ∷ words_of rest
word_again [] rest h = absurd h
word_again (b ∷ []) rest h =
    let mark = plain_not_blank b (both (is_plain b) true h).0 in
    ap (λ t. if t then words_of rest else with_byte b (32 ∷ rest) (words_of rest)) mark ∙ at (words_of rest)
  where
    at : (words : List (List ℕ)) → with_byte b (32 ∷ rest) words ≡ (b ∷ []) ∷ words
    at [] = refl
    at (w ∷ words) = refl
word_again (b ∷ c ∷ word) rest h =
    let parts = both (is_plain b) (list_all is_plain (c ∷ word)) h in
    let mark = plain_not_blank b parts.0 in
    let next = plain_not_blank c (both (is_plain c) (list_all is_plain word) parts.1).0 in
    let others = word_again (c ∷ word) rest parts.1 in
    ap (λ t. if t then words_of (c ∷ word ++ 32 ∷ rest) else with_byte b (c ∷ word ++ 32 ∷ rest) (words_of (c ∷ word ++ 32 ∷ rest))) mark
    ∙ (ap (with_byte b (c ∷ word ++ 32 ∷ rest)) others
    ∙ ap (λ t. if t then (b ∷ []) ∷ (c ∷ word) ∷ words_of rest else (b ∷ c ∷ word) ∷ words_of rest) next)

-- the last word
last_again : (word : List ℕ) → IsPlain word → words_of word ≡ word ∷ []
last_again [] h = absurd h
last_again (b ∷ []) h = ap (λ t. if t then [] else (b ∷ []) ∷ []) (plain_not_blank b (both (is_plain b) true h).0)
last_again (b ∷ c ∷ word) h =
    let parts = both (is_plain b) (list_all is_plain (c ∷ word)) h in
    let mark = plain_not_blank b parts.0 in
    let next = plain_not_blank c (both (is_plain c) (list_all is_plain word) parts.1).0 in
    ap (λ t. if t then words_of (c ∷ word) else with_byte b (c ∷ word) (words_of (c ∷ word))) mark
    ∙ (ap (with_byte b (c ∷ word)) (last_again (c ∷ word) parts.1)
    ∙ ap (λ t. if t then (b ∷ []) ∷ (c ∷ word) ∷ [] else (b ∷ c ∷ word) ∷ []) next)

pub words_again : (words : List (List ℕ)) → ArePlain words → words_of (spaced words) ≡ words
words_again [] h = refl
words_again (word ∷ []) h = ap words_of (append-nil word) ∙ last_again word h.0
words_again (word ∷ next ∷ words) h = word_again word (spaced (next ∷ words)) h.0 ∙ ap (λ l. word ∷ l) (words_again (next ∷ words) h.1)

-- ---- a line of words has no line feed, and no return

plain_inline : (word : List ℕ) → IsPlain word → list_all (λ b. nat_lt 31 b) word ≡ true
plain_inline [] h = absurd h
plain_inline (b ∷ word) h = all_weaker is_plain (λ b. nat_lt 31 b) (λ b k. grind (arith, k)) (b ∷ word) h

inline : (words : List (List ℕ)) → ArePlain words → list_all (λ b. nat_lt 31 b) (spaced words) ≡ true
inline [] h = refl
inline (word ∷ []) h = ap (list_all (λ b. nat_lt 31 b)) (append-nil word) ∙ plain_inline word h.0
inline (word ∷ next ∷ words) h = list_all-append (λ b. nat_lt 31 b) word (32 ∷ spaced (next ∷ words)) ∙ (λ i. plain_inline word h.0 i && inline (next ∷ words) h.1 i)

pub spaced_content : (words : List (List ℕ)) → ArePlain words → (list_all no_feed (spaced words) ≡ true) × (content_of (spaced words) ≡ spaced words)
spaced_content words h =
    let line = inline words h in
    (all_weaker (λ b. nat_lt 31 b) no_feed (λ b k. grind (arith, k)) (spaced words) line, no_end (spaced words) (all_weaker (λ b. nat_lt 31 b) no_return (λ b k. grind (arith, k)) (spaced words) line))
