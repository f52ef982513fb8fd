-- The lines of a text are contents: without line feeds, and without returns at their ends.
use Rattle.std.proofs.Common.{◌≡◌, ℕ, suc, ◌<◌, get_or, Bool, true, false, not, List, [], ◌∷◌, ◌==◌, ◌&&◌, map, refl, sym, ap, ◌∙◌, arith}
use Rattle.std.specs.Bool.{if◌then◌else◌}
use Rattle.std.specs.List.{All, list_all}
use Rattle.script_lines.specs.Lines.{in_front, lines_of, content_of}
use Rattle.std.proofs.lemmas.Bool.{lt-ltb, ltb-true}
use Rattle.std.proofs.lemmas.List.Elements.{All-cons}
use Rattle.script_text.specs.IsScript.{is_byte}
use Rattle.script_text.specs.Spells.{contents_of}

pub both : (a b : Bool) → (a && b) ≡ true → (a ≡ true) × (b ≡ true)
both true true h = (refl, refl)
both true false h = absurd (cc)
both false b h = absurd (cc)

abbrev pub no_feed : ℕ → Bool
no_feed b = not (b == 10)

-- lines that are what they are without returns at their ends
abbrev pub AreContents : List (List ℕ) → Type 0
AreContents [] = Unit {0}
AreContents (line ∷ lines) = (list_all no_feed line ≡ true) × (content_of line ≡ line) × AreContents lines

abbrev all_returns : List ℕ → Bool
all_returns line = list_all (λ c. c == 13) line

-- ---- no line feeds

abbrev NoFeeds : List (List ℕ) → Type 0
NoFeeds [] = Unit {0}
NoFeeds (line ∷ lines) = (list_all no_feed line ≡ true) × NoFeeds lines

no_feeds : (text : List ℕ) → NoFeeds (lines_of text)
no_feeds [] = tt
no_feeds (b ∷ text) = by (b == 10) refl (lines_of text) (no_feeds text)
  where
    put : (b == 10) ≡ false → (lines : List (List ℕ)) → NoFeeds lines → NoFeeds (in_front b lines)
    put e [] h = (ap (λ t. not t && true) e, tt)
    put e (line ∷ lines) h = ((λ i. not (e i) && h.0 i), h.1)

    by : (t : Bool) → (b == 10) ≡ t → (lines : List (List ℕ)) → NoFeeds lines → NoFeeds (if t then [] ∷ lines else in_front b lines)
    by true e lines h = (refl, h)
    by false e lines h = put e lines h

content_feed : (line : List ℕ) → list_all no_feed line ≡ true → list_all no_feed (content_of line) ≡ true
content_feed [] h = refl
content_feed (b ∷ line) h = by (all_returns (b ∷ line)) (both (no_feed b) (list_all no_feed line) h).0 (content_feed line (both (no_feed b) (list_all no_feed line) h).1)
  where
    by : (t : Bool) → no_feed b ≡ true → list_all no_feed (content_of line) ≡ true → list_all no_feed (if t then [] else b ∷ content_of line) ≡ true
    by true k others = refl
    by false k others = λ i. k i && others i

-- ---- no returns at the end

not_all : (line : List ℕ) → all_returns line ≡ false → all_returns (content_of line) ≡ false
not_all [] h = h
not_all (b ∷ line) h = ap (λ t. all_returns (if t then [] else b ∷ content_of line)) h ∙ by (b == 13) refl h (not_all line)
  where
    by : (t : Bool) → (b == 13) ≡ t → ((b == 13) && all_returns line) ≡ false → (all_returns line ≡ false → all_returns (content_of line) ≡ false) → ((b == 13) && all_returns (content_of line)) ≡ false
    by false e k others = ap (λ t. t && all_returns (content_of line)) e
    by true e k others = ap (λ t. t && all_returns (content_of line)) e ∙ others (sym (ap (λ t. t && all_returns line) e) ∙ k)

content_once : (line : List ℕ) → content_of (content_of line) ≡ content_of line
content_once [] = refl
content_once (b ∷ line) = by (all_returns (b ∷ line)) refl (content_once line)
  where
    by : (t : Bool) → all_returns (b ∷ line) ≡ t → content_of (content_of line) ≡ content_of line → content_of (if t then [] else b ∷ content_of line) ≡ (if t then [] else b ∷ content_of line)
    by true e others = refl
    by false e others =
        let still : all_returns (b ∷ content_of line) ≡ false = sym (ap (λ t. all_returns (if t then [] else b ∷ content_of line)) e) ∙ not_all (b ∷ line) e in
        ap (λ t. if t then [] else b ∷ content_of (content_of line)) still ∙ ap (λ l. b ∷ l) others

pub contents : (lines : List (List ℕ)) → NoFeeds lines → AreContents (map content_of lines)
contents [] h = tt
contents (line ∷ lines) h = (content_feed line h.0, content_once line, contents lines h.1)

pub contents_are : (text : List ℕ) → AreContents (contents_of text)
contents_are text = contents (lines_of text) (no_feeds text)

-- ---- lines of bytes

abbrev pub all_bytes : List (List ℕ) → Type 0
all_bytes [] = Unit {0}
all_bytes (line ∷ lines) = (list_all is_byte line ≡ true) × all_bytes lines

bytes_front : (b : ℕ) (lines : List (List ℕ)) → is_byte b ≡ true → all_bytes lines → all_bytes (in_front b lines)
bytes_front b [] e h = ((λ i. e i && true), tt)
bytes_front b (line ∷ lines) e h = ((λ i. e i && h.0 i), h.1)

bytes_lines : (text : List ℕ) → list_all is_byte text ≡ true → all_bytes (lines_of text)
bytes_lines [] h = tt
bytes_lines (b ∷ text) h = by (b == 10) (both (is_byte b) (list_all is_byte text) h).0 (bytes_lines text (both (is_byte b) (list_all is_byte text) h).1)
  where
    by : (t : Bool) → is_byte b ≡ true → all_bytes (lines_of text) → all_bytes (if t then [] ∷ lines_of text else in_front b (lines_of text))
    by true e others = (refl, others)
    by false e others = bytes_front b (lines_of text) e others

bytes_content : (line : List ℕ) → list_all is_byte line ≡ true → list_all is_byte (content_of line) ≡ true
bytes_content [] h = refl
bytes_content (b ∷ line) h = by (all_returns (b ∷ line)) (both (is_byte b) (list_all is_byte line) h).0 (bytes_content line (both (is_byte b) (list_all is_byte line) h).1)
  where
    by : (t : Bool) → is_byte b ≡ true → list_all is_byte (content_of line) ≡ true → list_all is_byte (if t then [] else b ∷ content_of line) ≡ true
    by true k others = refl
    by false k others = λ i. k i && others i

bytes_map : (lines : List (List ℕ)) → all_bytes lines → all_bytes (map content_of lines)
bytes_map [] h = tt
bytes_map (line ∷ lines) h = (bytes_content line h.0, bytes_map lines h.1)

pub contents_bytes : (text : List ℕ) → list_all is_byte text ≡ true → all_bytes (contents_of text)
contents_bytes text h = bytes_map (lines_of text) (bytes_lines text h)

-- bytes one by one
pub bytes_each : (text : List ℕ) → ((i : ℕ) → get_or text i 0 < 256) → list_all is_byte text ≡ true
bytes_each [] h = refl
bytes_each (b ∷ text) h = λ i. lt-ltb b 256 (h 0) i && bytes_each text (λ k. h (suc k)) i

pub bytes_all : (text : List ℕ) → list_all is_byte text ≡ true → All (λ b. b < 256) text
bytes_all [] h = λ i d lt. absurd (omega arith)
bytes_all (b ∷ text) h =
    let parts = both (is_byte b) (list_all is_byte text) h in
    All-cons (λ b. b < 256) b text (ltb-true b 256 parts.0) (bytes_all text parts.1)
