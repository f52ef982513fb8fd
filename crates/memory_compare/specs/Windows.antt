-- A program's memory is its text and then its words. It is shown in windows of 64 words. Own rule.
use Rattle.std.specs.Prelude.{ℕ, ℤ, pos, ◌+◌, ◌*◌, List, ◌++◌, length, map, take, drop}

-- The text's bytes and then the words.
abbrev pub memory : (text : List ℕ) (words : List ℤ) → List ℤ
memory text words = map (λ (byte : ℕ). pos byte) text ++ words

-- One window, counted from 0, as far as it is there.
abbrev pub window : List ℤ → (turn : ℕ) → List ℤ
window words turn = take 64 (drop (64 * turn) words)

-- A list in which a window is written from a place on.
abbrev pub written : (at : ℕ) (window image : List ℤ) → List ℤ
written at window image = take at image ++ (window ++ drop (at + length window) image)
