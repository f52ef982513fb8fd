-- What one read, and one put, does to the bytes that a source has left and that a sink has taken, where it tells them.
use Rattle.std.specs.Prelude.{◌≡◌, ℕ, ◌<◌, List, [], ◌++◌, length, take, Option, Some, None, Result, Ok, Err}

-- What is said of the bytes before and after a call, where they are told. Who doesn't tell them before doesn't tell
-- them after, and the other way round; no more is said then.
abbrev pub WhereTold : (List ℕ → List ℕ → Type 0) → Option (List ℕ) → Option (List ℕ) → Type 0
WhereTold says (Some before) (Some after) = says before after
WhereTold says None None = Unit {0}
WhereTold says (Some before) None = ⊥
WhereTold says None (Some after) = ⊥

-- A read moves the first n of the bytes left to the front of the buffer, where none means that none were left;
-- and a read that fails moves nothing.
abbrev pub Reads : {E : Type 0} → Option (List ℕ) → Option (List ℕ) → Result ℕ E → List ℕ → Type 0
Reads before after (Ok n) buffer =
    WhereTold (λ b a. (b ≡ take n buffer ++ a) × (n ≡ 0 → 0 < length buffer → b ≡ [])) before after
Reads before after (Err e) buffer = WhereTold (λ b a. a ≡ b) before after

-- A put takes the first n bytes of the piece, and a put that fails takes nothing.
abbrev pub Puts : {E : Type 0} → Option (List ℕ) → Option (List ℕ) → Result ℕ E → List ℕ → Type 0
Puts before after (Ok n) piece = WhereTold (λ b a. a ≡ b ++ take n piece) before after
Puts before after (Err e) piece = WhereTold (λ b a. a ≡ b) before after
