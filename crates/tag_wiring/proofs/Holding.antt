-- The environment that words hold.
use Rattle.std.proofs.Common.{◌≡◌, ℕ, ◌+◌, ℤ, List, [], ◌∷◌, ◌++◌, length, take, drop, refl, ap, ◌∙◌, arith, length-take-le}
use Rattle.std.proofs.lemmas.List.{take-append-drop, take_at, drop_at, length-drop}
use Rattle.st_core.specs.Memory.{Shape, shape_of, words_of, total_of}
use Rattle.tag_wiring.specs.HeldEnvironments.{env_in}
use Rattle.tag_wiring.specs.Laws.{WordsHold, EnvironmentComesBack}

-- the words behind a tag's are as many as the other tags have
rest_count : (n : ℕ) (rest : ℕ) (words : List ℤ) → length words ≡ n + rest → length (drop n words) ≡ rest
rest_count n rest words h = omega (arith, h, length-drop n words)

first_count : (n : ℕ) (rest : ℕ) (words : List ℤ) → length words ≡ n + rest → length (take n words) ≡ n
first_count n rest words h = length-take-le n words (omega (arith, h))

pub held_shape : (shape : Shape) (words : List ℤ) → length words ≡ total_of shape → shape_of (env_in shape words) ≡ shape
unfolding env_in shape_of total_of
held_shape [] words h = refl
held_shape (t ∷ ts) words h =
    let n = first_count t.1 (total_of ts) words h in
    let rest = held_shape ts (drop t.1 words) (rest_count t.1 (total_of ts) words h) in
    λ i. (t.0, n i) ∷ rest i

none_left : (words : List ℤ) → length words ≡ 0 → [] ≡ words
none_left [] h = refl
none_left (w ∷ ws) h = absurd (omega (arith, h))

pub held_words : (shape : Shape) (words : List ℤ) → length words ≡ total_of shape → words_of (env_in shape words) ≡ words
unfolding env_in words_of total_of
held_words [] words h = none_left words h
held_words (t ∷ ts) words h =
    ap (λ ws. take t.1 words ++ ws) (held_words ts (drop t.1 words) (rest_count t.1 (total_of ts) words h))
    ∙ take-append-drop t.1 words

pub words_hold : WordsHold
words_hold shape words h = record { shape = held_shape shape words h; words = held_words shape words h }

pub comes_back : EnvironmentComesBack
unfolding env_in shape_of words_of
comes_back [] = refl
comes_back (t ∷ ts) =
    let own = take_at t.1 (words_of ts) (length t.1) refl in
    let behind = drop_at t.1 (words_of ts) (length t.1) refl in
    let rest = comes_back ts in
    (λ i. (t.0, own i) ∷ env_in (shape_of ts) (behind i)) ∙ ap (λ e. t ∷ e) rest
