-- What is taught keeps the image's length, and its text bytes.
use Rattle.std.proofs.Common.{mod-lt, ◌≡◌, Bool, true, false, ◌&&◌, ◌==◌, if◌then◌else◌, Option, Some, None, replicate, ℕ, zero, suc, ℤ, pos, ◌+◌, ◌-◌, ◌*◌, ◌<◌, ◌≤◌, List, [], ◌∷◌, ◌++◌, length, take, drop, All, refl, sym, ap, subst, ◌∙◌, arith}
use Rattle.std.specs.Prelude.{slice_set}
use Rattle.std.proofs.lemmas.List.{length-replicate, length-set, length-take-le, length-drop, length-append, take-set-le}
use Rattle.std.proofs.lemmas.List.Elements.{All-nil, All-cons, All-head, All-tail, All-take, All-same, All-replicate}
use Rattle.std.proofs.lemmas.Bool.{and_parts, eqb-true}
use Rattle.std.proofs.lemmas.Int.{ints}
use Rattle.re_education.specs.declared.header.Header.{Header}
use Rattle.re_education.specs.Inner.Headers.{lesson_in, lesson_kept}
use Rattle.memory_compare.specs.Changes.{applied}
use Rattle.memory_compare.specs.Windows.{written}
use Rattle.re_education.specs.Lessons.{LearnerValue}
use Rattle.re_education.specs.Inner.Kept.{does_expect, next_lesson}
use Rattle.leg_packet.specs.Sheets.{Sheet, IsCanonical, IsByte}
use Rattle.re_education.specs.Learning.{IsKept, KeptLesson, Lesson, taught, expects, held, nothing_held, sheet_windows, next_turn}

pub length_applied : (behind : ℕ) (pairs : List (ℕ × ℤ)) (image : List ℤ) → length (applied behind pairs image) ≡ length image
length_applied behind [] image = refl
length_applied behind (pair ∷ pairs) image = length_applied behind pairs (slice_set image (behind + pair.0) pair.1) ∙ length-set image (behind + pair.0) pair.1

pub length_written : (at : ℕ) (window image : List ℤ) → at + length window ≤ length image → length (written at window image) ≡ length image
length_written at window image h =
    omega (
      arith,
      h,
      length-append (take at image) (window ++ drop (at + length window) image),
      length-append window (drop (at + length window) image),
      length-take-le at image (omega (arith, h)),
      length-drop (at + length window) image,
    )

pub take_applied : (behind : ℕ) (pairs : List (ℕ × ℤ)) (image : List ℤ) → take behind (applied behind pairs image) ≡ take behind image
take_applied behind [] image = refl
take_applied behind (pair ∷ pairs) image = take_applied behind pairs (slice_set image (behind + pair.0) pair.1) ∙ take-set-le behind image (behind + pair.0) pair.1 (omega arith)

take_nil : (n : ℕ) → ◌≡◌ {A = List ℤ} (take n []) []
take_nil zero = refl
take_nil (suc n) = refl

take_comm : (m n : ℕ) (xs : List ℤ) → take m (take n xs) ≡ take n (take m xs)
take_comm zero zero xs = refl
take_comm zero (suc n) xs = refl
take_comm (suc m) zero xs = refl
take_comm (suc m) (suc n) [] = refl
take_comm (suc m) (suc n) (x ∷ xs) = ap (λ ys. x ∷ ys) (take_comm m n xs)

all_take_append : (P : ℤ → Type 0) (n : ℕ) (xs ys : List ℤ) → All P (take n xs) → All P (take (n - length xs) ys) → All P (take n (xs ++ ys))
all_take_append P n [] ys h g = subst (λ (k : ℕ). All P (take k ys)) (omega arith) g
all_take_append P zero (x ∷ xs) ys h g = All-nil P
all_take_append P (suc n) (x ∷ xs) ys h g =
    All-cons P x (take n (xs ++ ys)) (All-head P x (take n xs) h) (all_take_append P n xs ys (All-tail P x (take n xs) h) (subst (λ (k : ℕ). All P (take k ys)) (omega arith) g))

all_take_drop : (P : ℤ → Type 0) (l n : ℕ) (xs : List ℤ) → All P (take l xs) → All P (take (l - n) (drop n xs))
all_take_drop P l zero xs h = subst (λ (k : ℕ). All P (take k xs)) (omega arith) h
all_take_drop P l (suc n) [] h = All-same P (take (l - suc n) []) [] (take_nil (l - suc n)) (All-nil P)
all_take_drop P zero (suc n) (x ∷ xs) h = subst (λ (k : ℕ). All P (take k (drop n xs))) (zero_less n) (All-nil P)
  where
    zero_less : (n : ℕ) → 0 ≡ 0 - suc n
    zero_less n = omega arith
all_take_drop P (suc l) (suc n) (x ∷ xs) h = subst (λ (k : ℕ). All P (take k (drop n xs))) (omega arith) (all_take_drop P l n xs (All-tail P x (take l xs) h))

pub bytes_written : (P : ℤ → Type 0) (l at : ℕ) (window image : List ℤ) → at + length window ≤ length image → All P (take l image) → All P (take (l - at) window) → All P (take l (written at window image))
bytes_written P l at window image h g k =
    let front : All P (take l (take at image)) = All-same P (take l (take at image)) (take at (take l image)) (take_comm l at image) (All-take P at (take l image) g) in
    let rest : All P (take ((l - at) - length window) (drop (at + length window) image)) =
    subst (λ (m : ℕ). All P (take m (drop (at + length window) image))) (omega arith) (all_take_drop P l (at + length window) image g) in
    let behind : All P (take (l - at) (window ++ drop (at + length window) image)) = all_take_append P (l - at) window (drop (at + length window) image) k rest in
    all_take_append P l (take at image) (window ++ drop (at + length window) image) front
    (subst (λ (m : ℕ). All P (take (l - m) (window ++ drop (at + length window) image))) (sym (length-take-le at image (omega (arith, h)))) behind)

shown_within : (s : Sheet) → IsCanonical s → 64 * s.turn + length s.window ≤ s.text_length + s.word_length
shown_within s c = omega (arith, c.turn, c.window)

pub length_taught : (s : Sheet) (image : List ℤ) → IsCanonical s → length image ≡ s.text_length + s.word_length → length (taught s image) ≡ s.text_length + s.word_length
length_taught s image c h =
    let a = length_applied s.text_length s.pairs image in
    length_written (64 * s.turn) s.window (applied s.text_length s.pairs image) (omega (arith, a, h, shown_within s c)) ∙ a ∙ h

pub bytes_taught : (s : Sheet) (image : List ℤ) → IsCanonical s → length image ≡ s.text_length + s.word_length → All IsByte (take s.text_length image) → All IsByte (take s.text_length (taught s image))
bytes_taught s image c h g =
    let a = length_applied s.text_length s.pairs image in
    bytes_written IsByte s.text_length (64 * s.turn) s.window (applied s.text_length s.pairs image) (omega (arith, a, h, shown_within s c))
    (All-same IsByte (take s.text_length (applied s.text_length s.pairs image)) (take s.text_length image) (take_applied s.text_length s.pairs image) g) c.bytes

-- ---- the learner's lesson

-- what the image holds before it is taught
abbrev pub held_image : Bool → List ℤ → Sheet → List ℤ
held_image known image s = if known then image else replicate (s.text_length + s.word_length) (pos 0)

pub record HeldSo (lesson : Option Lesson) (s : Sheet) (known : Bool) (image : List ℤ) : Type 0 where
  pub image_is : held_image known image s ≡ (held lesson s).image
  pub image_length : length (held_image known image s) ≡ s.text_length + s.word_length
  pub bytes : All IsByte (take s.text_length (held_image known image s))

zero_byte : IsByte (pos 0)
zero_byte = (grind (arith, ints), grind (arith, ints))

begins : (lesson : Option Lesson) (s : Sheet) (image : List ℤ) → (held lesson s).image ≡ replicate (s.text_length + s.word_length) (pos 0) → HeldSo lesson s false image
begins lesson s image h = record {
  image_is = sym h;
  image_length = length-replicate (s.text_length + s.word_length) (pos 0);
  bytes = All-take IsByte s.text_length (replicate (s.text_length + s.word_length) (pos 0)) (All-replicate IsByte (s.text_length + s.word_length) (pos 0) zero_byte);
}

pub held_so : (image : List ℤ) (h : Header) (s : Sheet) (known : Bool) → KeptLesson (lesson_kept image h) → known ≡ does_expect (lesson_kept image h) s → HeldSo (lesson_kept image h) s known image
held_so image h s known kept e = by (h.windows == 0) kept e
  where
    expected : (t : Bool) → IsKept (lesson_in image h) → expects (lesson_in image h) s ≡ t → HeldSo (Some (lesson_in image h)) s t image
    expected false k q = begins (Some (lesson_in image h)) s image (ap (λ b. (if b then record { image = image; windows = h.windows } else nothing_held s).image) q)
    expected true k q =
        let p3 = and_parts (h.epoch == s.epoch && h.text_length == s.text_length && h.word_length == s.word_length) (h.turn == s.turn) q in
        let p2 = and_parts (h.epoch == s.epoch && h.text_length == s.text_length) (h.word_length == s.word_length) p3.0 in
        let p1 = and_parts (h.epoch == s.epoch) (h.text_length == s.text_length) p2.0 in
        let l : h.text_length ≡ s.text_length = eqb-true h.text_length s.text_length p1.1 in
        let n : h.word_length ≡ s.word_length = eqb-true h.word_length s.word_length p2.1 in
        record {
          image_is = ap (λ b. (if b then record { image = image; windows = h.windows } else nothing_held s).image) (sym q);
          image_length = omega (arith, k.image_length, l, n);
          bytes = subst (λ (m : ℕ). All IsByte (take m image)) l k.bytes;
        }

    by : (b : Bool) → KeptLesson (if b then None else Some (lesson_in image h)) → known ≡ does_expect (if b then None else Some (lesson_in image h)) s → HeldSo (if b then None else Some (lesson_in image h)) s known image
    by true k q = subst (λ (t : Bool). HeldSo None s t image) (sym q) (begins None s image refl)
    by false k q = subst (λ (t : Bool). HeldSo (Some (lesson_in image h)) s t image) (sym q) (expected (expects (lesson_in image h) s) k refl)

pub held_with : (image : List ℤ) (h : Header) (room : ℕ) (v : LearnerValue) (s : Sheet) (known : Bool) → record { lesson = lesson_kept image h; room = room } ≡ v → KeptLesson (lesson_kept image h) → known ≡ does_expect v.lesson s
    → HeldSo v.lesson s known image
held_with image h room v s known e kept q =
    subst (λ (u : LearnerValue). HeldSo u.lesson s known image) e (held_so image h s known kept (q ∙ ap (λ (u : LearnerValue). does_expect u.lesson s) (sym e)))

turn_within : (s : Sheet) (w : ℕ) → w + 1 < sheet_windows s → next_turn s < sheet_windows s
turn_within s w h = mod-lt (s.turn + 1) (omega (arith, h))

-- the next lesson is kept
pub next_kept : (lesson : Option Lesson) (s : Sheet) (known : Bool) (image : List ℤ) → IsCanonical s → HeldSo lesson s known image → (held lesson s).windows + 1 < sheet_windows s → IsKept (next_lesson lesson s)
next_kept lesson s known image c h few = record {
  image_length = length_taught s (held lesson s).image c (ap length (sym h.image_is) ∙ h.image_length);
  bytes = bytes_taught s (held lesson s).image c (ap length (sym h.image_is) ∙ h.image_length) (subst (λ (xs : List ℤ). All IsByte (take s.text_length xs)) h.image_is h.bytes);
  some = omega arith;
  not_all = few;
  turn = turn_within s (held lesson s).windows few;
  text_length = c.text_length;
  word_length = c.word_length;
  epoch = c.epoch;
}

pub after_is : (lesson : Option Lesson) (s : Sheet) (known : Bool) (image after : List ℤ) (h : Header) (count : ℕ) → HeldSo lesson s known image → after ≡ taught s (held_image known image s)
    → h ≡ record { epoch = s.epoch; text_length = s.text_length; word_length = s.word_length; turn = next_turn s; windows = count } → count ≡ (held lesson s).windows + 1
    → lesson_in after h ≡ next_lesson lesson s
after_is lesson s known image after h count so e k n = λ i. record {
  image = (e ∙ ap (taught s) so.image_is) i;
  epoch = (k i).epoch;
  text_length = (k i).text_length;
  word_length = (k i).word_length;
  turn = (k i).turn;
  windows = (ap (λ (x : Header). x.windows) k ∙ n) i;
}

pub kept_after : (image : List ℤ) (h : Header) (z : Lesson) → lesson_in image h ≡ z → IsKept z → KeptLesson (lesson_kept image h)
kept_after image h z e k = by (h.windows == 0)
  where
    by : (b : Bool) → KeptLesson (if b then None else Some (lesson_in image h))
    by true = tt
    by false = subst IsKept (sym e) k

pub room_after : (s : Sheet) (after before : List ℤ) (spare spare' room : ℕ) → IsCanonical s → length before ≡ s.text_length + s.word_length → after ≡ taught s before → spare' ≡ spare → room ≤ spare + length before
    → room ≤ spare' + length after
room_after s after before spare spare' room c n e q h = omega (arith, n, ap length e, length_taught s before c n, q, h)

-- ---- the whole memory

pub record Filled (lesson : Option Lesson) (s : Sheet) (after : List ℤ) : Type 0 where
  pub image_is : after ≡ (next_lesson lesson s).image
  pub image_length : length after ≡ s.text_length + s.word_length
  pub bytes : All IsByte (take s.text_length after)

pub filled : (lesson : Option Lesson) (s : Sheet) (known : Bool) (image after : List ℤ) → IsCanonical s → HeldSo lesson s known image → after ≡ taught s (held_image known image s) → Filled lesson s after
filled lesson s known image after c so e = record {
  image_is = e ∙ ap (taught s) so.image_is;
  image_length = ap length e ∙ length_taught s (held_image known image s) c so.image_length;
  bytes = subst (λ (xs : List ℤ). All IsByte (take s.text_length xs)) (sym e) (bytes_taught s (held_image known image s) c so.image_length so.bytes);
}
