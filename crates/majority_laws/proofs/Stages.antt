-- One scan beside two good legs brings the third a scan nearer.
use Rattle.std.proofs.Common.{subst, ◌≡◌, ◌≢◌, ℕ, ℤ, pos, nat_abs, ◌+◌, ◌-◌, ◌*◌, ◌<◌, ◌≤◌, ◌⊎◌, inl, inr, List, [], ◌∷◌, ◌++◌, length, take, drop, map, get_or, arith, sym, ◌∙◌, ap, refl, ⊎_elim, ◌%◌, true, ◌&&◌, ◌==◌, is_none, Option, Some, None, mod-eq_of_lt}
use Rattle.std.proofs.lemmas.List.{length-map, length-append, length-replicate, length-take-le, get_or_append_left, get_or-append_right, get_or-take, get_or-drop, get_or-map, take_at, drop_at, length-drop}
use Rattle.std.proofs.Math.Nat.{mod_self}
use Rattle.std.proofs.lemmas.Bool.{cond_both, cond-true, cond-false, eq-eqb, and_from, cases_eq, cases_lt, and_parts, eqb-true, lt-ltb, le-ltb}
use Rattle.engine_face.specs.Meaning.{Meaning}
use Rattle.leg_laws.specs.Closing.{Closed, is_program, learned_by}
use Rattle.leg_laws.specs.States.{IsState, Learning, Run, Running, State}
use Rattle.leg_packet.specs.Sheets.{Sheet, windows_of}
use Rattle.majority_laws.proofs.Memories.{Agree, Fresh, agree_all, agree_more, agree_none, fresh_more, fresh_wraps}
use Rattle.memory_compare.specs.Windows.{memory}
use Rattle.re_education.proofs.Kept.{length_applied, length_written}
use Rattle.re_education.specs.Learning.{Ends, Held, Lesson, Outcome, Whole, expects, next_turn, nothing_held, sheet_windows, taught, with_result, with_window}
use Rattle.script_text.specs.LegScans.{LegScan}

abbrev pub run_memory : Run → List ℤ
run_memory r = memory r.text r.words

-- a lesson that expects what the good run shows next; so many of its windows are true
pub record InLesson (windows : ℕ) (s : Run) (n : ℕ) (z : Lesson) : Type 0 where
  pub epoch : z.epoch ≡ s.epoch
  pub text_length : z.text_length ≡ length s.text
  pub word_length : z.word_length ≡ length s.words
  pub turn : z.turn ≡ s.turn
  pub sized : length z.image ≡ length s.text + length s.words
  pub shown : ℕ
  pub agrees : Agree windows shown s.turn z.image (run_memory s)
  pub some : shown ≤ z.windows
  pub short : z.windows < windows
  pub soon : ((z.windows ≡ shown) × (windows ≤ n + shown)) ⊎ (2 * windows ≤ n + shown)

-- a run with the same heads; so many of its windows are true
pub record InRun (windows : ℕ) (s : Run) (n : ℕ) (r : Run) : Type 0 where
  pub shown : ℕ
  pub agrees : Agree windows shown s.turn (run_memory r) (run_memory s)
  pub epoch : r.epoch ≡ s.epoch
  pub text_length : length r.text ≡ length s.text
  pub word_length : length r.words ≡ length s.words
  pub turn : r.turn ≡ s.turn
  pub short : shown < windows
  pub soon : 2 * windows ≤ n + shown

pub data Stage (m : Meaning) (windows : ℕ) (s : Run) (n : ℕ) (t : State) : Type 0 where
  Same : t ≡ Running s → Stage m windows s n t
  Empty : t ≡ Learning None → windows ≤ n → Stage m windows s n t
  Taught : (z : Lesson) → t ≡ Learning (Some z) → InLesson windows s n z → Stage m windows s n t
  Close : (r : Run) → t ≡ Running r → InRun windows s n r → Stage m windows s n t
  Any : IsState m t → 2 * windows ≤ n → Stage m windows s n t

-- behind the change point: as before it, or a run of another epoch, which is found in this scan
abbrev pub Ready : Meaning → ℕ → Run → ℕ → State → Type 0
Ready m windows s n t = Stage m windows s n t ⊎ ((r : Run) × (t ≡ Running r) × (r.epoch ≢ s.epoch) × (windows + 1 ≤ n))

-- one scan of a run with no accepted download: what it shows, and what it leaves
pub record Shows (r r' : Run) (g : Sheet) : Type 0 where
  pub epoch : g.epoch ≡ r.epoch
  pub turn : g.turn ≡ r.turn
  pub text_length : g.text_length ≡ length r.text
  pub word_length : g.word_length ≡ length r.words
  pub kept : run_memory r' ≡ taught g (run_memory r)
  pub text : r'.text ≡ r.text
  pub words : length r'.words ≡ length r.words
  pub epoch' : r'.epoch ≡ r.epoch
  pub turn' : r'.turn ≡ next_turn g

-- a run that others may learn: it builds, and its turn names a window
pub record Sane (m : Meaning) (r : Run) (g : Sheet) : Type 0 where
  pub builds : m.builds r.text ≡ None
  pub counted : m.word_count r.text ≡ length r.words
  pub turn : g.turn < sheet_windows g
  pub fits : 64 * g.turn + length g.window ≤ g.text_length + g.word_length
  pub full : (j : ℕ) → j < 64 → length g.window ≤ j → g.text_length + g.word_length ≤ 64 * g.turn + j

-- the third leg's scan beside two legs that show g: a run stays where it shows the same
abbrev pub Goes : Meaning → LegScan → Sheet → State → State → Type 0
Goes m l g (Running r) t = ((r' : Run) × Shows r r' g × (t ≡ Running r')) ⊎ (t ≡ Learning None)
Goes m l g (Learning o) t = t ≡ (learned_by m l (with_result o (Some g))).state

pub same_run : (a b : Run) → a.text ≡ b.text → a.words ≡ b.words → a.epoch ≡ b.epoch → a.turn ≡ b.turn → a ≡ b
same_run a b t w e u = λ i. record { text = t i; words = w i; epoch = e i; turn = u i }

pub length_memory : (r : Run) → length (run_memory r) ≡ length r.text + length r.words
length_memory r = length-append (map pos r.text) r.words ∙ ap (λ n. n + length r.words) (length-map r.text pos)

-- the turn after, in the two cases
pub fresh_after : (n e next w : ℕ) → next < n → w < n → w ≢ next → Fresh n (e + 1) ((next + 1) % n) w → Fresh n e next w
fresh_after n e next w a b other f = ⊎_elim
    (λ (l : next + 1 < n). fresh_more n e next w l b other (subst (λ t. Fresh n (e + 1) t w) (mod-eq_of_lt l) f))
    (λ (l : n ≤ next + 1). let is : next + 1 ≡ n = omega arith in
    let zero_turn : (next + 1) % n ≡ 0 = rw is (mod_self n) in
    fresh_wraps n e next w is b other (subst (λ t. Fresh n (e + 1) t w) zero_turn f))
    (cases_lt (next + 1) n)

pub abs_pos : (xs : List ℕ) → map nat_abs (map pos xs) ≡ xs
abs_pos [] = refl
abs_pos (x ∷ xs) = ap (λ l. x ∷ l) (abs_pos xs)

-- what stands in a run's memory
pub text_back : (r : Run) (n : ℕ) → n ≡ length r.text → map nat_abs (take n (run_memory r)) ≡ r.text
text_back r n is =
    ap (λ (l : List ℤ). map nat_abs l) (take_at (map pos r.text) r.words n (length-map r.text pos ∙ sym is))
    ∙ abs_pos r.text

pub words_back : (r : Run) (n : ℕ) → n ≡ length r.text → drop n (run_memory r) ≡ r.words
words_back r n is = drop_at (map pos r.text) r.words n (length-map r.text pos ∙ sym is)

pub same_memory : (a b : Run) → run_memory a ≡ run_memory b → length a.text ≡ length b.text → a.epoch ≡ b.epoch
    → a.turn ≡ b.turn → a ≡ b
same_memory a b is size e u = same_run a b
    (sym (text_back a (length a.text) refl) ∙ ap (λ (l : List ℤ). map nat_abs (take (length a.text) l)) is
    ∙ text_back b (length a.text) size)
    (sym (words_back a (length a.text) refl) ∙ ap (λ (l : List ℤ). drop (length a.text) l) is
    ∙ words_back b (length a.text) size)
    e u

pub length_taught : (g : Sheet) (image : List ℤ) → 64 * g.turn + length g.window ≤ length image
    → length (taught g image) ≡ length image
length_taught g image fits = let a = length_applied g.text_length g.pairs image in
    length_written (64 * g.turn) g.window _ (omega (arith, a, fits)) ∙ a

is_none_from : {A : Type 0} (o : Option A) → o ≡ None → is_none o ≡ true
is_none_from o e = ap is_none e

module _ (m : Meaning) (l : LegScan) (s s' : Run) (g : Sheet) (shows : Shows s s' g) (sane : Sane m s g) where
  -- what a learner becomes with this image and count
  abbrev after : List ℤ → ℕ → State
  after image count = (learned_by m l (with_window g image count)).state

  abbrev ended : List ℤ → Whole
  ended image =
      record {
        epoch = g.epoch;
        turn = next_turn g;
        text = map nat_abs (take g.text_length image);
        words = drop g.text_length image;
      }

  pub size_is : length (run_memory s) ≡ g.text_length + g.word_length
  size_is = length_memory s ∙ omega (arith, shows.text_length, shows.word_length)

  pub size_after : length (run_memory s') ≡ g.text_length + g.word_length
  size_after =
      length_memory s'
      ∙ omega (arith, shows.text_length, shows.word_length, shows.words, ap (λ (t : List ℕ). length t) shows.text)

  -- the good packet brings any image one window nearer
  pub nearer : (e : ℕ) (image : List ℤ) → length image ≡ g.text_length + g.word_length
      → Agree (sheet_windows g) e s.turn image (run_memory s)
      → Agree (sheet_windows g) (e + 1) s'.turn (taught g image) (run_memory s')
  nearer e image sized agree =
      let n = sheet_windows g in
      let at : Agree n e g.turn image (run_memory s) =
      subst (λ t. Agree n e t image (run_memory s)) (sym shows.turn) agree in
      let now : Agree n (e + 1) (next_turn g) (taught g image) (taught g (run_memory s)) =
      agree_more n e g.turn (next_turn g) g.text_length g.pairs g.window image (run_memory s)
      (sized ∙ sym size_is) (omega (arith, sized, sane.fits)) (λ j j64 l. omega (arith, sized, sane.full j j64 l))
      (λ w wn other f. fresh_after n e g.turn w sane.turn wn other f) at in
      subst (λ (l : List ℤ). Agree n (e + 1) s'.turn (taught g image) l) (sym shows.kept)
      (subst (λ t. Agree n (e + 1) t (taught g image) (taught g (run_memory s))) (sym shows.turn') now)

  pub in_turn : s'.turn < sheet_windows g
  in_turn = rw shows.turn' (let t = sane.turn in omega arith)

  whole : (image : List ℤ) → length image ≡ g.text_length + g.word_length
      → Agree (sheet_windows g) (sheet_windows g) s'.turn image (run_memory s') → image ≡ run_memory s'
  whole image sized agree =
      agree_all (sheet_windows g) s'.turn image (run_memory s') in_turn (sized ∙ sym size_after)
      (omega (arith, sized)) agree

  length_text : g.text_length ≡ length s'.text
  length_text = shows.text_length ∙ ap (λ (t : List ℕ). length t) (sym shows.text)

  builds_back : is_none (m.builds s'.text) ≡ true
  builds_back = ap (λ (t : List ℕ). is_none (m.builds t)) shows.text ∙ ap is_none sane.builds

  counts_back : (m.word_count s'.text == g.word_length) ≡ true
  counts_back = eq-eqb _ _ (ap m.word_count shows.text ∙ sane.counted ∙ sym shows.word_length)

  ended_same : (image : List ℤ) → image ≡ run_memory s' → (learned_by m l (Ends (ended image))).state ≡ Running s'
  ended_same image is =
      let t : map nat_abs (take g.text_length image) ≡ s'.text =
      ap (λ (l : List ℤ). map nat_abs (take g.text_length l)) is ∙ text_back s' g.text_length length_text in
      let w : drop g.text_length image ≡ s'.words =
      ap (λ (l : List ℤ). drop g.text_length l) is ∙ words_back s' g.text_length length_text in
      let lw : length (drop g.text_length image) ≡ g.word_length = ap length w ∙ shows.words ∙ sym shows.word_length in
      let test : is_program m (ended image) ≡ true =
      and_from _ _ (ap (λ (x : List ℕ). is_none (m.builds x)) t ∙ builds_back)
      (eq-eqb _ _ (ap m.word_count (t ∙ shows.text) ∙ sane.counted ∙ sym shows.word_length ∙ sym lw)) in
      ap (λ (c : Closed). c.state) (cond-true _ _ _ test)
      ∙ ap (λ (r : Run). Running r) (same_run _ s' t w (shows.epoch ∙ sym shows.epoch') (sym shows.turn'))

  -- a number of a text, read back, where it is one of the good memory's
  text_alike : (image : List ℤ) (i : ℕ) (d : ℤ) → i < g.text_length → length image ≡ g.text_length + g.word_length
      → get_or image i d ≡ get_or (run_memory s') i d
      → get_or (map pos (map nat_abs (take g.text_length image)) ++ drop g.text_length image) i d
      ≡ get_or (run_memory s') i d
  text_alike image i d l sized alike =
      let xs : List ℤ = take g.text_length image in
      let lx : length xs ≡ g.text_length = length-take-le g.text_length image (omega (arith, sized)) in
      let ln : length (map nat_abs xs) ≡ g.text_length = length-map xs nat_abs ∙ lx in
      let lp : length (map pos (map nat_abs xs)) ≡ g.text_length = length-map (map nat_abs xs) pos ∙ ln in
      let ls : length (map pos s'.text) ≡ g.text_length = length-map s'.text pos ∙ sym length_text in
      let good : get_or (run_memory s') i d ≡ pos (get_or s'.text i 0) =
      get_or_append_left (map pos s'.text) s'.words d i (omega (arith, ls, l))
      ∙ get_or-map pos s'.text i 0 d (omega (arith, length_text, l)) in
      let there : get_or xs i d ≡ pos (get_or s'.text i 0) = get_or-take g.text_length image i d l ∙ alike ∙ good in
      get_or_append_left (map pos (map nat_abs xs)) (drop g.text_length image) d i (omega (arith, lp, l))
      ∙ get_or-map pos (map nat_abs xs) i 0 d (omega (arith, ln, l))
      ∙ ap pos (get_or-map nat_abs xs i d 0 (omega (arith, lx, l)) ∙ ap nat_abs there)
      ∙ sym good

  words_alike : (image : List ℤ) (i : ℕ) (d : ℤ) → g.text_length ≤ i → length image ≡ g.text_length + g.word_length
      → get_or (map pos (map nat_abs (take g.text_length image)) ++ drop g.text_length image) i d ≡ get_or image i d
  words_alike image i d l sized =
      let xs : List ℤ = take g.text_length image in
      let lp : length (map pos (map nat_abs xs)) ≡ g.text_length =
      length-map (map nat_abs xs) pos ∙ length-map xs nat_abs
      ∙ length-take-le g.text_length image (omega (arith, sized)) in
      let j : ℕ = i - g.text_length in
      let back : g.text_length + j ≡ i = omega (arith, l) in
      get_or-append_right (map pos (map nat_abs xs)) (drop g.text_length image) g.text_length i d lp l
      ∙ get_or-drop g.text_length image j d ∙ ap (λ k. get_or image k d) back

  ended_close : (e n : ℕ) (image : List ℤ) → length image ≡ g.text_length + g.word_length
      → Agree (sheet_windows g) e s'.turn image (run_memory s') → e < sheet_windows g → 2 * sheet_windows g ≤ n + e
      → Stage m (sheet_windows g) s' n (learned_by m l (Ends (ended image))).state
  ended_close e n image sized agree short soon =
      cond_both (is_program m (ended image)) _ _ (λ (c : Closed). Stage m (sheet_windows g) s' n c.state)
      (λ _. Close _ refl (record {
        shown = e;
        agrees = λ w j wn j64 f d. ⊎_elim
            (λ (l : 64 * w + j < g.text_length). text_alike image (64 * w + j) d l sized (agree w j wn j64 f d))
            (λ (l : g.text_length ≤ 64 * w + j). words_alike image (64 * w + j) d l sized ∙ agree w j wn j64 f d)
            (cases_lt (64 * w + j) g.text_length);
        epoch = shows.epoch ∙ sym shows.epoch';
        text_length =
            length-map (take g.text_length image) nat_abs ∙ length-take-le g.text_length image (omega (arith, sized))
            ∙ length_text;
        word_length = length-drop g.text_length image ∙ omega (arith, sized, shows.word_length, shows.words);
        turn = sym shows.turn';
        short = short;
        soon = soon;
      }))
      (λ _. Empty refl (omega (arith, short, soon)))

  -- an image with this window, after the count
  window_stage : (e count n : ℕ) (image : List ℤ) → length image ≡ g.text_length + g.word_length
      → Agree (sheet_windows g) e s'.turn image (run_memory s')
      → e ≤ count → count ≤ sheet_windows g → ((count ≡ e) × (sheet_windows g ≤ n + e)) ⊎ (2 * sheet_windows g ≤ n + e)
      → Stage m (sheet_windows g) s' n (after image count)
  window_stage e count n image sized agree some most soon = ⊎_elim
      (λ (k : count < sheet_windows g). subst (λ (o : Outcome). Stage m (sheet_windows g) s' n
      (learned_by m l o).state) (sym (cond-true _ _ _ (lt-ltb count (sheet_windows g) k)))
      (Taught _ refl (record {
        epoch = shows.epoch ∙ sym shows.epoch';
        text_length = length_text;
        word_length = shows.word_length ∙ sym shows.words;
        turn = sym shows.turn';
        sized = sized ∙ omega (arith, length_text, shows.word_length, shows.words);
        shown = e;
        agrees = agree;
        some = some;
        short = k;
        soon = soon;
      })))
      (λ (k : sheet_windows g ≤ count). subst (λ (o : Outcome). Stage m (sheet_windows g) s' n
      (learned_by m l o).state) (sym (cond-false _ _ _ (le-ltb count (sheet_windows g) k)))
      (⊎_elim
      (λ (is : e ≡ sheet_windows g). Same
      (ended_same image
      (whole image sized (subst (λ k. Agree (sheet_windows g) k s'.turn image (run_memory s')) is agree))))
      (λ (other : e ≢ sheet_windows g). ended_close e n image sized agree (grind (arith, some, most, other))
      (grind (arith, some, most, other, k, soon)))
      (cases_eq e (sheet_windows g))))
      (cases_lt count (sheet_windows g))

  some_window : 0 < sheet_windows g
  some_window = let t = sane.turn in omega arith

  -- from nothing learned
  blank_stage : (n : ℕ) → sheet_windows g ≤ n + 1
      → Stage m (sheet_windows g) s' n (after (taught g (nothing_held g).image) (0 + 1))
  blank_stage n soon =
      let sized : length (nothing_held g).image ≡ g.text_length + g.word_length =
      length-replicate (g.text_length + g.word_length) (pos 0) in
      let now = nearer 0 (nothing_held g).image sized
      (agree_none (sheet_windows g) s.turn (nothing_held g).image (run_memory s)
      (subst (λ t. t < sheet_windows g) shows.turn sane.turn)) in
      window_stage (0 + 1) (0 + 1) n (taught g (nothing_held g).image)
      (length_taught g (nothing_held g).image (omega (arith, sized, sane.fits)) ∙ sized) now (omega arith)
      (let t = some_window in omega arith) (inl (refl, soon))

  -- from an image that fits
  lesson_stage : (e n : ℕ) (z : Lesson) → length z.image ≡ g.text_length + g.word_length
      → Agree (sheet_windows g) e s.turn z.image (run_memory s) → e ≤ z.windows → z.windows < sheet_windows g
      → ((z.windows ≡ e) × (sheet_windows g ≤ n + 1 + e)) ⊎ (2 * sheet_windows g ≤ n + 1 + e)
      → Stage m (sheet_windows g) s' n (after (taught g z.image) (z.windows + 1))
  lesson_stage e n z sized agree some short soon =
      window_stage (e + 1) (z.windows + 1) n (taught g z.image)
      (length_taught g z.image (omega (arith, sized, sane.fits)) ∙ sized) (nearer e z.image sized agree)
      (omega (arith, some)) (omega (arith, short))
      (⊎_elim (λ (x : (z.windows ≡ e) × (sheet_windows g ≤ n + 1 + e)). inl
      (ap (λ k. k + 1) x.0, omega (arith, x.1))) (λ (x : 2 * sheet_windows g ≤ n + 1 + e). inr (omega (arith, x))) soon)

  expected : (z : Lesson) → z.epoch ≡ s.epoch → z.text_length ≡ length s.text → z.word_length ≡ length s.words
      → z.turn ≡ s.turn → expects z g ≡ true
  expected z a b c d =
      and_from _ _
      (and_from _ _ (and_from _ _ (eq-eqb _ _ (a ∙ sym shows.epoch)) (eq-eqb _ _ (b ∙ sym shows.text_length)))
      (eq-eqb _ _ (c ∙ sym shows.word_length))) (eq-eqb _ _ (d ∙ sym shows.turn))

  taught_stage : (n : ℕ) (z : Lesson) → InLesson (sheet_windows g) s (n + 1) z
      → Stage m (sheet_windows g) s' n (learned_by m l (with_result (Some z) (Some g))).state
  taught_stage n z t =
      subst (λ (h : Held). Stage m (sheet_windows g) s' n (after (taught g h.image) (h.windows + 1)))
      (sym (cond-true _ _ _ (expected z t.epoch t.text_length t.word_length t.turn)))
      (lesson_stage t.shown n z (t.sized ∙ omega (arith, shows.text_length, shows.word_length)) t.agrees t.some
      t.short t.soon)

  any_lesson : (n : ℕ) (o : Option Lesson) → IsState m (Learning o) → 2 * sheet_windows g ≤ n + 1
      → Stage m (sheet_windows g) s' n (learned_by m l (with_result o (Some g))).state
  any_lesson n None kept soon = blank_stage n (omega (arith, soon))
  any_lesson n (Some z) kept soon =
      cond_both (expects z g) (record { image = z.image; windows = z.windows }) (nothing_held g)
      (λ (h : Held). Stage m (sheet_windows g) s' n (after (taught g h.image) (h.windows + 1)))
      (λ yes. let p = and_parts (z.epoch == g.epoch && z.text_length == g.text_length && z.word_length ==
      g.word_length) (z.turn == g.turn) yes in
      let q = and_parts (z.epoch == g.epoch && z.text_length == g.text_length) (z.word_length == g.word_length) p.0 in
      let r = and_parts (z.epoch == g.epoch) (z.text_length == g.text_length) q.0 in
      let lt : z.text_length ≡ g.text_length = eqb-true z.text_length g.text_length r.1 in
      let lw : z.word_length ≡ g.word_length = eqb-true z.word_length g.word_length q.1 in
      let sized : length z.image ≡ g.text_length + g.word_length = kept.image_length ∙ omega (arith, lt, lw) in
      lesson_stage 0 n z sized (agree_none (sheet_windows g) s.turn z.image (run_memory s)
      (subst (λ t. t < sheet_windows g) shows.turn sane.turn)) (omega arith)
      (subst (λ k. z.windows < windows_of k) (omega (arith, lt, lw)) kept.not_all) (inr (omega (arith, soon))))
      (λ no. blank_stage n (omega (arith, soon)))

  -- a run that showed the same
  run_stage : (e n : ℕ) (r r' : Run) → Shows r r' g → Agree (sheet_windows g) e s.turn (run_memory r) (run_memory s)
      → e < sheet_windows g → 2 * sheet_windows g ≤ n + 1 + e → Stage m (sheet_windows g) s' n (Running r')
  run_stage e n r r' its agree short soon =
      let sized : length (run_memory r) ≡ g.text_length + g.word_length =
      length_memory r ∙ omega (arith, its.text_length, its.word_length) in
      let lt : length r'.text ≡ length s'.text =
      ap (λ (t : List ℕ). length t) its.text ∙ sym its.text_length ∙ length_text in
      let le : r'.epoch ≡ s'.epoch = its.epoch' ∙ sym its.epoch ∙ shows.epoch ∙ sym shows.epoch' in
      let tu : r'.turn ≡ s'.turn = its.turn' ∙ sym shows.turn' in
      let now : Agree (sheet_windows g) (e + 1) s'.turn (run_memory r') (run_memory s') =
      subst (λ (l : List ℤ). Agree (sheet_windows g) (e + 1) s'.turn l (run_memory s')) (sym its.kept)
      (nearer e (run_memory r) sized agree) in
      let after : length (run_memory r') ≡ g.text_length + g.word_length =
      ap (λ (l : List ℤ). length l) its.kept ∙ length_taught g (run_memory r) (omega (arith, sized, sane.fits))
      ∙ sized in
      ⊎_elim
      (λ (is : e + 1 ≡ sheet_windows g). Same (ap (λ (x : Run). Running x)
      (same_memory r' s'
      (whole (run_memory r') after (subst (λ k. Agree (sheet_windows g) k s'.turn (run_memory r') (run_memory s')) is
      now)) lt le tu)))
      (λ (other : e + 1 ≢ sheet_windows g). Close r' refl (record {
        shown = e + 1;
        agrees = now;
        epoch = le;
        text_length = lt;
        word_length = its.words ∙ sym its.word_length ∙ shows.word_length ∙ sym shows.words;
        turn = tu;
        short = grind (arith, other, short);
        soon = omega (arith, soon);
      }))
      (cases_eq (e + 1) (sheet_windows g))

  found : (e n : ℕ) (t' : State) → t' ≡ Learning None → e < sheet_windows g → 2 * sheet_windows g ≤ n + 1 + e
      → Stage m (sheet_windows g) s' n t'
  found e n t' is short soon = Empty is (omega (arith, short, soon))

  ran : (e n : ℕ) (r : Run) (t' : State) → Goes m l g (Running r) t'
      → Agree (sheet_windows g) e s.turn (run_memory r) (run_memory s) → e < sheet_windows g
      → 2 * sheet_windows g ≤ n + 1 + e → Stage m (sheet_windows g) s' n t'
  ran e n r t' goes agree short soon = ⊎_elim
      (λ (x : (r' : Run) × Shows r r' g × (t' ≡ Running r')). subst (λ (u : State). Stage m (sheet_windows g) s' n u)
      (sym x.2) (run_stage e n r x.0 x.1 agree short soon))
      (λ (x : t' ≡ Learning None). found e n t' x short soon)
      goes

  any_stage : (n : ℕ) (t t' : State) → IsState m t → Goes m l g t t' → 2 * sheet_windows g ≤ n + 1
      → Stage m (sheet_windows g) s' n t'
  any_stage n (Running r) t' kept goes soon =
      ran 0 n r t' goes (agree_none (sheet_windows g) s.turn (run_memory r) (run_memory s)
      (subst (λ t. t < sheet_windows g) shows.turn sane.turn)) some_window (omega (arith, soon))
  any_stage n (Learning o) t' kept goes soon =
      subst (λ (u : State). Stage m (sheet_windows g) s' n u) (sym goes) (any_lesson n o kept soon)

  astray : (n : ℕ) (r : Run) (t' : State) → Goes m l g (Running r) t' → r.epoch ≢ s.epoch
      → sheet_windows g + 1 ≤ n + 1 → Stage m (sheet_windows g) s' n t'
  astray n r t' goes other soon = ⊎_elim
      (λ (x : (r' : Run) × Shows r r' g × (t' ≡ Running r')). absurd (other (sym x.1.epoch ∙ shows.epoch)))
      (λ (x : t' ≡ Learning None). Empty x (omega (arith, soon)))
      goes

  -- one scan nearer
  pub stage_step : (n : ℕ) (t t' : State) → (t ≡ Running s → t' ≡ Running s') → Goes m l g t t'
      → Stage m (sheet_windows g) s (n + 1) t → Stage m (sheet_windows g) s' n t'
  stage_step n t t' stays goes (Same is) = Same (stays is)
  stage_step n t t' stays goes (Empty is soon) =
      subst (λ (u : State). Stage m (sheet_windows g) s' n u) (sym (subst (λ (u : State). Goes m l g u t') is goes))
      (blank_stage n soon)
  stage_step n t t' stays goes (Taught z is h) =
      subst (λ (u : State). Stage m (sheet_windows g) s' n u) (sym (subst (λ (u : State). Goes m l g u t') is goes))
      (taught_stage n z h)
  stage_step n t t' stays goes (Close r is h) =
      ran h.shown n r t' (subst (λ (u : State). Goes m l g u t') is goes) h.agrees h.short h.soon
  stage_step n t t' stays goes (Any kept soon) = any_stage n t t' kept goes soon

  -- one scan nearer, from after the change point
  pub ready_step : (n : ℕ) (t t' : State) → (t ≡ Running s → t' ≡ Running s') → Goes m l g t t'
      → Ready m (sheet_windows g) s (n + 1) t → Stage m (sheet_windows g) s' n t'
  ready_step n t t' stays goes ready = ⊎_elim
      (λ (x : Stage m (sheet_windows g) s (n + 1) t). stage_step n t t' stays goes x)
      (λ (x : (r : Run) × (t ≡ Running r) × (r.epoch ≢ s.epoch) × (sheet_windows g + 1 ≤ n + 1)). astray n x.0 t'
      (subst (λ (u : State). Goes m l g u t') x.1 goes) x.2 x.3)
      ready

-- with no scan left, it is there
pub stage_end : (m : Meaning) (windows : ℕ) (s : Run) (t : State) → 0 < windows → Stage m windows s 0 t → t ≡ Running s
stage_end m windows s t some (Same is) = is
stage_end m windows s t some (Empty is soon) = absurd (omega arith)
stage_end m windows s t some (Taught z is l) =
    absurd (⊎_elim (λ (x : (z.windows ≡ l.shown) × (windows ≤ 0 + l.shown)). omega (arith, x.0, x.1, l.short))
    (λ (x : 2 * windows ≤ 0 + l.shown). omega (arith, x, l.some, l.short)) l.soon)
stage_end m windows s t some (Close r is l) = absurd (omega (arith, l.soon, l.short))
stage_end m windows s t some (Any kept soon) = absurd (omega arith)
