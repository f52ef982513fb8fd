-- The words of an environment: each tag's numbers stand from its address on.
use Rattle.std.proofs.Common.{◌≡◌, ◌≢◌, ℕ, ◌+◌, ◌-◌, ◌<◌, ℤ, pos, Bool, true, false, if◌then◌else◌, List, [], ◌∷◌, ◌++◌, length, get_or, set, arith, sym, ap, ◌∙◌, refl, subst, append_assoc, length-append, length-set, get_or-append-add, get_or-set_same}
use Rattle.std.specs.Prelude.{slice_index_or, slice_set}
use Rattle.std.proofs.lemmas.List.{set-append_right, set-append_left}
use Rattle.std.proofs.Math.ListN.{get_or-append}
use Rattle.std.specs.Str.{bytes_eq}
use Rattle.function_blocks.specs.declared.blocks.BlockKind.{BlockKind}
use Rattle.function_blocks.specs.declared.blocks.BlockKind.TheVariants as block
use Rattle.function_blocks.specs.Fields.{field_count}
use Rattle.function_blocks.specs.Blocks.{step_block}
use Rattle.std.proofs.lemmas.Slice.Eq.{bytes_eq-Decides}
use Rattle.st_core.specs.Core.{Name}
use Rattle.st_core.specs.Environments.{Env, numbers_of, with_numbers, number_of, with_number}
use Rattle.st_core.specs.Memory.{Shape, address_of, count_of, total_of, shape_of, words_of}

-- the words before a tag's and behind them
pub record Parts (n : Name) (env : Env) : Type 0 where
  pub before : List ℤ
  pub after : List ℤ
  pub words : words_of env ≡ before ++ (numbers_of n env ++ after)
  pub address : address_of n (shape_of env) ≡ length before
  pub changed : (new : List ℤ) → words_of (with_numbers n new env) ≡ before ++ (new ++ after)

parts_by : (n : Name) (t : Name × List ℤ) (ts : Env) (b : Bool) → bytes_eq n t.0 ≡ b → (b ≡ false → Parts n ts) → Parts n (t ∷ ts)
unfolding numbers_of with_numbers address_of shape_of words_of
parts_by n t ts true e rest = record {
  before = [];
  after = words_of ts;
  words = ap (λ b. (if b then t.1 else numbers_of n ts) ++ words_of ts) (sym e);
  address = ap (λ (b : Bool). if b then 0 else length t.1 + address_of n (shape_of ts)) e;
  changed = λ new. ap (λ (b : Bool). words_of (if b then (t.0, new) ∷ ts else t ∷ with_numbers n new ts)) e;
}
parts_by n t ts false e rest =
    let p = rest refl in
    record {
      before = t.1 ++ p.before;
      after = p.after;
      words = ap (λ l. t.1 ++ l) p.words ∙ (sym (append_assoc t.1 p.before (numbers_of n ts ++ p.after)) ∙ ap (λ b. (t.1 ++ p.before) ++ ((if b then t.1 else numbers_of n ts) ++ p.after)) (sym e));
      address = ap (λ (b : Bool). if b then 0 else length t.1 + address_of n (shape_of ts)) e ∙ (ap (λ k. length t.1 + k) p.address ∙ sym (length-append t.1 p.before));
      changed = λ new. ap (λ (b : Bool). words_of (if b then (t.0, new) ∷ ts else t ∷ with_numbers n new ts)) e ∙ (ap (λ l. t.1 ++ l) (p.changed new) ∙ sym (append_assoc t.1 p.before (new ++ p.after)));
    }

count_by : (n : Name) (t : Name × ℕ) (ts : Shape) (b : Bool) → bytes_eq n t.0 ≡ b → b ≡ false → count_of n (t ∷ ts) ≡ count_of n ts
unfolding count_of
count_by n t ts b e f = ap (λ (x : Bool). if x then t.1 else count_of n ts) (e ∙ f)

pub parts : (n : Name) (env : Env) → 0 < count_of n (shape_of env) → Parts n env
unfolding shape_of count_of
parts n [] h = absurd (omega (arith, h))
parts n (t ∷ ts) h = parts_by n t ts (bytes_eq n t.0) refl (λ f. parts n ts (subst (λ k. 0 < k) (count_by n (t.0, length t.1) (shape_of ts) (bytes_eq n t.0) refl f) h))

-- ---- counts

count_is_by : (n : Name) (t : Name × List ℤ) (ts : Env) (b : Bool) → bytes_eq n t.0 ≡ b → count_of n (shape_of ts) ≡ length (numbers_of n ts) → count_of n (shape_of (t ∷ ts)) ≡ length (numbers_of n (t ∷ ts))
unfolding numbers_of shape_of count_of
count_is_by n t ts true e rest = ap (λ (b : Bool). if b then length t.1 else count_of n (shape_of ts)) e ∙ ap (λ (b : Bool). length (if b then t.1 else numbers_of n ts)) (sym e)
count_is_by n t ts false e rest = ap (λ (b : Bool). if b then length t.1 else count_of n (shape_of ts)) e ∙ (rest ∙ ap (λ (b : Bool). length (if b then t.1 else numbers_of n ts)) (sym e))

pub count_is : (n : Name) (env : Env) → count_of n (shape_of env) ≡ length (numbers_of n env)
unfolding numbers_of shape_of count_of
count_is n [] = refl
count_is n (t ∷ ts) = count_is_by n t ts (bytes_eq n t.0) refl (count_is n ts)

shape_by : (n : Name) (new : List ℤ) (t : Name × List ℤ) (ts : Env) (b : Bool) → bytes_eq n t.0 ≡ b → (b ≡ true → length new ≡ length t.1) → (b ≡ false → shape_of (with_numbers n new ts) ≡ shape_of ts) → shape_of (with_numbers n new (t ∷ ts)) ≡ shape_of (t ∷ ts)
unfolding with_numbers shape_of
shape_by n new t ts true e same rest = ap (λ (b : Bool). shape_of (if b then (t.0, new) ∷ ts else t ∷ with_numbers n new ts)) e ∙ ap (λ k. (t.0, k) ∷ shape_of ts) (same refl)
shape_by n new t ts false e same rest = ap (λ (b : Bool). shape_of (if b then (t.0, new) ∷ ts else t ∷ with_numbers n new ts)) e ∙ ap (λ s. (t.0, length t.1) ∷ s) (rest refl)

-- as many numbers as before keep the shape
pub shape_kept : (n : Name) (new : List ℤ) (env : Env) → length new ≡ length (numbers_of n env) → shape_of (with_numbers n new env) ≡ shape_of env
unfolding with_numbers shape_of numbers_of
shape_kept n new [] h = refl
shape_kept n new (t ∷ ts) h =
    shape_by n new t ts (bytes_eq n t.0) refl
    (λ y. h ∙ ap (λ (b : Bool). length (if b then t.1 else numbers_of n ts)) y)
    (λ f. shape_kept n new ts (h ∙ ap (λ (b : Bool). length (if b then t.1 else numbers_of n ts)) f))

-- ---- one field

pub word_is : (n : Name) (env : Env) (k : ℕ) → k < count_of n (shape_of env) → slice_index_or (words_of env) (address_of n (shape_of env) + k) (pos 0) ≡ number_of env n k
word_is n env k h =
    let p = parts n env (omega (arith, h)) in
    let inside : k < length (numbers_of n env) = omega (arith, h, count_is n env) in
    ap (λ l. get_or l (address_of n (shape_of env) + k) (pos 0)) p.words
    ∙ (ap (λ a. get_or (p.before ++ (numbers_of n env ++ p.after)) (a + k) (pos 0)) p.address
    ∙ (get_or-append-add p.before (numbers_of n env ++ p.after) k (pos 0)
    ∙ get_or-append (numbers_of n env) p.after (pos 0) k inside))

pub word_set : (n : Name) (env : Env) (k : ℕ) (v : ℤ) → k < count_of n (shape_of env) → slice_set (words_of env) (address_of n (shape_of env) + k) v ≡ words_of (with_number env n k v)
word_set n env k v h =
    let p = parts n env (omega (arith, h)) in
    let inside : k < length (numbers_of n env) = omega (arith, h, count_is n env) in
    let off : length p.before + k - length p.before ≡ k = omega arith in
    ap (λ l. set l (address_of n (shape_of env) + k) v) p.words
    ∙ (ap (λ a. set (p.before ++ (numbers_of n env ++ p.after)) (a + k) v) p.address
    ∙ (set-append_right p.before (numbers_of n env ++ p.after) (length p.before) (length p.before + k) v refl (omega arith)
    ∙ (ap (λ j. p.before ++ set (numbers_of n env ++ p.after) j v) off
    ∙ (ap (λ l. p.before ++ l) (set-append_left (numbers_of n env) p.after k v inside)
    ∙ sym (p.changed (set (numbers_of n env) k v))))))

pub number_shape : (n : Name) (env : Env) (k : ℕ) (v : ℤ) → shape_of (with_number env n k v) ≡ shape_of env
number_shape n env k v = shape_kept n (set (numbers_of n env) k v) env (length-set (numbers_of n env) k v)

-- ---- another tag's fields stay

other_by : (n m : Name) (new : List ℤ) (t : Name × List ℤ) (ts : Env) (b d : Bool) → bytes_eq n t.0 ≡ b → bytes_eq m t.0 ≡ d → n ≢ m → numbers_of n (with_numbers m new ts) ≡ numbers_of n ts → numbers_of n (with_numbers m new (t ∷ ts)) ≡ numbers_of n (t ∷ ts)
unfolding with_numbers numbers_of
other_by n m new t ts true true e f apart rest = absurd (apart ((bytes_eq-Decides n t.0).0 e ∙ sym ((bytes_eq-Decides m t.0).0 f)))
other_by n m new t ts false true e f apart rest =
    ap (λ (x : Bool). numbers_of n (if x then (t.0, new) ∷ ts else t ∷ with_numbers m new ts)) f
    ∙ (ap (λ (x : Bool). if x then new else numbers_of n ts) e ∙ ap (λ (x : Bool). if x then t.1 else numbers_of n ts) (sym e))
other_by n m new t ts b false e f apart rest =
    ap (λ (x : Bool). numbers_of n (if x then (t.0, new) ∷ ts else t ∷ with_numbers m new ts)) f
    ∙ ap (λ l. if bytes_eq n t.0 then t.1 else l) rest

pub fields_other : (n m : Name) (new : List ℤ) (env : Env) → n ≢ m → numbers_of n (with_numbers m new env) ≡ numbers_of n env
unfolding with_numbers numbers_of
fields_other n m new [] apart = refl
fields_other n m new (t ∷ ts) apart = other_by n m new t ts (bytes_eq n t.0) (bytes_eq m t.0) refl refl apart (fields_other n m new ts apart)

own_by : (n : Name) (new : List ℤ) (t : Name × List ℤ) (ts : Env) (b : Bool) → bytes_eq n t.0 ≡ b → (b ≡ false → numbers_of n (with_numbers n new ts) ≡ new) → numbers_of n (with_numbers n new (t ∷ ts)) ≡ new
unfolding with_numbers numbers_of
own_by n new t ts true e rest =
    ap (λ (x : Bool). numbers_of n (if x then (t.0, new) ∷ ts else t ∷ with_numbers n new ts)) e
    ∙ ap (λ (x : Bool). if x then new else numbers_of n ts) e
own_by n new t ts false e rest =
    ap (λ (x : Bool). numbers_of n (if x then (t.0, new) ∷ ts else t ∷ with_numbers n new ts)) e
    ∙ (ap (λ (x : Bool). if x then t.1 else numbers_of n (with_numbers n new ts)) e ∙ rest refl)

pub fields_own : (n : Name) (new : List ℤ) (env : Env) → 0 < count_of n (shape_of env) → numbers_of n (with_numbers n new env) ≡ new
unfolding shape_of count_of
fields_own n new [] h = absurd (omega (arith, h))
fields_own n new (t ∷ ts) h = own_by n new t ts (bytes_eq n t.0) refl (λ f. fields_own n new ts (subst (λ k. 0 < k) (count_by n (t.0, length t.1) (shape_of ts) (bytes_eq n t.0) refl f) h))

-- the number that was set
pub number_own : (n : Name) (env : Env) (k : ℕ) (v : ℤ) → k < count_of n (shape_of env) → number_of (with_number env n k v) n k ≡ v
number_own n env k v h =
    let inside : k < length (numbers_of n env) = omega (arith, h, count_is n env) in
    ap (λ l. get_or l k (pos 0)) (fields_own n (set (numbers_of n env) k v) env (omega (arith, h)))
    ∙ get_or-set_same (numbers_of n env) k v (pos 0) inside

-- ---- addresses

within_by : (n : Name) (k : ℕ) (t : Name × ℕ) (ts : Shape) (b : Bool) → bytes_eq n t.0 ≡ b → k < count_of n (t ∷ ts) → (k < count_of n ts → address_of n ts + k < total_of ts) → address_of n (t ∷ ts) + k < total_of (t ∷ ts)
unfolding address_of count_of total_of
within_by n k t ts true e h rest =
    let a = ap (λ (x : Bool). if x then 0 else t.1 + address_of n ts) e in
    let c = ap (λ (x : Bool). if x then t.1 else count_of n ts) e in
    omega (arith, a, c, h)
within_by n k t ts false e h rest =
    let a = ap (λ (x : Bool). if x then 0 else t.1 + address_of n ts) e in
    let c = ap (λ (x : Bool). if x then t.1 else count_of n ts) e in
    let r = rest (subst (λ m. k < m) c h) in
    omega (arith, a, r)

pub address_within : (n : Name) (k : ℕ) (shape : Shape) → k < count_of n shape → address_of n shape + k < total_of shape
unfolding address_of count_of total_of
address_within n k [] h = absurd (omega (arith, h))
address_within n k (t ∷ ts) h = within_by n k t ts (bytes_eq n t.0) refl h (λ r. address_within n k ts r)

apart_by : (n m : Name) (j k : ℕ) (t : Name × ℕ) (ts : Shape) (b d : Bool) → bytes_eq n t.0 ≡ b → bytes_eq m t.0 ≡ d → n ≢ m → j < count_of n (t ∷ ts) → k < count_of m (t ∷ ts)
    → (j < count_of n ts → k < count_of m ts → address_of n ts + j ≢ address_of m ts + k) → address_of n (t ∷ ts) + j ≢ address_of m (t ∷ ts) + k
unfolding address_of count_of
apart_by n m j k t ts true true e f apart hj hk rest = absurd (apart ((bytes_eq-Decides n t.0).0 e ∙ sym ((bytes_eq-Decides m t.0).0 f)))
apart_by n m j k t ts true false e f apart hj hk rest = λ is.
    let a = ap (λ (x : Bool). if x then 0 else t.1 + address_of n ts) e in
    let b = ap (λ (x : Bool). if x then 0 else t.1 + address_of m ts) f in
    let c = ap (λ (x : Bool). if x then t.1 else count_of n ts) e in
    omega (arith, a, b, c, hj, is)
apart_by n m j k t ts false true e f apart hj hk rest = λ is.
    let a = ap (λ (x : Bool). if x then 0 else t.1 + address_of n ts) e in
    let b = ap (λ (x : Bool). if x then 0 else t.1 + address_of m ts) f in
    let c = ap (λ (x : Bool). if x then t.1 else count_of m ts) f in
    omega (arith, a, b, c, hk, is)
apart_by n m j k t ts false false e f apart hj hk rest = λ is.
    let a = ap (λ (x : Bool). if x then 0 else t.1 + address_of n ts) e in
    let b = ap (λ (x : Bool). if x then 0 else t.1 + address_of m ts) f in
    let c = ap (λ (x : Bool). if x then t.1 else count_of n ts) e in
    let d = ap (λ (x : Bool). if x then t.1 else count_of m ts) f in
    rest (subst (λ x. j < x) c hj) (subst (λ x. k < x) d hk) (omega (arith, a, b, is))

-- no word is two tags'
pub addresses_apart : (n m : Name) (j k : ℕ) (shape : Shape) → n ≢ m → j < count_of n shape → k < count_of m shape → address_of n shape + j ≢ address_of m shape + k
unfolding count_of
addresses_apart n m j k [] apart hj hk = absurd (omega (arith, hj))
addresses_apart n m j k (t ∷ ts) apart hj hk = apart_by n m j k t ts (bytes_eq n t.0) (bytes_eq m t.0) refl refl apart hj hk (λ x y. addresses_apart n m j k ts apart x y)

-- ---- blocks

-- a call leaves as many numbers as the block has fields
pub length-step_block : (kind : BlockKind) (dt : ℤ) (numbers : List ℤ) → length (step_block kind dt numbers) ≡ field_count kind
length-step_block block.RTrig dt numbers = refl
length-step_block block.FTrig dt numbers = refl
length-step_block block.Sr dt numbers = refl
length-step_block block.Rs dt numbers = refl
length-step_block block.Ctu dt numbers = refl
length-step_block block.Ctd dt numbers = refl
length-step_block block.Ton dt numbers = refl
length-step_block block.Tof dt numbers = refl
length-step_block block.Tp dt numbers = refl

-- a block has a field
pub some_fields : (kind : BlockKind) → 0 < field_count kind
some_fields block.RTrig = omega arith
some_fields block.FTrig = omega arith
some_fields block.Sr = omega arith
some_fields block.Rs = omega arith
some_fields block.Ctu = omega arith
some_fields block.Ctd = omega arith
some_fields block.Ton = omega arith
some_fields block.Tof = omega arith
some_fields block.Tp = omega arith
