-- Why verified code comes to its end. Each place has a digit: 0 where the machine has passed it, the number of turns that
-- are left to an open loop at its Next, and the greatest digit at all other places. Each step lowers a digit, and raises
-- none of a later place.
use Rattle.std.proofs.Common.{◌≡◌, ◌≢◌, ℕ, zero, suc, ◌+◌, ◌<◌, ◌≤◌, ℤ, pos, negsuc, ◌+ℤ◌, ◌-ℤ◌, ◌≤ℤ◌, ◌<ℤ◌, Bool, true, false, if◌then◌else◌, Some, IfSome, List, length, get_or, slice_get, arith, sym, subst, ap, ◌∙◌, refl, inl, inr}
use Rattle.std.specs.Prelude.{int_lt, nat_le, nat_lt, slice_index_or, slice_set}
use Rattle.std.proofs.lemmas.Int.{ints, clamps, by_lt_z}
use Rattle.std.proofs.lemmas.Bool.{cases_lt, lt-ltb, le-ltb, le-leb, lt-leb}
use Rattle.std.proofs.lemmas.List.{get_or-set_same}
use Rattle.std.proofs.lemmas.Option.{slice_get-get_or, slice_get_within, get_or_from_slice_get}
use Rattle.function_blocks.specs.declared.kinds.Kind.{Kind}
use Rattle.function_blocks.specs.declared.kinds.Kind.TheVariants as kind
use Rattle.scan_machine.specs.declared.instructions.Instr.{Instr}
use Rattle.scan_machine.specs.declared.instructions.Instr.TheVariants as i
use Rattle.scan_machine.specs.declared.verified.CodeRule.TheVariants as rule
use Rattle.function_blocks.specs.Values.{is_on, number, clamped}
use Rattle.scan_machine.specs.Machine.{is_past}
use Rattle.scan_machine.specs.Machine.{read}
use Rattle.scan_machine.specs.Rules.{IsOf, HasConstants, HasTarget, HasLoop, IsVerified, StoresTo}
use Rattle.scan_machine.proofs.Alone.{starts_from}
use Rattle.scan_machine.proofs.Digits.{value, value_less}

-- ---- how far a loop is from its end

abbrev natural : ℤ → ℕ
natural (pos n) = n
natural (negsuc n) = 0

abbrev pub distance : (step last v : ℤ) → ℕ
distance step last v = if int_lt (pos 0) step then natural (last -ℤ v) else natural (v -ℤ last)

natural_le : (z : ℤ) (n : ℕ) → z ≤ℤ pos n → natural z ≤ n
natural_le (pos m) n h = omega (arith, ints)
natural_le (negsuc m) n h = omega arith

natural_less : (z' z : ℤ) → z' <ℤ z → pos 0 <ℤ z → natural z' < natural z
natural_less (pos m) (pos n) h k = omega (arith, ints)
natural_less (negsuc m) (pos n) h k = omega (arith, ints)
natural_less z' (negsuc n) h k = absurd (omega (arith, ints))

pub clamped-of : (kind : Kind) (v : ℤ) → IsOf kind (clamped kind v)
clamped-of kind.Bool (pos zero) = (omega (arith, ints), omega (arith, ints))
clamped-of kind.Bool (pos (suc n)) = (omega (arith, ints), omega (arith, ints))
clamped-of kind.Bool (negsuc n) = (omega (arith, ints), omega (arith, ints))
clamped-of kind.Int v = (omega (arith, ints, clamps), omega (arith, ints, clamps))
clamped-of kind.Dint v = (omega (arith, ints, clamps), omega (arith, ints, clamps))

-- a value of the kind is itself
bool_same : (v : ℤ) → pos 0 ≤ℤ v → v ≤ℤ pos 1 → number (is_on v) ≡ v
bool_same (pos zero) h k = refl
bool_same (pos (suc zero)) h k = refl
bool_same (pos (suc (suc n))) h k = absurd (omega (arith, ints))
bool_same (negsuc n) h k = absurd (omega (arith, ints))

clamped-same : (kind : Kind) (v : ℤ) → IsOf kind v → clamped kind v ≡ v
clamped-same kind.Bool v h = bool_same v h.0 h.1
clamped-same kind.Int v h = omega (arith, ints, clamps, h.0, h.1)
clamped-same kind.Dint v h = omega (arith, ints, clamps, h.0, h.1)

pub within_dint : (kind : Kind) (v : ℤ) → IsOf kind v → (negsuc 2147483647 ≤ℤ v) × (v ≤ℤ pos 2147483647)
within_dint kind.Bool v h = (omega (arith, ints, h.0, h.1), omega (arith, ints, h.0, h.1))
within_dint kind.Int v h = (omega (arith, ints, h.0, h.1), omega (arith, ints, h.0, h.1))
within_dint kind.Dint v h = h

if_le : (b : Bool) (x y z : ℕ) → x ≤ z → y ≤ z → (if b then x else y) ≤ z
if_le true x y z h k = h
if_le false x y z h k = k

distance_le : (step last v : ℤ) → (negsuc 2147483647 ≤ℤ v) × (v ≤ℤ pos 2147483647) → (negsuc 2147483647 ≤ℤ last) × (last ≤ℤ pos 2147483647)
    → distance step last v ≤ 4294967295
distance_le step last v h k =
    if_le (int_lt (pos 0) step) (natural (last -ℤ v)) (natural (v -ℤ last)) 4294967295
    (natural_le (last -ℤ v) 4294967295 (omega (arith, ints, h.0, h.1, k.0, k.1))) (natural_le (v -ℤ last) 4294967295 (omega (arith, ints, h.0, h.1, k.0, k.1)))

-- one turn brings it nearer
nearer : (up : Bool) (step last v : ℤ) → int_lt (pos 0) step ≡ up → step ≢ pos 0 → (if up then int_lt last (v +ℤ step) else int_lt (v +ℤ step) last) ≡ false
    → (if up then natural (last -ℤ (v +ℤ step)) else natural ((v +ℤ step) -ℤ last)) < (if up then natural (last -ℤ v) else natural (v -ℤ last))
nearer true step last v is some go =
    let rises : pos 0 <ℤ step = by_lt_z (pos 0) step (λ h. h) (λ h. absurd (grind (arith, ints))) in
    let stays : (v +ℤ step) ≤ℤ last = by_lt_z last (v +ℤ step) (λ h. absurd (grind (arith, ints))) (λ h. h) in
    natural_less (last -ℤ (v +ℤ step)) (last -ℤ v) (omega (arith, ints)) (omega (arith, ints))
nearer false step last v is some go =
    let falls : step <ℤ pos 0 = by_lt_z step (pos 0) (λ h. h) (λ h. absurd (grind (arith, ints))) in
    let stays : last ≤ℤ (v +ℤ step) = by_lt_z (v +ℤ step) last (λ h. absurd (grind (arith, ints))) (λ h. h) in
    natural_less ((v +ℤ step) -ℤ last) (v -ℤ last) (omega (arith, ints)) (omega (arith, ints))

turn_of : (up : Bool) (kind : Kind) (step last v : ℤ) → int_lt (pos 0) step ≡ up → IsOf kind v → IsOf kind last
    → (if up then int_lt last (v +ℤ step) else int_lt (v +ℤ step) last) ≡ false → IsOf kind (v +ℤ step)
turn_of true kind step last v is h k go =
    let rises : pos 0 <ℤ step = by_lt_z (pos 0) step (λ h. h) (λ h. absurd (grind (arith, ints))) in
    let stays : (v +ℤ step) ≤ℤ last = by_lt_z last (v +ℤ step) (λ h. absurd (grind (arith, ints))) (λ h. h) in
    (omega (arith, ints, h.0, h.1, k.0, k.1), omega (arith, ints, h.0, h.1, k.0, k.1))
turn_of false kind step last v is h k go =
    let falls : step ≤ℤ pos 0 = by_lt_z (pos 0) step (λ h. absurd (grind (arith, ints))) (λ h. h) in
    let stays : last ≤ℤ (v +ℤ step) = by_lt_z (v +ℤ step) last (λ h. absurd (grind (arith, ints))) (λ h. h) in
    (omega (arith, ints, h.0, h.1, k.0, k.1), omega (arith, ints, h.0, h.1, k.0, k.1))

-- the word of a loop that goes back is the sum
pub turned_read : (kind : Kind) (step last : ℤ) (words : List ℤ) (address : ℕ) → address < length words → IsOf kind last
    → is_past step last (read words address kind +ℤ step) ≡ false
    → read (slice_set words address (read words address kind +ℤ step)) address kind ≡ read words address kind +ℤ step
turned_read kind step last words address there k go =
    let v = read words address kind in
    ap (clamped kind) (get_or-set_same words address (v +ℤ step) (pos 0) there)
    ∙ clamped-same kind (v +ℤ step) (turn_of (int_lt (pos 0) step) kind step last v refl (clamped-of kind (slice_index_or words address (pos 0))) k go)

-- ---- digits

-- the digit of an instruction that the machine, at `index`, has not passed
abbrev digit_of : List ℤ → ℕ → Instr → ℕ
digit_of words index (i.Next address kind step last back) =
    if nat_le back index then distance step last (read words address kind) + 1 else 4294967296
digit_of words index _ = 4294967296

abbrev digit : List Instr → List ℤ → ℕ → ℕ → ℕ
digit code words index at = if nat_lt at index then 0 else digit_of words index (get_or code at i.Limit)

-- what each step lowers
unfoldable pub potential : List Instr → List ℤ → ℕ → ℕ
potential code words index = value (digit code words index) (length code)

digit_of-le : (words : List ℤ) (index : ℕ) (instr : Instr) → HasConstants instr → digit_of words index instr ≤ 4294967296
digit_of-le words index (i.Next address kind step last back) h =
    let d : distance step last (read words address kind) ≤ 4294967295 =
    distance_le step last (read words address kind) (within_dint kind (read words address kind) (clamped-of kind (slice_index_or words address (pos 0)))) (within_dint kind last h.1) in
    if_le (nat_le back index) (distance step last (read words address kind) + 1) 4294967296 4294967296 (omega arith) (omega arith)
digit_of-le words index _ h = omega arith

-- a loop that is open before the step is open after it, and its word stays
abbrev StaysOpen : List ℤ → List ℤ → ℕ → ℕ → Instr → Type 0
StaysOpen words words' index index' (i.Next address kind step last back) =
    back ≤ index → (back ≤ index') × (slice_index_or words' address (pos 0) ≡ slice_index_or words address (pos 0))
StaysOpen words words' index index' _ = Unit {0}

digit_of-stays : (words words' : List ℤ) (index index' : ℕ) (instr : Instr) → HasConstants instr → StaysOpen words words' index index' instr
    → digit_of words' index' instr ≤ digit_of words index instr
digit_of-stays words words' index index' (i.Next address kind step last back) h stays =
    let D : ℕ → Type 0 = λ n. digit_of words' index' (i.Next address kind step last back) ≤ n in
    elim (cases_lt index back) as (λ _. digit_of words' index' (i.Next address kind step last back) ≤ digit_of words index (i.Next address kind step last back)) [
      | inl closed ↦
          let e : nat_le back index ≡ false = lt-leb back index closed in
          subst (λ (b : Bool). D (if b then distance step last (read words address kind) + 1 else 4294967296)) (sym e) (digit_of-le words' index' (i.Next address kind step last back) h)
      | inr here ↦
          let e : nat_le back index ≡ true = le-leb back index here in
          let e' : nat_le back index' ≡ true = le-leb back index' (stays here).0 in
          let same : distance step last (read words' address kind) + 1 ≡ distance step last (read words address kind) + 1 =
          ap (λ v. distance step last (clamped kind v) + 1) (stays here).1 in
          let left : digit_of words index (i.Next address kind step last back) ≡ distance step last (read words address kind) + 1 =
          ap (λ (b : Bool). if b then distance step last (read words address kind) + 1 else 4294967296) e in
          let left' : digit_of words' index' (i.Next address kind step last back) ≡ distance step last (read words' address kind) + 1 =
          ap (λ (b : Bool). if b then distance step last (read words' address kind) + 1 else 4294967296) e' in
          omega (arith, same, left, left')
    ]
digit_of-stays words words' index index' _ h stays = omega arith

digit-ahead : (code : List Instr) (words : List ℤ) (index at : ℕ) → index ≤ at → digit code words index at ≡ digit_of words index (get_or code at i.Limit)
digit-ahead code words index at h =
    ap (λ (b : Bool). if b then 0 else digit_of words index (get_or code at i.Limit)) (le-ltb at index h)

digit-passed : (code : List Instr) (words : List ℤ) (index at : ℕ) → at < index → digit code words index at ≡ 0
digit-passed code words index at h =
    ap (λ (b : Bool). if b then 0 else digit_of words index (get_or code at i.Limit)) (lt-ltb at index h)

if_some : (b : Bool) (x : ℕ) → 0 < (if b then x + 1 else 4294967296)
if_some true x = omega arith
if_some false x = omega arith

digit_of-some : (words : List ℤ) (index : ℕ) (instr : Instr) → 0 < digit_of words index instr
digit_of-some words index (i.Next address kind step last back) = if_some (nat_le back index) (distance step last (read words address kind))
digit_of-some words index _ = omega arith

-- ---- verified code

-- the words that an instruction can't store to stay
abbrev pub Unchanged : List ℤ → List ℤ → Instr → Type 0
Unchanged words words' instr =
    (word : ℕ) → (StoresTo instr word → ⊥) → slice_index_or words' word (pos 0) ≡ slice_index_or words word (pos 0)

module _ (code : List Instr) (total : ℕ) (kept : IsVerified code total) where
  constants : (at : ℕ) → at < length code → HasConstants (get_or code at i.Limit)
  constants at within =
      subst (λ o. IfSome o HasConstants) (slice_get-get_or code at i.Limit within) (kept at (omega arith) rule.Constant)

  target : (at : ℕ) → (instr : Instr) → slice_get code at ≡ Some instr → HasTarget (length code) at instr
  target at instr is = subst (λ o. IfSome o (HasTarget (length code) at)) is (kept at (omega (arith, slice_get_within code at instr is)) rule.Target)

  loop : (at : ℕ) → at < length code → HasLoop code at (get_or code at i.Limit)
  loop at within =
      subst (λ o. IfSome o (HasLoop code at)) (slice_get-get_or code at i.Limit within) (kept at (omega arith) rule.Loop)

  bound : (words : List ℤ) (index at : ℕ) → at < length code → digit code words index at < 4294967297
  bound words index at within =
      let d : digit code words index at ≤ 4294967296 =
      if_le (nat_lt at index) 0 (digit_of words index (get_or code at i.Limit)) 4294967296 (omega arith)
      (digit_of-le words index (get_or code at i.Limit) (constants at within)) in
      omega arith

  -- a digit of a later place does not rise
  later : (words words' : List ℤ) (index index' at : ℕ) → index ≤ at → at < length code → StaysOpen words words' index index' (get_or code at i.Limit)
      → digit code words' index' at ≤ digit code words index at
  later words words' index index' at over within stays =
      subst (λ n. digit code words' index' at ≤ n) (sym (digit-ahead code words index at over))
      (if_le (nat_lt at index') 0 (digit_of words' index' (get_or code at i.Limit)) (digit_of words index (get_or code at i.Limit)) (omega arith)
      (digit_of-stays words words' index index' (get_or code at i.Limit) (constants at within) stays))

  -- forward
  stays_forward : (words words' : List ℤ) (index index' at : ℕ) (instr here : Instr) → index ≤ index' → index < at → slice_get code index ≡ Some instr
      → Unchanged words words' instr → HasLoop code at here → StaysOpen words words' index index' here
  stays_forward words words' index index' at instr (i.Next address kind step last back) on over is same alone =
      λ from. (omega arith, same address (λ lies. (alone index instr over is).0 from lies))
  stays_forward words words' index index' at instr _ on over is same alone = tt

  pub forward : (words words' : List ℤ) (index index' : ℕ) (instr : Instr) → index < index' → slice_get code index ≡ Some instr → Unchanged words words' instr
      → potential code words' index' < potential code words index
  unfolding potential
  forward words words' index index' instr on is same =
      let within : index < length code = slice_get_within code index instr is in
      let falls : digit code words' index' index < digit code words index index =
      let now = digit-passed code words' index' index on in
      let before = digit-ahead code words index index (omega arith) in
      let some = digit_of-some words index (get_or code index i.Limit) in
      omega (arith, now, before, some) in
      value_less (digit code words' index') (digit code words index) (length code) index within falls
      (λ k over under. later words words' index index' k (omega arith) under
      (stays_forward words words' index index' k instr (get_or code k i.Limit) (omega arith) over is same (loop k under)))
      (λ k under. bound words' index' k under)

  -- back
  module _ (words : List ℤ) (index address : ℕ) (kind : Kind) (step last : ℤ) (back : ℕ)
      (is : slice_get code index ≡ Some (i.Next address kind step last back)) where
    abbrev turn : Instr
    turn = i.Next address kind step last back

    stays_back : (words' : List ℤ) (at : ℕ) (here : Instr) → index < at → Unchanged words words' turn → HasLoop code at here → StaysOpen words words' index back here
    stays_back words' at (i.Next address' kind' step' last' back') over same alone =
        let nest = (alone index turn over is).1 in
        λ from. (
          starts_from (length code) back' at index turn over from (target index turn is) nest,
          same address' (λ lies. (alone index turn over is).0 from lies),
        )
    stays_back words' at _ over same alone = tt

    pub backward : (words' : List ℤ) → Unchanged words words' turn → HasConstants turn → back ≤ index
        → is_past step last (read words address kind +ℤ step) ≡ false → read words' address kind ≡ read words address kind +ℤ step
        → potential code words' back < potential code words index
    unfolding potential
    backward words' same consts on go new =
        let within : index < length code = slice_get_within code index turn is in
        let here : get_or code index i.Limit ≡ turn = get_or_from_slice_get code index turn i.Limit is in
        let v = read words address kind in
        let left : digit code words index index ≡ distance step last v + 1 =
        digit-ahead code words index index (omega arith) ∙ (ap (digit_of words index) here
        ∙ ap (λ (b : Bool). if b then distance step last v + 1 else 4294967296) (le-leb back index on)) in
        let left' : digit code words' back index ≡ distance step last (v +ℤ step) + 1 =
        digit-ahead code words' back index on ∙ (ap (digit_of words' back) here
        ∙ (ap (λ (b : Bool). if b then distance step last (read words' address kind) + 1 else 4294967296) (le-leb back back (omega arith))
        ∙ ap (λ z. distance step last z + 1) new)) in
        let near : distance step last (v +ℤ step) < distance step last v = nearer (int_lt (pos 0) step) step last v refl consts.2 go in
        value_less (digit code words' back) (digit code words index) (length code) index within (omega (arith, left, left', near))
        (λ k over under. later words words' index back k (omega arith) under
        (stays_back words' k (get_or code k i.Limit) over same (loop k under)))
        (λ k under. bound words' back k under)
