-- Looking for a field from the first on.
use Rattle.std.proofs.Common.{◌≡◌, ℕ, zero, suc, ◌+◌, ◌<◌, ◌≤◌, Bool, true, false, List, [], ◌∷◌, length, drop, slice_get, cond, Option, Some, None, arith, refl, sym, ap, ◌∙◌, drop_of_length-le}
use Rattle.std.specs.Prelude.{if◌then◌else◌, unwrap_or}
use Rattle.std.specs.List.{find, position}
use Rattle.std.specs.Option.{option_map}
use Rattle.std.specs.Str.{bytes_eq}
use Rattle.function_blocks.specs.declared.kinds.Kind.{Kind}
use Rattle.function_blocks.specs.declared.kinds.Kind.TheVariants as kind
use Rattle.function_blocks.specs.declared.blocks.BlockKind.{BlockKind}
use Rattle.function_blocks.specs.declared.blocks.BlockKind.TheVariants as block
use Rattle.function_blocks.specs.Fields.{Field, field_count, kind_of}
use Rattle.st_types.proofs.Positions.{position_cons}
use Rattle.scan_code.specs.Inner.Found.{typed_field}

get_split : {X : Type 0} (xs : List X) (k : ℕ) (x : X) → slice_get xs k ≡ Some x → drop k xs ≡ x ∷ drop (k + 1) xs
get_split [] zero x e = absurd (cc)
get_split [] (suc k) x e = absurd (cc)
get_split (y ∷ ys) zero x e = ap (λ z. z ∷ ys) (ap (λ o. unwrap_or o y) e)
get_split (y ∷ ys) (suc k) x e =
    let n : suc (k + 1) ≡ suc k + 1 = omega arith in
    get_split ys k x e ∙ ap (λ m. x ∷ drop m (y ∷ ys)) n

get_none : {X : Type 0} (xs : List X) (k : ℕ) → slice_get xs k ≡ None → k < length xs → ⊥
get_none [] k e less = omega (arith, less)
get_none (y ∷ ys) zero e less = absurd (cc)
get_none (y ∷ ys) (suc k) e less = get_none ys k e (omega (arith, less))

module _ (n : List ℕ) (fs : List Field) where
  abbrev is_it : Field → Bool
  is_it f = bytes_eq n f.name

  -- the field is none of the first k
  pub record Left (k : ℕ) : Type 0 where
    pub place : (m : ℕ) → position is_it (drop k fs) ≡ Some m → position is_it fs ≡ Some (k + m)
    pub none : position is_it (drop k fs) ≡ None → position is_it fs ≡ None
    pub same : find is_it fs ≡ find is_it (drop k fs)

  pub left_all : Left 0
  left_all = record {
    place = λ m e. let z : m ≡ 0 + m = omega arith in e ∙ ap Some z;
    none = λ e. e;
    same = refl;
  }

  pub left_more : (k : ℕ) (f : Field) → drop k fs ≡ f ∷ drop (k + 1) fs → is_it f ≡ false → Left k → Left (k + 1)
  left_more k f split differs h =
      let p : position is_it (drop k fs) ≡ option_map suc (position is_it (drop (k + 1) fs)) =
      ap (position is_it) split ∙ (position_cons is_it f (drop (k + 1) fs) ∙ ap (λ b. cond b (Some 0) (option_map suc (position is_it (drop (k + 1) fs)))) differs) in
      record {
        place = λ m e. let z : k + suc m ≡ k + 1 + m = omega arith in h.place (suc m) (p ∙ ap (option_map suc) e) ∙ ap Some z;
        none = λ e. h.none (p ∙ ap (option_map suc) e);
        same = h.same ∙ (ap (find is_it) split ∙ ap (λ b. cond b (Some f) (find is_it (drop (k + 1) fs))) differs);
      }

  pub record There (k : ℕ) (f : Field) : Type 0 where
    pub place : position is_it fs ≡ Some k
    pub field : find is_it fs ≡ Some f

  pub left_there : (k : ℕ) (f : Field) → drop k fs ≡ f ∷ drop (k + 1) fs → is_it f ≡ true → Left k → There k f
  left_there k f split same h =
      let z : k + 0 ≡ k = omega arith in
      let p : position is_it (drop k fs) ≡ Some 0 =
      ap (position is_it) split ∙ (position_cons is_it f (drop (k + 1) fs) ∙ ap (λ b. cond b (Some 0) (option_map suc (position is_it (drop (k + 1) fs)))) same) in
      record {
        place = h.place 0 p ∙ ap Some z;
        field = h.same ∙ (ap (find is_it) split ∙ ap (λ b. cond b (Some f) (find is_it (drop (k + 1) fs))) same);
      }

  -- the test at a place
  typed_by : (k : ℕ) (o : Option Field) → slice_get fs k ≡ o → None ≡ typed_field o n → k < length fs → Left k → Left (k + 1)
  typed_by k None e t less h = absurd (get_none fs k e less)
  typed_by k (Some f) e t less h = by (is_it f) refl t
    where
      by : (b : Bool) → is_it f ≡ b → None ≡ (if b then Some f.kind else None) → Left (k + 1)
      by true same t = absurd (cc)
      by false differs t = left_more k f (get_split fs k f e) differs h

  pub left_next : (k : ℕ) → None ≡ typed_field (slice_get fs k) n → k < length fs → Left k → Left (k + 1)
  left_next k t less h = typed_by k (slice_get fs k) refl t less h

  pub record Found (k : ℕ) (of : Kind) : Type 0 where
    pub place : k ≡ unwrap_or (position is_it fs) 0
    pub kind : of ≡ unwrap_or (kind_of (find is_it fs)) kind.Dint

  found_by : (k : ℕ) (of : Kind) (o : Option Field) → slice_get fs k ≡ o → Some of ≡ typed_field o n → Left k → Found k of
  found_by k of None e t h = absurd (cc)
  found_by k of (Some f) e t h = by (is_it f) refl t
    where
      by : (b : Bool) → is_it f ≡ b → Some of ≡ (if b then Some f.kind else None) → Found k of
      by true same t =
          let there = left_there k f (get_split fs k f e) same h in
          record {
            place = sym (ap (λ o. unwrap_or o 0) there.place);
            kind = ap (λ o. unwrap_or o of) t ∙ sym (ap (λ o. unwrap_or (kind_of o) kind.Dint) there.field);
          }
      by false differs t = absurd (cc)

  pub left_found : (k : ℕ) (of : Kind) → Some of ≡ typed_field (slice_get fs k) n → Left k → Found k of
  left_found k of t h = found_by k of (slice_get fs k) refl t h

  pub left_none : (k : ℕ) → length fs ≤ k → Left k → Found 0 kind.Dint
  left_none k le h =
      let e = drop_of_length-le fs le in
      record {
        place = sym (ap (λ o. unwrap_or o 0) (h.none (ap (position is_it) e)));
        kind = sym (ap (λ o. unwrap_or (kind_of o) kind.Dint) (h.same ∙ ap (find is_it) e));
      }

pub few_fields : (b : BlockKind) → field_count b ≤ 6
few_fields block.RTrig = omega arith
few_fields block.FTrig = omega arith
few_fields block.Sr = omega arith
few_fields block.Rs = omega arith
few_fields block.Ctu = omega arith
few_fields block.Ctd = omega arith
few_fields block.Ton = omega arith
few_fields block.Tof = omega arith
few_fields block.Tp = omega arith
