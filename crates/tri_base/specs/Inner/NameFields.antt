-- Nobody has to believe what stands here: it serves private fields alone.
-- How a name is kept: 32 bytes, the name's and then zeros.
use Rattle.std.specs.Prelude.{◌≡◌, ℕ, ◌-◌, ◌<◌, ◌≤◌, List, ◌++◌, length, take, replicate, Bool, true, false, ◌&&◌, ◌==◌, Some, refl}
use Rattle.std.specs.Str.{bytes_eq}
use Rattle.std.proofs.Math.Seq.{take-append_seam}
use Rattle.std.proofs.lemmas.Bool.{eqb-true, eq-eqb}
use Rattle.std.proofs.lemmas.Slice.Eq.{bytes_eq-Decides}
use Rattle.std.proofs.Common.{arith, ap, sym, ◌∙◌, length-append}
use Rattle.std.proofs.lemmas.List.{length-take, length-replicate}
use Rattle.tri_base.specs.Names.{name_of}
use Rattle.tri_base.specs.declared.name.Name.TheInside.{Inside}

-- 32 bytes: the text, and zeros behind it
abbrev pub padded : List ℕ → List ℕ
padded text = text ++ replicate (32 - length text) 0

pub record IsKept (n : Inside) : Type 0 where
  pub some : 0 < n.len
  pub fits : n.len ≤ 32
  pub zeros : n.bytes ≡ padded (take n.len n.bytes)
  pub spelled : name_of (take n.len n.bytes) ≡ Some (take n.len n.bytes)

taken : (a : Inside) → IsKept a → length (take a.len a.bytes) ≡ a.len
taken a h =
    let text = take a.len a.bytes in
    omega (arith, ap length h.zeros, length-append text (replicate (32 - length text) 0), length-replicate {A = ℕ} (32 - length text) 0, length-take a.len a.bytes, h.fits)

-- the fields come back from the name
pub fields_back : (a : Inside) → IsKept a → record { len = length (take a.len a.bytes); bytes = padded (take a.len a.bytes) } ≡ a
fields_back a h = λ i. record { len = taken a h i; bytes = sym h.zeros i }

-- the test that `==` makes of two names: of their lengths, and of the padded bytes
abbrev pub same_name : List ℕ → List ℕ → Bool
same_name a b = (length a == length b) && bytes_eq (padded a) (padded b)

front : (a : List ℕ) → take (length a) (padded a) ≡ a
front a = take-append_seam a (replicate (32 - length a) 0)

-- it is true of equal names
pub is_same_name : (a : List ℕ) → same_name a a ≡ true
is_same_name a = ap (λ t. t && bytes_eq (padded a) (padded a)) (eq-eqb (length a) (length a) refl) ∙ (bytes_eq-Decides (padded a) (padded a)).1 refl

-- and of no others
pub same_name_is : (a b : List ℕ) → same_name a b ≡ true → a ≡ b
same_name_is a b h = by (length a == length b) refl h
  where
    by : (t : Bool) → (length a == length b) ≡ t → (t && bytes_eq (padded a) (padded b)) ≡ true → a ≡ b
    by true e k =
        let lengths : length a ≡ length b = eqb-true (length a) (length b) e in
        sym (front a) ∙ (ap (λ (x : ℕ × List ℕ). take x.0 x.1) (λ i. (lengths i, (bytes_eq-Decides (padded a) (padded b)).0 k i)) ∙ front b)
    by false e k = absurd (cc)
