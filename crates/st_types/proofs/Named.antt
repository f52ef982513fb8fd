-- Names: the test of two names, and what a name finds.
use Rattle.std.proofs.Common.{◌≡◌, ℕ, Bool, true, false, List, refl, sym, subst, ◌∙◌, true≢false}
use Rattle.std.specs.List.{list_any}
use Rattle.std.specs.Str.{bytes_eq}
use Rattle.std.proofs.lemmas.Slice.Eq.{bytes_eq-Decides}
use Rattle.tri_base.specs.declared.point.PointKind.{PointKind}
use Rattle.tri_base.specs.declared.point.PointKind.TheVariants.{Di, Ai, Do, Ao}
use Rattle.tri_base.specs.Inner.NameFields.{same_name, same_name_is, is_same_name}
use Rattle.chassis.specs.Points as chassis
use Rattle.st_tree.specs.Typing.Points.{is_input_kind}
use Rattle.st_tree.specs.Typing.Statements.{in_loop}

-- the derived test of two names is that of their bytes
pub same_bytes : (a b : List ℕ) → same_name a b ≡ bytes_eq a b
same_bytes a b = by (same_name a b) (bytes_eq a b) refl refl
  where
    by : (s t : Bool) → same_name a b ≡ s → bytes_eq a b ≡ t → s ≡ t
    by true true e k = refl
    by false false e k = refl
    by true false e k = absurd (true≢false (sym ((bytes_eq-Decides a b).1 (same_name_is a b e)) ∙ k))
    by false true e k = absurd (true≢false (sym (subst (λ (x : List ℕ). same_name a x ≡ true) ((bytes_eq-Decides a b).0 k) (is_same_name a)) ∙ e))

-- either name first
same_turned : (a b : List ℕ) → bytes_eq b a ≡ bytes_eq a b
same_turned a b = by (bytes_eq b a) (bytes_eq a b) refl refl
  where
    by : (s t : Bool) → bytes_eq b a ≡ s → bytes_eq a b ≡ t → s ≡ t
    by true true e k = refl
    by false false e k = refl
    by true false e k = absurd (true≢false (sym ((bytes_eq-Decides a b).1 (sym ((bytes_eq-Decides b a).0 e))) ∙ k))
    by false true e k = absurd (true≢false (sym ((bytes_eq-Decides b a).1 (sym ((bytes_eq-Decides a b).0 k))) ∙ e))

-- a name is among others
pub among : (names : List (List ℕ)) (name : List ℕ) → list_any (λ n. same_name n name) names ≡ in_loop names name
among names name = λ i. list_any (λ n. (same_bytes n name ∙ same_turned name n) i) names

-- which points are inputs is said twice, with one meaning
pub input_kind_is : (kind : PointKind) → chassis.is_input_kind kind ≡ is_input_kind kind
input_kind_is Di = refl
input_kind_is Ai = refl
input_kind_is Do = refl
input_kind_is Ao = refl
