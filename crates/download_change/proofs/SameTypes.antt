-- The test of two types.
use Rattle.std.proofs.Common.{◌≡◌, Bool, true, false, ◌&&◌, Option, Some, None, refl, sym, ap, ◌∙◌, true≢false, if◌then◌else◌}
use Rattle.std.specs.Ordering.{int_eq}
use Rattle.std.proofs.lemmas.Bool.Decides.{Decides-int_eq}
use Rattle.function_blocks.specs.declared.kinds.Kind.{Kind}
use Rattle.function_blocks.specs.declared.kinds.Kind.TheVariants as kind
use Rattle.st_tree.specs.declared.tag_type.TagType.{TagType}
use Rattle.st_tree.specs.declared.tag_type.TagType.TheVariants as type
use Rattle.st_tree.specs.Typing.Operands.{same_kind}
use Rattle.tag_layout.specs.declared.placed.PlacedTag.{PlacedTag}
use Rattle.download_change.specs.Kept.{same_type, of_type}

both : (a b : Bool) → (a && b) ≡ true → (a ≡ true) × (b ≡ true)
both true b h = (refl, h)
both false b h = absurd (true≢false (sym h))

kind_is : (a b : Kind) → same_kind a b ≡ true → a ≡ b
kind_is kind.Bool kind.Bool h = refl
kind_is kind.Int kind.Int h = refl
kind_is kind.Dint kind.Dint h = refl
kind_is a b h = absurd (true≢false (sym h))

kind_own : (a : Kind) → same_kind a a ≡ true
kind_own kind.Bool = refl
kind_own kind.Int = refl
kind_own kind.Dint = refl

pub type_is : (a b : TagType) → same_type a b ≡ true → a ≡ b
type_is type.Bool type.Bool h = refl
type_is type.Int type.Int h = refl
type_is type.Dint type.Dint h = refl
type_is (type.Array e l u) (type.Array f m v) h =
    let parts = both (same_kind e f) (int_eq l m && int_eq u v) h in
    let bounds = both (int_eq l m) (int_eq u v) parts.1 in
    λ i. type.Array (kind_is e f parts.0 i) ((Decides-int_eq l m).0 bounds.0 i) ((Decides-int_eq u v).0 bounds.1 i)
type_is type.RTrig type.RTrig h = refl
type_is type.FTrig type.FTrig h = refl
type_is type.Sr type.Sr h = refl
type_is type.Rs type.Rs h = refl
type_is type.Ctu type.Ctu h = refl
type_is type.Ctd type.Ctd h = refl
type_is type.Ton type.Ton h = refl
type_is type.Tof type.Tof h = refl
type_is type.Tp type.Tp h = refl
type_is a b h = absurd (true≢false (sym h))

pub type_own : (a : TagType) → same_type a a ≡ true
type_own type.Bool = refl
type_own type.Int = refl
type_own type.Dint = refl
type_own (type.Array e l u) = λ i. kind_own e i && ((Decides-int_eq l l).1 refl i && (Decides-int_eq u u).1 refl i)
type_own type.RTrig = refl
type_own type.FTrig = refl
type_own type.Sr = refl
type_own type.Rs = refl
type_own type.Ctu = refl
type_own type.Ctd = refl
type_own type.Ton = refl
type_own type.Tof = refl
type_own type.Tp = refl

-- a tag of a type is the one that is found, and has the type
pub of_that_type : (of : TagType) (o : Option PlacedTag) (t : PlacedTag) → of_type of o ≡ Some t → (o ≡ Some t) × (t.of ≡ of)
of_that_type of None t h = absurd (cc)
of_that_type of (Some p) t h = by (same_type p.of of) refl h
  where
    by : (b : Bool) → same_type p.of of ≡ b → (if b then Some p else None) ≡ Some t → (Some p ≡ Some t) × (t.of ≡ of)
    by true e k = let same : p ≡ t = cc in (k, ap (λ (x : PlacedTag). x.of) (sym same) ∙ type_is p.of of e)
    by false e k = absurd (cc)

-- and a tag of the type is kept
pub of_own_type : (of : TagType) (t : PlacedTag) → t.of ≡ of → of_type of (Some t) ≡ Some t
of_own_type of t h = ap (λ (b : Bool). if b then Some t else None) (ap (same_type t.of) (sym h) ∙ type_own t.of)
