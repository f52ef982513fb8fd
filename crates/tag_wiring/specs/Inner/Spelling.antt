-- Nobody has to believe what stands here: it serves private fields alone.
-- How points are spelled in one text: of each point its kind's letter, its three numbers in decimal and its name, and a
-- space behind each of the four. No other points are spelled so.
use Rattle.std.specs.Prelude.{◌≡◌, ℕ, List, [], ◌∷◌, ◌++◌, Some}
use Rattle.std.specs.Fmt.{signed_decimal}
use Rattle.std.proofs.Common.{FitsSigned, w64}
use Rattle.tri_base.specs.Bytes.{space}
use Rattle.tri_base.specs.Names.{name_of}
use Rattle.tri_base.specs.declared.point.Point.{Point}
use Rattle.tri_base.specs.declared.point.PointKind.{PointKind}
use Rattle.tri_base.specs.declared.point.PointKind.TheVariants.{Di, Ai, Do, Ao}

-- `D` and `A` for inputs, `d` and `a` for outputs
abbrev pub kind_letter : PointKind → ℕ
kind_letter Di = 68
kind_letter Ai = 65
kind_letter Do = 100
kind_letter Ao = 97

-- a word with a space behind it, and then this
abbrev pub word_then : (word rest : List ℕ) → List ℕ
word_then word rest = word ++ space ∷ rest

-- a point, and then this
abbrev pub point_then : Point → (rest : List ℕ) → List ℕ
point_then p rest =
    kind_letter p.kind ∷ word_then (signed_decimal p.low) (word_then (signed_decimal p.high)
    (word_then (signed_decimal p.tolerance) (word_then p.name rest)))

-- all points
unfoldable pub spelled : List Point → List ℕ
spelled [] = []
spelled (p ∷ ps) = point_then p (spelled ps)

-- a point as it can be kept: numbers of 64 bits, and a name that is one
pub record IsPlain (p : Point) : Type 0 where
  pub low : FitsSigned w64 p.low
  pub high : FitsSigned w64 p.high
  pub tolerance : FitsSigned w64 p.tolerance
  pub name : name_of p.name ≡ Some p.name
