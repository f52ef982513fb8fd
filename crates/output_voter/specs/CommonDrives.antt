-- The field outputs: the vote of the three legs' drives, output by output (own rule). A drive has one word for each
-- output, in chassis order.
use Rattle.std.specs.Prelude.{◌≡◌, ◌⊎◌, ℕ, ℤ, pos, ◌+◌, ◌==◌, List, [], ◌∷◌, length, Option, Some, None, slice_get, if◌then◌else◌}
use Rattle.std.specs.Ordering.{int_eq}
use Rattle.tri_base.specs.declared.leg.Triple.{Triple}
use Rattle.tri_base.specs.declared.point.Point.{Point}
use Rattle.tri_base.specs.declared.point.PointKind.{PointKind}
use Rattle.tri_base.specs.declared.point.PointKind.TheVariants.{Di, Ai, Do, Ao}
use Rattle.chassis.specs.Points.{outputs_of}
use Rattle.chassis.specs.Ranges.{is_within}
use Rattle.vote_discrete.specs.Majority.{two_of_three}
use Rattle.vote_discrete.specs.Truths.{is_on, number}
use Rattle.vote_analog.specs.Middle.{middle, present}

-- A drive with one word for each output; a drive with another number of words is absent.
abbrev pub whole_drive : ℕ → Option (List ℤ) → Option (List ℤ)
whole_drive outputs None = None
whole_drive outputs (Some words) = if length words == outputs then Some words else None

-- A word in its point's range; any other is absent.
abbrev pub word_in_range : Point → Option ℤ → Option ℤ
word_in_range point None = None
word_in_range point (Some word) = if is_within point word then Some word else None

-- The word that a drive has for the output at a place.
abbrev pub drive_at : Point → ℕ → Option (List ℤ) → Option ℤ
drive_at point place None = None
drive_at point place (Some words) = word_in_range point (slice_get words place)

-- The same of three drives.
abbrev pub drives_at : Point → ℕ → Triple (Option (List ℤ)) → Triple (Option ℤ)
drives_at point place drives =
    record { a = drive_at point place drives.a; b = drive_at point place drives.b; c = drive_at point place drives.c }

-- Of two words their common value, or 0 where they differ.
abbrev pub common_of_two : ℤ → ℤ → ℤ
common_of_two a b = if int_eq a b then a else pos 0

-- Of three words the value that two have at a discrete point, the middle one at an analogue point.
abbrev pub common_of_three : PointKind → ℤ → ℤ → ℤ → ℤ
common_of_three Di a b c = number (two_of_three (is_on a) (is_on b) (is_on c))
common_of_three Do a b c = number (two_of_three (is_on a) (is_on b) (is_on c))
common_of_three Ai a b c = middle (a ∷ b ∷ c ∷ [])
common_of_three Ao a b c = middle (a ∷ b ∷ c ∷ [])

-- The common value of the words that are there: of none 0, of one that one.
abbrev pub common_drive : PointKind → List ℤ → ℤ
common_drive kind [] = pos 0
common_drive kind (a ∷ []) = a
common_drive kind (a ∷ b ∷ []) = common_of_two a b
common_drive kind (a ∷ b ∷ c ∷ more) = common_of_three kind a b c

-- The field outputs of points, of which the first stands at a place of the drives.
abbrev pub common_from : List Point → ℕ → Triple (Option (List ℤ)) → List ℤ
common_from [] place drives = []
common_from (point ∷ points) place drives =
    common_drive point.kind (present (drives_at point place drives)) ∷ common_from points (place + 1) drives

-- The drives that are whole.
abbrev pub whole_drives : ℕ → Triple (Option (List ℤ)) → Triple (Option (List ℤ))
whole_drives outputs drives =
    record { a = whole_drive outputs drives.a; b = whole_drive outputs drives.b; c = whole_drive outputs drives.c }

-- The field outputs of a chassis.
abbrev pub vote_drives_of : List Point → Triple (Option (List ℤ)) → List ℤ
vote_drives_of points drives =
    let outputs = outputs_of points in common_from outputs 0 (whole_drives (length outputs) drives)

-- Two of three legs drive these words.
abbrev pub TwoDrive : List ℤ → Triple (Option (List ℤ)) → Type 0
TwoDrive words drives =
    ((drives.a ≡ Some words) × (drives.b ≡ Some words)) ⊎ ((drives.b ≡ Some words) × (drives.c ≡ Some words))
    ⊎ ((drives.c ≡ Some words) × (drives.a ≡ Some words))
