-- An engine for tests. Each text is a program of one word, which counts its scans; it reads no input, gives 0 to
-- every output, and has no tags. Own rule.
use Rattle.std.specs.Prelude.{ℕ, ℤ, pos, ◌+ℤ◌, List, [], ◌∷◌, length, map, Option, Some, None, false, nat_le, if◌then◌else◌}
use Rattle.std.specs.Int.{int_min}
use Rattle.tri_base.specs.declared.point.Point.{Point}
use Rattle.chassis.specs.Points.{outputs_of}
use Rattle.engine_face.specs.declared.refusal.Refusal.{Refusal}
use Rattle.engine_face.specs.declared.refusal.Refusal.TheVariants.{TooLarge, Syntax}
use Rattle.engine_face.specs.Meaning.{Meaning}
use Rattle.tri_base.specs.Limits.{greatest_count, text_limit}

-- An empty text ends before its first token, and one that is too long is no program either.
abbrev pub counting_refusal : List ℕ → Option Refusal
counting_refusal [] = Some (Syntax 0)
counting_refusal (b ∷ bs) = if nat_le (length (b ∷ bs)) text_limit then None else Some TooLarge

-- One scan more, up to the greatest count.
abbrev pub counted : List ℤ → List ℤ
counted [] = []
counted (count ∷ more) = int_min greatest_count (count +ℤ pos 1) ∷ more

-- There are no tags, so the old name of the first rename isn't found.
abbrev pub first_renamed : List (List ℕ × List ℕ) → Option (List ℕ)
first_renamed [] = None
first_renamed (rename ∷ more) = Some rename.0

-- A 0 for each output point.
abbrev pub zeros_at : List Point → List ℤ
zeros_at points = map (λ _. pos 0) (outputs_of points)

-- The count is the one store.
abbrev pub first_pair : List ℤ → List (ℕ × ℤ)
first_pair [] = []
first_pair (count ∷ more) = (0, count) ∷ []

-- The meaning of the counting engine over points.
abbrev pub counting : List Point → Meaning
counting points = record {
  builds = counting_refusal;
  unknown_name = λ old d. first_renamed d.renames;
  name_twice = λ old d. None;
  changed_kind = λ old d. None;
  word_count = λ text. 1;
  first = λ text. pos 0 ∷ [];
  carried = λ old d words. words;
  scanned = λ text words inputs dt. record { words = counted words; outputs = zeros_at points; flag = false };
  stored = λ text words inputs dt. first_pair words;
}
