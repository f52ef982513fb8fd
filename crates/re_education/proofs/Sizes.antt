-- How large a memory is that two packets show.
use Rattle.std.proofs.Common.{◌≡◌, ◌≤◌, ◌+◌, ℤ, Bool, true, false, if◌then◌else◌, List, Option, Some, None, refl, arith}
use Rattle.leg_packet.specs.Sheets.{Sheet, IsCanonical, sheet_of, spelled}
use Rattle.memory_compare.specs.Judging.{same_words}
use Rattle.re_education.specs.Lessons.{size_in, size_shown}
use Rattle.tri_base.specs.Limits.{text_limit, word_limit}

pub small : (left right : List ℤ) → ((q : List ℤ) (s : Sheet) → sheet_of q ≡ Some s → IsCanonical s × (spelled s ≡ q))
    → size_shown left right ≤ text_limit + word_limit
small left right law = by (same_words left right) (sheet_of left) refl
  where
    by : (t : Bool) (o : Option Sheet) → sheet_of left ≡ o → size_in (if t then o else None) ≤ text_limit + word_limit
    by false o e = omega arith
    by true None e = omega arith
    by true (Some s) e = let c = (law left s e).0 in omega (arith, c.text_length, c.word_length)
