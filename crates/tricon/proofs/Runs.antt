-- What was taken of a source.
use Rattle.std.proofs.Common.{◌≡◌, ℕ, ◌≤◌, ◌<◌, List, length, Option, Some, None, sym, ap, ◌∙◌, arith}
use Rattle.std.proofs.lemmas.List.{drop_all}
use Rattle.tri_io.specs.WholeStreams.{TakesAll, TakesPast, TakesFront}

-- all bytes are a front
pub all_are_a_front : (limit : ℕ) (held left : Option (List ℕ)) (bytes : List ℕ) → TakesAll held left bytes → length bytes ≤ limit → TakesFront limit held left
all_are_a_front limit None None bytes h within = tt
all_are_a_front limit (Some x) None bytes h within = absurd h
all_are_a_front limit None (Some y) bytes h within = absurd h
all_are_a_front limit (Some x) (Some y) bytes h within =
    (length x, omega (arith, ap length h.0, within), omega arith, h.1 ∙ sym (drop_all (length x) x (omega arith)))

-- what was taken is what was there
pub took : (held left : Option (List ℕ)) (b bytes : List ℕ) → held ≡ Some bytes → TakesAll held left b → b ≡ bytes
took None left b bytes e h = absurd (cc)
took (Some x) None b bytes e h = absurd h
took (Some x) (Some y) b bytes e h = let same : x ≡ bytes = cc in h.0 ∙ same

-- more than the limit was there
pub past : (limit : ℕ) (held left : Option (List ℕ)) (bytes : List ℕ) → held ≡ Some bytes → TakesPast limit held left → limit < length bytes
past limit None left bytes e h = absurd (cc)
past limit (Some x) None bytes e h = absurd h
past limit (Some x) (Some y) bytes e h = let same : x ≡ bytes = cc in omega (arith, h.0, ap length same)
