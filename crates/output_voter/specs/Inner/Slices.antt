-- Nobody has to believe what stands here: it serves private functions alone.
use Rattle.std.specs.Prelude.{ℤ, List, Option, option_map}
use Rattle.std.specs.Borrow.{Bor}

-- The words of a slice that is lent, if any.
abbrev pub slice_in : Option (Bor (List ℤ)) → Option (List ℤ)
slice_in lent = option_map (λ words. words.now) lent
