-- What is behind a reference that may be absent.
use Rattle.std.specs.Prelude.{ℤ, List, Option, option_map}
use Rattle.std.specs.Borrow.{Bor}
use Rattle.tri_base.specs.Rows.{WordsValue}

-- The words that are lent, if any.
abbrev pub words_in : Option (Bor WordsValue) → Option (List ℤ)
words_in lent = option_map (λ words. words.now.list) lent
