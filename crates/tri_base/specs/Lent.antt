-- What words are after they were lent for writing.
use Rattle.std.specs.Prelude.{ℤ, List, ◌++◌, length, take, drop}
use Rattle.std.specs.Borrow.{Lends, MutBor, Fml, Array, i64}
use Rattle.tri_base.specs.contracts.words.Words.{the_row}
use Rattle.tri_base.specs.Rows.{WordsValue}

-- The new words in place of the old ones; their number stays.
abbrev pub overwritten : List ℤ → List ℤ → List ℤ
overwritten old new = take (length old) (new ++ drop (length new) old)

-- What is written through the slice is what the words then are; the room stays.
abbrev pub LendsWords : MutBor WordsValue → MutBor (List ℤ) → Fml
LendsWords w r = Lends the_row (Array i64 0) w r (λ list. record { list = overwritten w.now.list list; spare = w.now.spare })
