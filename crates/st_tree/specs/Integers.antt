-- Written integers: constants, bounds of arrays, labels, and the numbers of FOR.
use Rattle.std.specs.Prelude.{ℕ, ℤ, pos, neg_ℤ, Option, Some, None}
use Rattle.st_tree.specs.declared.declaration.Sign.{Sign}
use Rattle.st_tree.specs.declared.declaration.Sign.TheVariants as sign
use Rattle.st_tree.specs.declared.declaration.Integer.{Integer}

-- a number behind a sign or none; a minus sign before 0 is 0
abbrev pub signed : Option (Sign × ℕ) → ℕ → ℤ
signed None n = pos n
signed (Some (sign.Plus, place)) n = pos n
signed (Some (sign.Minus, place)) n = neg_ℤ (pos n)

-- the value of an integer
abbrev pub integer_value : Integer → ℤ
integer_value i = signed i.sign i.number

-- the sign's place, or the number's where there is no sign
abbrev pub place_behind : Option (Sign × ℕ) → ℕ → ℕ
place_behind None place = place
place_behind (Some (sign, at)) place = at

-- the place of an integer's first token
abbrev pub integer_place : Integer → ℕ
integer_place i = place_behind i.sign i.place
