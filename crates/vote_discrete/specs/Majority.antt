-- The vote of three discrete readings, of which some may be absent. Own rule.
use Rattle.std.specs.Prelude.{◌≡◌, Bool, true, false, not, ◌&&◌, List, [], ◌∷◌, ◌++◌, Option, Some, None, option_to_list}
use Rattle.tri_base.specs.declared.leg.Triple.{Triple}

-- Of three readings the value that two of them have.
abbrev pub two_of_three : Bool → Bool → Bool → Bool
two_of_three true true c = true
two_of_three true false c = c
two_of_three false true c = c
two_of_three false false c = false

-- Of no reading FALSE, of one that one, of two TRUE only where both are, of three the value that two have.
abbrev pub majority : List Bool → Bool
majority [] = false
majority (a ∷ []) = a
majority (a ∷ b ∷ []) = a && b
majority (a ∷ b ∷ c ∷ more) = two_of_three a b c

-- The readings that are there.
abbrev pub present : Triple (Option Bool) → List Bool
present readings = option_to_list readings.a ++ option_to_list readings.b ++ option_to_list readings.c

-- The vote is the majority of the readings that are there.
abbrev pub vote_of : Triple (Option Bool) → Bool
vote_of readings = majority (present readings)

-- A leg dissents from the vote where its reading is absent or has the other value.
abbrev pub dissents : Bool → Option Bool → Bool
dissents vote None = true
dissents true (Some reading) = not reading
dissents false (Some reading) = reading

-- Which legs dissent.
abbrev pub dissent_of : Triple (Option Bool) → Triple Bool
dissent_of readings =
    let vote = vote_of readings in
    record { a = dissents vote readings.a; b = dissents vote readings.b; c = dissents vote readings.c }

-- Two readings of one value decide the vote, whatever the third leg reads.
abbrev pub TwoEqualWin : Triple (Option Bool) → Bool → Type 0
TwoEqualWin readings vote =
    ((value : Bool) → readings.a ≡ Some value → readings.b ≡ Some value → vote ≡ value)
    × ((value : Bool) → readings.b ≡ Some value → readings.c ≡ Some value → vote ≡ value)
    × ((value : Bool) → readings.c ≡ Some value → readings.a ≡ Some value → vote ≡ value)

-- A reading that is alone decides it.
abbrev pub OneAloneDecides : Triple (Option Bool) → Bool → Type 0
OneAloneDecides readings vote =
    ((value : Bool) → readings.a ≡ Some value → readings.b ≡ None → readings.c ≡ None → vote ≡ value)
    × ((value : Bool) → readings.a ≡ None → readings.b ≡ Some value → readings.c ≡ None → vote ≡ value)
    × ((value : Bool) → readings.a ≡ None → readings.b ≡ None → readings.c ≡ Some value → vote ≡ value)
