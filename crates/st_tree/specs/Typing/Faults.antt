-- Typing rules that are broken, and which of them is the first. Own rule.
use Rattle.std.specs.Prelude.{ℕ, nat_lt, Bool, true, false, ◌==◌, ◌&&◌, ◌||◌, if◌then◌else◌, List, [], ◌∷◌, Option}
use Rattle.std.specs.List.{reduce}
use Rattle.tri_base.specs.declared.faults.TypeCause.{TypeCause}
use Rattle.tri_base.specs.declared.faults.TypeCause.TheVariants as cause
use Rattle.tri_base.specs.declared.faults.TypeFault.{TypeFault}

-- a rule that is broken at a byte place
abbrev pub fault : ℕ → TypeCause → TypeFault
fault place broken = record { place = place; cause = broken }

-- broken where the test holds
abbrev pub fault_if : Bool → ℕ → TypeCause → List TypeFault
fault_if true place broken = fault place broken ∷ []
fault_if false place broken = []

-- the order of the rules at one place
abbrev pub rank : TypeCause → ℕ
rank cause.UnknownName = 0
rank cause.Twice = 1
rank cause.NoSuchPoint = 2
rank cause.PointKind = 3
rank cause.WrongType = 4
rank cause.NotAssignable = 5
rank cause.BadField = 6
rank cause.ArgumentCount = 7
rank cause.ZeroStep = 8
rank cause.LoopTag = 9
rank cause.ExitOutside = 10
rank cause.LiteralRange = 11

-- at a lesser place, or at the same place by an earlier rule
abbrev pub goes_before : TypeFault → TypeFault → Bool
goes_before f g = nat_lt f.place g.place || (f.place == g.place && nat_lt (rank f.cause) (rank g.cause))

-- the first of two
abbrev pub sooner : TypeFault → TypeFault → TypeFault
sooner f g = if goes_before g f then g else f

-- the first of all; None where there are none
abbrev pub first_of : List TypeFault → Option TypeFault
first_of = reduce sooner
