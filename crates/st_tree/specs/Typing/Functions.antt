-- The standard functions of their arguments (IEC 61131-3:2013, 6.6.2.5).
use Rattle.std.specs.Prelude.{ℕ, List, [], ◌∷◌}
use Rattle.tri_base.specs.declared.faults.TypeCause.TheVariants as cause
use Rattle.function_blocks.specs.declared.kinds.Kind.{Kind}
use Rattle.function_blocks.specs.declared.kinds.Kind.TheVariants as kind
use Rattle.st_tree.specs.declared.expression.Function.{Function}
use Rattle.st_tree.specs.declared.expression.Function.TheVariants as function
use Rattle.st_tree.specs.Typing.Faults.{fault}
use Rattle.st_tree.specs.Typing.Operands.{Outcome, Faulty, Typed, Typing, faults_of, faults_in, once_sound, asked, integers, alike}

-- another number of arguments; the place is that of the function's word
abbrev pub wrong_count : ℕ → Outcome
wrong_count place = Faulty (fault place cause.ArgumentCount) []

-- a conversion asks for one type, and gives the other
abbrev pub converted : Kind → Kind → Typing → Outcome
converted from to a = once_sound (faults_of (asked from a)) (Typed to)

-- of one argument
abbrev pub of_one : Function → ℕ → Typing → Outcome
of_one function.Abs place a = integers (a ∷ [])
of_one function.IntToDint place a = converted kind.Int kind.Dint a
of_one function.DintToInt place a = converted kind.Dint kind.Int a
of_one _ place a = wrong_count place

-- of two arguments
abbrev pub of_two : Function → ℕ → Typing → Typing → Outcome
of_two function.Min place a b = integers (a ∷ b ∷ [])
of_two function.Max place a b = integers (a ∷ b ∷ [])
of_two _ place a b = wrong_count place

-- of three arguments: LIMIT takes three integers, SEL a BOOL and two values
abbrev pub of_three : Function → ℕ → Typing → Typing → Typing → Outcome
of_three function.Limit place a b c = integers (a ∷ b ∷ c ∷ [])
of_three function.Sel place a b c = once_sound (faults_of (asked kind.Bool a)) (alike b c)
of_three _ place a b c = wrong_count place

-- by their number
abbrev pub of_arguments : Function → ℕ → List Typing → Outcome
of_arguments f place (a ∷ []) = of_one f place a
of_arguments f place (a ∷ b ∷ []) = of_two f place a b
of_arguments f place (a ∷ b ∷ c ∷ []) = of_three f place a b c
of_arguments f place _ = wrong_count place

-- a function, whose word stands at this place, of these arguments
abbrev pub called : Function → ℕ → List Typing → Outcome
called f place arguments = once_sound (faults_in arguments) (of_arguments f place arguments)
