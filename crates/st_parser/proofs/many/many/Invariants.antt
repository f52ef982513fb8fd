use Rattle.std.proofs.Common.{◌≡◌, ◌-◌, Bool}
use Rattle.st_parser.specs.Inner.Parsers.{Look, Parser, many, more_of}
use Rattle.st_parser.specs.Inner.FunctionValues.{Tells, Parses}
use Rattle.st_parser.proofs.many.many.Given as goal

-- what the whole gives is what the turns that are left give
abbrev pub invariant-loop-turn : goal.invariant-loop-turn
invariant-loop-turn g l =
    (test : Look → Bool) → (p : Parser _) → Tells test (goal.C-post g l.comes) → Parses p (goal.P-post g l.part)
    → many test p l.fn.turns l.fn.tokens ≡ more_of test p (l.fn.turns - l._turn) l.found l.tokens
