use Rattle.std.proofs.Common.{◌≡◌, Err, length, ap, arith, rules}
use Rattle.std.proofs.lemmas.Grind.{common_steps}
use Rattle.st_parser.specs.Inner.ReadStatements.{statements_at}
use Rattle.st_parser.proofs.Levels.{statements_level}
use Rattle.st_parser.proofs.statements.+statements.Goals as goal

pub returns-then-levels-eq0 : goal.returns-then-levels-eq0
unfolding statements_at
returns-then-levels-eq0 t c =
    let none : c.args.levels ≡ 0 = omega arith in
    let e : statements_at c.args.levels c.args.tokens.now ≡ Err (length c.args.tokens.now) = ap (λ n. statements_at n c.args.tokens.now) none in
    first_of (search rules, grind (arith, common_steps))

pub returns : goal.returns
returns t c = rw (statements_level c.args.levels (omega arith) c.args.tokens.now) c.several.ensures
