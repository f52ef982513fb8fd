use Rattle.std.proofs.Common.{rules}
use Rattle.vote_analog.proofs.Between.{between_first_two, between_last_two, between_ends, count_between}
use Rattle.vote_analog.proofs.middle_of_three.Goals as goal

pub returns-clause-middle : goal.returns-clause-middle
returns-clause-middle c = search rules

pub returns-clause-first_two : goal.returns-clause-first_two
returns-clause-first_two c = between_first_two c.args.a c.args.b c.args.c _ (returns-clause-middle c)

pub returns-clause-last_two : goal.returns-clause-last_two
returns-clause-last_two c = between_last_two c.args.a c.args.b c.args.c _ (returns-clause-middle c)

pub returns-clause-ends : goal.returns-clause-ends
returns-clause-ends c = between_ends c.args.a c.args.b c.args.c _ (returns-clause-middle c)

pub returns-clause-count : goal.returns-clause-count
returns-clause-count c = count_between c.args.a c.args.b _ c.requires.a c.requires.b (returns-clause-first_two c)
