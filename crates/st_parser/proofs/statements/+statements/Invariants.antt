use Rattle.st_parser.proofs.statements.+statements.Given as goal

abbrev pub decreases-statements : goal.decreases-statements
decreases-statements l = l.levels
