use Rattle.code_tests.proofs.tests.left.Given as goal

-- the ledger of the blank that is handed over
abbrev pub ghosts-counted : goal.ghosts-counted
ghosts-counted a = record { name = a.blank.name; parts = a.blank.parts }
