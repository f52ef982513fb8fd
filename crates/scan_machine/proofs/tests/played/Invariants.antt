use Rattle.scan_machine.proofs.tests.played.Given as goal

-- the ledger of the blank that is handed over
abbrev pub ghosts-play : goal.ghosts-play
ghosts-play a = record { name = a.blank.name; parts = a.blank.parts }
