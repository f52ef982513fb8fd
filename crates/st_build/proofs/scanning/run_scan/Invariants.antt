use Rattle.st_build.proofs.scanning.run_scan.Given as goal

-- the ledger of the blank that is handed over
abbrev pub ghosts-run_counted : goal.ghosts-run_counted
ghosts-run_counted a = record { name = a.blank.name; parts = a.blank.parts }
