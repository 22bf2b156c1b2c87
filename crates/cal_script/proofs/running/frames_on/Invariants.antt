use Rattle.cal_script.proofs.running.frames_on.Given as goal

-- the ledger is that of the blank
abbrev pub ghosts-run_under : goal.ghosts-run_under
ghosts-run_under g a = record { name = a.blank.name; parts = a.blank.parts }
