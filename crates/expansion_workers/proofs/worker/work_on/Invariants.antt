use Rattle.expansion_workers.proofs.worker.work_on.Given as goal

-- the ledger is that of the blank
abbrev pub ghosts-work_under : goal.ghosts-work_under
ghosts-work_under g a = record { name = a.blank.name; parts = a.blank.parts }
