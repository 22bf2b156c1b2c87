use Rattle.cal_session.proofs.loading.load_kept.Given as goal

-- the ledger is that of the blank
abbrev pub ghosts-load_under : goal.ghosts-load_under
ghosts-load_under g a = record { name = a.blank.name; parts = a.blank.parts }
