use Rattle.cal_session.proofs.session.serve_behind.Given as goal

-- the ledger is that of the blank
abbrev pub ghosts-serve_under : goal.ghosts-serve_under
ghosts-serve_under g a = record { name = a.blank.name; parts = a.blank.parts }
