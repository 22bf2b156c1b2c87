use Rattle.slot_times.proofs.slot_calendars.times_of_calendars.Given as goal

-- the ledger is that of the blank
abbrev pub ghosts-runs_under : goal.ghosts-runs_under
ghosts-runs_under g a = record { name = a.blank.name; parts = a.blank.parts }
