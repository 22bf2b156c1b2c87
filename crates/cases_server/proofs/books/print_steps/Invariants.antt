use Rattle.cases_server.proofs.books.print_steps.Given as goal

-- the ledger is that of the blank
abbrev pub ghosts-take_steps : goal.ghosts-take_steps
ghosts-take_steps a = record { name = a.blank.name; parts = a.blank.parts }
