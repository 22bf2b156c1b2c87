use Rattle.cases_calendar.proofs.rows.print_object.Given as goal

abbrev pub ghosts-print_windows : goal.ghosts-print_windows
ghosts-print_windows a = record { name = a.blank.name; parts = a.blank.parts }
