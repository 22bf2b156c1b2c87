use Rattle.tests_objects.proofs.showing.rows.Given as goal

abbrev pub ghosts-rows_counted : goal.ghosts-rows_counted
ghosts-rows_counted a = record { name = a.blank.name; parts = a.blank.parts }
