use Rattle.rrule_sets.proofs.count.count_rows.Given as goal

abbrev pub ghosts-master_count : goal.ghosts-master_count
ghosts-master_count a = record { name = a.blank.name; parts = a.blank.parts }
