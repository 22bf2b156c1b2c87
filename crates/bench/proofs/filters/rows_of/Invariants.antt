use Rattle.bench.proofs.filters.rows_of.Given as goal

abbrev pub ghosts-found_rows : goal.ghosts-found_rows
ghosts-found_rows a = record { name = a.blank.name; parts = a.blank.parts }
