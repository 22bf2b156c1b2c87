use Rattle.file_commands.proofs.expand.expand_in_zone.Given as goal

abbrev pub ghosts-rows_of : goal.ghosts-rows_of
ghosts-rows_of g a = record { name = a.blank.name; parts = a.blank.parts }
