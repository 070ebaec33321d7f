use Rattle.tests_objects.proofs.index.select.Given as goal

abbrev pub ghosts-select_with : goal.ghosts-select_with
ghosts-select_with a = record { name = a.blank.name; parts = a.blank.parts }
