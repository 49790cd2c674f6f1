use Rattle.test_fixtures.proofs.opened.open.Given as goal

abbrev pub ghosts-open_by : goal.ghosts-open_by
ghosts-open_by a = record { name = a.blank.name; parts = a.blank.parts }
