use Rattle.log_tests.proofs.reading.read_one.Given as goal

abbrev pub ghosts-read_by : goal.ghosts-read_by
ghosts-read_by a = record { name = a.blank.name; parts = a.blank.parts }
