use Rattle.log_tests.proofs.reading.replayed.Given as goal

abbrev pub ghosts-replay_by : goal.ghosts-replay_by
ghosts-replay_by a = record { name = a.blank.name; parts = a.blank.parts }
