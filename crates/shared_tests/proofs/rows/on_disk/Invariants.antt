use Rattle.shared_tests.proofs.rows.on_disk.Given as goal

abbrev pub ghosts-on_disk_by : goal.ghosts-on_disk_by
ghosts-on_disk_by a = record { name = a.blank.name; parts = a.blank.parts }
