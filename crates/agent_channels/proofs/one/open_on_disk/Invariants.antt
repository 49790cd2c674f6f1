use Rattle.agent_channels.proofs.one.open_on_disk.Given as goal

abbrev pub ghosts-open_on_disk_by : goal.ghosts-open_on_disk_by
ghosts-open_on_disk_by g a = record { name = a.blank.name; parts = a.blank.parts }
