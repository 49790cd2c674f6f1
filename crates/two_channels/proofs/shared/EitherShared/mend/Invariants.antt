use Rattle.two_channels.proofs.shared.EitherShared.mend.Given as goal

abbrev pub ghosts-mend_by : goal.ghosts-mend_by
ghosts-mend_by g a = record { name = a.blank.name; parts = a.blank.parts }
