use Rattle.shared_tests.proofs.mended.a_ticket_stays_in_doubt.Given as goal

abbrev pub ghosts-doubt_on : goal.ghosts-doubt_on
ghosts-doubt_on g a = record { name = a.blank.name; parts = a.blank.parts }
