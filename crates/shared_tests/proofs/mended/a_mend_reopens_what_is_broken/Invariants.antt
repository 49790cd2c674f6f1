use Rattle.shared_tests.proofs.mended.a_mend_reopens_what_is_broken.Given as goal

abbrev pub ghosts-all_of_it : goal.ghosts-all_of_it
ghosts-all_of_it g a = record { name = a.blank.name; parts = a.blank.parts }
