use Rattle.shared_tests.proofs.in_memory.share_in_memory.Given as goal

abbrev pub ghost-new : goal.ghost-new
ghost-new g a = g.start
