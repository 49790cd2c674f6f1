use Rattle.shared_tests.proofs.sharing.share_opened.Given as goal

abbrev pub ghost-new : goal.ghost-new
ghost-new g a = g.start
