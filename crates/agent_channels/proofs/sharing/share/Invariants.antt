use Rattle.agent_channels.proofs.sharing.share.Given as goal

abbrev pub ghost-new : goal.ghost-new
ghost-new g a = g.start
