use Rattle.agent_channels.proofs.sharing.share_in_memory.Given as goal

abbrev pub ghost-share : goal.ghost-share
ghost-share g a = g.start
