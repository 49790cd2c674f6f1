use Rattle.agent_commands.proofs.pipe.share.Given as goal

abbrev pub ghost-new : goal.ghost-new
ghost-new g a = g.start
