use Rattle.agent_channels.proofs.several.add_one.Goals as goal

pub returns-in-Ok-clause-added : goal.returns-in-Ok-clause-added
returns-in-Ok-clause-added g c = (c.in-Ok.channel, c.push_reserved.ensures.items, c.in-Ok.ensures.opened)
