use Rattle.agent_channels.proofs.Opening.{first_stays}
use Rattle.agent_channels.proofs.sharing.part.Goals as goal

pub returns : goal.returns
returns c = first_stays c.args.passes.items c.remove-home.result c.remove-home.new.self.items c.requires c.remove-home.ensures.value c.remove-home.ensures.items
