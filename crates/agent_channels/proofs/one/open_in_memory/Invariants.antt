use Rattle.channel_wishes.specs.Openings.{in_memory}
use Rattle.agent_channels.proofs.one.open_in_memory.Given as goal

abbrev pub ghost-share_in_memory : goal.ghost-share_in_memory
ghost-share_in_memory g a = in_memory a.channel.state.rules.limits
