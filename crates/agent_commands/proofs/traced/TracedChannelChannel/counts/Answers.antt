use Rattle.agent_commands.proofs.traced.TracedChannelChannel.counts.Goals as goal

pub returns : goal.returns
returns g c = λ start h st. c.counts.ensures start h st.stands
