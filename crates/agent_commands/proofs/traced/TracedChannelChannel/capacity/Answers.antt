use Rattle.agent_commands.proofs.traced.TracedChannelChannel.capacity.Goals as goal

pub returns : goal.returns
returns g c = λ start h st. c.capacity.ensures start h st.stands
