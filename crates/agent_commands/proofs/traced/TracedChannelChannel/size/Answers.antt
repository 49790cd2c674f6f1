use Rattle.agent_commands.proofs.traced.TracedChannelChannel.size.Goals as goal

pub returns : goal.returns
returns g c = λ start h st. c.size.ensures start h st.stands
