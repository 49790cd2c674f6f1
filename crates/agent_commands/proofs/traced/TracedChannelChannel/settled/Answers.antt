use Rattle.agent_commands.proofs.traced.TracedChannelChannel.settled.Goals as goal

pub returns : goal.returns
returns g c = λ start h st. c.settled.ensures start h st.stands
